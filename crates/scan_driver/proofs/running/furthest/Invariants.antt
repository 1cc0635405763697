-- The state after the bytes so far, which is one.
use Rattle.rex_model.specs.TableMeaning.{automaton_of}
use Rattle.scan_driver.proofs.FurthestRuns.{GoesOn}
use Rattle.scan_driver.proofs.running.furthest.Given as goal

abbrev pub invariant-loop-i : goal.invariant-loop-i
invariant-loop-i l = GoesOn (automaton_of l.dfa) l.start l.text l.i l.state
