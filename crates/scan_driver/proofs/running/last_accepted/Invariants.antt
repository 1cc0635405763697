use Rattle.rex_model.specs.TableMeaning.{automaton_of}
use Rattle.scan_driver.proofs.RunsAlong.{Running}
use Rattle.scan_driver.proofs.running.last_accepted.Given as goal

abbrev pub invariant-loop-i : goal.invariant-loop-i
invariant-loop-i l = Running (automaton_of l.dfa) l.start l.text l.i l.state l.found
