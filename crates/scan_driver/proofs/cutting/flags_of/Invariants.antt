use Rattle.rex_model.specs.TableMeaning.{automaton_of}
use Rattle.scan_driver.proofs.Flags.{Flagging}
use Rattle.scan_driver.proofs.cutting.flags_of.Given as goal

abbrev pub invariant-loop-i : goal.invariant-loop-i
invariant-loop-i l = Flagging (automaton_of l.dfa) l.word l.begin l.i l.state l.flags
