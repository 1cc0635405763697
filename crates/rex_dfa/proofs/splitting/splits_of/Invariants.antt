use Rattle.std.proofs.Common.{map}
use Rattle.rex_model.specs.RuleMeaning.{rule_of}
use Rattle.rex_model.specs.TableMeaning.{halves_of}
use Rattle.rex_dfa.specs.within.Splits.{Splitting}
use Rattle.rex_dfa.proofs.splitting.splits_of.Given as goal

abbrev pub invariant-loop-i : goal.invariant-loop-i
invariant-loop-i l = Splitting (map rule_of l.rules) l.i (map halves_of l.splits.items) l.total
