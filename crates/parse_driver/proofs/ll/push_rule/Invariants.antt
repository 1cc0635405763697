-- What was put on is the end of the right side.
use Rattle.std.proofs.Common.{◌≡◌, ◌≤◌, ◌++◌, ◌∷◌, drop, length}
use Rattle.parse_driver.specs.within.LlStack.{entries, finding}
use Rattle.parse_driver.specs.declared.ll.Entry.TheVariants.{Done}
use Rattle.parse_driver.proofs.ll.push_rule.Given as goal

abbrev pub invariant-loop-i : goal.invariant-loop-i
invariant-loop-i l = record { fits : l.i ≤ length l.right; put : entries l.stack ≡ finding (drop l.i l.right) ++ (Done l.rule ∷ entries l.fn.stack) }

abbrev pub decreases-loop-i : goal.decreases-loop-i
decreases-loop-i l = l.i
