-- By the place of the word.
use Rattle.std.proofs.Common.{arith, rules}
use Rattle.expr_read.proofs.leaves.is_own_word.Goals as goal

pub returns-then-eq-3 : goal.returns-then-eq-3
returns-then-eq-3 c = (λ yes. (2, omega arith, search rules), λ has. search rules)

pub returns-then-eq-4 : goal.returns-then-eq-4
returns-then-eq-4 c = (λ yes. (3, omega arith, search rules), λ has. search rules)
