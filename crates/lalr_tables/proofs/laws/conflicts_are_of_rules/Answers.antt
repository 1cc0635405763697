-- Rule 0 stands in no conflict.
use Rattle.std.proofs.Common.{ℕ, zero, suc, ◌≤◌, Option, Some, arith}
use Rattle.cfg_model.specs.Cfg.{Cfg, IsGrammar}
use Rattle.cfg_model.specs.LalrConflicts.{LalrConflict}
use Rattle.cfg_model.specs.LrTables.{NoneCyclic}
use Rattle.cfg_model.proofs.RuleZero.{zero_first, zero_second, start_reachable}
use Rattle.lalr_tables.proofs.laws.conflicts_are_of_rules.Goals as goal

first_counts : (g : Cfg) (t r : ℕ) (other : Option ℕ) → IsGrammar g → NoneCyclic g → LalrConflict g t r other → 1 ≤ r
first_counts g t zero other ok none clash = absurd (zero_first g ok (none g.start (start_reachable g)) t other clash)
first_counts g t (suc r) other ok none clash = omega arith

second_counts : (g : Cfg) (t r s : ℕ) → IsGrammar g → NoneCyclic g → LalrConflict g t r (Some s) → 1 ≤ s
second_counts g t r zero ok none clash = absurd (zero_second g ok (none g.start (start_reachable g)) t r clash)
second_counts g t r (suc s) ok none clash = omega arith

pub returns-clause-rule : goal.returns-clause-rule
returns-clause-rule c g t r other ok is = first_counts g t r other ok is.1 is.4.conflict

pub returns-clause-other : goal.returns-clause-other
returns-clause-other c g t r s ok is = second_counts g t r s ok is.1 is.4.conflict
