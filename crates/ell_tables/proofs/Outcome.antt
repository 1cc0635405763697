-- What the filled cells come to.
use Rattle.std.proofs.Common.{◌≡◌, ℕ, ◌+◌, ◌≤◌, List, length, Option, Some, None, arith}
use Rattle.ck_base.specs.BitSet.{BitSet}
use Rattle.cfg_model.specs.Cfg.{Cfg}
use Rattle.cfg_model.specs.Sets.{AllProductive, Reachable}
use Rattle.cfg_model.specs.Searches.{IsLeast, IsUnproductive, LeftRecursive}
use Rattle.cfg_model.specs.LlTables.{NoneLeftRecursive, IsPrediction}
use Rattle.ell_tables.specs.Table.{as_rule, cell}
use Rattle.ell_tables.specs.within.Fill.{Filled, Seen, cell_at}
use Rattle.ell_tables.specs.within.RuleSets.{AreRuleSets}
use Rattle.ell_tables.proofs.Cells.{cell_inside}
use Rattle.ell_tables.proofs.Exact.{prediction}

-- what a search says where it found none
pub all_productive : (g : Cfg) (found : Option ℕ) → found ≡ None → IsUnproductive g found → AllProductive g
all_productive g None is all = all
all_productive g (Some n) is found = cc

pub none_recursive : (g : Cfg) (found : Option ℕ) → found ≡ None → IsLeast (λ n. Reachable g n × LeftRecursive g n) found → NoneLeftRecursive g
none_recursive g None is none_is = λ n reachable recursive. none_is n (reachable, recursive)
none_recursive g (Some n) is found = cc

pub predicted : (g : Cfg) (sets : List BitSet) (cells : List ℕ) → AreRuleSets g sets
    → Filled (Seen g.rules sets (length g.rules) 0) (cell_at (g.terminals + 1) cells) None
    → (n t : ℕ) → Reachable g n → t ≤ g.terminals → IsPrediction g n t (as_rule (cell g cells n t))
predicted g sets cells are filled n t reachable below =
    prediction g sets are.each (cell_at (g.terminals + 1) cells) filled n t (cell g cells n t) reachable (cell_inside (g.terminals + 1) cells n t (omega arith))
