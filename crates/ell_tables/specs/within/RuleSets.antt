-- Sets of the terminals that rules are for.
use Rattle.std.specs.Prelude.{◌≡◌, ℕ, ◌+◌, ◌↔◌, List, length, All, slice_get, Some}
use Rattle.ck_base.specs.BitSet.{BitSet, Has}
use Rattle.cfg_model.specs.Cfg.{Cfg, Rule}
use Rattle.cfg_model.specs.LlConflicts.{IsFor}
use Rattle.cfg_model.specs.Rows.{row}
use Rattle.cfg_model.specs.Sets.{Reachable}

-- the set has the terminals that the rule is for, and none where its left side can't be reached
abbrev pub IsRuleSet : Cfg → Rule → BitSet → Type 0
IsRuleSet g one set = (t : ℕ) → Has set t ↔ (Reachable g one.left × IsFor g one.left one.right t)

-- set k is that of rule k + 1
pub record AreRuleSets (g : Cfg) (sets : List BitSet) : Type 0 where
  pub count : length sets ≡ length g.rules
  pub widths : All (λ set. set.size ≡ g.terminals + 1) sets
  pub each : (k : ℕ) (one : Rule) → slice_get g.rules k ≡ Some one → IsRuleSet g one (row sets k)
