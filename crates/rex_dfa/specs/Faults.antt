-- Why there are no tables for scan rules.
use Rattle.std.specs.Prelude.{◌≡◌, ℕ, ◌≤◌, List, [], length, Some, slice_get}
use Rattle.ck_base.specs.Found.{HasNo}
use Rattle.ck_base.specs.declared.refusal.StateKind.TheVariants as kind
use Rattle.rex_model.specs.Language.{Language}
use Rattle.rex_model.specs.Rules.{Rule, Rules}
use Rattle.rex_model.specs.ScanSets.{HasMoreScanSets, HasMoreSplitSets}
use Rattle.rex_dfa.specs.declared.fault.DfaError.{DfaError}
use Rattle.rex_dfa.specs.declared.fault.DfaError.TheVariants as fault

-- the body of rule i has the empty word
pub record IsNullable (rules : List Rule) (i : ℕ) : Type 0 where
  pub rule : Rule
  pub is_rule : slice_get rules i ≡ Some rule
  pub empty_word : Language rule.body []

-- rule i is the first whose body has the empty word
pub record IsFirstNullable (rules : List Rule) (i : ℕ) : Type 0 where
  pub here : IsNullable rules i
  pub first : (j : ℕ) → IsNullable rules j → i ≤ j

-- why there are no tables: a body has the empty word; else there are more than 4,096 sets of positions
-- of the scanner; else of all splits together
pub data IsDfaFault (rules : Rules) : DfaError → Type 0 where
  nullable : (i : ℕ) → IsFirstNullable rules.list i → IsDfaFault rules (fault.NullableRule i)
  scanner : HasNo (IsNullable rules.list) → HasMoreScanSets rules.list (length rules.states) 4096
      → IsDfaFault rules (fault.TooManyStates kind.Scanner)
  split : HasNo (IsNullable rules.list) → (HasMoreScanSets rules.list (length rules.states) 4096 → ⊥)
      → HasMoreSplitSets rules.list 4096 → IsDfaFault rules (fault.TooManyStates kind.Split)
  memory : IsDfaFault rules fault.NoMemory
