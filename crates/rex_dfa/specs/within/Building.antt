-- The tables of scan rules, part by part.
use Rattle.std.specs.Prelude.{◌≡◌, ℕ, ◌<◌, List, length, Some, slice_get}
use Rattle.ck_base.specs.declared.refusal.StateKind.{StateKind}
use Rattle.ck_base.specs.declared.refusal.StateKind.TheVariants as kind
use Rattle.rex_model.specs.Rules.{Rule}
use Rattle.rex_model.specs.ScanSets.{HasMoreScanSets, HasMoreSplitSets}
use Rattle.rex_model.specs.TableMeaning.{tables_of}
use Rattle.rex_model.specs.Tables.{Tables, IsWellFormed, GivesWinners}
use Rattle.rex_model.specs.declared.tables.ScanAction.{ScanAction}
use Rattle.rex_dfa.specs.Faults.{IsNullable}
use Rattle.rex_dfa.specs.declared.building.Built.{Built}
use Rattle.rex_dfa.specs.declared.building.Built.TheVariants as built

-- no body of the first n rules has the empty word
abbrev pub NoneNullable : List Rule → ℕ → Type 0
NoneNullable rules n = (i : ℕ) → i < n → IsNullable rules i → ⊥

-- the actions of the first n rules
pub record AreActions (rules : List Rule) (n : ℕ) (actions : List ScanAction) : Type 0 where
  pub count : length actions ≡ n
  pub each : (i : ℕ) (rule : Rule) → i < n → slice_get rules i ≡ Some rule
      → slice_get actions i ≡ Some (record { token = rule.token; next = rule.next })

-- tables of the rules
pub record AreTablesOf (rules : List Rule) (states : ℕ) (tables : Tables) : Type 0 where
  pub well_formed : IsWellFormed tables
  pub gives : GivesWinners tables rules
  pub starts : length tables.starts ≡ states
  pub scanner : HasMoreScanSets rules states 4096 → ⊥
  pub splits : HasMoreSplitSets rules 4096 → ⊥

-- of these there are too many states
pub data AreTooMany (rules : List Rule) (states : ℕ) : StateKind → Type 0 where
  scanner : HasMoreScanSets rules states 4096 → AreTooMany rules states kind.Scanner
  split : (HasMoreScanSets rules states 4096 → ⊥) → HasMoreSplitSets rules 4096 → AreTooMany rules states kind.Split

-- the tables, or of what there are too many states
abbrev pub IsBuilt : List Rule → ℕ → Built → Type 0
IsBuilt rules states (built.Done tables) = AreTablesOf rules states (tables_of tables)
IsBuilt rules states (built.TooMany which) = AreTooMany rules states which
