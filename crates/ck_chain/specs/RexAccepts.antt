-- Which scan rules of a specification are accepted, and why others are refused.
use Rattle.std.specs.Prelude.{◌≡◌, ℕ, ◌+◌, List, length, Option, Some, None}
use Rattle.ck_base.specs.Found.{HasNo}
use Rattle.ck_base.specs.declared.fault.Kind.{Kind}
use Rattle.ck_base.specs.declared.refusal.Refusal.{Refusal}
use Rattle.ck_base.specs.declared.refusal.Refusal.TheVariants.{BadSpec, NullableRule, TooManyStates}
use Rattle.rex_model.specs.Rules.{Rules}
use Rattle.rex_model.specs.ScanSets.{HasMoreScanSets, HasMoreSplitSets}
use Rattle.rex_dfa.specs.Faults.{IsNullable, IsDfaFault}
use Rattle.rex_dfa.specs.declared.fault.DfaError.{DfaError}
use Rattle.rex_dfa.specs.declared.fault.DfaError.TheVariants as fault
use Rattle.front_spec.specs.Promise.{DeclaresRules, FirstRexFault}

-- the refusal of rules that have no tables; want of memory is none
abbrev pub dfa_refusal : DfaError → Option Refusal
dfa_refusal (fault.NullableRule i) = Some (NullableRule (i + 1))
dfa_refusal (fault.TooManyStates kind) = Some (TooManyStates kind)
dfa_refusal fault.NoMemory = None

-- the rules have tables: no body has the empty word, and neither the scanner nor all splits together
-- have more than 4,096 states
pub record HaveTables (rules : Rules) : Type 0 where
  pub bodies : HasNo (IsNullable rules.list)
  pub scanner : HasMoreScanSets rules.list (length rules.states) 4096 → ⊥
  pub splits : HasMoreSplitSets rules.list 4096 → ⊥

-- the section REX declares these scan rules, and they have tables
pub record GivesRules (spec : List ℕ) (rules : Rules) : Type 0 where
  pub declares : DeclaresRules spec rules
  pub tables : HaveTables rules

-- the section REX is refused: for its first fault, else since its rules have no tables
pub data RefusesRex (spec : List ℕ) : Refusal → Type 0 where
  faulty : (line : ℕ) (kind : Kind) → FirstRexFault spec line kind → RefusesRex spec (BadSpec line kind)
  no_tables : (rules : Rules) (error : DfaError) (r : Refusal) → DeclaresRules spec rules → IsDfaFault rules error
      → dfa_refusal error ≡ Some r → RefusesRex spec r
