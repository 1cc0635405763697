-- What a scanner of the program says of scan rules.
use Rattle.std.specs.Prelude.{◌≡◌, ℕ, ◌+◌, ◌^◌, ◌<◌, length, All, IfSome, Some, slice_get}
use Rattle.rex_model.specs.Rules.{Rule, Rules}
use Rattle.rex_model.specs.Tables.{Tables, IsWellFormed, GivesWinners}
use Rattle.rex_model.specs.declared.rules.ScanRules.{ScanRules}
use Rattle.rex_dfa.specs.declared.fault.DfaError.{DfaError}
use Rattle.rex_dfa.specs.declared.fault.DfaError.TheVariants as fault

-- each token of the rules has a name
abbrev pub NameTokens : ScanRules → Type 0
NameTokens rules = All (λ rule. IfSome rule.token (λ t. t < length rules.tokens)) rules.rules.items

-- the tables scan by the rules, from each of their start states
pub record ScansBy (rules : Rules) (tables : Tables) : Type 0 where
  pub well_formed : IsWellFormed tables
  pub gives : GivesWinners tables rules.list
  pub starts : length tables.starts ≡ length rules.states
  pub some : 0 < length rules.states
  pub next : (i n : ℕ) (rule : Rule) → slice_get rules.list i ≡ Some rule → rule.next ≡ Some n → n < length rules.states

-- a rule that has no table is told by a number from 1
abbrev pub CountsRules : DfaError → Type 0
CountsRules (fault.NullableRule i) = i + 1 < 2 ^ 32
CountsRules (fault.TooManyStates kind) = Unit {0}
CountsRules fault.NoMemory = Unit {0}
