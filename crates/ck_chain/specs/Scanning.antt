-- What scanning makes of a source.
use Rattle.std.specs.Prelude.{ℕ, List}
use Rattle.ck_base.specs.declared.refusal.Refusal.{Refusal}
use Rattle.ck_base.specs.declared.refusal.Refusal.TheVariants.{BadToken}
use Rattle.rex_model.specs.Place.{line_at, column_at}
use Rattle.rex_model.specs.Run.{Token, Tokens, finished, bad_at}
use Rattle.rex_model.specs.Rules.{Rules}
use Rattle.ck_chain.specs.InOrder.{Printed}
use Rattle.ck_chain.specs.Outcome.{Outcome}
use Rattle.ck_chain.specs.TokenText.{tokens_text}

-- the source has these tokens by the rules, and no bad place
abbrev pub Scans : Rules → List ℕ → List Token → Type 0
Scans rules source tokens = Tokens rules.list source 0 0 tokens finished

-- scanning the source by the rules is refused for its bad place
pub data ScanningFails (rules : Rules) (source : List ℕ) : Refusal → Type 0 where
  bad_token : (tokens : List Token) (at : ℕ) → Tokens rules.list source 0 0 tokens (bad_at at)
      → ScanningFails rules source (BadToken (line_at source at) (column_at source at))

-- the source's tokens in print, or the refusal
abbrev pub Scanning : Rules → List ℕ → Outcome → Type 0
Scanning rules source = Printed (Scans rules source) (ScanningFails rules source) (tokens_text rules.tokens source)
