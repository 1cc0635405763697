-- What deriving makes of a source.
use Rattle.std.specs.Prelude.{◌≡◌, ℕ, List, length, map}
use Rattle.ck_base.specs.declared.refusal.Refusal.{Refusal}
use Rattle.ck_base.specs.declared.refusal.Refusal.TheVariants.{BadToken, SyntaxError}
use Rattle.cfg_model.specs.Derivation.{Forest, Derivation, postorder}
use Rattle.cfg_model.specs.declared.named.NamedGrammar.{NamedGrammar}
use Rattle.rex_model.specs.Place.{line_at, column_at}
use Rattle.rex_model.specs.Rules.{Rule, Rules}
use Rattle.rex_model.specs.Run.{Token, Tokens}
use Rattle.rex_model.specs.Run as run
use Rattle.parse_driver.specs.Parse.{IsFirstWrong, IsBadToken}
use Rattle.parse_driver.specs.Stream.{Ending, finished, bad_at, terminal_of}
use Rattle.parse_driver.specs.declared.tokens.TokenRef.{TokenRef}
use Rattle.ck_chain.specs.DeriveText.{derive_text}
use Rattle.ck_chain.specs.InOrder.{Printed}
use Rattle.ck_chain.specs.Outcome.{Outcome}

-- a token of a text, as a parser has it
abbrev pub ref_of : Token → TokenRef
ref_of token = record { terminal = token.number; from = token.from; to = token.to }

-- how tokens end, with the place of END
abbrev pub ending_at : ℕ → run.Ending → Ending
ending_at size run.finished = finished size
ending_at size (run.bad_at at) = bad_at at

-- these are the tokens of the source from a place in a state on, and they end so
pub record Comes (rules : List Rule) (source : List ℕ) (state at : ℕ) (tokens : List TokenRef) (ending : Ending) : Type 0 where
  pub scanned : List Token
  pub ended : run.Ending
  pub run : Tokens rules source state at scanned ended
  pub tokens_are : tokens ≡ map ref_of scanned
  pub ending_is : ending ≡ ending_at (length source) ended

-- tokens, and a forest over them
pub record Derived : Type 0 where
  pub tokens : List TokenRef
  pub forest : Forest TokenRef

-- the source has these tokens and no bad place, and the forest is their derivation by the grammar
pub record Derives (rules : Rules) (g : NamedGrammar) (source : List ℕ) (d : Derived) : Type 0 where
  pub place : ℕ
  pub comes : Comes rules.list source 0 0 d.tokens (finished place)
  pub derivation : Derivation terminal_of g.grammar d.tokens d.forest

-- deriving the source is refused for the first token that isn't viable, or for the bad place behind viable tokens
pub data DerivingFails (rules : Rules) (g : NamedGrammar) (source : List ℕ) : Refusal → Type 0 where
  syntax_error : (tokens : List TokenRef) (ending : Ending) (k at : ℕ) → Comes rules.list source 0 0 tokens ending
      → IsFirstWrong g.grammar tokens ending k at
      → DerivingFails rules g source (SyntaxError (line_at source at) (column_at source at))
  bad_token : (tokens : List TokenRef) (ending : Ending) (at : ℕ) → Comes rules.list source 0 0 tokens ending
      → IsBadToken g.grammar tokens ending at
      → DerivingFails rules g source (BadToken (line_at source at) (column_at source at))

-- the derivation in print: its steps, bottom-up
abbrev pub derived_text : Rules → NamedGrammar → List ℕ → Derived → List ℕ
derived_text rules g source d = derive_text rules.tokens g.labels source (postorder d.forest)

-- the derivation of the source by the grammar in print, or the refusal
abbrev pub Deriving : Rules → NamedGrammar → List ℕ → Outcome → Type 0
Deriving rules g source = Printed (Derives rules g source) (DerivingFails rules g source) (derived_text rules g source)
