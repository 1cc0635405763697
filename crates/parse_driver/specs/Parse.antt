-- What the answer of a parse says of the tokens that were to come.
use Rattle.std.specs.Prelude.{◌≡◌, ℕ, ◌+◌, List, [], ◌∷◌, ◌++◌, map, length, Result, Ok, Err, Vec}
use Rattle.std.specs.Global.{Global}
use Rattle.cfg_model.specs.Cfg.{Cfg}
use Rattle.cfg_model.specs.Derivation.{Forest, Move, shift, reduce, postorder, Derivation, IsSentence, IsViable}
use Rattle.parse_driver.specs.Stream.{Ending, finished, bad_at, terminal_of, terminals_of}
use Rattle.parse_driver.specs.declared.tokens.TokenRef.{TokenRef}
use Rattle.parse_driver.specs.declared.step.Step.{Step}
use Rattle.parse_driver.specs.declared.step.Step.TheVariants as act
use Rattle.parse_driver.specs.declared.refusal.ParseError.{ParseError}
use Rattle.parse_driver.specs.declared.refusal.ParseError.TheVariants as fault

-- a step as one of a derivation in postorder
abbrev pub move_of : Step → Move TokenRef
move_of (act.Shift k) = shift k
move_of (act.Reduce r) = reduce r

-- END comes after the tokens, and the steps are those of a derivation of the tokens in postorder
pub record IsParsed (g : Cfg) (tokens : List TokenRef) (ending : Ending) (steps : List Step) : Type 0 where
  pub place : ℕ
  pub ended : ending ≡ finished place
  pub forest : Forest TokenRef
  pub derivation : Derivation terminal_of g tokens forest
  pub in_postorder : map move_of steps ≡ postorder forest

-- the first token that is no longer viable is the k-th, at this place; END counts as a token
pub data IsFirstWrong (g : Cfg) (tokens : List TokenRef) (ending : Ending) : ℕ → ℕ → Type 0 where
  a_token : (before after : List TokenRef) (t : TokenRef) → tokens ≡ before ++ (t ∷ after)
      → IsViable g (terminals_of before) → (IsViable g (terminals_of (before ++ (t ∷ []))) → ⊥)
      → IsFirstWrong g tokens ending (length before + 1) t.from
  the_end : (place : ℕ) → ending ≡ finished place
      → IsViable g (terminals_of tokens) → (IsSentence g (terminals_of tokens) → ⊥)
      → IsFirstWrong g tokens ending (length tokens + 1) place

-- the tokens end at a bad place, and all of them are viable
pub record IsBadToken (g : Cfg) (tokens : List TokenRef) (ending : Ending) (place : ℕ) : Type 0 where
  pub ended : ending ≡ bad_at place
  pub viable : IsViable g (terminals_of tokens)

-- what the answer of a parse says; want of memory says nothing
abbrev pub Parses : Cfg → List TokenRef → Ending → Result (Vec Step Global) ParseError → Type 0
Parses g tokens ending (Ok steps) = IsParsed g tokens ending steps.items
Parses g tokens ending (Err (fault.SyntaxError k at)) = IsFirstWrong g tokens ending k at
Parses g tokens ending (Err (fault.BadToken at)) = IsBadToken g tokens ending at
Parses g tokens ending (Err fault.NoMemory) = Unit {0}
