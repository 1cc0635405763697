-- Streams of tokens: the list that is to come, how it ends, and what is drawn from it.
use Rattle.std.specs.Prelude.{◌≡◌, ℕ, ◌<◌, Bool, IsTrue, List, [], ◌∷◌, map}
use Rattle.parse_driver.specs.declared.tokens.TokenRef.{TokenRef}
use Rattle.parse_driver.specs.declared.tokens.Next.{Next}
use Rattle.parse_driver.specs.declared.tokens.Next.TheVariants as next

-- the terminal of a token
abbrev pub terminal_of : TokenRef → ℕ
terminal_of k = k.terminal

-- the terminals of tokens
abbrev pub terminals_of : List TokenRef → List ℕ
terminals_of tokens = map terminal_of tokens

-- how a list of tokens ends: with END at a place, or at a bad place
pub data Ending : Type 0 where
  finished : ℕ → Ending
  bad_at : ℕ → Ending

-- what is drawn where these tokens are to come with this ending: the first of them, or how they end;
-- `after` says of which tokens and ending they are the rest then
abbrev pub Draws : (List TokenRef → Ending → Type 0) → List TokenRef → Ending → Next → Type 0
Draws after tokens ending (next.Token k) = (rest : List TokenRef) × (tokens ≡ k ∷ rest) × after rest ending
Draws after tokens ending (next.End place) = (tokens ≡ []) × (ending ≡ finished place)
Draws after tokens ending (next.Bad place) = (tokens ≡ []) × (ending ≡ bad_at place)

-- after a token more can be drawn, and less is left
abbrev pub GoesOn : Next → Bool → ℕ → ℕ → Type 0
GoesOn (next.Token k) is_open before now = IsTrue is_open × (now < before)
GoesOn (next.End place) is_open before now = Unit {0}
GoesOn (next.Bad place) is_open before now = Unit {0}
