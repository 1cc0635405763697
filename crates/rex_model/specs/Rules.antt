-- Scan rules. States and tokens are numbered as in the lists of their names.
use Rattle.std.specs.Prelude.{ℕ, Bool, List, [], Option, Some, None}
use Rattle.rex_model.specs.Language.{Re, bytes}

-- a scan rule: which states it is active in, what its text is a word of, what must follow the text
-- (None where anything may), its token (None where the text is skipped), and the state afterwards
-- (None where it stays)
pub record Rule : Type 0 where
  pub active : ℕ → Bool
  pub body : Re
  pub context : Option Re
  pub token : Option ℕ
  pub next : Option ℕ

-- the names of the start states, the names of the tokens, and the rules in the order written
pub record Rules : Type 0 where
  pub states : List (List ℕ)
  pub tokens : List (List ℕ)
  pub list : List Rule

-- what stands behind the text of a rule with this context; nothing where there is none
abbrev pub trailing : Option Re → Re
trailing None = bytes []
trailing (Some context) = context
