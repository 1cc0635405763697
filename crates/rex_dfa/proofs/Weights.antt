-- How much of an expression is left to walk over.
use Rattle.std.proofs.Common.{◌≡◌, ℕ, zero, suc, ◌+◌, ◌<◌, List, [], ◌∷◌, length, get_or, map, arith}
use Rattle.rex_model.specs.Language.{Re, none, bytes, class, sequence, alternative, star, plus, optional}
use Rattle.rex_model.specs.Meaning.{meaning, sequence_of, alternative_of}
use Rattle.rex_model.specs.declared.regex.Regex.{Regex}

abbrev pub weight : Re → ℕ
weight none = 0
weight (bytes string) = 0
weight (class set) = 0
weight (sequence r s) = weight r + weight s + 1
weight (alternative r s) = weight r + weight s + 1
weight (star r) = weight r + 1
weight (plus r) = weight r + 1
weight (optional r) = weight r + 1

-- a part weighs less than all
pub weight_at : (parts : List Regex) (i : ℕ) (part : Regex) → i < length parts → part ≡ get_or parts i part → weight (meaning part) < weight (sequence_of (map meaning parts))
weight_at [] i part within is = absurd (omega (arith, within))
weight_at (other ∷ parts) zero part within is = rw is (omega arith)
weight_at (other ∷ parts) (suc i) part within is = let more = weight_at parts i part (omega (arith, within)) is in omega (arith, more)

pub weight_among : (parts : List Regex) (i : ℕ) (part : Regex) → i < length parts → part ≡ get_or parts i part → weight (meaning part) < weight (alternative_of (map meaning parts))
weight_among [] i part within is = absurd (omega (arith, within))
weight_among (other ∷ parts) zero part within is = rw is (omega arith)
weight_among (other ∷ parts) (suc i) part within is = let more = weight_among parts i part (omega (arith, within)) is in omega (arith, more)
