-- What holds of a list of parts, whether they stand one after the other or are alternatives.
use Rattle.std.proofs.Common.{◌≡◌, ℕ, ◌+◌, ◌<◌, List, [], ◌∷◌, length, get_or, map, drop, refl, ap, ◌∙◌, sym}
use Rattle.std.proofs.lemmas.List.{at_drop_more}
use Rattle.rex_model.specs.Language.{Re}
use Rattle.rex_model.specs.Meaning.{meaning, sequence_of, alternative_of}
use Rattle.rex_model.specs.Positions.{position_count}
use Rattle.rex_model.specs.declared.regex.Regex.{Regex}

-- either way they have as many positions
pub alternative_count : (rs : List Re) → position_count (alternative_of rs) ≡ position_count (sequence_of rs)
alternative_count [] = refl
alternative_count (r ∷ rs) = ap (λ n. position_count r + n) (alternative_count rs)

-- the parts from place i on are the one there and those behind it
pub meanings_at : (parts : List Regex) (i : ℕ) (part : Regex) → i < length parts → part ≡ get_or parts i part
    → map meaning (drop i parts) ≡ meaning part ∷ map meaning (drop (i + 1) parts)
meanings_at parts i part within is =
    at_drop_more (map meaning) parts i part within ∙ ap (λ r. meaning r ∷ map meaning (drop (i + 1) parts)) (sym is)
