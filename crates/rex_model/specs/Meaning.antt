-- What an expression of the program means as a regular expression.
use Rattle.std.specs.Prelude.{ℕ, ◌^◌, ◌/◌, ◌%◌, ◌==◌, Bool, not, List, [], ◌∷◌, bit_and, slice_index}
use Rattle.rex_model.specs.Language.{Re, none, bytes, class, sequence, alternative, star, plus, optional}
use Rattle.rex_model.specs.declared.regex.Regex.{Regex}
use Rattle.rex_model.specs.declared.regex.Regex.TheOpen.{Regex-F}
use Rattle.rex_model.specs.declared.regex.Regex.TheFolds.{fold-Regex}

-- all parts one after the other; the empty word where there are none
abbrev pub sequence_of : List Re → Re
sequence_of [] = bytes []
sequence_of (r ∷ rs) = sequence r (sequence_of rs)

-- one of the parts; no word where there are none
abbrev pub alternative_of : List Re → Re
alternative_of [] = none
alternative_of (r ∷ rs) = alternative r (alternative_of rs)

-- the set of bytes of four words of 64 bits: byte b is in it where bit b % 64 of word b / 64 is set
abbrev pub set_of : List ℕ → ℕ → Bool
set_of words byte = not (bit_and (slice_index words (byte / 64)) (2 ^ (byte % 64)) == 0)

-- the meaning of an expression from those of its parts
abbrev pub node_meaning : Regex-F Re → Re
node_meaning (Regex-F.Bytes string) = bytes string.now
node_meaning (Regex-F.Class words) = class (set_of words)
node_meaning (Regex-F.Seq parts) = sequence_of parts.now
node_meaning (Regex-F.Alt parts) = alternative_of parts.now
node_meaning (Regex-F.Star part) = star part.now
node_meaning (Regex-F.Plus part) = plus part.now
node_meaning (Regex-F.Opt part) = optional part.now

-- the regular expression that an expression of the program stands for
abbrev pub meaning : Regex → Re
meaning = fold-Regex Re node_meaning
