-- Operators on values as the code holds them. Only contracts within this crate cite it.
use Rattle.std.specs.Prelude.{ℕ, ℤ, pos, int_lt, int_le, List, Bool, true, false, ◌&&◌, ◌||◌, not}
use Rattle.std.specs.Ordering.{int_eq}
use Rattle.std.specs.Int.{int_wrapping_add, int_wrapping_sub, int_wrapping_mul, w64}
use Rattle.std.specs.Str.{bytes_eq}
use Rattle.value_store.specs.Texts.{text_of}
use Rattle.value_store.specs.declared.value.Value.{Value}
use Rattle.value_store.specs.declared.value.Value.TheVariants as value
use Rattle.value_store.specs.declared.text.Text.{Text}
use Rattle.value_store.specs.declared.text.TextOf.TheVariants.{Source}
use Rattle.expr_lang.specs.declared.expr.Op.{Op}
use Rattle.expr_lang.specs.declared.expr.Op.TheVariants as op
use Rattle.expr_lang.specs.ValueOf.{quotient, remainder}

-- the parts of a value, where it has them
abbrev pub int_part : Value → ℤ
int_part (value.Int z) = z
int_part _ = pos 0

-- the truth of a bool, else false
abbrev pub bool_part : Value → Bool
bool_part (value.Bool b) = b
bool_part _ = false

-- the cell of a map, else 0
abbrev pub map_part : Value → ℕ
map_part (value.Map m) = m
map_part _ = 0

-- the number of a token, else 0
abbrev pub token_part : Value → ℕ
token_part (value.Token k) = k
token_part _ = 0

-- the span of a text, else an empty one
abbrev pub text_part : Value → Text
text_part (value.Text t) = t
text_part _ = record { of = Source; from = 0; to = 0 }

-- two ints, bools or texts of the program are the same
abbrev pub same_of : List ℕ → List ℕ → Value → Value → Bool
same_of s l (value.Int a) (value.Int b) = int_eq a b
same_of s l (value.Bool true) (value.Bool b) = b
same_of s l (value.Bool false) (value.Bool b) = not b
same_of s l (value.Text a) (value.Text b) = bytes_eq (text_of s l a) (text_of s l b)
same_of s l _ _ = false

-- what an operator makes of two values of the program
abbrev pub join_of : List ℕ → List ℕ → Op → Value → Value → Value
join_of s l op.Or a b = value.Bool (bool_part a || bool_part b)
join_of s l op.And a b = value.Bool (bool_part a && bool_part b)
join_of s l op.Equal a b = value.Bool (same_of s l a b)
join_of s l op.Differ a b = value.Bool (not (same_of s l a b))
join_of s l op.Less a b = value.Bool (int_lt (int_part a) (int_part b))
join_of s l op.AtMost a b = value.Bool (int_le (int_part a) (int_part b))
join_of s l op.Greater a b = value.Bool (int_lt (int_part b) (int_part a))
join_of s l op.AtLeast a b = value.Bool (int_le (int_part b) (int_part a))
join_of s l op.Plus a b = value.Int (int_wrapping_add w64 (int_part a) (int_part b))
join_of s l op.Minus a b = value.Int (int_wrapping_sub w64 (int_part a) (int_part b))
join_of s l op.Times a b = value.Int (int_wrapping_mul w64 (int_part a) (int_part b))
join_of s l op.Quotient a b = value.Int (quotient (int_part a) (int_part b))
join_of s l op.Remainder a b = value.Int (remainder (int_part a) (int_part b))
