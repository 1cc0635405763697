-- The value of an expression, by cases.
use Rattle.std.specs.Prelude.{ℕ, ◌+◌, ◌-◌, ◌*◌, ◌%◌, ◌^◌, ℤ, pos, zero, int_lt, int_le, int_rem, List, [], ◌∷◌, length, Bool, true, false, ◌&&◌, ◌||◌, not, is_some, slice_get, if◌then◌else◌, unwrap_or, nat_le}
use Rattle.std.specs.Ordering.{int_eq}
use Rattle.std.specs.Int.{int_wrapping_add, int_wrapping_sub, int_wrapping_mul, int_wrapping_div, int_wrapping_neg, w64, cast_signed}
use Rattle.std.specs.Str.{bytes_eq}
use Rattle.value_store.specs.Maps.{first_with}
use Rattle.expr_lang.specs.declared.expr.Op.{Op}
use Rattle.expr_lang.specs.declared.expr.Op.TheVariants as op
use Rattle.expr_lang.specs.declared.expr.Function.{Function}
use Rattle.expr_lang.specs.declared.expr.Function.TheVariants as function
use Rattle.expr_lang.specs.Expression.{Expression, Expressions, number, truth, string, var, negative, negated, binary, if_then, call, make, no_expressions, and_expression}
use Rattle.expr_lang.specs.PureValues.{PureValue, int, bool, text, map_of, node, int_in, bool_in, text_in, map_in, token_in, nth, nodes_in, others_in}

-- two ints, bools or texts are the same
abbrev pub same : PureValue → PureValue → Bool
same (int a) (int b) = int_eq a b
same (bool true) (bool b) = b
same (bool false) (bool b) = not b
same (text a) (text b) = bytes_eq a b
same _ _ = false

-- towards zero; 0 where the divisor is
abbrev pub quotient : ℤ → ℤ → ℤ
quotient a (pos zero) = pos 0
quotient a d = int_wrapping_div w64 a d

-- with the sign of the dividend; 0 where the divisor is
abbrev pub remainder : ℤ → ℤ → ℤ
remainder a (pos zero) = pos 0
remainder a d = int_rem a d

-- what an operator makes of two values
abbrev pub joined : Op → PureValue → PureValue → PureValue
joined op.Or a b = bool (bool_in a || bool_in b)
joined op.And a b = bool (bool_in a && bool_in b)
joined op.Equal a b = bool (same a b)
joined op.Differ a b = bool (not (same a b))
joined op.Less a b = bool (int_lt (int_in a) (int_in b))
joined op.AtMost a b = bool (int_le (int_in a) (int_in b))
joined op.Greater a b = bool (int_lt (int_in b) (int_in a))
joined op.AtLeast a b = bool (int_le (int_in b) (int_in a))
joined op.Plus a b = int (int_wrapping_add w64 (int_in a) (int_in b))
joined op.Minus a b = int (int_wrapping_sub w64 (int_in a) (int_in b))
joined op.Times a b = int (int_wrapping_mul w64 (int_in a) (int_in b))
joined op.Quotient a b = int (quotient (int_in a) (int_in b))
joined op.Remainder a b = int (remainder (int_in a) (int_in b))

-- the bytes from `0` to `9`
abbrev pub is_digit : ℕ → Bool
is_digit b = nat_le 48 b && nat_le b 57

-- bytes that are all digits; none are too
abbrev pub all_digits : List ℕ → Bool
all_digits [] = true
all_digits (b ∷ bs) = is_digit b && all_digits bs

-- the number whose digits follow those of n
abbrev pub decimal : ℕ → List ℕ → ℕ
decimal n [] = n
decimal n (b ∷ bs) = decimal (n * 10 + (b - 48)) bs

-- the number of one or more digits modulo 2^64, as an int; else 0
abbrev pub number_in : List ℕ → ℤ
number_in [] = pos 0
number_in (b ∷ bs) = if all_digits (b ∷ bs) then cast_signed w64 (decimal 0 (b ∷ bs) % 2 ^ 64) else pos 0

-- the numbered tokens: their texts, their lines and columns
pub record Tokens : Type 0 where
  pub texts : List (List ℕ)
  pub places : List (ℕ × ℕ)

-- no tokens, for what speaks of none
abbrev pub no_tokens : Tokens
no_tokens = record { texts = []; places = [] }

-- the text of a token, else none
abbrev pub text_at : Tokens → ℕ → List ℕ
text_at tokens k = unwrap_or (slice_get tokens.texts k) []

-- the line and column of a token, else 0 and 0
abbrev pub place_at : Tokens → ℕ → ℕ × ℕ
place_at tokens k = unwrap_or (slice_get tokens.places k) (0, 0)

-- what a function makes of its arguments
abbrev pub applied : Tokens → Function → List PureValue → PureValue
applied tokens function.Text vs = text (text_at tokens (token_in (nth vs 0)))
applied tokens function.Line vs = int (pos (place_at tokens (token_in (nth vs 0))).0)
applied tokens function.Col vs = int (pos (place_at tokens (token_in (nth vs 0))).1)
applied tokens function.Int vs = int (number_in (text_in (nth vs 0)))
applied tokens function.Empty vs = map_of []
applied tokens function.Put vs = map_of (record { key = text_in (nth vs 1); number = int_in (nth vs 2) } ∷ map_in (nth vs 0))
applied tokens function.Get vs = int (unwrap_or (first_with (text_in (nth vs 1)) (map_in (nth vs 0))) (int_in (nth vs 2)))
applied tokens function.Has vs = bool (is_some (first_with (text_in (nth vs 1)) (map_in (nth vs 0))))
applied tokens function.Size vs = int (pos (length (map_in (nth vs 0))))

-- the value of an expression
abbrev mutual
  pub value_of : Tokens → List PureValue → Expression → PureValue
  value_of tokens env (number z) = int z
  value_of tokens env (truth b) = bool b
  value_of tokens env (string bytes) = text bytes
  value_of tokens env (var i) = nth env i
  value_of tokens env (negative a) = int (int_wrapping_neg w64 (int_in (value_of tokens env a)))
  value_of tokens env (negated a) = bool (not (bool_in (value_of tokens env a)))
  value_of tokens env (binary o a b) = joined o (value_of tokens env a) (value_of tokens env b)
  value_of tokens env (if_then c a b) = if bool_in (value_of tokens env c) then value_of tokens env a else value_of tokens env b
  value_of tokens env (call f args) = applied tokens f (values_of tokens env args)
  value_of tokens env (make n args) = node n (nodes_in (values_of tokens env args)) (others_in (values_of tokens env args))

  pub values_of : Tokens → List PureValue → Expressions → List PureValue
  values_of tokens env no_expressions = []
  values_of tokens env (and_expression a more) = value_of tokens env a ∷ values_of tokens env more
