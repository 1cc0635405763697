-- The value of each operator and function, tried on its edges and where the nearest wrong reading differs.
use Rattle.std.proofs.Common.{◌≡◌, ℤ, pos, negsuc, Bool, true, false, List, [], ◌∷◌, refl}
use Rattle.std.specs.Prelude.{codes}
use Rattle.expr_lang.specs.declared.expr.Op.{Op}
use Rattle.expr_lang.specs.declared.expr.Op.TheVariants as op
use Rattle.expr_lang.specs.declared.expr.Function.TheVariants as function
use Rattle.expr_lang.specs.Expression.{Expression, Expressions, number, truth, string, var, negative, negated, binary, if_then, call, make, no_expressions, and_expression}
use Rattle.expr_lang.specs.PureValues.{PureValue, int, bool, text, map_of, token, source, node, no_pure, and_pure}
use Rattle.expr_lang.specs.ValueOf.{Tokens, value_of, number_in}

-- two tokens, with their texts, lines and columns
abbrev pub tokens : Tokens
tokens = record { texts = codes "let" ∷ codes "12" ∷ []; places = (1, 1) ∷ (3, 9) ∷ [] }

-- variable 0 is the second token, 1 an int, 2 a map, 3 a node of the source, 4 a node that was made
abbrev pub variables : List PureValue
variables =
    token 1
    ∷ int (pos 5)
    ∷ map_of (record { key = codes "a"; number = pos 7 } ∷ [])
    ∷ source 3
    ∷ node 8 no_pure no_pure
    ∷ []

abbrev pub val : Expression → PureValue
val e = value_of tokens variables e

-- an operator on two ints
abbrev pub ints : Op → ℤ → ℤ → PureValue
ints o a b = val (binary o (number a) (number b))

-- an operator on two bools
abbrev pub bools : Op → Bool → Bool → PureValue
bools o a b = val (binary o (truth a) (truth b))

abbrev pub greatest : ℤ
greatest = pos 9223372036854775807

abbrev pub least : ℤ
least = negsuc 9223372036854775807

-- || and &&
or_none : bools op.Or false false ≡ bool false
or_none = refl

or_second : bools op.Or false true ≡ bool true
or_second = refl

and_first_alone : bools op.And true false ≡ bool false
and_first_alone = refl

and_both : bools op.And true true ≡ bool true
and_both = refl

-- == and != on ints, bools and texts
equal_ints : ints op.Equal (negsuc 0) (negsuc 0) ≡ bool true
equal_ints = refl

sign_counts : ints op.Equal (pos 1) (negsuc 0) ≡ bool false
sign_counts = refl

equal_bools : bools op.Equal false false ≡ bool true
equal_bools = refl

unequal_bools : bools op.Equal true false ≡ bool false
unequal_bools = refl

differing_bools : bools op.Differ true false ≡ bool true
differing_bools = refl

equal_texts : val (binary op.Equal (string (codes "ab")) (string (codes "ab"))) ≡ bool true
equal_texts = refl

-- byte by byte: a text isn't what it begins with, nor the same in another case
longer_text : val (binary op.Equal (string (codes "ab")) (string (codes "a"))) ≡ bool false
longer_text = refl

other_case : val (binary op.Differ (string (codes "A")) (string (codes "a"))) ≡ bool true
other_case = refl

-- < <= > >= on ints, with their signs
below_zero : ints op.Less (negsuc 0) (pos 0) ≡ bool true
below_zero = refl

not_below_itself : ints op.Less (pos 2) (pos 2) ≡ bool false
not_below_itself = refl

at_most_itself : ints op.AtMost (pos 2) (pos 2) ≡ bool true
at_most_itself = refl

more_negative : ints op.Greater (negsuc 0) (negsuc 1) ≡ bool true
more_negative = refl

not_above_itself : ints op.Greater (pos 2) (pos 2) ≡ bool false
not_above_itself = refl

at_least_itself : ints op.AtLeast (pos 2) (pos 2) ≡ bool true
at_least_itself = refl

-- + - * wrap in 64 bits
sum : ints op.Plus (pos 2) (negsuc 4) ≡ int (negsuc 2)
sum = refl

sum_wraps : ints op.Plus greatest (pos 1) ≡ int least
sum_wraps = refl

difference_wraps : ints op.Minus least (pos 1) ≡ int greatest
difference_wraps = refl

product_wraps : ints op.Times greatest (pos 2) ≡ int (negsuc 1)
product_wraps = refl

high_half_is_lost : ints op.Times (pos 4294967296) (pos 4294967296) ≡ int (pos 0)
high_half_is_lost = refl

-- / rounds towards zero, and not down
towards_zero : ints op.Quotient (negsuc 6) (pos 2) ≡ int (negsuc 2)
towards_zero = refl

negative_divisor : ints op.Quotient (pos 7) (negsuc 1) ≡ int (negsuc 2)
negative_divisor = refl

quotient_by_0 : ints op.Quotient (pos 7) (pos 0) ≡ int (pos 0)
quotient_by_0 = refl

least_by_minus_1 : ints op.Quotient least (negsuc 0) ≡ int least
least_by_minus_1 = refl

-- % has the sign of the dividend, and not of the divisor
sign_of_dividend : ints op.Remainder (negsuc 6) (pos 2) ≡ int (negsuc 0)
sign_of_dividend = refl

not_of_divisor : ints op.Remainder (pos 7) (negsuc 1) ≡ int (pos 1)
not_of_divisor = refl

-- 0, and not the dividend
remainder_by_0 : ints op.Remainder (pos 7) (pos 0) ≡ int (pos 0)
remainder_by_0 = refl

remainder_by_minus_1 : ints op.Remainder least (negsuc 0) ≡ int (pos 0)
remainder_by_minus_1 = refl

-- prefix - and !
least_negated : val (negative (number least)) ≡ int least
least_negated = refl

five_negated : val (negative (var 1)) ≡ int (negsuc 4)
five_negated = refl

not_true : val (negated (truth true)) ≡ bool false
not_true = refl

-- if gives one of its branches
then_branch : val (if_then (truth true) (number (pos 1)) (number (pos 2))) ≡ int (pos 1)
then_branch = refl

else_branch : val (if_then (truth false) (number (pos 1)) (number (pos 2))) ≡ int (pos 2)
else_branch = refl

abbrev pub args1 : Expression → Expressions
args1 a = and_expression a no_expressions

abbrev pub args2 : Expression → Expression → Expressions
args2 a b = and_expression a (args1 b)

abbrev pub args3 : Expression → Expression → Expression → Expressions
args3 a b c = and_expression a (args2 b c)

-- text, line and col of a token
text_of_token : val (call function.Text (args1 (var 0))) ≡ text (codes "12")
text_of_token = refl

line_of_token : val (call function.Line (args1 (var 0))) ≡ int (pos 3)
line_of_token = refl

column_of_token : val (call function.Col (args1 (var 0))) ≡ int (pos 9)
column_of_token = refl

-- int: digits alone, modulo 2^64
int_of_token : val (call function.Int (args1 (call function.Text (args1 (var 0))))) ≡ int (pos 12)
int_of_token = refl

leading_zeros : number_in (codes "007") ≡ pos 7
leading_zeros = refl

no_digits : number_in [] ≡ pos 0
no_digits = refl

a_letter_behind : number_in (codes "1a") ≡ pos 0
a_letter_behind = refl

no_sign : number_in (codes "-5") ≡ pos 0
no_sign = refl

no_blank : number_in (codes " 1") ≡ pos 0
no_blank = refl

past_the_greatest : number_in (codes "9223372036854775808") ≡ least
past_the_greatest = refl

all_ones : number_in (codes "18446744073709551615") ≡ negsuc 0
all_ones = refl

modulo : number_in (codes "18446744073709551617") ≡ pos 1
modulo = refl

-- a map with two pairs of one text
abbrev pub twice : Expression
twice =
    call function.Put (args3
    (call function.Put (args3 (call function.Empty no_expressions) (string (codes "a")) (number (pos 1))))
    (string (codes "a"))
    (number (pos 2)))

newest_first : val twice ≡ map_of ((record { key = codes "a"; number = pos 2 }) ∷ (record { key = codes "a"; number = pos 1 }) ∷ [])
newest_first = refl

-- get finds the newest pair
get_newest : val (call function.Get (args3 twice (string (codes "a")) (number (pos 9)))) ≡ int (pos 2)
get_newest = refl

get_default : val (call function.Get (args3 twice (string (codes "b")) (number (pos 9)))) ≡ int (pos 9)
get_default = refl

has_it : val (call function.Has (args2 twice (string (codes "a")))) ≡ bool true
has_it = refl

has_not : val (call function.Has (args2 (call function.Empty no_expressions) (string (codes "a")))) ≡ bool false
has_not = refl

-- size counts pairs, and not texts
size_counts_pairs : val (call function.Size (args1 twice)) ≡ int (pos 2)
size_counts_pairs = refl

size_of_none : val (call function.Size (args1 (call function.Empty no_expressions))) ≡ int (pos 0)
size_of_none = refl

-- a map that is put into stays as it was
variable_stays : val (call function.Size (args1 (if_then (truth false) (call function.Put (args3 (var 2) (string (codes "b")) (number (pos 1)))) (var 2)))) ≡ int (pos 1)
variable_stays = refl

-- a node has its children and its fields apart, each in order
parts_apart : val (make 2 (args3 (number (pos 1)) (var 4) (truth true)))
    ≡ node 2 (and_pure (node 8 no_pure no_pure) no_pure) (and_pure (int (pos 1)) (and_pure (bool true) no_pure))
parts_apart = refl
