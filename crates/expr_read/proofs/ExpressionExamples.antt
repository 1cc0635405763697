-- How expressions are written, tried where the nearest wrong reading differs.
use Rattle.std.proofs.Common.{◌≡◌, ℕ, zero, suc, ◌+◌, List, [], ◌∷◌, length, refl, sym, ap, ◌∙◌, arith, codes}
use Rattle.expr_lang.specs.declared.expr.Op.TheVariants as op
use Rattle.spec_text.specs.Lexemes as lex
use Rattle.spec_text.specs.Lexemes.{Lexeme, word, sign}
use Rattle.spec_text.proofs.Lists.{not_among}
use Rattle.expr_read.specs.Spoken.{Spoken, SpokenList, number, negative, binary, if_then, applied, grouped, no_spoken, and_spoken, nesting}
use Rattle.expr_read.specs.Spoken as spoken
use Rattle.expr_read.specs.Notation.{AtLevel, tighter, an_if, joined, a_negative, a_number, Arguments, some_arguments, Listed, last, next, IsName, IsSpoken, own_words, words_behind, MayFollow, nothing_follows, closing, comma, arrow, a_word_behind, no_arguments}
use Rattle.expr_read.specs.Strings.{string_bytes}
use Rattle.expr_read.specs.within.Wholes.{Whole, ends, chained, prefixed, primary, no_prefix, a_leaf}
use Rattle.expr_read.proofs.Following.{other_token, word_follows}
use Rattle.expr_read.proofs.Glyphs.{same_rest}
use Rattle.expr_read.proofs.OneWhole.{one_whole}
use Rattle.expr_read.proofs.Starts.{bond, no_close, no_operator, no_prefix_first, stops_line}
use Rattle.expr_read.proofs.ToWhole.{line_whole}
use Rattle.expr_read.proofs.WholeParts.{Chain, loosest_at, no_if_parts, chain_at, goes_step}

at_7 : (n : ℕ) (rest : List Lexeme) → AtLevel 7 (lex.number n ∷ rest) (number n) rest
at_7 n rest = a_number 7 n (lex.number n ∷ rest) rest refl refl

at_6 : (n : ℕ) (rest : List Lexeme) → AtLevel 6 (lex.number n ∷ rest) (number n) rest
at_6 n rest = tighter 6 (lex.number n ∷ rest) rest (number n) (at_7 n rest)

at_5 : (n : ℕ) (rest : List Lexeme) → AtLevel 5 (lex.number n ∷ rest) (number n) rest
at_5 n rest = tighter 5 (lex.number n ∷ rest) rest (number n) (at_6 n rest)

at_4 : (n : ℕ) (rest : List Lexeme) → AtLevel 4 (lex.number n ∷ rest) (number n) rest
at_4 n rest = tighter 4 (lex.number n ∷ rest) rest (number n) (at_5 n rest)

outermost : (tokens rest : List Lexeme) (e : Spoken) → AtLevel 4 tokens e rest → AtLevel 0 tokens e rest
outermost tokens rest e is = tighter 0 tokens rest e (tighter 1 tokens rest e (tighter 2 tokens rest e (tighter 3 tokens rest e is)))

-- 1 - 2 - 3 groups to the left
pub to_the_left : (rest : List Lexeme) → AtLevel 4 (lex.number 1 ∷ sign (codes "-") ∷ lex.number 2 ∷ sign (codes "-") ∷ lex.number 3 ∷ rest)
    (binary op.Minus (binary op.Minus (number 1) (number 2)) (number 3)) rest
to_the_left rest =
    joined op.Minus 4 _ (lex.number 3 ∷ rest) rest (binary op.Minus (number 1) (number 2)) (number 3) refl
    (joined op.Minus 4 _ (lex.number 2 ∷ sign (codes "-") ∷ lex.number 3 ∷ rest) (sign (codes "-") ∷ lex.number 3 ∷ rest) (number 1) (number 2) refl
    (at_4 1 (sign (codes "-") ∷ lex.number 2 ∷ sign (codes "-") ∷ lex.number 3 ∷ rest)) (at_5 2 (sign (codes "-") ∷ lex.number 3 ∷ rest)))
    (at_5 3 rest)

-- - 1 * 2 is a product of a negative
pub negative_first : (rest : List Lexeme) → AtLevel 5 (sign (codes "-") ∷ lex.number 1 ∷ sign (codes "*") ∷ lex.number 2 ∷ rest)
    (binary op.Times (negative (number 1)) (number 2)) rest
negative_first rest =
    joined op.Times 5 _ (lex.number 2 ∷ rest) rest (negative (number 1)) (number 2) refl
    (tighter 5 _ (sign (codes "*") ∷ lex.number 2 ∷ rest) (negative (number 1))
    (a_negative 6 _ (lex.number 1 ∷ sign (codes "*") ∷ lex.number 2 ∷ rest) (sign (codes "*") ∷ lex.number 2 ∷ rest) (number 1) refl refl
    (at_6 1 (sign (codes "*") ∷ lex.number 2 ∷ rest))))
    (at_6 2 rest)

-- if 1 then 2 else 3 + 4 takes the sum into the branch
pub sum_in_the_branch : (rest : List Lexeme) → AtLevel 0
    (word (codes "if") ∷ lex.number 1 ∷ word (codes "then") ∷ lex.number 2 ∷ word (codes "else") ∷ lex.number 3 ∷ sign (codes "+") ∷ lex.number 4 ∷ rest)
    (if_then (number 1) (number 2) (binary op.Plus (number 3) (number 4))) rest
sum_in_the_branch rest =
    let after_else : List Lexeme = lex.number 3 ∷ sign (codes "+") ∷ lex.number 4 ∷ rest in
    let after_then : List Lexeme = lex.number 2 ∷ word (codes "else") ∷ after_else in
    an_if 0 _ (lex.number 1 ∷ word (codes "then") ∷ after_then) after_then after_else rest (number 1) (number 2) (binary op.Plus (number 3) (number 4)) refl refl
    (outermost _ (word (codes "then") ∷ after_then) (number 1) (at_4 1 (word (codes "then") ∷ after_then)))
    (outermost _ (word (codes "else") ∷ after_else) (number 2) (at_4 2 (word (codes "else") ∷ after_else)))
    (outermost _ rest (binary op.Plus (number 3) (number 4)) (joined op.Plus 4 _ (lex.number 4 ∷ rest) rest (number 3) (number 4) refl
    (at_4 3 (sign (codes "+") ∷ lex.number 4 ∷ rest)) (at_5 4 rest)))

-- (1) has a nesting of 2
pub group_is_deeper : nesting (grouped (number 1)) ≡ 2
group_is_deeper = refl

-- a call has one more than its deepest argument; without arguments it has 1
pub call_alone : nesting (applied (codes "f") no_spoken) ≡ 1
call_alone = refl

pub call_is_deeper : nesting (applied (codes "f") (and_spoken (number 1) (and_spoken (grouped (number 2)) no_spoken))) ≡ 3
call_is_deeper = refl

-- a function's name is a name, and so is `If`; `IF` and `then` are none
pub function_name : IsName (codes "text")
function_name = record { not_own = not_among own_words (codes "text") refl; not_behind = not_among words_behind (codes "text") refl }

pub other_letter : IsName (codes "If")
other_letter = record { not_own = not_among own_words (codes "If") refl; not_behind = not_among words_behind (codes "If") refl }

pub word_behind : IsName (codes "IF") → ⊥
word_behind is = is.not_behind (0, omega arith, refl)

pub own_word : IsName (codes "then") → ⊥
own_word is = is.not_own (1, omega arith, refl)

-- `=>` and `IF` may follow an expression; an operator, `then`, a number may not
pub arrow_follows : MayFollow (sign (codes "=>") ∷ [])
arrow_follows = arrow []

pub if_follows : MayFollow (word (codes "IF") ∷ [])
if_follows = a_word_behind (codes "IF") [] (0, omega arith, refl)

pub no_operator_follows : (rest : List Lexeme) → MayFollow (sign (codes "<") ∷ rest) → ⊥
no_operator_follows rest follows =
    let stops = stops_line (sign (codes "<") ∷ rest) follows in
    let binds : bond (sign (codes "<") ∷ rest) ≡ 3 = refl in omega (arith, stops, binds)

pub no_then_follows : (rest : List Lexeme) → MayFollow (word (codes "then") ∷ rest) → ⊥
no_then_follows rest follows =
    not_among words_behind (codes "then") refl (word_follows (word (codes "then") ∷ rest) (codes "then") rest refl follows)

pub no_number_follows : (n : ℕ) (rest : List Lexeme) → MayFollow (lex.number n ∷ rest) → ⊥
no_number_follows n rest follows =
    other_token (lex.number n ∷ rest) (lex.number n) rest refl (λ w is. cc) (λ is. cc) (λ is. cc) (λ is. cc) follows

-- a number before `<` is whole as a sum, since `<` binds less
whole_4 : (n : ℕ) (rest : List Lexeme) → Whole 4 (lex.number n ∷ sign (codes "<") ∷ rest) (number n) (sign (codes "<") ∷ rest)
whole_4 n rest =
    let end : List Lexeme = sign (codes "<") ∷ rest in
    chained 4 (lex.number n ∷ end) end end (number n) (number n) (omega arith) (omega arith)
    (chained 5 (lex.number n ∷ end) end end (number n) (number n) (omega arith) (omega arith)
    (prefixed 6 (lex.number n ∷ end) end (number n) refl
    (no_prefix (lex.number n ∷ end) end (number n) (no_prefix_first (lex.number n ∷ end) end (number n) (at_7 n end))
    (primary 7 (lex.number n ∷ end) end (number n) refl (a_leaf (lex.number n ∷ end) end (number n) refl))))
    (ends 5 (number n) end (no_operator 5 end (omega arith))))
    (ends 4 (number n) end (no_operator 4 end (omega arith)))

abbrev two_three : List Lexeme
two_three = lex.number 2 ∷ sign (codes "<") ∷ lex.number 3 ∷ []

abbrev one_two_three : List Lexeme
one_two_three = lex.number 1 ∷ sign (codes "<") ∷ two_three

-- what stands behind the first `<` is whole before the second one, where no comparison may go on
no_third : (e : Spoken) (rest : List Lexeme) → Chain 3 one_two_three e rest → ⊥
no_third e rest first =
    let same = one_whole 4 one_two_three (sign (codes "<") ∷ two_three) first.between (number 1) first.left (whole_4 1 two_three) first.is in
    let step = goes_step op.Less 3 first.left e first.between two_three rest refl (sym same.1) first.more in
    let end = one_whole 4 two_three (sign (codes "<") ∷ lex.number 3 ∷ []) step.between (number 2) step.b (whole_4 2 (lex.number 3 ∷ [])) step.right in
    step.single refl op.Less (lex.number 3 ∷ []) refl (sym end.1)

-- 1 < 2 < 3 is no expression
pub not_chained : (e : Spoken) → IsSpoken one_two_three e [] → ⊥
not_chained e is =
    let whole = line_whole one_two_three [] e is.at_level nothing_follows in
    let at_1 = chain_at 1 one_two_three [] e (omega arith) (omega arith)
    (no_if_parts one_two_three [] e (λ more at. cc) (loosest_at 0 one_two_three [] e refl whole)) in
    let at_2 = chain_at 2 one_two_three at_1.between at_1.left (omega arith) (omega arith) at_1.is in
    no_third at_2.left at_2.between (chain_at 3 one_two_three at_2.between at_2.left (omega arith) (omega arith) at_2.is)

-- (1, 2) are arguments; (1,) are none
abbrev close : List Lexeme
close = sign (codes ")") ∷ []

pub at_0 : (n : ℕ) (rest : List Lexeme) → AtLevel 0 (lex.number n ∷ rest) (number n) rest
at_0 n rest = outermost (lex.number n ∷ rest) rest (number n) (at_4 n rest)

pub two_arguments : Arguments (lex.number 1 ∷ sign (codes ",") ∷ lex.number 2 ∷ close)
    (and_spoken (number 1) (and_spoken (number 2) no_spoken)) close
two_arguments =
    some_arguments _ close _ (next _ (lex.number 2 ∷ close) close (number 1) _ (at_0 1 (sign (codes ",") ∷ lex.number 2 ∷ close))
    (last (lex.number 2 ∷ close) close (number 2) (at_0 2 close)))

abbrev one_comma : List Lexeme
one_comma = lex.number 1 ∷ sign (codes ",") ∷ close

whole_0 : Whole 0 one_comma (number 1) (sign (codes ",") ∷ close)
whole_0 = line_whole one_comma (sign (codes ",") ∷ close) (number 1) (at_0 1 (sign (codes ",") ∷ close)) (comma close)

pub no_comma_at_the_end : (args : SpokenList) → Arguments one_comma args close → ⊥
no_comma_at_the_end args are = by one_comma close args refl refl are
  where
    same_end : (e : Spoken) (rest : List Lexeme) → MayFollow rest → AtLevel 0 one_comma e rest → sign (codes ",") ∷ close ≡ rest
    same_end e rest follows is = (one_whole 0 one_comma (sign (codes ",") ∷ close) rest (number 1) e whole_0 (line_whole one_comma rest e is follows)).1

    of_list : (tokens end : List Lexeme) (args : SpokenList) → tokens ≡ one_comma → end ≡ close → Listed tokens args end → ⊥
    of_list _ _ _ at is (last tokens rest a level) =
        let same = same_end a close (closing []) (rw (← at, ← is) level) in
        let long = ap length same in omega (arith, long)
    of_list _ _ _ at is (next tokens after rest a more level listed) =
        let same : close ≡ after = same_rest _ _ close after (same_end a (sign (codes ",") ∷ after) (comma after) (rw (← at) level)) in
        no_close after rest more listed [] (sym same)

    by : (tokens end : List Lexeme) (args : SpokenList) → tokens ≡ one_comma → end ≡ close → Arguments tokens args end → ⊥
    by _ _ _ at is (no_arguments tokens) = let long = ap length (sym at ∙ is) in omega (arith, long)
    by _ _ _ at is (some_arguments tokens rest args listed) = of_list tokens rest args at is listed

-- 63 signs before a number have a nesting of 64, and with one sign more there is no expression
abbrev signs : ℕ → List Lexeme
signs zero = lex.number 1 ∷ []
signs (suc n) = sign (codes "-") ∷ signs n

abbrev signed : ℕ → Spoken
signed zero = number 1
signed (suc n) = negative (signed n)

at_signs : (n : ℕ) → AtLevel 6 (signs n) (signed n) []
at_signs zero = at_6 1 []
at_signs (suc n) = a_negative 6 (signs (suc n)) (signs n) [] (signed n) refl refl (at_signs n)

all_signs : (n : ℕ) → AtLevel 0 (signs n) (signed n) []
all_signs n =
    outermost (signs n) [] (signed n) (tighter 4 (signs n) [] (signed n) (tighter 5 (signs n) [] (signed n) (at_signs n)))

deep : (n : ℕ) → nesting (signed n) ≡ n + 1
deep zero = refl
deep (suc n) = let less = deep n in omega (arith, less)

pub nesting_of_64 : IsSpoken (signs 63) (signed 63) []
nesting_of_64 = record { at_level = all_signs 63; few = let is = deep 63 in omega (arith, is) }

pub nesting_of_65 : (e : Spoken) → IsSpoken (signs 64) e [] → ⊥
nesting_of_65 e is =
    let same = (one_whole 0 (signs 64) [] [] (signed 64) e (line_whole (signs 64) [] (signed 64) (all_signs 64) nothing_follows)
    (line_whole (signs 64) [] e is.at_level nothing_follows)).0 in
    let much = ap nesting same in let is_65 = deep 64 in let few = is.few in omega (arith, much, is_65, few)

-- in `put(m, ("ab"), "c")` the strings have 3 bytes: names, quotes and parentheses don't count
abbrev two_strings : Spoken
two_strings =
    applied (codes "put") (and_spoken (spoken.name (codes "m")) (and_spoken (grouped (spoken.string (codes "ab"))) (and_spoken (spoken.string (codes "c")) no_spoken)))

pub strings_alone : string_bytes two_strings ≡ 3
strings_alone = refl
