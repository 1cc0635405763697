-- What an expression means takes no more units than the expression has tokens.
use Rattle.std.proofs.Common.{◌≡◌, ap, refl, subst, arith, ℕ, suc, ◌+◌, ◌≤◌, List, ◌∷◌, length, codes, Option, Some, None}
use Rattle.spec_text.specs.Lexemes.{Lexeme, word, sign}
use Rattle.expr_lang.specs.declared.expr.Function.{Function}
use Rattle.expr_lang.specs.declared.expr.Function.TheVariants as function
use Rattle.expr_lang.specs.Expression.{Expression, Expressions, no_expressions, and_expression}
use Rattle.expr_lang.specs.Expression as ex
use Rattle.expr_lang.specs.Units.{count_of, own_units, units_of, units_of_all}
use Rattle.ck_base.specs.Numbered.{number_of}
use Rattle.expr_read.specs.Spoken.{Spoken, SpokenList, number, truth, string, name, dollar, pair, negative, negated, binary, if_then, applied, grouped, no_spoken, and_spoken}
use Rattle.expr_read.specs.Notation.{AtLevel, Arguments, Listed, glyph_of, left_of, tighter, an_if, joined, a_negative, a_negated, a_number, a_truth, a_falsehood, a_string, a_name, a_dollar, a_pair, an_application, a_group, no_arguments, some_arguments, last, next}
use Rattle.expr_read.specs.Resolving.{Vocabulary, and_all, applied_to, function_of, of_one, of_three, of_two, resolved, resolved_all, var_of}

-- how many arguments there are
abbrev said_count : SpokenList → ℕ
said_count no_spoken = 0
said_count (and_spoken a more) = said_count more + 1

-- a unit for each name before parentheses and for each argument
abbrev mutual
  pub said_units : Spoken → ℕ
  said_units (number n) = 0
  said_units (truth b) = 0
  said_units (string bytes) = 0
  said_units (name w) = 0
  said_units (dollar n) = 0
  said_units (pair v w) = 0
  said_units (negative a) = said_units a
  said_units (negated a) = said_units a
  said_units (binary o a b) = said_units a + said_units b
  said_units (if_then c a b) = said_units c + said_units a + said_units b
  said_units (applied w args) = said_all args + (1 + said_count args)
  said_units (grouped a) = said_units a

  pub said_all : SpokenList → ℕ
  said_all no_spoken = 0
  said_all (and_spoken a more) = said_units a + said_all more

mutual
  pub level_units : (p : ℕ) (tokens : List Lexeme) (e : Spoken) (rest : List Lexeme) → AtLevel p tokens e rest
      → said_units e + length rest ≤ length tokens
  level_units _ _ _ _ (tighter p tokens rest e at) = level_units (suc p) tokens e rest at
  level_units _ _ _ _ (an_if p tokens after_if after_then after_else rest c a b _ is first second third) =
      let begins = ap length is in
      let x = level_units 0 after_if c (word (codes "then") ∷ after_then) first in
      let y = level_units 0 after_then a (word (codes "else") ∷ after_else) second in
      let z = level_units 0 after_else b rest third in omega (arith, begins, x, y, z)
  level_units _ _ _ _ (joined o p tokens after rest a b _ left right) =
      let x = level_units (left_of p) tokens a (sign (glyph_of o) ∷ after) left in
      let y = level_units (suc p) after b rest right in omega (arith, x, y)
  level_units _ _ _ _ (a_negative p tokens after rest a _ is at) =
      let begins = ap length is in let x = level_units 6 after a rest at in omega (arith, begins, x)
  level_units _ _ _ _ (a_negated p tokens after rest a _ is at) =
      let begins = ap length is in let x = level_units 6 after a rest at in omega (arith, begins, x)
  level_units _ _ _ _ (a_number p n tokens rest _ is) = let begins = ap length is in omega (arith, begins)
  level_units _ _ _ _ (a_truth p tokens rest _ is) = let begins = ap length is in omega (arith, begins)
  level_units _ _ _ _ (a_falsehood p tokens rest _ is) = let begins = ap length is in omega (arith, begins)
  level_units _ _ _ _ (a_string p bytes tokens rest _ is) = let begins = ap length is in omega (arith, begins)
  level_units _ _ _ _ (a_name p w tokens rest _ _ is) = let begins = ap length is in omega (arith, begins)
  level_units _ _ _ _ (a_dollar p n tokens rest _ is) = let begins = ap length is in omega (arith, begins)
  level_units _ _ _ _ (a_pair p v w tokens rest _ _ _ is) = let begins = ap length is in omega (arith, begins)
  level_units _ _ _ _ (an_application p w tokens after rest args _ _ is at) =
      let begins = ap length is in
      let x = arguments_units after args (sign (codes ")") ∷ rest) at in omega (arith, begins, x)
  level_units _ _ _ _ (a_group p tokens after rest a _ is at) =
      let begins = ap length is in
      let x = level_units 0 after a (sign (codes ")") ∷ rest) at in omega (arith, begins, x)

  arguments_units : (tokens : List Lexeme) (args : SpokenList) (rest : List Lexeme) → Arguments tokens args rest
      → said_all args + said_count args + length rest ≤ length tokens + 1
  arguments_units _ _ _ (no_arguments tokens) = omega arith
  arguments_units _ _ _ (some_arguments tokens rest args at) = listed_units tokens args rest at

  listed_units : (tokens : List Lexeme) (args : SpokenList) (rest : List Lexeme) → Listed tokens args rest
      → said_all args + said_count args + length rest ≤ length tokens + 1
  listed_units _ _ _ (last tokens rest a at) = let x = level_units 0 tokens a rest at in omega (arith, x)
  listed_units _ _ _ (next tokens after rest a more at all) =
      let x = level_units 0 tokens a (sign (codes ",") ∷ after) at in
      let y = listed_units after more rest all in omega (arith, x, y)

-- at most so many units, where something is meant
data AtMost (n : ℕ) : Option Expression → Type 0 where
  meant_none : AtMost n None
  meant : (x : Expression) → units_of x ≤ n → AtMost n (Some x)

-- at most so many units and as many as there are arguments, where a list is meant
data AllAtMost (n count : ℕ) : Option Expressions → Type 0 where
  all_none : AllAtMost n count None
  all_meant : (xs : Expressions) → units_of_all xs ≤ n → count_of xs ≡ count → AllAtMost n count (Some xs)

var_most : (place : Option ℕ) → AtMost 0 (var_of place)
var_most None = meant_none
var_most (Some i) = meant (ex.var i) (omega arith)

one_most : (make : Expression → Expression) → ((x : Expression) → units_of (make x) ≡ units_of x) → (n : ℕ) (o : Option Expression)
    → AtMost n o → AtMost n (of_one make o)
one_most make same n _ meant_none = meant_none
one_most make same n _ (meant x few) = meant (make x) (let one = same x in omega (arith, one, few))

binary_most : (o : _) (m n : ℕ) (a b : Option Expression) → AtMost m a → AtMost n b → AtMost (m + n) (of_two (ex.binary o) a b)
binary_most o m n _ b meant_none most = meant_none
binary_most o m n _ _ (meant x few) meant_none = meant_none
binary_most o m n _ _ (meant x few) (meant y less) = meant (ex.binary o x y) (omega (arith, few, less))

if_most : (k m n : ℕ) (c a b : Option Expression) → AtMost k c → AtMost m a → AtMost n b
    → AtMost (k + m + n) (of_three ex.if_then c a b)
if_most k m n _ a b meant_none one two = meant_none
if_most k m n _ _ b (meant x few) meant_none two = meant_none
if_most k m n _ _ _ (meant x few) (meant y less) meant_none = meant_none
if_most k m n _ _ _ (meant x few) (meant y less) (meant z least) = meant (ex.if_then x y z) (omega (arith, few, less, least))

own_few : (f : Function) → own_units f ≤ 1
own_few function.Text = omega arith
own_few function.Line = omega arith
own_few function.Col = omega arith
own_few function.Int = omega arith
own_few function.Empty = omega arith
own_few function.Put = omega arith
own_few function.Get = omega arith
own_few function.Has = omega arith
own_few function.Size = omega arith

applied_most : (words : Vocabulary) (f : Option Function) (maker : Option ℕ) (n count : ℕ) (args : Option Expressions)
    → AllAtMost n count args → AtMost (n + (1 + count)) (applied_to words f maker args)
applied_most words (Some f) maker n count _ all_none = meant_none
applied_most words (Some f) maker n count _ (all_meant xs few same) =
    meant (ex.call f xs) (let own = own_few f in omega (arith, few, own))
applied_most words None (Some k) n count _ all_none = meant_none
applied_most words None (Some k) n count _ (all_meant xs few same) = meant _ (omega (arith, few, same))
applied_most words None None n count _ all = meant_none

and_most : (m n count : ℕ) (a : Option Expression) (more : Option Expressions) → AtMost m a → AllAtMost n count more
    → AllAtMost (m + n) (count + 1) (and_all a more)
and_most m n count _ more meant_none all = all_none
and_most m n count _ _ (meant x few) all_none = all_none
and_most m n count _ _ (meant x few) (all_meant xs less same) = all_meant (and_expression x xs) (omega (arith, few, less)) (omega (arith, same))

mutual
  said_most : (words : Vocabulary) (e : Spoken) → AtMost (said_units e) (resolved words e)
  said_most words (number n) = meant _ (omega arith)
  said_most words (truth b) = meant _ (omega arith)
  said_most words (string bytes) = meant _ (omega arith)
  said_most words (name w) = var_most _
  said_most words (dollar n) = var_most _
  said_most words (pair v w) = var_most _
  said_most words (negative a) = one_most ex.negative (λ x. refl) _ _ (said_most words a)
  said_most words (negated a) = one_most ex.negated (λ x. refl) _ _ (said_most words a)
  said_most words (binary o a b) = binary_most o _ _ _ _ (said_most words a) (said_most words b)
  said_most words (if_then c a b) = if_most _ _ _ _ _ _ (said_most words c) (said_most words a) (said_most words b)
  said_most words (applied w args) = applied_most words (function_of w) (number_of words.makers w) _ _ _ (said_most_all words args)
  said_most words (grouped a) = said_most words a

  said_most_all : (words : Vocabulary) (args : SpokenList) → AllAtMost (said_all args) (said_count args) (resolved_all words args)
  said_most_all words no_spoken = all_meant no_expressions (omega arith) refl
  said_most_all words (and_spoken a more) = and_most _ _ _ _ _ (said_most words a) (said_most_all words more)

units_in : (n : ℕ) (o : Option Expression) (x : Expression) → o ≡ Some x → AtMost n o → units_of x ≤ n
units_in n _ x is meant_none = cc
units_in n _ x is (meant y few) = let same : y ≡ x = cc in subst (λ z. units_of z ≤ n) same few

-- no more units than tokens
pub few_units : (words : Vocabulary) (tokens rest : List Lexeme) (e : Spoken) (x : Expression) → AtLevel 0 tokens e rest
    → resolved words e ≡ Some x → units_of x + length rest ≤ length tokens
few_units words tokens rest e x at is =
    let most = level_units 0 tokens e rest at in
    let few = units_in (said_units e) (resolved words e) x is (said_most words e) in omega (arith, most, few)
