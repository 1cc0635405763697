-- How deep expressions are, and that what is read is shorter than what it was read from.
use Rattle.std.proofs.Common.{◌≡◌, ℕ, suc, ◌+◌, ◌<◌, ◌≤◌, max, List, ◌∷◌, length, codes, refl, ap, arith}
use Rattle.spec_text.specs.Lexemes as lex
use Rattle.spec_text.specs.Lexemes.{Lexeme, word, sign}
use Rattle.section_frame.specs.Parts.{Part}
use Rattle.expr_read.specs.declared.prefix.Prefix.{Prefix}
use Rattle.expr_read.specs.declared.prefix.Prefix.TheVariants as prefix
use Rattle.expr_read.specs.Spoken.{Spoken, SpokenList, number, truth, string, name, dollar, pair, negative, negated, binary, if_then, applied, grouped, nesting}
use Rattle.expr_read.specs.Notation.{glyph_of, left_of, AtLevel, tighter, an_if, joined, a_negative, a_negated, a_number, a_truth, a_falsehood, a_string, a_name, a_dollar, a_pair, an_application, a_group, Arguments, no_arguments, some_arguments, Listed, last, next}
use Rattle.expr_read.specs.within.Wholes.{with_prefix, Whole, Goes, ends, goes, NoneRead}
use Rattle.expr_read.proofs.FromWhole.{from_whole}

-- there is some nesting
pub some_nesting : (e : Spoken) → 1 ≤ nesting e
some_nesting (number n) = omega arith
some_nesting (truth b) = omega arith
some_nesting (string bytes) = omega arith
some_nesting (name w) = omega arith
some_nesting (dollar n) = omega arith
some_nesting (pair v w) = omega arith
some_nesting (negative a) = omega arith
some_nesting (negated a) = omega arith
some_nesting (binary o a b) = omega arith
some_nesting (if_then c a b) = omega arith
some_nesting (applied w args) = omega arith
some_nesting (grouped a) = omega arith

pub none_left : (P : Part Spoken) (left : ℕ) (tokens : List Lexeme) → left ≡ 0 → NoneRead P left tokens
none_left P left tokens zero_left e rest is few = let some = some_nesting e in omega (arith, zero_left, some, few)

pub prefix_nesting : (s : Prefix) (a : Spoken) → nesting (with_prefix s a) ≡ nesting a + 1
prefix_nesting prefix.Minus a = refl
prefix_nesting prefix.Not a = refl

-- an expression that goes on is no less deep
pub grows : (p : ℕ) (a e : Spoken) (tokens rest : List Lexeme) → Goes p a tokens e rest → nesting a ≤ nesting e
grows _ _ _ _ _ (ends p a tokens stops) = omega arith
grows _ _ _ _ _ (goes o p a b e tokens after between rest level is right single on) =
    let further : max (nesting a) (nesting b) + 1 ≤ nesting e = grows p (binary o a b) e between rest on in
    omega (arith, further)

longer : (token : Lexeme) (tokens rest : List Lexeme) → tokens ≡ token ∷ rest → length rest < length tokens
longer token tokens rest is = let long = ap length is in omega (arith, long)

mutual
  pub shrinks : (p : ℕ) (tokens rest : List Lexeme) (e : Spoken) → AtLevel p tokens e rest → length rest < length tokens
  shrinks _ _ _ _ (tighter p tokens rest e is) = shrinks (suc p) tokens rest e is
  shrinks _ _ _ _ (an_if p tokens x y z rest c a b none at test first second) =
      let long = longer (word (codes "if")) tokens x at in
      let less = shrinks 0 x (word (codes "then") ∷ y) c test in
      let less_still = shrinks 0 y (word (codes "else") ∷ z) a first in
      let least = shrinks 0 z rest b second in
      omega (arith, long, less, less_still, least)
  shrinks _ _ _ _ (joined o p tokens after rest a b level left right) =
      let less = shrinks (left_of p) tokens (sign (glyph_of o) ∷ after) a left in
      let least = shrinks (suc p) after rest b right in
      omega (arith, less, least)
  shrinks _ _ _ _ (a_negative p tokens after rest a six at is) =
      let long = longer (sign (codes "-")) tokens after at in let less = shrinks 6 after rest a is in omega (arith, long, less)
  shrinks _ _ _ _ (a_negated p tokens after rest a six at is) =
      let long = longer (sign (codes "!")) tokens after at in let less = shrinks 6 after rest a is in omega (arith, long, less)
  shrinks _ _ _ _ (a_number p n tokens rest seven at) = longer (lex.number n) tokens rest at
  shrinks _ _ _ _ (a_truth p tokens rest seven at) = longer (word (codes "true")) tokens rest at
  shrinks _ _ _ _ (a_falsehood p tokens rest seven at) = longer (word (codes "false")) tokens rest at
  shrinks _ _ _ _ (a_string p bytes tokens rest seven at) = longer (lex.text bytes) tokens rest at
  shrinks _ _ _ _ (a_name p w tokens rest seven ok at) = longer (word w) tokens rest at
  shrinks _ _ _ _ (a_dollar p n tokens rest seven at) = let long = ap length at in omega (arith, long)
  shrinks _ _ _ _ (a_pair p v w tokens rest seven ok good at) = let long = ap length at in omega (arith, long)
  shrinks _ _ _ _ (an_application p w tokens after rest args seven ok at is) =
      let long = ap length at in let less = arguments_shrink after (sign (codes ")") ∷ rest) args is in omega (arith, long, less)
  shrinks _ _ _ _ (a_group p tokens after rest a seven at is) =
      let long = longer (sign (codes "(")) tokens after at in let less = shrinks 0 after (sign (codes ")") ∷ rest) a is in omega (arith, long, less)

  arguments_shrink : (tokens rest : List Lexeme) (args : SpokenList) → Arguments tokens args rest → length rest ≤ length tokens
  arguments_shrink _ _ _ (no_arguments tokens) = omega arith
  arguments_shrink _ _ _ (some_arguments tokens rest args is) = let less = list_shrinks tokens rest args is in omega (arith, less)

  list_shrinks : (tokens rest : List Lexeme) (args : SpokenList) → Listed tokens args rest → length rest < length tokens
  list_shrinks _ _ _ (last tokens rest a is) = shrinks 0 tokens rest a is
  list_shrinks _ _ _ (next tokens after rest a more is others) =
      let less = shrinks 0 tokens (sign (codes ",") ∷ after) a is in let least = list_shrinks after rest more others in omega (arith, less, least)

pub whole_shrinks : (p : ℕ) (tokens rest : List Lexeme) (e : Spoken) → Whole p tokens e rest → length rest < length tokens
whole_shrinks p tokens rest e is = shrinks p tokens rest e (from_whole p tokens rest e is)
