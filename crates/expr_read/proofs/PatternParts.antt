-- What a pattern is made of, by the tokens that are next.
use Rattle.std.proofs.Common.{◌≡◌, ℕ, ◌-◌, List, ◌∷◌, codes, refl, sym, ap, ◌∙◌, subst, arith}
use Rattle.spec_text.specs.Lexemes as lex
use Rattle.spec_text.specs.Lexemes.{Lexeme, word, sign}
use Rattle.section_frame.specs.Parts.{NotFirst}
use Rattle.expr_read.specs.Patterns.{Pattern, Patterns, number, string, tree, named_tree, no_patterns, and_pattern, IsPatternName, word_alone, PatternAt, a_number, a_string, a_word, a_tree, a_named_tree, PatternsIn, none_in, some_in, PatternRow, one_before, PatternsBehind, closed, others}
use Rattle.expr_read.proofs.WholeParts.{behind, other_sign, word_no_sign}

-- two first tokens of different kinds
number_no_word : (n : ℕ) (w : List ℕ) (tokens rest more : List Lexeme) → tokens ≡ lex.number n ∷ rest → tokens ≡ word w ∷ more → ⊥
number_no_word n w tokens rest more is it = let e : lex.number n ∷ rest ≡ word w ∷ more = sym is ∙ it in cc

text_no_word : (bytes w : List ℕ) (tokens rest more : List Lexeme) → tokens ≡ lex.text bytes ∷ rest → tokens ≡ word w ∷ more → ⊥
text_no_word bytes w tokens rest more is it = let e : lex.text bytes ∷ rest ≡ word w ∷ more = sym is ∙ it in cc

text_no_number : (bytes : List ℕ) (n : ℕ) (tokens rest more : List Lexeme) → tokens ≡ lex.text bytes ∷ rest → tokens ≡ lex.number n ∷ more → ⊥
text_no_number bytes n tokens rest more is it = let e : lex.text bytes ∷ rest ≡ lex.number n ∷ more = sym is ∙ it in cc

same_word : (v w : List ℕ) (tokens rest more : List Lexeme) → tokens ≡ word v ∷ rest → tokens ≡ word w ∷ more → v ≡ w
same_word v w tokens rest more is it = let e : word v ∷ rest ≡ word w ∷ more = sym is ∙ it in cc

after_word : (v w : List ℕ) (tokens rest more : List Lexeme) → tokens ≡ word v ∷ rest → tokens ≡ word w ∷ more → rest ≡ more
after_word v w tokens rest more is it = let e : word v ∷ rest ≡ word w ∷ more = sym is ∙ it in cc

abbrev pub SamePattern : Pattern → Pattern → List Lexeme → List Lexeme → Type 0
SamePattern p q rest more = (p ≡ q) × (rest ≡ more)

abbrev pub SamePatterns : Patterns → Patterns → List Lexeme → List Lexeme → Type 0
SamePatterns ps qs rest more = (ps ≡ qs) × (rest ≡ more)

-- no pattern is left where no nesting is
pub some_left : (left : ℕ) (tokens rest : List Lexeme) (p : Pattern) → left ≡ 0 → PatternAt left tokens p rest → ⊥
some_left _ _ _ _ none (a_number left n tokens rest some is) = omega (arith, none, some)
some_left _ _ _ _ none (a_string left bytes tokens rest some is) = omega (arith, none, some)
some_left _ _ _ _ none (a_word left w tokens rest p some named is open_no colon_no alone) = omega (arith, none, some)
some_left _ _ _ _ none (a_tree left w tokens after rest ps some named is inside) = omega (arith, none, some)
some_left _ _ _ _ none (a_named_tree left v w tokens after rest ps some named other is inside) = omega (arith, none, some)

pub number_parts : (left n : ℕ) (tokens rest more : List Lexeme) (p : Pattern) → tokens ≡ lex.number n ∷ rest → PatternAt left tokens p more
    → SamePattern (number n) p rest more
number_parts _ n _ rest _ _ first (a_number left m tokens more some is) =
    let e : lex.number n ∷ rest ≡ lex.number m ∷ more = sym first ∙ is in
    let same : n ≡ m = cc in let tail : rest ≡ more = cc in (ap (λ k. number k) same, tail)
number_parts _ n _ rest _ _ first (a_string left bytes tokens more some is) = absurd (text_no_number bytes n tokens more rest is first)
number_parts _ n _ rest _ _ first (a_word left w tokens more p some named is open_no colon_no alone) =
    absurd (number_no_word n w tokens rest more first is)
number_parts _ n _ rest _ _ first (a_tree left w tokens after more ps some named is inside) =
    absurd (number_no_word n w tokens rest (sign (codes "(") ∷ after) first is)
number_parts _ n _ rest _ _ first (a_named_tree left v w tokens after more ps some named other is inside) =
    absurd (number_no_word n v tokens rest (sign (codes ":") ∷ word w ∷ sign (codes "(") ∷ after) first is)

pub string_parts : (left : ℕ) (bytes : List ℕ) (tokens rest more : List Lexeme) (p : Pattern) → tokens ≡ lex.text bytes ∷ rest
    → PatternAt left tokens p more → SamePattern (string bytes) p rest more
string_parts _ bytes _ rest _ _ first (a_number left m tokens more some is) = absurd (text_no_number bytes m tokens rest more first is)
string_parts _ bytes _ rest _ _ first (a_string left others_bytes tokens more some is) =
    let e : lex.text bytes ∷ rest ≡ lex.text others_bytes ∷ more = sym first ∙ is in
    let same : bytes ≡ others_bytes = cc in let tail : rest ≡ more = cc in (ap (λ k. string k) same, tail)
string_parts _ bytes _ rest _ _ first (a_word left w tokens more p some named is open_no colon_no alone) =
    absurd (text_no_word bytes w tokens rest more first is)
string_parts _ bytes _ rest _ _ first (a_tree left w tokens after more ps some named is inside) =
    absurd (text_no_word bytes w tokens rest (sign (codes "(") ∷ after) first is)
string_parts _ bytes _ rest _ _ first (a_named_tree left v w tokens after more ps some named other is inside) =
    absurd (text_no_word bytes v tokens rest (sign (codes ":") ∷ word w ∷ sign (codes "(") ∷ after) first is)

-- what is neither a number nor a string begins with a name
pub record BeginsWithName (tokens : List Lexeme) : Type 0 where
  pub w : List ℕ
  pub after : List Lexeme
  pub named : IsPatternName w
  pub first : tokens ≡ word w ∷ after

pub name_parts : (left : ℕ) (tokens rest : List Lexeme) (p : Pattern) → ((n : ℕ) (more : List Lexeme) → tokens ≡ lex.number n ∷ more → ⊥)
    → ((bytes : List ℕ) (more : List Lexeme) → tokens ≡ lex.text bytes ∷ more → ⊥) → PatternAt left tokens p rest → BeginsWithName tokens
name_parts _ _ _ _ no_number no_text (a_number left n tokens rest some is) = absurd (no_number n rest is)
name_parts _ _ _ _ no_number no_text (a_string left bytes tokens rest some is) = absurd (no_text bytes rest is)
name_parts _ _ _ _ no_number no_text (a_word left w tokens rest p some named is open_no colon_no alone) =
    record { w = w; after = rest; named = named; first = is }
name_parts _ _ _ _ no_number no_text (a_tree left w tokens after rest ps some named is inside) =
    record { w = w; after = sign (codes "(") ∷ after; named = named; first = is }
name_parts _ _ _ _ no_number no_text (a_named_tree left v w tokens after rest ps some named other is inside) =
    record { w = v; after = sign (codes ":") ∷ word w ∷ sign (codes "(") ∷ after; named = named; first = is }

pub alone_parts : (left : ℕ) (w : List ℕ) (tokens behind_it more : List Lexeme) (p : Pattern) → tokens ≡ word w ∷ behind_it
    → NotFirst (sign (codes "(")) behind_it → NotFirst (sign (codes ":")) behind_it → PatternAt left tokens p more
    → SamePattern (word_alone w) p behind_it more
alone_parts _ w _ rest _ _ first no_open no_colon (a_number left n tokens more some is) = absurd (number_no_word n w tokens more rest is first)
alone_parts _ w _ rest _ _ first no_open no_colon (a_string left bytes tokens more some is) = absurd (text_no_word bytes w tokens more rest is first)
alone_parts _ w _ rest _ _ first no_open no_colon (a_word left v tokens more p some named is open_no colon_no alone) =
    (ap word_alone (same_word w v tokens rest more first is) ∙ sym alone, after_word w v tokens rest more first is)
alone_parts _ w _ rest _ _ first no_open no_colon (a_tree left v tokens after more ps some named is inside) =
    absurd (no_open after (after_word w v tokens rest (sign (codes "(") ∷ after) first is))
alone_parts _ w _ rest _ _ first no_open no_colon (a_named_tree left v u tokens after more ps some named other is inside) =
    absurd (no_colon (word u ∷ sign (codes "(") ∷ after) (after_word w v tokens rest (sign (codes ":") ∷ word u ∷ sign (codes "(") ∷ after) first is))

pub record TreeParts (left : ℕ) (w : List ℕ) (inside : List Lexeme) (p : Pattern) (rest : List Lexeme) : Type 0 where
  pub parts : Patterns
  pub is : p ≡ tree w parts
  pub are : PatternsIn (left - 1) inside parts rest

pub tree_parts : (left : ℕ) (w : List ℕ) (tokens inside more : List Lexeme) (p : Pattern) → tokens ≡ word w ∷ sign (codes "(") ∷ inside
    → PatternAt left tokens p more → TreeParts left w inside p more
tree_parts _ w _ inside _ _ first (a_number left n tokens more some is) = absurd (number_no_word n w tokens more (sign (codes "(") ∷ inside) is first)
tree_parts _ w _ inside _ _ first (a_string left bytes tokens more some is) = absurd (text_no_word bytes w tokens more (sign (codes "(") ∷ inside) is first)
tree_parts _ w _ inside _ _ first (a_word left v tokens more p some named is open_no colon_no alone) =
    absurd (open_no inside (after_word v w tokens more (sign (codes "(") ∷ inside) is first))
tree_parts _ w _ inside _ _ first (a_tree left v tokens after more ps some named is at) =
    let tails = after_word v w tokens (sign (codes "(") ∷ after) (sign (codes "(") ∷ inside) is first in
    let same : after ≡ inside = cc in record {
      parts = ps;
      is = ap (λ x. tree x ps) (same_word v w tokens (sign (codes "(") ∷ after) (sign (codes "(") ∷ inside) is first);
      are = subst (λ ts. PatternsIn (left - 1) ts ps more) same at;
    }
tree_parts _ w _ inside _ _ first (a_named_tree left v u tokens after more ps some named other is at) =
    absurd (other_sign 58 40 (sign (codes ":") ∷ word u ∷ sign (codes "(") ∷ after) (word u ∷ sign (codes "(") ∷ after) inside (λ e. omega (arith, e)) refl
    (after_word v w tokens (sign (codes ":") ∷ word u ∷ sign (codes "(") ∷ after) (sign (codes "(") ∷ inside) is first))

pub record NamedTreeParts (left : ℕ) (v : List ℕ) (behind_it : List Lexeme) (p : Pattern) (rest : List Lexeme) : Type 0 where
  pub w : List ℕ
  pub inside : List Lexeme
  pub parts : Patterns
  pub is : p ≡ named_tree v w parts
  pub named : IsPatternName w
  pub first : behind_it ≡ word w ∷ sign (codes "(") ∷ inside
  pub are : PatternsIn (left - 1) inside parts rest

pub named_tree_parts : (left : ℕ) (v : List ℕ) (tokens behind_it more : List Lexeme) (p : Pattern) → tokens ≡ word v ∷ sign (codes ":") ∷ behind_it
    → PatternAt left tokens p more → NamedTreeParts left v behind_it p more
named_tree_parts _ v _ rest _ _ first (a_number left n tokens more some is) = absurd (number_no_word n v tokens more (sign (codes ":") ∷ rest) is first)
named_tree_parts _ v _ rest _ _ first (a_string left bytes tokens more some is) = absurd (text_no_word bytes v tokens more (sign (codes ":") ∷ rest) is first)
named_tree_parts _ v _ rest _ _ first (a_word left w tokens more p some named is open_no colon_no alone) =
    absurd (colon_no rest (after_word w v tokens more (sign (codes ":") ∷ rest) is first))
named_tree_parts _ v _ rest _ _ first (a_tree left w tokens after more ps some named is at) =
    absurd (other_sign 40 58 (sign (codes "(") ∷ after) after rest (λ e. omega (arith, e)) refl
    (after_word w v tokens (sign (codes "(") ∷ after) (sign (codes ":") ∷ rest) is first))
named_tree_parts _ v _ rest _ _ first (a_named_tree left u w tokens after more ps some named other is at) =
    let tails = after_word u v tokens (sign (codes ":") ∷ word w ∷ sign (codes "(") ∷ after) (sign (codes ":") ∷ rest) is first in
    let same : rest ≡ word w ∷ sign (codes "(") ∷ after = cc in record {
      w = w;
      inside = after;
      parts = ps;
      is = ap (λ x. named_tree x w ps) (same_word u v tokens (sign (codes ":") ∷ word w ∷ sign (codes "(") ∷ after) (sign (codes ":") ∷ rest) is first);
      named = other;
      first = same;
      are = at;
    }

-- no pattern begins with a sign
pub sign_first : (left : ℕ) (glyph : List ℕ) (tokens after rest : List Lexeme) (p : Pattern) → tokens ≡ sign glyph ∷ after → PatternAt left tokens p rest → ⊥
sign_first _ glyph _ after _ _ first (a_number left n tokens rest some is) = let e : lex.number n ∷ rest ≡ sign glyph ∷ after = sym is ∙ first in cc
sign_first _ glyph _ after _ _ first (a_string left bytes tokens rest some is) = let e : lex.text bytes ∷ rest ≡ sign glyph ∷ after = sym is ∙ first in cc
sign_first _ glyph _ after _ _ first (a_word left w tokens rest p some named is open_no colon_no alone) = word_no_sign w glyph tokens rest after is first
sign_first _ glyph _ after _ _ first (a_tree left w tokens inside rest ps some named is at) =
    word_no_sign w glyph tokens (sign (codes "(") ∷ inside) after is first
sign_first _ glyph _ after _ _ first (a_named_tree left v w tokens inside rest ps some named other is at) =
    word_no_sign v glyph tokens (sign (codes ":") ∷ word w ∷ sign (codes "(") ∷ inside) after is first

-- lists
pub record RowOfPatterns (left : ℕ) (tokens : List Lexeme) (ps : Patterns) (rest : List Lexeme) : Type 0 where
  pub p : Pattern
  pub more : Patterns
  pub between : List Lexeme
  pub is : ps ≡ and_pattern p more
  pub at : PatternAt left tokens p between
  pub on : PatternsBehind left between more rest

pub row_parts : (left : ℕ) (tokens rest : List Lexeme) (ps : Patterns) → PatternRow left tokens ps rest → RowOfPatterns left tokens ps rest
row_parts _ _ _ _ (one_before left tokens between rest p more at on) =
    record { p = p; more = more; between = between; is = refl; at = at; on = on }

pub none_parts : (left : ℕ) (tokens after rest : List Lexeme) (ps : Patterns) → tokens ≡ sign (codes ")") ∷ after → PatternsIn left tokens ps rest
    → SamePatterns no_patterns ps after rest
none_parts _ _ after _ _ close (none_in left tokens rest is) = (refl, behind (sign (codes ")")) tokens after rest close is)
none_parts _ _ after _ _ close (some_in left tokens rest ps row) =
    let its = row_parts left tokens rest ps row in absurd (sign_first left (codes ")") tokens after its.between its.p close its.at)

pub some_parts : (left : ℕ) (tokens rest : List Lexeme) (ps : Patterns) → NotFirst (sign (codes ")")) tokens → PatternsIn left tokens ps rest
    → PatternRow left tokens ps rest
some_parts _ _ _ _ no_close (none_in left tokens rest is) = absurd (no_close rest is)
some_parts _ _ _ _ no_close (some_in left tokens rest ps row) = row

pub closed_parts : (left : ℕ) (tokens after rest : List Lexeme) (ps : Patterns) → tokens ≡ sign (codes ")") ∷ after → PatternsBehind left tokens ps rest
    → SamePatterns no_patterns ps after rest
closed_parts _ _ after _ _ close (closed left tokens rest is) = (refl, behind (sign (codes ")")) tokens after rest close is)
closed_parts _ _ after _ _ close (others left tokens x rest ps is row) = absurd (other_sign 41 44 tokens after x (λ e. omega (arith, e)) close is)

pub others_parts : (left : ℕ) (tokens after rest : List Lexeme) (ps : Patterns) → tokens ≡ sign (codes ",") ∷ after → PatternsBehind left tokens ps rest
    → PatternRow left after ps rest
others_parts _ _ after _ _ comma (closed left tokens rest is) = absurd (other_sign 44 41 tokens after rest (λ e. omega (arith, e)) comma is)
others_parts _ _ after _ _ comma (others left tokens x rest ps is row) =
    let same : after ≡ x = behind (sign (codes ",")) tokens after x comma is in subst (λ ts. PatternRow left ts ps rest) (sym same) row
