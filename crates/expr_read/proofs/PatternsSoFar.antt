-- Patterns with `,` between, one more at a time.
use Rattle.std.proofs.Common.{◌≡◌, ℕ, List, [], ◌∷◌, ◌++◌, codes, map, refl, sym, ap, ◌∙◌, subst}
use Rattle.std.proofs.lemmas.List.{map-append}
use Rattle.spec_text.specs.Lexemes.{Lexeme, sign}
use Rattle.section_frame.specs.Parts.{Fixed, NotFirst}
use Rattle.expr_read.specs.Patterns.{Pattern, Patterns, no_patterns, and_pattern, PatternAt, PatternRow, one_before, PatternsBehind, closed, others}
use Rattle.expr_read.specs.PatternWriting.{pattern_list, pattern_of}
use Rattle.expr_read.specs.declared.written_pattern.WrittenPattern.{WrittenPattern}
use Rattle.expr_read.specs.within.PatternsRead.{NoPattern, NoPatternRow}
use Rattle.expr_read.proofs.PatternParts.{others_parts, row_parts}
use Rattle.expr_read.proofs.OnePattern.{one_pattern}

-- these patterns before others
abbrev pub before : List Pattern → Patterns → Patterns
before [] more = more
before (p ∷ ps) more = and_pattern p (before ps more)

before_end : (ps : List Pattern) (p : Pattern) (more : Patterns) → before (ps ++ p ∷ []) more ≡ before ps (and_pattern p more)
before_end [] p more = refl
before_end (q ∷ ps) p more = ap (λ x. and_pattern q x) (before_end ps p more)

before_none : (ps : List Pattern) → before ps no_patterns ≡ pattern_list ps
before_none [] = refl
before_none (p ∷ ps) = ap (λ x. and_pattern p x) (before_none ps)

-- the row goes on behind these patterns
pub record GoesOn (left : ℕ) (rest : List Lexeme) (ps : List Pattern) (all : Patterns) (end : List Lexeme) : Type 0 where
  pub more : Patterns
  pub is : all ≡ before ps more
  pub behind : PatternsBehind left rest more end

-- what goes on behind what was read is a row, and each row begins with what was read
pub record PatternsSoFar (left : ℕ) (tokens rest : List Lexeme) (ps : List Pattern) : Type 0 where
  pub on : (more : Patterns) (end : List Lexeme) → PatternsBehind left rest more end → PatternRow left tokens (before ps more) end
  pub back : (all : Patterns) (end : List Lexeme) → PatternRow left tokens all end → GoesOn left rest ps all end

pub first_pattern : (left : ℕ) (tokens rest : List Lexeme) (p : Pattern) → PatternAt left tokens p rest → PatternsSoFar left tokens rest (p ∷ [])
first_pattern left tokens rest p at = record {
  on = λ more end behind. one_before left tokens rest end p more at behind;
  back = λ all end row.
      let its = row_parts left tokens end all row in
      let same = one_pattern left tokens its.between rest its.p p its.at at in record {
        more = its.more;
        is = its.is ∙ ap (λ x. and_pattern x its.more) same.0;
        behind = subst (λ ts. PatternsBehind left ts its.more end) same.1 its.on;
      };
}

module _ (left : ℕ) (tokens rest : List Lexeme) (ps : List Pattern) (so : PatternsSoFar left tokens rest ps) where
  pub no_next_pattern : (behind : List Lexeme) → Fixed (sign (codes ",")) rest behind → NoPattern left behind → NoPatternRow left tokens
  no_next_pattern behind comma none all end row =
      let its = so.back all end row in
      let next = row_parts left behind end its.more (others_parts left rest behind end its.more comma its.behind) in
      none next.p next.between next.at

  pub next_pattern : (behind after : List Lexeme) (p : Pattern) → Fixed (sign (codes ",")) rest behind → PatternAt left behind p after
      → PatternsSoFar left tokens after (ps ++ p ∷ [])
  next_pattern behind after p comma at = record {
    on = λ more end on. subst (λ x. PatternRow left tokens x end) (sym (before_end ps p more))
        (so.on (and_pattern p more) end (others left rest behind end (and_pattern p more) comma (one_before left behind after end p more at on)));
    back = λ all end row.
        let its = so.back all end row in
        let next = row_parts left behind end its.more (others_parts left rest behind end its.more comma its.behind) in
        let same = one_pattern left behind next.between after next.p p next.at at in record {
          more = next.more;
          is = its.is ∙ ap (before ps) (next.is ∙ ap (λ x. and_pattern x next.more) same.0) ∙ sym (before_end ps p next.more);
          behind = subst (λ ts. PatternsBehind left ts next.more end) same.1 next.on;
        };
  }

  not_behind : (tokens end : List Lexeme) (more : Patterns) → NotFirst (sign (codes ",")) tokens → NotFirst (sign (codes ")")) tokens
      → PatternsBehind left tokens more end → ⊥
  not_behind _ _ _ no_comma no_close (closed left tokens end is) = no_close end is
  not_behind _ _ _ no_comma no_close (others left tokens after end more is row) = no_comma after is

  pub no_end : NotFirst (sign (codes ",")) rest → NotFirst (sign (codes ")")) rest → NoPatternRow left tokens
  no_end no_comma no_close all end row = let its = so.back all end row in not_behind rest end its.more no_comma no_close its.behind

  pub row_ends : (end : List Lexeme) → Fixed (sign (codes ")")) rest end → PatternRow left tokens (pattern_list ps) end
  row_ends end close =
      subst (λ x. PatternRow left tokens x end) (before_none ps) (so.on no_patterns end (closed left rest end close))

-- the program's patterns
pub one_more_said : (old new : List WrittenPattern) (p : WrittenPattern) → new ≡ old ++ p ∷ []
    → map pattern_of new ≡ map pattern_of old ++ pattern_of p ∷ []
one_more_said old new p are = ap (map pattern_of) are ∙ map-append pattern_of old (p ∷ [])
