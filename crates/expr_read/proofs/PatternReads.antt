-- Each return of the reader of patterns: what is read, or that there is none.
use Rattle.std.proofs.Common.{◌≡◌, ℕ, ◌-◌, ◌<◌, List, ◌∷◌, codes, refl, sym, ap, ◌∙◌, subst}
use Rattle.spec_text.specs.Lexemes as lex
use Rattle.spec_text.specs.Lexemes.{Lexeme, word, sign}
use Rattle.section_frame.specs.Parts.{NotFirst}
use Rattle.expr_read.specs.Patterns.{IsPatternName, Pattern, Patterns, number, string, tree, named_tree, no_patterns, word_alone, PatternAt, a_number, a_string, a_word, a_tree, a_named_tree, PatternsIn, none_in}
use Rattle.expr_read.specs.within.PatternsRead.{IsHead, NoHead, NoPatternWith, NoPatternsIn, PatternWith}
use Rattle.expr_read.proofs.PatternParts.{named_tree_parts, tree_parts}

pub number_read : (left n : ℕ) (tokens rest : List Lexeme) (p : Pattern) → p ≡ number n → 0 < left → tokens ≡ lex.number n ∷ rest
    → PatternAt left tokens p rest
number_read left n tokens rest p is some first = subst (λ q. PatternAt left tokens q rest) (sym is) (a_number left n tokens rest some first)

pub string_read : (left : ℕ) (bytes : List ℕ) (tokens rest : List Lexeme) (p : Pattern) → p ≡ string bytes → 0 < left
    → tokens ≡ lex.text bytes ∷ rest → PatternAt left tokens p rest
string_read left bytes tokens rest p is some first =
    subst (λ q. PatternAt left tokens q rest) (sym is) (a_string left bytes tokens rest some first)

pub alone_read : (left : ℕ) (w : List ℕ) (behind : List Lexeme) (p : Pattern) → p ≡ word_alone w → 0 < left → IsPatternName w
    → NotFirst (sign (codes "(")) behind → NotFirst (sign (codes ":")) behind → PatternWith left w behind p behind
alone_read left w behind p is some named no_open no_colon =
    a_word left w (word w ∷ behind) behind p some named refl no_open no_colon is

module _ (left : ℕ) (w : List ℕ) (behind inside : List Lexeme) (opens : behind ≡ sign (codes "(") ∷ inside) where
  pub tree_read : (rest : List Lexeme) (parts : Patterns) (p : Pattern) → p ≡ tree w parts → 0 < left → IsPatternName w
      → PatternsIn (left - 1) inside parts rest → PatternWith left w behind p rest
  tree_read rest parts p is some named are =
      subst (λ q. PatternAt left (word w ∷ behind) q rest) (sym is)
      (a_tree left w (word w ∷ behind) inside rest parts some named (ap (λ l. word w ∷ l) opens) are)

  pub no_tree : NoPatternsIn (left - 1) inside → NoPatternWith left w behind
  no_tree none p rest at =
      let its = tree_parts left w (word w ∷ behind) inside rest p (ap (λ l. word w ∷ l) opens) at in none its.parts rest its.are

module _ (left : ℕ) (v : List ℕ) (behind after : List Lexeme) (colon : behind ≡ sign (codes ":") ∷ after) where
  pub no_head : NoHead after → NoPatternWith left v behind
  no_head none p rest at =
      let its = named_tree_parts left v (word v ∷ behind) after rest p (ap (λ l. word v ∷ l) colon) at in
      none its.w its.inside (record { named = its.named; first = its.first })

  pub no_named_tree : (w : List ℕ) (inside : List Lexeme) → IsHead after w inside → NoPatternsIn (left - 1) inside
      → NoPatternWith left v behind
  no_named_tree w inside head none p rest at =
      let its = named_tree_parts left v (word v ∷ behind) after rest p (ap (λ l. word v ∷ l) colon) at in
      let first = its.first in
      let other = head.first in
      let same : its.inside ≡ inside = cc in
      none its.parts rest (subst (λ ts. PatternsIn (left - 1) ts its.parts rest) same its.are)

  pub named_tree_read : (w : List ℕ) (inside rest : List Lexeme) (parts : Patterns) (p : Pattern) → IsHead after w inside
      → p ≡ named_tree v w parts → 0 < left → IsPatternName v → PatternsIn (left - 1) inside parts rest → PatternWith left v behind p rest
  named_tree_read w inside rest parts p head is some named are =
      subst (λ q. PatternAt left (word v ∷ behind) q rest) (sym is)
      (a_named_tree left v w (word v ∷ behind) inside rest parts some named head.named
      (ap (λ l. word v ∷ l) (colon ∙ ap (λ l. sign (codes ":") ∷ l) head.first)) are)

pub none_read : (left : ℕ) (tokens rest : List Lexeme) (parts : Patterns) → tokens ≡ sign (codes ")") ∷ rest → parts ≡ no_patterns
    → PatternsIn left tokens parts rest
none_read left tokens rest parts close is =
    subst (λ q. PatternsIn left tokens q rest) (sym is) (none_in left tokens rest close)
