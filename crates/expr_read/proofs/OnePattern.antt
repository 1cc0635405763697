-- Tokens begin with one pattern at most.
use Rattle.std.proofs.Common.{◌≡◌, ℕ, ◌-◌, ◌<◌, List, ◌∷◌, length, codes, sym, ap, ◌∙◌, subst, arith}
use Rattle.spec_text.specs.Lexemes.{Lexeme, word, sign}
use Rattle.expr_read.specs.Patterns.{Pattern, Patterns, tree, named_tree, and_pattern, PatternAt, a_number, a_string, a_word, a_tree, a_named_tree, PatternsIn, none_in, some_in, PatternRow, one_before, PatternsBehind, closed, others}
use Rattle.expr_read.proofs.PatternParts.{SamePattern, SamePatterns, number_parts, string_parts, alone_parts, tree_parts, named_tree_parts, sign_first, row_parts, none_parts, some_parts, closed_parts, others_parts}

mutual
  pub one_pattern : (left : ℕ) (tokens rest more : List Lexeme) (p q : Pattern) → PatternAt left tokens p rest → PatternAt left tokens q more
      → SamePattern p q rest more
  one_pattern _ _ _ more _ q (a_number left n tokens rest some is) other = number_parts left n tokens rest more q is other
  one_pattern _ _ _ more _ q (a_string left bytes tokens rest some is) other = string_parts left bytes tokens rest more q is other
  one_pattern _ _ _ more _ q (a_word left w tokens rest p some named is open_no colon_no alone) other =
      let its = alone_parts left w tokens rest more q is open_no colon_no other in (alone ∙ its.0, its.1)
  one_pattern _ _ _ more _ q (a_tree left w tokens after rest ps some named is at) other =
      let its = tree_parts left w tokens after more q is other in
      let same = one_inside (left - 1) after rest more ps its.parts at its.are in
      (ap (λ x. tree w x) same.0 ∙ sym its.is, same.1)
  one_pattern _ _ _ more _ q (a_named_tree left v w tokens after rest ps some named named_too is at) other =
      let its = named_tree_parts left v tokens (word w ∷ sign (codes "(") ∷ after) more q is other in
      let first = its.first in
      let same_of : w ≡ its.w = cc in
      let same_inside : its.inside ≡ after = cc in
      let same = one_inside (left - 1) after rest more ps its.parts at (subst (λ ts. PatternsIn (left - 1) ts its.parts more) same_inside its.are) in
      (ap (λ x. named_tree v x ps) same_of ∙ ap (λ x. named_tree v its.w x) same.0 ∙ sym its.is, same.1)

  one_inside : (left : ℕ) (tokens rest more : List Lexeme) (ps qs : Patterns) → PatternsIn left tokens ps rest → PatternsIn left tokens qs more
      → SamePatterns ps qs rest more
  one_inside _ _ _ more _ qs (none_in left tokens rest is) other = none_parts left tokens rest more qs is other
  one_inside _ _ _ more _ qs (some_in left tokens rest ps row) other =
      let its = row_parts left tokens rest ps row in
      one_row left tokens rest more ps qs row
      (some_parts left tokens more qs (λ after close. sign_first left (codes ")") tokens after its.between its.p close its.at) other)

  one_row : (left : ℕ) (tokens rest more : List Lexeme) (ps qs : Patterns) → PatternRow left tokens ps rest → PatternRow left tokens qs more
      → SamePatterns ps qs rest more
  one_row _ _ _ more _ qs (one_before left tokens between rest p behind at on) other =
      let its = row_parts left tokens more qs other in
      let same = one_pattern left tokens between its.between p its.p at its.at in
      let later = one_behind left between rest more behind its.more on (subst (λ ts. PatternsBehind left ts its.more more) (sym same.1) its.on) in
      (ap (λ x. and_pattern x behind) same.0 ∙ ap (λ x. and_pattern its.p x) later.0 ∙ sym its.is, later.1)

  one_behind : (left : ℕ) (tokens rest more : List Lexeme) (ps qs : Patterns) → PatternsBehind left tokens ps rest → PatternsBehind left tokens qs more
      → SamePatterns ps qs rest more
  one_behind _ _ _ more _ qs (closed left tokens rest is) other = closed_parts left tokens rest more qs is other
  one_behind _ _ _ more _ qs (others left tokens after rest ps is row) other =
      one_row left after rest more ps qs row (others_parts left tokens after more qs is other)

-- what is read is shorter than what it was read from
mutual
  pub pattern_shrinks : (left : ℕ) (tokens rest : List Lexeme) (p : Pattern) → PatternAt left tokens p rest → length rest < length tokens
  pattern_shrinks _ _ _ _ (a_number left n tokens rest some is) = let first = ap length is in omega (arith, first)
  pattern_shrinks _ _ _ _ (a_string left bytes tokens rest some is) = let first = ap length is in omega (arith, first)
  pattern_shrinks _ _ _ _ (a_word left w tokens rest p some named is open_no colon_no alone) = let first = ap length is in omega (arith, first)
  pattern_shrinks _ _ _ _ (a_tree left w tokens after rest ps some named is at) =
      let first = ap length is in let less = inside_shrinks (left - 1) after rest ps at in omega (arith, first, less)
  pattern_shrinks _ _ _ _ (a_named_tree left v w tokens after rest ps some named other is at) =
      let first = ap length is in let less = inside_shrinks (left - 1) after rest ps at in omega (arith, first, less)

  inside_shrinks : (left : ℕ) (tokens rest : List Lexeme) (ps : Patterns) → PatternsIn left tokens ps rest → length rest < length tokens
  inside_shrinks _ _ _ _ (none_in left tokens rest is) = let first = ap length is in omega (arith, first)
  inside_shrinks _ _ _ _ (some_in left tokens rest ps row) = row_shrinks left tokens rest ps row

  row_shrinks : (left : ℕ) (tokens rest : List Lexeme) (ps : Patterns) → PatternRow left tokens ps rest → length rest < length tokens
  row_shrinks _ _ _ _ (one_before left tokens between rest p more at on) =
      let first = pattern_shrinks left tokens between p at in let less = behind_shrinks left between rest more on in omega (arith, first, less)

  behind_shrinks : (left : ℕ) (tokens rest : List Lexeme) (ps : Patterns) → PatternsBehind left tokens ps rest → length rest < length tokens
  behind_shrinks _ _ _ _ (closed left tokens rest is) = let first = ap length is in omega (arith, first)
  behind_shrinks _ _ _ _ (others left tokens after rest ps is row) =
      let first = ap length is in let less = row_shrinks left after rest ps row in omega (arith, first, less)
