-- The definitions, tried where the nearest wrong reading differs.
use Rattle.std.proofs.Common.{◌≡◌, ℕ, zero, suc, ◌+◌, ◌<◌, ◌≤◌, max, subst, sym, ap, true, false, List, [], ◌∷◌, get_or, Some, None, Contains, refl, codes, arith}
use Rattle.ck_base.specs.declared.fault.Kind.TheVariants.{Twice, Unknown}
use Rattle.section_frame.specs.Declares.{Declared}
use Rattle.section_frame.specs.Words.{IsMissing, sum_by}
use Rattle.front_spec.specs.RexShapes.{SaidRule, Saying, state, rule}
use Rattle.front_spec.specs.RexFaults.{all_states, positions_of, RexFault, state_is_std, no_active_state, no_go_state}
use Rattle.front_spec.specs.RexRules.{active_in}
use Rattle.rex_model.specs.Language.{bytes, star, sequence}
use Rattle.spec_text.specs.Lexemes.{Lexeme, text, sign}
use Rattle.front_spec.specs.Regexes.{Written, a_string, a_star, with_sign, row_of, choice_of, a_leaf, Piece, without_sign, before_sign, last_piece, piece_before, Rows, last_row, IsRegex}

-- "a" "b"* has a nesting of 3
abbrev a_and_bs : List Written
a_and_bs = record { re = bytes (codes "a"); nesting = 1 } ∷ record { re = star (bytes (codes "b")); nesting = 2 } ∷ []

pub row_of_two : (rest : List Lexeme) → IsRegex (text (codes "a") ∷ text (codes "b") ∷ sign (codes "*") ∷ rest)
    (record { re = sequence (bytes (codes "a")) (sequence (star (bytes (codes "b"))) (bytes [])); nesting = 3 }) rest
row_of_two rest = record {
  rows = row_of a_and_bs ∷ [];
  are = last_row _ rest a_and_bs
      (piece_before _ (text (codes "b") ∷ sign (codes "*") ∷ rest) rest _ _
      (without_sign _ _ _ (a_leaf _ _ _ (a_string (text (codes "b") ∷ sign (codes "*") ∷ rest) (codes "a"))))
      (last_piece _ rest _ (before_sign a_star _ (sign (codes "*") ∷ rest) rest (record { re = bytes (codes "b"); nesting = 1 })
      (without_sign _ _ _ (a_leaf _ _ _ (a_string (sign (codes "*") ∷ rest) (codes "b")))) refl)));
  is = refl;
  within = omega arith;
}

-- so many signs behind "a", and what that means
abbrev stars : ℕ → List Lexeme → List Lexeme
stars zero rest = rest
stars (suc n) rest = stars n (sign (codes "*") ∷ rest)

abbrev starred : ℕ → Written
starred zero = record { re = bytes (codes "a"); nesting = 1 }
starred (suc n) = with_sign a_star (starred n)

so_deep : (n : ℕ) → (starred n).nesting ≡ n + 1
so_deep zero = refl
so_deep (suc n) = let more = so_deep n in omega (arith, more)

starred_piece : (n : ℕ) (rest : List Lexeme) → Piece (text (codes "a") ∷ stars n rest) (starred n) rest
starred_piece zero rest = without_sign _ rest _ (a_leaf _ rest _ (a_string rest (codes "a")))
starred_piece (suc n) rest =
    before_sign a_star _ (sign (codes "*") ∷ rest) rest (starred n) (starred_piece n (sign (codes "*") ∷ rest)) refl

-- a nesting of 64 is an expression's, also without parentheses
pub sixty_four_deep : (n : ℕ) → n ≤ 63 → (rest : List Lexeme) → IsRegex (text (codes "a") ∷ stars n rest) (starred n) rest
sixty_four_deep n small rest = record {
  rows = starred n ∷ [];
  are = subst (λ row. Rows (text (codes "a") ∷ stars n rest) (row ∷ []) rest) (alone (starred n))
      (last_row _ rest (starred n ∷ []) (last_piece _ rest (starred n) (starred_piece n rest)));
  is = sym (alone_choice (starred n));
  within = let deep = so_deep n in omega (arith, deep, small);
}
  where
    alone : (w : Written) → row_of (w ∷ []) ≡ w
    alone w = let same : max w.nesting 0 ≡ w.nesting = omega arith in ap (λ n. record { re = w.re; nesting = n }) same

    alone_choice : (w : Written) → choice_of (w ∷ []) ≡ w
    alone_choice w = let same : max w.nesting 0 ≡ w.nesting = omega arith in ap (λ n. record { re = w.re; nesting = n }) same

-- STD is there without a line, so a line of it is of kind twice, also the first one
pub std_again : (ds : List (Declared Saying)) → RexFault ds Twice 0 (state (codes "STD"))
std_again ds = state_is_std 0 _ (record { called = codes "STD"; is = refl; among = (0, omega arith, refl) })

abbrev only_a : SaidRule
only_a = record { states = None; body = bytes (codes "a"); context = None; token = Some (codes "A"); next = Some (codes "X") }

abbrev with_state : List (Declared Saying)
with_state = record { number = 2; said = rule only_a } ∷ record { number = 3; said = state (codes "X") } ∷ []

-- a state may be named before its line
pub declared_later : RexFault with_state Unknown 0 (rule only_a) → ⊥
declared_later fault = by (rule only_a) refl fault
  where
    there : IsMissing (all_states with_state) (codes "X" ∷ []) → ⊥
    there missing = missing.none (of_one missing.used.0 missing.used.1 missing.used.2)
      where
        of_one : (i : ℕ) → i < 1 → get_or (codes "X" ∷ []) i missing.name ≡ missing.name → Contains (all_states with_state) missing.name
        of_one zero less same = (1, omega arith, same)
        of_one (suc i) less same = absurd (omega (arith, less))

    by : (said : Saying) → said ≡ rule only_a → RexFault with_state Unknown 0 said → ⊥
    by _ same (no_active_state _ said missing) = none (rw same at missing)
      where
        none : IsMissing (all_states with_state) [] → ⊥
        none missing = let less = missing.used.1 in omega (arith, less)
    by _ same (no_go_state _ said missing) = there (rw same at missing)

-- a rule that names no state is active in STD alone, and not in all of them
pub std_alone : (active_in (all_states with_state) None 0 ≡ true) × (active_in (all_states with_state) None 1 ≡ false)
std_alone = (refl, refl)

-- one that names a state isn't active in STD
pub in_x_alone : (active_in (all_states with_state) (Some (codes "X" ∷ [])) 0 ≡ false)
    × (active_in (all_states with_state) (Some (codes "X" ∷ [])) 1 ≡ true)
in_x_alone = (refl, refl)

-- the end mark is a position too
pub end_mark_counts : sum_by positions_of with_state ≡ 2
end_mark_counts = refl
