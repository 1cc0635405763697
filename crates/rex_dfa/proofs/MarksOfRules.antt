-- End marks of rules, one after the other.
use Rattle.std.proofs.Common.{◌≡◌, ℕ, zero, suc, ◌+◌, ◌<◌, ◌≤◌, ◌↔◌, List, [], ◌∷◌, ◌++◌, length, get_or, Some, None, slice_get, arith, refl, sym, subst, ◌∙◌, inl, inr}
use Rattle.std.proofs.lemmas.Bool.{cases_eq, cases_lt}
use Rattle.std.proofs.lemmas.Option.{none-some, same_Some, slice_get_within, slice_get-get_or}
use Rattle.ck_base.specs.BitSet.{BitSet, Has}
use Rattle.rex_model.specs.Positions.{position_count}
use Rattle.rex_model.specs.Sets.{marked, marked_rules, body_and_context}
use Rattle.rex_model.specs.Rules.{Rule}
use Rattle.rex_dfa.specs.within.Marks.{IsMark, AreMarks, IsLeast, HasMark}

-- the list has the marks, by number
pub mark_at : (rules : List Rule) (k : ℕ) (marks : List ℕ) → AreMarks rules k marks → (i q : ℕ) → (slice_get marks i ≡ Some q) ↔ IsMark rules k i q
mark_at [] k [] are i q = (λ h. absurd (none-some q h), λ h. elim h [ ])
mark_at [] k (m ∷ ms) are i q = elim are [ ]
mark_at (rule ∷ rules) k [] are i q = elim are [ ]
mark_at (rule ∷ rules) k (m ∷ ms) are zero q = (λ h. sym (same_Some m q h) ∙ are.0, λ h. rw (are.0, h) refl)
mark_at (rule ∷ rules) k (m ∷ ms) are (suc i) q = mark_at rules (k + position_count (marked (body_and_context rule))) ms are.1 i q

-- with the marks of the rules that are left behind them, the marks are those of all rules
pub record Marking (all rest : List Rule) (at : ℕ) (marks : List ℕ) : Type 0 where
  pub goes_on : (later : List ℕ) → AreMarks rest at later → AreMarks all 0 (marks ++ later)
  pub room : at + position_count (marked_rules rest) ≤ position_count (marked_rules all)

pub marking_done : (all : List Rule) (at : ℕ) (marks : List ℕ) → Marking all [] at marks → AreMarks all 0 marks
marking_done all at marks done = subst (AreMarks all 0) (append_nil marks) (done.goes_on [] tt)
  where
    append_nil : (xs : List ℕ) → xs ++ [] ≡ xs
    append_nil [] = refl
    append_nil (x ∷ xs) = rw (append_nil xs) refl

-- no mark before place i is in the set
abbrev pub NoneBefore : List ℕ → BitSet → ℕ → Type 0
NoneBefore marks set i = (j : ℕ) → j < i → HasMark marks set j → ⊥

pub none_more : (marks : List ℕ) (set : BitSet) (i : ℕ) → i < length marks → NoneBefore marks set i → (Has set (get_or marks i 0) → ⊥) → NoneBefore marks set (i + 1)
none_more marks set i within before none = λ j below h. elim (cases_eq j i) [
  | inl same ↦ none (subst (Has set) (same_Some h.0 (get_or marks i 0) (sym h.1 ∙ subst (λ k. slice_get marks k ≡ Some (get_or marks i 0)) (sym same) (slice_get-get_or marks i 0 within))) h.2)
  | inr other ↦ before j (omega arith) h
]

pub least_here : (marks : List ℕ) (set : BitSet) (i : ℕ) → i < length marks → NoneBefore marks set i → Has set (get_or marks i 0) → IsLeast (HasMark marks set) (Some i)
least_here marks set i within before here =
    ((get_or marks i 0, slice_get-get_or marks i 0 within, here), λ j h. least j h)
  where
    at_least : (a b : ℕ) → (b < a → ⊥) → a ≤ b
    at_least a b never = elim (cases_lt b a) [ inl less ↦ absurd (never less) | inr other ↦ omega arith ]

    least : (j : ℕ) → HasMark marks set j → i ≤ j
    least j h = at_least i j (λ below. before j below h)

pub least_none : (marks : List ℕ) (set : BitSet) (i : ℕ) → length marks ≤ i → NoneBefore marks set i → IsLeast (HasMark marks set) None
least_none marks set i past before = λ j h. let within = slice_get_within marks j h.0 h.1 in before j (omega arith) h
