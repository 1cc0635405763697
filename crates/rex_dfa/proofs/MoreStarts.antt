-- One more start state.
use Rattle.std.proofs.Common.{◌≡◌, ℕ, ◌+◌, ◌<◌, ◌⊎◌, ◌↔◌, List, [], ◌∷◌, ◌++◌, length, get_or, slice_get, slice_index, Option, Some, None, arith, refl, sym, ap, subst, ◌∙◌, inl, inr, length-append}
use Rattle.std.proofs.lemmas.Bool.{cases_eq}
use Rattle.std.proofs.lemmas.List.{get_or_append_left}
use Rattle.std.proofs.lemmas.Option.{same_Some, none-some}
use Rattle.std.proofs.Math.Seq.{get_or-append_seam}
use Rattle.ck_base.specs.BitSet.{BitSet, Has}
use Rattle.rex_dfa.specs.within.Positions.{set_with, TakesAt, FollowsAt}
use Rattle.rex_model.specs.Runs.{nowhere}
use Rattle.rex_dfa.specs.within.Subset.{FirstAt, IsReached, AreReached, AreStarts, Numbers, empty, known, added, full}
use Rattle.rex_dfa.specs.declared.positions.Positions.{Positions}
use Rattle.rex_dfa.proofs.MoreMoves.{numbered_of, stands_still, too_many_reached}
use Rattle.rex_dfa.proofs.SetRuns.{comes_at_once}
use Rattle.rex_dfa.proofs.StateNumbers.{numbers_alike}

-- the first set gets the number 0
first_number : (positions : Positions) (old new : List (List ℕ)) (P : ℕ → Type 0) (o : Option ℕ) (t : ℕ) → o ≡ Some t → old ≡ [] → Numbers positions old new P o
    → (t ≡ nowhere) ⊎ (t ≡ 0)
first_number positions old new P o t some none (empty is nothing) = inl (sym (same_Some nowhere t some))
first_number positions old new P o t some none (known words n is at has) = absurd (none-some words (subst (λ xs. slice_get xs n ≡ Some words) none at))
first_number positions old new P o t some none (added words n is number less fit small filled has) = inr (sym (same_Some n t some) ∙ number ∙ ap length none)
first_number positions old new P o t some none (full words is large fit small filled has) = absurd (none-some t some)

module _ (positions : Positions) (firsts : List BitSet) (old new : List (List ℕ)) (k : ℕ) (inside : k < length firsts) (set : BitSet) (is : slice_get firsts k ≡ Some set) where
  -- the set is the first set of start state k
  first_is : (q : ℕ) → Has set q ↔ FirstAt firsts k q
  first_is q = (λ h. (set, is, h), λ h. subst (λ s. Has s q) (same_Some h.0 set (sym h.1 ∙ is)) h.2)

  reach_first : (words : List ℕ) → ((q : ℕ) → Has (set_with positions words) q ↔ FirstAt firsts k q) → IsReached positions firsts (Has (set_with positions words))
  reach_first words has = record {
    start = k;
    word = [];
    inside = inside;
    small = λ j d within. absurd (omega arith);
    comes = λ q. let at_once = comes_at_once (TakesAt positions) (FollowsAt positions) (FirstAt firsts k) q in (λ h. at_once.0 ((has q).0 h), λ h. (has q).1 (at_once.1 h));
  }

  pub starts_more : (starts : List ℕ) (t : ℕ) → AreStarts positions firsts old starts k → Numbers positions old new (Has set) (Some t) → AreStarts positions firsts new (starts ++ t ∷ []) (k + 1)
  starts_more starts t before numbers =
      let numbered = numbered_of positions firsts old new (FirstAt firsts k) reach_first (Some t) t refl before.few before.sets_reached
      (numbers_alike positions old new (Has set) (FirstAt firsts k) (Some t) first_is numbers) in
      record {
        sets_reached = numbered.reached;
        few = numbered.few;
        count = omega (arith, length-append starts (t ∷ []), before.count);
        begins = λ i below. elim (cases_eq i k) [
          | inl same ↦
              let here : slice_index (starts ++ t ∷ []) i ≡ t = rw (same, sym before.count) (get_or-append_seam starts t [] 0) in
              rw (here, same) numbered.stands
          | inr other ↦
              let early : i < k = omega arith in
              let inner : i < length starts = omega (arith, before.count) in
              let here : slice_index (starts ++ t ∷ []) i ≡ slice_index starts i = get_or_append_left starts (t ∷ []) 0 i inner in
              rw here (stands_still positions firsts old new numbered.grown (FirstAt firsts i) (slice_index starts i) (before.begins i early))
        ];
        none_yet = λ at. absurd (omega arith);
        zero_first = λ some. elim (cases_eq k 0) [
          | inl same ↦
              let place : 0 ≡ length starts = sym (before.count ∙ same) in
              let here : slice_index (starts ++ t ∷ []) 0 ≡ t = subst (λ i. get_or (starts ++ t ∷ []) i 0 ≡ t) (sym place) (get_or-append_seam starts t [] 0) in
              rw here (first_number positions old new (Has set) (Some t) t refl (before.none_yet same) numbers)
          | inr other ↦
              let inner : 0 < length starts = omega (arith, before.count) in
              let here : slice_index (starts ++ t ∷ []) 0 ≡ slice_index starts 0 = get_or_append_left starts (t ∷ []) 0 0 inner in
              rw here (before.zero_first (omega arith))
        ];
      }

  pub starts_full : (starts : List ℕ) (o : Option ℕ) → o ≡ None → AreStarts positions firsts old starts k → Numbers positions old new (Has set) o → AreReached positions firsts new × (4096 < length new)
  starts_full starts o none before numbers = too_many_reached positions firsts old new (FirstAt firsts k) reach_first o none before.sets_reached
      (numbers_alike positions old new (Has set) (FirstAt firsts k) o first_is numbers)
