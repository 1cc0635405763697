-- A table with one start and one mark as an automaton of a split.
use Rattle.std.proofs.Common.{◌≡◌, ℕ, zero, suc, ◌↔◌, List, [], ◌∷◌, length, map, slice_get, slice_index, Option, Some, None, IsSome, arith, refl, sym, subst, ◌∙◌, inl, inr}
use Rattle.std.proofs.lemmas.List.{length-map}
use Rattle.std.proofs.lemmas.Option.{none-some, same_Some}
use Rattle.ck_base.specs.BitSet.{BitSet}
use Rattle.ck_base.specs.Represents.{Represents}
use Rattle.ck_base.proofs.Representing.{represent_map}
use Rattle.rex_model.specs.Sets.{ComesNext}
use Rattle.rex_dfa.specs.within.Dead.{IsDead}
use Rattle.rex_dfa.specs.within.Marks.{IsLeast}
use Rattle.rex_dfa.specs.within.Parts.{IsTable, IsPart, IsFilled, IsSameAfter}
use Rattle.rex_dfa.specs.within.Positions.{TakesAt, FollowsAt}
use Rattle.rex_model.specs.Runs.{nowhere, run, accepted, AreBytes, IsStateOf}
use Rattle.rex_dfa.specs.within.Subset.{FirstAt, Way, SetAfter, IsWay, IsSameSet}
use Rattle.rex_dfa.specs.declared.positions.Positions.{Positions}
use Rattle.rex_model.specs.Runs.{Automaton}
use Rattle.rex_model.proofs.RunsOfAutomata.{run_nowhere}

-- something is accepted exactly where the one mark comes next
some_least : (C : ℕ → Type 0) (mark : ℕ) (o : Option ℕ) → IsLeast (λ i. (q : ℕ) × (slice_get (mark ∷ []) i ≡ Some q) × C q) o → IsSome o ↔ C mark
some_least C mark None least = (λ h. (cc), λ h. absurd (least 0 (mark, refl, h)))
some_least C mark (Some i) least = (λ h. at_mark i least.0, λ h. refl)
  where
    at_mark : (i : ℕ) → (q : ℕ) × (slice_get (mark ∷ []) i ≡ Some q) × C q → C mark
    at_mark zero (q, at, h) = subst C (sym (same_Some mark q at)) h
    at_mark (suc i) (q, at, h) = absurd (none-some q at)

module _ (positions : Positions) (firsts : List BitSet) (mark : ℕ) (starts : List ℕ) (dfa : Automaton) (one : length firsts ≡ 1) (is : IsTable positions firsts (mark ∷ []) starts dfa) where
  abbrev Comes : List ℕ → ℕ → Type 0
  Comes w q = ComesNext (TakesAt positions) (FollowsAt positions) (FirstAt firsts 0) w q

  at_zero : (way : Way) → IsWay positions firsts way → (q : ℕ) → SetAfter positions firsts way q ↔ Comes way.word q
  at_zero way way_is q =
      let zero_start : way.start ≡ 0 = let inside = way_is.inside in omega arith in
      rw zero_start (λ h. h, λ h. h)

  abbrev way_of : List ℕ → Way
  way_of w = record { start = 0; word = w }

  is_way_of : (w : List ℕ) → IsFilled (TakesAt positions) (FollowsAt positions) (FirstAt firsts 0) w → IsWay positions firsts (way_of w)
  is_way_of w h = record { inside = omega arith; bytes = h.bytes; filled = h.some }

  word_filled : (way : Way) → IsWay positions firsts way → IsFilled (TakesAt positions) (FollowsAt positions) (FirstAt firsts 0) way.word
  word_filled way h = record { bytes = h.bytes; some = λ none. h.filled (λ q g. none q ((at_zero way h q).0 g)) }

  represented : Represents (IsFilled (TakesAt positions) (FollowsAt positions) (FirstAt firsts 0)) (IsSameAfter (TakesAt positions) (FollowsAt positions) (FirstAt firsts 0)) (map (λ (way : Way). way.word) is.ways)
  represented = represent_map (λ (way : Way). way.word) (IsWay positions firsts) (IsSameSet positions firsts) _ _ is.ways word_filled
      (λ w h. (way_of w, is_way_of w h, refl))
      (λ a b is_a is_b same q. (λ h. (at_zero b is_b q).0 ((same q).0 ((at_zero a is_a q).1 h)), λ h. (at_zero a is_a q).0 ((same q).1 ((at_zero b is_b q).1 h))))
      (λ a b is_a is_b same q. (λ h. (at_zero b is_b q).1 ((same q).0 ((at_zero a is_a q).0 h)), λ h. (at_zero a is_a q).1 ((same q).1 ((at_zero b is_b q).0 h))))
      is.represent

  accepts_mark : (w : List ℕ) → AreBytes w → IsSome (accepted dfa (run dfa (slice_index starts 0) w)) ↔ Comes w mark
  accepts_mark w small = some_least (Comes w) mark _ (is.least 0 w (omega arith) small)

  pub part_is : (count : ℕ) → count ≡ length dfa.accepts → (slice_index starts 0 ≡ nowhere → ⊥)
      → IsPart (TakesAt positions) (FollowsAt positions) (FirstAt firsts 0) mark dfa count
  part_is count count_is some =
      let zero_start : slice_index starts 0 ≡ 0 = elim (is.zero_first (omega arith)) [ inl none ↦ absurd (some none) | inr zero_at ↦ zero_at ] in
      let state : IsStateOf dfa 0 = subst (IsStateOf dfa) zero_start (is.inside 0 (omega arith)) in
      record {
        is_dfa = is.is_dfa;
        begins = elim state [ inl none ↦ absurd (omega arith) | inr below ↦ below ];
        accepts = λ w small. subst (λ s. IsSome (accepted dfa (run dfa s w)) ↔ Comes w mark) zero_start (accepts_mark w small);
        words = map (λ (way : Way). way.word) is.ways;
        represent = represented;
        as_many = length-map is.ways (λ (way : Way). way.word) ∙ is.as_many ∙ sym count_is;
        few = rw count_is is.few;
      }

  pub dead_part_is : (other : Automaton) (count : ℕ) → IsDead other → count ≡ length dfa.accepts → slice_index starts 0 ≡ nowhere
      → IsPart (TakesAt positions) (FollowsAt positions) (FirstAt firsts 0) mark other count
  dead_part_is other count dead count_is none = record {
    is_dfa = dead.is_dfa;
    begins = dead.begins;
    accepts = λ w small.
        let accepts_none : IsSome (accepted dfa (run dfa nowhere w)) ↔ Comes w mark = subst (λ s. IsSome (accepted dfa (run dfa s w)) ↔ Comes w mark) none (accepts_mark w small) in
        let still : accepted dfa (run dfa nowhere w) ≡ None = rw (run_nowhere dfa w) refl in
        rw (dead.nothing w small) (rw still at accepts_none);
    words = map (λ (way : Way). way.word) is.ways;
    represent = represented;
    as_many = length-map is.ways (λ (way : Way). way.word) ∙ is.as_many ∙ sym count_is;
    few = rw count_is is.few;
  }
