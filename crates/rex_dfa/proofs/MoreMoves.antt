-- One more move, for which a set may have come to the sets.
use Rattle.std.proofs.Common.{◌≡◌, ℕ, zero, suc, ◌+◌, ◌*◌, ◌^◌, ◌<◌, ◌≤◌, ◌↔◌, List, [], ◌∷◌, ◌++◌, length, get_or, slice_index, Option, Some, None, All, arith, refl, sym, subst, ap, ◌∙◌, inl, inr, length-append}
use Rattle.std.proofs.lemmas.Bool.{cases_eq}
use Rattle.std.proofs.lemmas.List.{get_or_append_left}
use Rattle.std.proofs.lemmas.List.Elements.{All-append}
use Rattle.std.proofs.Math.Seq.{get_or-append_seam}
use Rattle.std.proofs.lemmas.Option.{slice_get_within, get_or_from_slice_get, same_Some, none-some}
use Rattle.ck_base.specs.BitSet.{BitSet, Has}
use Rattle.ck_base.specs.Words.{IsFit}
use Rattle.rex_model.specs.Sets.{ComesNext}
use Rattle.rex_dfa.specs.within.Positions.{set_with, TakesAt, FollowsAt, NextOf}
use Rattle.rex_model.specs.Runs.{nowhere, AreBytes}
use Rattle.rex_dfa.specs.within.Subset.{Stands, for_none, for_state, set_at, FirstAt, IsGrown, IsReached, AreReached, Building, Numbers, empty, known, added, full}
use Rattle.rex_dfa.specs.declared.positions.Positions.{Positions}
use Rattle.rex_dfa.proofs.Paths.{goes_further, goes_before}

pub grown_same : (old new : List (List ℕ)) → new ≡ old → IsGrown old new
grown_same old new is = record { longer = rw is (omega arith); kept = λ s within. rw is refl }

grown_push : (old new : List (List ℕ)) (words : List ℕ) → new ≡ old ++ words ∷ [] → IsGrown old new
grown_push old new words is = record {
  longer = rw is (omega (arith, length-append old (words ∷ [])));
  kept = λ s within. rw is (get_or_append_left old (words ∷ []) [] s within);
}

module _ (positions : Positions) (firsts : List BitSet) (old new : List (List ℕ)) (grown : IsGrown old new) where
  -- what an old number stands for it stands for still
  pub stands_still : (P : ℕ → Type 0) (t : ℕ) → Stands (set_at positions old) (length old) P t → Stands (set_at positions new) (length new) P t
  stands_still P t (for_none _ is none) = for_none t is none
  stands_still P t (for_state _ within has) =
      let longer = grown.longer in
      for_state t (omega arith) (rw (grown.kept t within) has)

-- the set that comes next after a byte is reached, too
module _ (positions : Positions) (firsts : List BitSet) (words : List ℕ) (byte : ℕ) (small : byte < 256)
    (P : ℕ → Type 0) (same : (q : ℕ) → P q ↔ NextOf positions words byte q) where
  pub next_reached : IsReached positions firsts (Has (set_with positions words)) → IsReached positions firsts P
  next_reached from = record {
    start = from.start;
    word = from.word ++ byte ∷ [];
    inside = from.inside;
    small = small_more;
    comes = λ q. (there_of q, back q);
  }
    where
      small_more : AreBytes (from.word ++ byte ∷ [])
      small_more = All-append (λ b. b < 256) from.word (byte ∷ []) from.small (λ k d within. only k d within)
        where
          only : (k d : ℕ) → k < 1 → get_or (byte ∷ []) k d < 256
          only zero d within = small
          only (suc k) d within = absurd (omega arith)

      there_of : (q : ℕ) → P q → ComesNext (TakesAt positions) (FollowsAt positions) (FirstAt firsts from.start) (from.word ++ byte ∷ []) q
      there_of q h =
          let (p, has, takes, follows) = (same q).0 h in
          let (first, begins, goes) = (from.comes p).0 has in
          (first, begins, goes_further (TakesAt positions) (FollowsAt positions) from.word first p q byte goes takes follows)

      back : (q : ℕ) → ComesNext (TakesAt positions) (FollowsAt positions) (FirstAt firsts from.start) (from.word ++ byte ∷ []) q → P q
      back q (first, begins, goes) =
          let (p, before, takes, follows) = goes_before (TakesAt positions) (FollowsAt positions) from.word first q byte goes in
          (same q).1 (p, (from.comes p).1 (first, begins, before), takes, follows)

module _ (positions : Positions) (firsts : List BitSet) (old new : List (List ℕ)) (P : ℕ → Type 0)
    (reach : (words : List ℕ) → ((q : ℕ) → Has (set_with positions words) q ↔ P q) → IsReached positions firsts (Has (set_with positions words))) where
  -- a set more, which comes next
  pub reached_push : (words : List ℕ) → new ≡ old ++ words ∷ [] → AreReached positions firsts old → IsFit positions.size words → All (λ word. word < 2 ^ 64) words
      → (((q : ℕ) → P q → ⊥) → ⊥)
      → ((q : ℕ) → Has (set_with positions words) q ↔ P q) → AreReached positions firsts new
  reached_push words is before fit small_words some has = record {
    fit = λ t within. elim (cases_eq t (length old)) [
      | inl same ↦ rw (last t same) fit
      | inr other ↦ rw (grown.kept t (inner t within other)) (before.fit t (inner t within other))
    ];
    small = λ t within. elim (cases_eq t (length old)) [
      | inl same ↦ rw (last t same) small_words
      | inr other ↦ rw (grown.kept t (inner t within other)) (before.small t (inner t within other))
    ];
    filled = λ t within. elim (cases_eq t (length old)) [
      | inl same ↦ rw (last t same) (λ none. some (λ q h. none q ((has q).1 h)))
      | inr other ↦ rw (grown.kept t (inner t within other)) (before.filled t (inner t within other))
    ];
    reached = λ t within. elim (cases_eq t (length old)) [
      | inl same ↦ subst (λ w. IsReached positions firsts (Has (set_with positions w))) (sym (last t same))
          (reach words has)
      | inr other ↦ subst (λ w. IsReached positions firsts (Has (set_with positions w))) (sym (grown.kept t (inner t within other))) (before.reached t (inner t within other))
    ];
  }
    where
      grown : IsGrown old new
      grown = grown_push old new words is

      last : (t : ℕ) → t ≡ length old → get_or new t [] ≡ words
      last t same = rw (same, is) (get_or-append_seam old words [] [])

      inner : (t : ℕ) → t < length new → (t ≡ length old → ⊥) → t < length old
      inner t within other = let longer = ap length is ∙ length-append old (words ∷ []) in omega arith

  -- what a number stands for, and what holds of the sets with it
  pub record IsNumbered (t : ℕ) : Type 0 where
    pub grown : IsGrown old new
    pub reached : AreReached positions firsts new
    pub few : length new ≤ 4096
    pub stands : Stands (set_at positions new) (length new) P t

  pub numbered_of : (o : Option ℕ) (t : ℕ) → o ≡ Some t → length old ≤ 4096 → AreReached positions firsts old
      → Numbers positions old new P o → IsNumbered t
  numbered_of o t some few before (empty same none) = record {
    grown = grown_same old new same;
    reached = rw same before;
    few = rw same few;
    stands = for_none t (sym (same_Some nowhere t some)) none;
  }
  numbered_of o t some few before (known words n same at_n has) =
      let within = slice_get_within old n words at_n in
      let is = get_or_from_slice_get old n words [] at_n in
      let at : n ≡ t = same_Some n t some in
      record {
        grown = grown_same old new same;
        reached = rw same before;
        few = rw same few;
        stands = subst (Stands (set_at positions new) (length new) P) at
            (for_state n (rw same within) (rw (same, is) has));
      }
  numbered_of o t some few before (added words n is number less fit small_words filled has) =
      let at : n ≡ t = same_Some n t some in
      let longer : length new ≡ length old + 1 = ap length is ∙ length-append old (words ∷ []) in
      record {
        grown = grown_push old new words is;
        reached = reached_push words is before fit small_words filled has;
        few = omega arith;
        stands = subst (Stands (set_at positions new) (length new) P) at
            (for_state n (omega arith) (rw (number, is, get_or-append_seam old words [] []) has));
      }
  numbered_of o t some few before (full words is large fit small_words filled has) = absurd (none-some t some)

  -- a set too many
  pub too_many_reached : (o : Option ℕ) → o ≡ None → AreReached positions firsts old
      → Numbers positions old new P o → AreReached positions firsts new × (4096 < length new)
  too_many_reached o none before (empty same nothing) = absurd (none-some _ (sym none))
  too_many_reached o none before (known words n same at_n has) = absurd (none-some _ (sym none))
  too_many_reached o none before (added words n is number less fit small_words filled has) = absurd (none-some _ (sym none))
  too_many_reached o none before (full words is large fit small_words filled has) =
      let longer : length new ≡ length old + 1 = ap length is ∙ length-append old (words ∷ []) in
      (reached_push words is before fit small_words filled has, omega arith)

-- one more move
module _ (positions : Positions) (firsts : List BitSet) (old new : List (List ℕ)) (s byte : ℕ) (inside : s < length old) (small : byte < 256) (reached : AreReached positions firsts old) where
  pub reach_next : (words : List ℕ) → ((q : ℕ) → Has (set_with positions words) q ↔ NextOf positions (get_or old s []) byte q) → IsReached positions firsts (Has (set_with positions words))
  reach_next words has = next_reached positions firsts (get_or old s []) byte small (Has (set_with positions words)) has (reached.reached s inside)

  pub moves_more : (moves : List ℕ) (t : ℕ) → 256 * s + byte ≡ length moves → length moves < 256 * length old → Building positions firsts old moves
      → Numbers positions old new (NextOf positions (get_or old s []) byte) (Some t) → Building positions firsts new (moves ++ t ∷ [])
  moves_more moves t place left before numbers =
      let numbered = numbered_of positions firsts old new (NextOf positions (get_or old s []) byte) reach_next (Some t) t refl before.few before.sets_reached numbers in
      record {
        sets_reached = numbered.reached;
        few = numbered.few;
        goes = λ r b below within. elim (cases_eq (256 * r + b) (length moves)) [
          | inl same ↦
              let row : r ≡ s = omega arith in
              let column : b ≡ byte = omega arith in
              let here : slice_index (moves ++ t ∷ []) (256 * r + b) ≡ t = rw same (get_or-append_seam moves t [] 0) in
              rw (here, row, column, numbered.grown.kept s inside) numbered.stands
          | inr other ↦
              let count = length-append moves (t ∷ []) in
              let inner : 256 * r + b < length moves = omega arith in
              let row : r < length old = omega arith in
              let here : slice_index (moves ++ t ∷ []) (256 * r + b) ≡ slice_index moves (256 * r + b) = get_or_append_left moves (t ∷ []) 0 (256 * r + b) inner in
              rw (here, numbered.grown.kept r row)
              (stands_still positions firsts old new numbered.grown (NextOf positions (get_or old r []) b) (slice_index moves (256 * r + b)) (before.goes r b below inner))
        ];
      }

pub grown_on : (a b c : List (List ℕ)) → IsGrown a b → IsGrown b c → IsGrown a c
grown_on a b c first second = record {
  longer = (let x = first.longer in let y = second.longer in omega arith);
  kept = λ s within. second.kept s (let x = first.longer in omega arith) ∙ first.kept s within;
}

pub no_moves : (positions : Positions) (firsts : List BitSet) (sets : List (List ℕ)) → AreReached positions firsts sets → length sets ≤ 4096 → Building positions firsts sets []
no_moves positions firsts sets reached few = record { sets_reached = reached; few = few; goes = λ s byte small within. absurd (omega arith) }
