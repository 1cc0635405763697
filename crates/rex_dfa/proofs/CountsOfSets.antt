-- The sets that are found are those that there are.
use Rattle.std.proofs.Common.{◌≡◌, ℕ, ◌<◌, ◌≤◌, ◌↔◌, List, [], length, get_or, Some, arith, sym, ap, ◌∙◌}
use Rattle.std.proofs.lemmas.Option.{slice_get-get_or}
use Rattle.ck_base.specs.BitSet.{BitSet}
use Rattle.ck_base.specs.Numbered.{AreNumbered}
use Rattle.ck_base.proofs.Counting.{collect}
use Rattle.ck_base.proofs.SameWords.{same_words}
use Rattle.rex_dfa.specs.within.Positions.{TakesAt, FollowsAt}
use Rattle.rex_model.specs.Runs.{nowhere, moved}
use Rattle.rex_dfa.specs.within.Subset.{Next, Stands, for_none, for_state, set_at, FirstAt, AreReached, Way, SetAfter, IsWay, IsSameSet, HasMoreSets}
use Rattle.rex_dfa.specs.declared.positions.Positions.{Positions}
use Rattle.rex_model.specs.Runs.{Automaton}
use Rattle.rex_dfa.proofs.SetRuns.{run_stands}

module _ (positions : Positions) (firsts : List BitSet) (sets : List (List ℕ)) (reached : AreReached positions firsts sets) where
  -- a way to the set of state s
  pub record LeadsTo (s : ℕ) (way : Way) : Type 0 where
    pub below : s < length sets
    pub is_way : IsWay positions firsts way
    pub same : (q : ℕ) → set_at positions sets s q ↔ SetAfter positions firsts way q

  pub way_to : (s : ℕ) → s < length sets → (way : Way) × LeadsTo s way
  way_to s below =
      let r = reached.reached s below in
      let way : Way = record { start = r.start; word = r.word } in (
        way,
        record {
          below = below;
          is_way = record { inside = r.inside; bytes = r.small; filled = λ none. reached.filled s below (λ q h. none q ((r.comes q).0 h)) };
          same = r.comes;
        },
      )

  -- different states have different sets
  pub same_state : (i j : ℕ) (a b : Way) → AreNumbered sets → LeadsTo i a → LeadsTo j b → IsSameSet positions firsts a b → i ≡ j
  same_state i j a b numbered to_a to_b same =
      let words : get_or sets i [] ≡ get_or sets j [] = same_words positions.size (get_or sets i []) (get_or sets j []) (reached.fit i to_a.below) (reached.fit j to_b.below)
      (reached.small i to_a.below) (reached.small j to_b.below)
      (λ q. (λ h. (to_b.same q).1 ((same q).0 ((to_a.same q).0 h)), λ h. (to_a.same q).1 ((same q).1 ((to_b.same q).0 h)))) in
      numbered.apart i j (get_or sets i []) (slice_get-get_or sets i [] to_a.below) (slice_get-get_or sets j [] to_b.below ∙ ap Some (sym words))

  pub more_sets : (n : ℕ) → AreNumbered sets → n < length sets → HasMoreSets positions firsts n
  more_sets n numbered many =
      let all = collect LeadsTo (length sets) way_to in
      record {
        some = all.list;
        each = λ i way is. (all.each i way is).is_way;
        apart = λ i j a b at_i at_j same. same_state i j a b numbered (all.each i a at_i) (all.each j b at_j) same;
        many = let count = all.count in omega arith;
      }

-- an automaton of at most n states, one for each set, has found all
module _ (positions : Positions) (firsts : List BitSet) (set : ℕ → ℕ → Type 0) (count : ℕ) (dfa : Automaton) (start_of : ℕ → ℕ) (few : count ≤ nowhere)
    (moves : (s byte : ℕ) → s < count → byte < 256
    → Stands set count (Next (TakesAt positions) (FollowsAt positions) (set s) byte) (moved dfa s byte))
    (starts : (k : ℕ) → k < length firsts → Stands set count (FirstAt firsts k) (start_of k)) where
  abbrev pub IsState : Way → ℕ → Type 0
  IsState way t = (q : ℕ) → set t q ↔ SetAfter positions firsts way q

  pub state_of : (way : Way) → IsWay positions firsts way → (t : ℕ) × (t < count) × IsState way t
  state_of way is = by_case (run_stands (TakesAt positions) (FollowsAt positions) set count dfa few moves way.word (FirstAt firsts way.start) (start_of way.start) is.bytes (starts way.start is.inside))
    where
      by_case : {t : ℕ} → Stands set count (SetAfter positions firsts way) t → (s : ℕ) × (s < count) × IsState way s
      by_case (for_none _ at none) = absurd (is.filled none)
      by_case (for_state t within has) = (t, within, has)
