-- The sets, the moves and the least marks make a table.
use Rattle.std.proofs.Common.{◌≡◌, ℕ, ◌*◌, ◌<◌, ◌≤◌, List, [], length, get_or, slice_get, slice_index, Some, None, arith, refl, sym, subst, ◌∙◌}
use Rattle.std.proofs.lemmas.Bool.{ne_eqb}
use Rattle.std.proofs.lemmas.Option.{slice_get_within, get_or_from_slice_get}
use Rattle.ck_base.specs.BitSet.{BitSet}
use Rattle.ck_base.specs.Numbered.{AreNumbered}
use Rattle.ck_base.proofs.Counting.{collect}
use Rattle.ck_base.proofs.Representing.{element_at}
use Rattle.rex_model.specs.Sets.{ComesNext}
use Rattle.rex_dfa.specs.within.Marks.{IsLeast, HasMark, MarksSets}
use Rattle.rex_dfa.specs.within.Parts.{IsTable}
use Rattle.rex_dfa.specs.within.Positions.{TakesAt, FollowsAt}
use Rattle.rex_model.specs.Runs.{nowhere, moved, run, accepted, AreBytes}
use Rattle.rex_dfa.specs.within.Subset.{Next, Stands, for_none, for_state, set_at, FirstAt, IsGrown, AreStarts, Building}
use Rattle.rex_dfa.specs.declared.positions.Positions.{Positions}
use Rattle.rex_model.specs.Runs.{Automaton}
use Rattle.rex_dfa.proofs.CountsOfSets.{LeadsTo, way_to, same_state, state_of}
use Rattle.rex_dfa.proofs.DfaOfSets as dfas
use Rattle.rex_dfa.proofs.MoreMoves.{stands_still}
use Rattle.rex_dfa.proofs.SetRuns.{run_stands}
use Rattle.rex_dfa.proofs.WinnersOfTables.{least_alike}

module _ (positions : Positions) (firsts : List BitSet) (old sets : List (List ℕ)) (starts : List ℕ) (dfa : Automaton) (marks : List ℕ)
    (begun : AreStarts positions firsts old starts (length firsts)) (grown : IsGrown old sets)
    (building : Building positions firsts sets dfa.moves) (all : length dfa.moves ≡ 256 * length sets)
    (marked : MarksSets marks positions.size sets dfa.accepts (length sets)) (numbered : AreNumbered sets) where
  moves : (s byte : ℕ) → s < length sets → byte < 256
      → Stands (set_at positions sets) (length sets) (Next (TakesAt positions) (FollowsAt positions) (set_at positions sets s) byte) (moved dfa s byte)
  moves = dfas.moves_stand positions firsts sets dfa building all marked.count

  starts_stand : (k : ℕ) → k < length firsts → Stands (set_at positions sets) (length sets) (FirstAt firsts k) (slice_index starts k)
  starts_stand k below = stands_still positions firsts old sets grown (FirstAt firsts k) (slice_index starts k) (begun.begins k below)

  few : length sets ≤ nowhere
  few = let few = building.few in omega arith

  accepts_at : (s : ℕ) → s < length sets → IsLeast (λ i. (q : ℕ) × (slice_get marks i ≡ Some q) × set_at positions sets s q) (accepted dfa s)
  accepts_at s below = rw (accepted_is s (omega (arith, building.few))) (marked.least s below)
    where
      accepted_is : (s : ℕ) → s < nowhere → accepted dfa s ≡ get_or dfa.accepts s None
      accepted_is s small = rw (ne_eqb s nowhere (λ same. omega arith)) refl

  least_after : (k : ℕ) (w : List ℕ) → k < length firsts → AreBytes w
      → IsLeast (λ i. (q : ℕ) × (slice_get marks i ≡ Some q) × ComesNext (TakesAt positions) (FollowsAt positions) (FirstAt firsts k) w q)
      (accepted dfa (run dfa (slice_index starts k) w))
  least_after k w below small = by_state (run_stands (TakesAt positions) (FollowsAt positions) (set_at positions sets) (length sets) dfa few moves w (FirstAt firsts k) (slice_index starts k) small (starts_stand k below))
    where
      by_state : {t : ℕ} → Stands (set_at positions sets) (length sets) (ComesNext (TakesAt positions) (FollowsAt positions) (FirstAt firsts k) w) t
          → IsLeast (λ i. (q : ℕ) × (slice_get marks i ≡ Some q) × ComesNext (TakesAt positions) (FollowsAt positions) (FirstAt firsts k) w q) (accepted dfa t)
      by_state (for_none _ is none) = rw is (λ i h. none h.0 h.2)
      by_state (for_state t within has) = least_alike _ _ (accepted dfa t) (λ i. (λ h. (h.0, h.1, (has h.0).0 h.2), λ h. (h.0, h.1, (has h.0).1 h.2))) (accepts_at t within)

  inside_marks : (s i : ℕ) → s < length dfa.accepts → get_or dfa.accepts s None ≡ Some i → i < length marks
  inside_marks s i within at =
      let least : IsLeast (HasMark marks (record { size = positions.size; words = get_or sets s [] })) (Some i) = subst (IsLeast (HasMark marks (record { size = positions.size; words = get_or sets s [] }))) at (marked.least s (omega (arith, marked.count))) in
      slice_get_within marks i least.0.0 least.0.1

  pub table_is : IsTable positions firsts marks starts dfa
  table_is =
      let found = collect (LeadsTo positions firsts sets building.sets_reached) (length sets) (way_to positions firsts sets building.sets_reached) in
      record {
        is_dfa = dfas.is_dfa positions firsts sets dfa building all marked.count;
        few = rw marked.count building.few;
        starts_count = begun.count;
        inside = λ k below. dfas.state_of positions firsts sets dfa building all marked.count (slice_index starts k) (starts_stand k below);
        zero_first = begun.zero_first;
        least = least_after;
        marked = λ s i at. inside_marks s i (slice_get_within dfa.accepts s (Some i) at) (get_or_from_slice_get dfa.accepts s (Some i) None at);
        ways = found.list;
        represent = record {
          each = λ i way is. (found.each i way is).is_way;
          apart = λ i j a b at_i at_j same. same_state positions firsts sets building.sets_reached i j a b numbered (found.each i a at_i) (found.each j b at_j) same;
          all = λ way is.
              let (t, below, at) = state_of positions firsts (set_at positions sets) (length sets) dfa (slice_index starts) few moves starts_stand way is in
              let (a, is_a) = element_at found.list t (omega (arith, found.count)) in
              let leads = found.each t a is_a in
              (t, a, is_a, λ q. (λ h. (leads.same q).0 ((at q).1 h), λ h. (at q).0 ((leads.same q).1 h)));
        };
        as_many = found.count ∙ sym marked.count;
      }
