-- The moves of all sets make an automaton whose states stand for the sets.
use Rattle.std.proofs.Common.{◌≡◌, ℕ, ◌+◌, ◌*◌, ◌/◌, ◌%◌, ◌<◌, ◌==◌, false, List, length, slice_index, arith, refl, subst, ap, ◌∙◌, inl, inr}
use Rattle.std.proofs.lemmas.Bool.{ne_eqb}
use Rattle.std.proofs.lemmas.List.{get_or_default}
use Rattle.ck_base.specs.BitSet.{BitSet}
use Rattle.rex_dfa.specs.within.Positions.{TakesAt, FollowsAt}
use Rattle.rex_model.specs.Runs.{nowhere, moved, IsStateOf}
use Rattle.rex_dfa.specs.within.Subset.{Next, Stands, for_none, for_state, set_at, Building}
use Rattle.rex_model.specs.Tables.{IsDfa}
use Rattle.rex_dfa.specs.declared.positions.Positions.{Positions}
use Rattle.rex_model.specs.Runs.{Automaton}

-- from a state one moves by the table
pub moved_is : (dfa : Automaton) (s byte : ℕ) → s < nowhere → moved dfa s byte ≡ slice_index dfa.moves (256 * s + byte)
moved_is dfa s byte below =
    let other : (s == nowhere) ≡ false = ne_eqb s nowhere (λ same. omega arith) in
    rw other refl

module _ (positions : Positions) (firsts : List BitSet) (sets : List (List ℕ)) (dfa : Automaton)
    (building : Building positions firsts sets dfa.moves) (all : length dfa.moves ≡ 256 * length sets)
    (states : length dfa.accepts ≡ length sets) where
  pub moves_stand : (s byte : ℕ) → s < length sets → byte < 256
      → Stands (set_at positions sets) (length sets) (Next (TakesAt positions) (FollowsAt positions) (set_at positions sets s) byte) (moved dfa s byte)
  moves_stand s byte below small =
      let few = building.few in
      rw (moved_is dfa s byte (omega arith)) (building.goes s byte small (omega arith))

  pub state_of : {P : ℕ → Type 0} (t : ℕ) → Stands (set_at positions sets) (length sets) P t → IsStateOf dfa t
  state_of t (for_none _ is none) = inl is
  state_of t (for_state _ below has) = inr (omega arith)

  pub is_dfa : IsDfa dfa
  is_dfa = record {
    count = omega (arith, all, states);
    inside = λ k d within.
        let byte : k % 256 < 256 = omega arith in
        let place : 256 * (k / 256) + k % 256 ≡ k = omega arith in
        let goes = building.goes (k / 256) (k % 256) byte (rw place within) in
        subst (IsStateOf dfa) (ap (slice_index dfa.moves) place ∙ get_or_default dfa.moves k 0 d within) (state_of _ goes);
  }
