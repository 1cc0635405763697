-- By a plan that fits the visits to a whole tree evaluate each attribute once, after all that it uses.
use Rattle.std.proofs.Common.{◌≡◌, ◌≢◌, ℕ, zero, suc, ◌+◌, ◌<◌, ◌≤◌, inl, inr, Bool, List, ◌∙◌, ap, arith}
use Rattle.std.proofs.lemmas.Bool.{cases_eq}
use Rattle.ag_model.specs.Plans.{is_leave, counted}
use Rattle.ag_model.specs.declared.plan.PlanStep.{PlanStep}
use Rattle.ag_visits.specs.within.VisitedTree.{VisitedTree}
use Rattle.ag_visits.specs.within.Visits.{State, Fitting, IsSound}
use Rattle.ag_visits.specs.within.WholeVisits.{Reaches, at_once, by_turn, AreWhole}
use Rattle.ag_visits.proofs.KnownAtHand.{at_hand_known, not_yet}
use Rattle.ag_visits.proofs.OneSolution.{begins_sound, can_turn, steps_left, fewer_left, all_made}
use Rattle.ag_visits.proofs.Ticks.{IsFull, all_known}
use Rattle.ag_visits.proofs.TurnsAreSound.{one_more_turn}

module _ {V : Type 0} (val : ℕ → ℕ → List V → V) (t : VisitedTree) (kinds : ℕ → List Bool) (sets : ℕ → List (List ℕ)) (steps : ℕ → List PlanStep)
    (fit : Fitting t kinds sets steps) where
  reached_sound : (first s : State V) → Reaches val t steps first s → IsSound val t steps s
  reached_sound first _ (at_once is) = begins_sound val t kinds sets steps fit first is.current is.none
  reached_sound first _ (by_turn old new before runs turn) = one_more_turn val t kinds sets steps fit old new (reached_sound first old before) runs turn

  next_of : (first s : State V) → Reaches val t steps first s → s.current ≢ t.size
      → (n : State V) × Reaches val t steps first n × (steps_left val t kinds sets steps fit n + 1 ≡ steps_left val t kinds sets steps fit s)
  next_of first s reached other =
      let sound = reached_sound first s reached in
      let inside = sound.inside in
      let runs : s.current < t.size = omega arith in
      let (n, turn) = can_turn val t kinds sets steps fit s sound runs in
      (n, by_turn s n reached runs turn, fewer_left val t kinds sets steps fit s n sound runs turn)

  ends : (fuel : ℕ) (first s : State V) → Reaches val t steps first s → steps_left val t kinds sets steps fit s ≤ fuel
      → (last : State V) × Reaches val t steps first last × (last.current ≡ t.size)
  ends zero first s reached few = elim (cases_eq s.current t.size) [
    | inl done ↦ (s, reached, done)
    | inr other ↦ let (n, next, less) = next_of first s reached other in absurd (omega (arith, few, less))
  ]
  ends (suc fuel) first s reached few = elim (cases_eq s.current t.size) [
    | inl done ↦ (s, reached, done)
    | inr other ↦ let (n, next, less) = next_of first s reached other in ends fuel first n next (omega (arith, few, less))
  ]

  pub are_whole : IsFull val t kinds sets steps fit → AreWhole val t kinds sets steps
  are_whole full = record {
    end = λ first is. ends (steps_left val t kinds sets steps fit first) first first (at_once is) (omega arith);
    often = λ first last n reached done within.
        let sound = reached_sound first last reached in
        let made = all_made val t kinds sets steps fit last sound done t.size n (omega arith) within in
        ap (counted is_leave (steps n)) made ∙ (fit.types n within).visits;
    all = λ first last n a reached done within below.
        all_known val t kinds sets steps fit full last (reached_sound first last reached) done n a within below;
    after = λ first s e q u reached due has.
        at_hand_known val t kinds sets steps fit s (reached_sound first s reached) due.runs u
        ((fit.types s.current due.runs).after (s.position s.current) e q u due.is_step due.is_there has);
    once = λ first s e q reached due known.
        not_yet val t kinds sets steps fit s.position s.current e q due.runs due.is_step due.is_there known;
  }
