-- Whether a plan fits, step by step.
use Rattle.std.specs.Prelude.{◌≡◌, ℕ, ◌+◌, ◌-◌, ◌<◌, List, length, Option, Some, None, slice_get, Contains}
use Rattle.ag_model.specs.Attribution.{PureEquation}
use Rattle.ag_model.specs.Plans.{counted, is_leave, is_visit, visit_count, TakesIn, Gives, AtHand, EvaluatedBefore}
use Rattle.ag_model.specs.declared.attribution.Place.{Place}
use Rattle.ag_model.specs.declared.attribution.Place.TheVariants.{Own, Child}
use Rattle.ag_model.specs.declared.plan.PlanStep.{PlanStep}
use Rattle.ag_model.specs.declared.plan.PlanStep.TheVariants.{Evaluate, Visit, Leave}

-- the attribute's place: of the node itself, or of the child of this number
abbrev pub place_in : Option ℕ → ℕ → Place
place_in None a = Own a
place_in (Some c) a = Child c a

-- what a plan that fits asks of step i
abbrev pub StepFits : List (List ℕ) → (ℕ → List (List ℕ)) → ℕ → List PureEquation → List PlanStep → ℕ → PlanStep → Type 0
StepFits sets below children equations steps i (Evaluate e) =
    (e < length equations) × ((j : ℕ) → j < i → slice_get steps j ≡ Some (Evaluate e) → ⊥)
    × ((q : PureEquation) (u : Place) → slice_get equations e ≡ Some q → Contains q.uses u → AtHand sets below equations steps i u)
StepFits sets below children equations steps i (Visit c v) =
    (c < children) × (v ≡ counted (is_visit c) steps i + 1)
    × ((a : ℕ) → TakesIn (below c) v a → EvaluatedBefore equations steps i (Child c a))
StepFits sets below children equations steps i Leave =
    (a : ℕ) → Gives sets (counted is_leave steps i + 1) a → EvaluatedBefore equations steps i (Own a)

-- the steps of a type fit: what `TypeFits` asks, with what it asks of each step together
pub record FitsBySteps (sets : List (List ℕ)) (below : ℕ → List (List ℕ)) (children : ℕ) (equations : List PureEquation) (steps : List PlanStep) : Type 0 where
  pub visits : counted is_leave steps (length steps) ≡ visit_count sets
  pub ends : slice_get steps (length steps - 1) ≡ Some Leave
  pub some : (e : ℕ) → e < length equations → (i : ℕ) × slice_get steps i ≡ Some (Evaluate e)
  pub each : (i : ℕ) (st : PlanStep) → slice_get steps i ≡ Some st → StepFits sets below children equations steps i st
  pub all : (c : ℕ) → c < children → counted (is_visit c) steps (length steps) ≡ visit_count (below c)
