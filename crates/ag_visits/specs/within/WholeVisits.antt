-- The visits to a whole tree, from the first to the last.
use Rattle.std.specs.Prelude.{◌≡◌, ℕ, ◌+◌, ◌<◌, Bool, List, length, Some, slice_get, Contains}
use Rattle.ag_model.specs.Attribution.{PureEquation}
use Rattle.ag_model.specs.Plans.{is_leave, counted, visit_count}
use Rattle.ag_model.specs.Solution.{attribute_of}
use Rattle.ag_model.specs.declared.attribution.Place.{Place}
use Rattle.ag_model.specs.declared.plan.PlanStep.{PlanStep}
use Rattle.ag_model.specs.declared.plan.PlanStep.TheVariants.{Evaluate}
use Rattle.ag_visits.specs.within.VisitedTree.{VisitedTree, node_at}
use Rattle.ag_visits.specs.within.Visits.{State, Known, Turn}

-- the root is to be visited, and no node has made a step
pub record IsFirst {V : Type 0} (t : VisitedTree) (s : State V) : Type 0 where
  pub current : s.current + 1 ≡ t.size
  pub none : (n : ℕ) → s.position n ≡ 0

-- turns, one after the other
pub data Reaches {V : Type 0} (val : ℕ → ℕ → List V → V) (t : VisitedTree) (steps : ℕ → List PlanStep) (first : State V) : State V → Type 0 where
  at_once : IsFirst t first → Reaches val t steps first first
  by_turn : (old new : State V) → Reaches val t steps first old → old.current < t.size → Turn val t steps old new → Reaches val t steps first new

-- an equation is to be evaluated at the node that is visited
pub record IsDue {V : Type 0} (t : VisitedTree) (steps : ℕ → List PlanStep) (s : State V) (e : ℕ) (q : PureEquation) : Type 0 where
  pub runs : s.current < t.size
  pub is_step : slice_get (steps s.current) (s.position s.current) ≡ Some (Evaluate e)
  pub is_there : slice_get (t.equations s.current) e ≡ Some q

-- the visits come to an end; then each node was visited as often as its family's number, and each attribute was evaluated:
-- after all that its equation uses, and not before
pub record AreWhole {V : Type 0} (val : ℕ → ℕ → List V → V) (t : VisitedTree) (kinds : ℕ → List Bool) (sets : ℕ → List (List ℕ)) (steps : ℕ → List PlanStep) : Type 0 where
  pub end : (first : State V) → IsFirst t first → (last : State V) × Reaches val t steps first last × (last.current ≡ t.size)
  pub often : (first last : State V) (n : ℕ) → Reaches val t steps first last → last.current ≡ t.size → n < t.size
      → counted is_leave (steps n) (last.position n) ≡ visit_count (sets n)
  pub all : (first last : State V) (n a : ℕ) → Reaches val t steps first last → last.current ≡ t.size → n < t.size → a < length (kinds n)
      → Known t steps last.position n a
  pub after : (first s : State V) (e : ℕ) (q : PureEquation) (u : Place) → Reaches val t steps first s → IsDue t steps s e q → Contains q.uses u
      → Known t steps s.position (node_at t s.current u) (attribute_of u)
  pub once : (first s : State V) (e : ℕ) (q : PureEquation) → Reaches val t steps first s → IsDue t steps s e q
      → Known t steps s.position (node_at t s.current q.target) (attribute_of q.target) → ⊥
