-- The steps of all types, and the report on the first type whose EDP has a cycle.
use Rattle.std.specs.Prelude.{◌≡◌, ℕ, ◌<◌, List, [], length, Vec, slice_get, Some}
use Rattle.std.specs.Global.{Global}
use Rattle.ast_types.specs.TypeTable.{type_at}
use Rattle.ck_base.specs.Pairs.{Closure}
use Rattle.ag_model.specs.Attribution.{AttributeGrammar, family_of, children_of, equations_of}
use Rattle.ag_model.specs.Ordered.{Edp, IsAcyclic, IsBefore, IsEdpReport, place_name}
use Rattle.ag_model.specs.Plans.{TypeFits, sets_of, child_sets}
use Rattle.ag_model.specs.declared.attribution.Place.{Place}
use Rattle.ag_model.specs.declared.plan.PlanStep.{PlanStep}
use Rattle.ag_depend.specs.declared.fault.OrderFault.{OrderFault}
use Rattle.ag_depend.specs.declared.fault.OrderFault.TheVariants.{NotOrdered, NoMemory}

-- the report on the EDP of this type: the names of the type and of its first place on a cycle
pub record IsTypeReport (g : AttributeGrammar) (t : ℕ) (holder target : List ℕ) : Type 0 where
  pub place : Place
  pub cycle : Closure (Edp g t) place place
  pub first : (w : Place) → IsBefore w place → Closure (Edp g t) w w → ⊥
  pub holder_is : holder ≡ (type_at g.table.types t).name
  pub target_is : target ≡ place_name g t place

-- the EDP of this type has a cycle, and this is the report on it; want of memory says nothing
abbrev pub SaysEdpCycle : AttributeGrammar → ℕ → OrderFault → Type 0
SaysEdpCycle g t (NotOrdered holder target) = IsTypeReport g t holder target
SaysEdpCycle g t NoMemory = Unit {0}

-- it is the first type whose EDP has one
abbrev pub SaysFirstEdpCycle : AttributeGrammar → OrderFault → Type 0
SaysFirstEdpCycle g (NotOrdered holder target) = IsEdpReport g holder target
SaysFirstEdpCycle g NoMemory = Unit {0}

-- the steps of a type fit, by these sets
abbrev pub StepsFit : AttributeGrammar → List (List (List ℕ)) → ℕ → List PlanStep → Type 0
StepsFit g sets t steps =
    TypeFits (sets_of (record { sets = sets; steps = [] }) (family_of g t)) (child_sets g (record { sets = sets; steps = [] }) t)
    (length (children_of g t)) (equations_of g t) steps

-- the steps of the first types fit, and no EDP of these has a cycle
pub record AreSteps (g : AttributeGrammar) (sets : List (List (List ℕ))) (end : ℕ) (all : List (Vec PlanStep Global)) : Type 0 where
  pub count : length all ≡ end
  pub fit : (t : ℕ) (row : Vec PlanStep Global) → slice_get all t ≡ Some row → StepsFit g sets t row.items
  pub acyclic : (t : ℕ) → t < end → IsAcyclic (Edp g t)
