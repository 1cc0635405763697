-- What a plan has for one type.
use Rattle.std.specs.Prelude.{◌≡◌, ℕ, ◌+◌, ◌<◌, ◌≤◌, List, length, Some, slice_get}
use Rattle.ag_model.specs.Attribution.{AttributeGrammar, PureEquation, grammar_of, family_of, children_of, equations_of}
use Rattle.ag_model.specs.Plans.{PurePlan, sets_of, steps_of, child_sets, counted, is_leave, TakesIn, Gives, AtHand, TypeFits}
use Rattle.ag_model.specs.declared.attribution.Place.{Place}
use Rattle.ag_model.specs.declared.attribution.Place.TheVariants.{Own, Child}
use Rattle.ag_model.specs.declared.fits.TypePlan.{TypePlan}
use Rattle.ag_model.specs.declared.plan.PlanStep.{PlanStep}
use Rattle.ag_model.specs.declared.plan.PlanStep.TheVariants.{Visit}
use Rattle.ag_model.specs.within.StepFits.{StepFits}

-- the attribute grammar that the plan is for
abbrev pub g_of : TypePlan → AttributeGrammar
g_of p = grammar_of p.types.now p.a.now

-- the sets of the type's own family
abbrev pub own_sets : TypePlan → List (List ℕ)
own_sets p = sets_of p.plan.now (family_of (g_of p) p.t)

-- the sets of the families of its children
abbrev pub below : TypePlan → ℕ → List (List ℕ)
below p = child_sets (g_of p) p.plan.now p.t

-- how many children it has
abbrev pub child_total : TypePlan → ℕ
child_total p = length (children_of (g_of p) p.t)

-- its equations
abbrev pub own_equations : TypePlan → List PureEquation
own_equations p = equations_of (g_of p) p.t

-- its steps
abbrev pub own_steps : TypePlan → List PlanStep
own_steps p = steps_of p.plan.now p.t

-- the type is there
abbrev pub IsOfType : TypePlan → Type 0
IsOfType p = p.t < length p.types.now.types

-- step i may be this one
abbrev pub MayStep : TypePlan → ℕ → PlanStep → Type 0
MayStep p = StepFits (own_sets p) (below p) (child_total p) (own_equations p) (own_steps p)

-- an equation at step i may use the place
abbrev pub MayUse : TypePlan → ℕ → Place → Type 0
MayUse p = AtHand (own_sets p) (below p) (own_equations p) (own_steps p)

-- the steps of the type fit
abbrev pub FitsAt : AttributeGrammar → PurePlan → ℕ → Type 0
FitsAt g plan t = TypeFits (sets_of plan (family_of g t)) (child_sets g plan t) (length (children_of g t)) (equations_of g t) (steps_of plan t)

-- a visit up to step i brought the place
abbrev pub CameByVisit : TypePlan → ℕ → Place → Type 0
CameByVisit p i (Own a) = (v : ℕ) × (v ≤ counted is_leave (own_steps p) i + 1) × TakesIn (own_sets p) v a
CameByVisit p i (Child c a) =
    (j : ℕ) × (v : ℕ) × (j < i) × (slice_get (own_steps p) j ≡ Some (Visit c v)) × Gives (below p c) v a
