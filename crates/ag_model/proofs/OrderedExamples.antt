-- Dependencies, their cycles and their reports, tried where the nearest wrong reading differs.
use Rattle.std.proofs.Common.{◌≡◌, ℕ, inl, inr, true, false, List, [], ◌∷◌, Some, None, refl, arith, codes}
use Rattle.value_store.specs.declared.value.ValType.TheVariants as ty
use Rattle.ck_base.specs.Pairs.Closure.{one as once}
use Rattle.ag_model.specs.Attribution.{AttributeGrammar, PureEquation, itself, nth, Stands}
use Rattle.ag_model.specs.Complete.{IsGiven}
use Rattle.ag_model.specs.Induced.{Ids}
use Rattle.ag_model.specs.Induced.Idp.{direct, lifted}
use Rattle.ag_model.specs.Induced.Joined.{one, more}
use Rattle.ag_model.specs.Induced.Ids.{joined}
use Rattle.ag_model.specs.Ordered.{HasAcyclicIds, IsBefore, own_own, own_child, same_child, next_child, place_name}
use Rattle.ag_model.specs.Plans.{AtHand}
use Rattle.ag_model.specs.declared.attribution.Attribute.{Attribute}
use Rattle.ag_model.specs.declared.attribution.Place.{Place}
use Rattle.ag_model.specs.declared.attribution.Place.TheVariants.{Own, Child}
use Rattle.ag_model.specs.declared.plan.PlanStep.{PlanStep}
use Rattle.ag_model.specs.declared.plan.PlanStep.TheVariants.{Visit}

-- s, which is synthesized, and i, which is inherited
abbrev two : List Attribute
two = record { name = codes "s"; of = ty.Int; synthesized = true } ∷ record { name = codes "i"; of = ty.Int; synthesized = false } ∷ []

-- type T has a child x of the family of L, and x.i = x.s; in L is s = i
abbrev of_top : PureEquation
of_top = record { target = Child 0 1; uses = Child 0 0 ∷ [] }

abbrev of_leaf : PureEquation
of_leaf = record { target = Own 0; uses = Own 1 ∷ [] }

abbrev circular : AttributeGrammar
circular = record {
  table = record {
    families = record { name = codes "Top"; target = false } ∷ record { name = codes "Sub"; target = false } ∷ [];
    types = record { name = codes "T"; family = 0; base = None; items = record { name = codes "x"; of = ty.Node 1 } ∷ [] }
        ∷ record { name = codes "L"; family = 1; base = None; items = [] } ∷ [];
  };
  attributes = [] ∷ two ∷ [];
  equations = (of_top ∷ []) ∷ (of_leaf ∷ []) ∷ [];
}

-- in T alone i needs s, at the child
pub i_needs_s : Ids circular 1 0 1
i_needs_s =
    joined 0 (nth 0) 1 0 1 (record { type_there = omega arith; family = refl }) (one 0 (Child 0 0) (Child 0 1)
    (direct 0 (Child 0 0) (Child 0 1) (record { equation = of_top; is_there = (0, omega arith, refl); target = refl; used = (0, omega arith, refl) })))

-- so s needs itself, though no type's own equations say so
pub s_needs_itself : Ids circular 1 0 0
s_needs_itself =
    let stands : Stands circular 1 itself 1 = record { type_there = omega arith; family = refl } in
    joined 1 itself 1 0 0 stands (more 1 (Own 0) (Own 1) (Own 0) (lifted 1 itself 1 0 1 stands i_needs_s) (one 1 (Own 1) (Own 0)
    (direct 1 (Own 1) (Own 0) (record { equation = of_leaf; is_there = (0, omega arith, refl); target = refl; used = (0, omega arith, refl) }))))

pub circular_by_types : HasAcyclicIds circular → ⊥
circular_by_types free = free 1 0 (once 0 0 s_needs_itself)

-- the name of a place of a child, as reports have it
pub child_place_name : place_name circular 0 (Child 0 1) ≡ codes "x.i"
child_place_name = refl

-- own attributes come first, whatever their numbers
pub own_before_child : IsBefore (Own 7) (Child 0 0)
own_before_child = own_child 7 0 0

pub child_not_before_own : (u w : Place) (c a b : ℕ) → u ≡ Child c a → w ≡ Own b → IsBefore u w → ⊥
child_not_before_own u w c a b first second (own_own x y lt) = let e : Own x ≡ Child c a = first in cc
child_not_before_own u w c a b first second (own_child x d y) = let e : Child d y ≡ Own b = second in cc
child_not_before_own u w c a b first second (same_child d x y lt) = let e : Child d y ≡ Own b = second in cc
child_not_before_own u w c a b first second (next_child d x k y lt) = let e : Child k y ≡ Own b = second in cc

-- a type's equations don't give its own inherited attribute, and no synthesized one of a child
pub own_inherited_not_given : IsGiven circular 1 (Own 1) → ⊥
own_inherited_not_given (attribute, there, kind) = wrong attribute there kind
  where
    wrong : (attribute : Attribute) → Some (record { name = codes "i"; of = ty.Int; synthesized = false }) ≡ Some attribute → attribute.synthesized ≡ true → ⊥
    wrong attribute there kind = let e : (record { name = codes "i"; of = ty.Int; synthesized = false }) ≡ attribute = cc in cc

pub child_synthesized_not_given : IsGiven circular 0 (Child 0 0) → ⊥
child_synthesized_not_given (attribute, there, kind) = wrong attribute there kind
  where
    wrong : (attribute : Attribute) → Some (record { name = codes "s"; of = ty.Int; synthesized = true }) ≡ Some attribute → attribute.synthesized ≡ false → ⊥
    wrong attribute there kind = let e : (record { name = codes "s"; of = ty.Int; synthesized = true }) ≡ attribute = cc in cc

-- what a child's visit gives isn't at hand before that visit
pub not_before_the_visit : (sets : List (List ℕ)) (below : ℕ → List (List ℕ)) (equations : List PureEquation) (steps : List PlanStep)
    → AtHand sets below equations (Visit 0 1 ∷ steps) 0 (Child 0 0) → ⊥
not_before_the_visit sets below equations steps (inl (j, lt, evaluates)) = omega (arith, lt)
not_before_the_visit sets below equations steps (inr (j, v, lt, is, gives)) = omega (arith, lt)
