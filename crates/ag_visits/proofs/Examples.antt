-- What `attribute` needs and gives, tried where the nearest wrong readings differ.
use Rattle.std.proofs.Common.{◌≡◌, ℕ, zero, suc, ◌<◌, true, false, List, [], ◌∷◌, Some, None, refl, ap, arith}
use Rattle.std.specs.Prelude.{pos, slice_get}
use Rattle.std.proofs.lemmas.Option.{slice_get_within, same_Some}
use Rattle.value_store.specs.declared.value.Value.TheVariants as value
use Rattle.value_store.specs.declared.value.ValType.TheVariants as ty
use Rattle.expr_lang.specs.Expression.{Expression, number}
use Rattle.expr_lang.specs.PureValues.{int, int_in}
use Rattle.tree_store.specs.Forest.{Node, IsChild, OnlyRoot, IsRoot}
use Rattle.ag_model.specs.Attribution.{AttributeGrammar}
use Rattle.ag_model.specs.Solution.{Solves, by_itself, type_family}
use Rattle.ag_model.specs.ValueTable.{ValueTable}
use Rattle.ag_model.specs.declared.attribution.Attribute.{Attribute}
use Rattle.ag_model.specs.declared.attribution.Place.TheVariants.{Own}
use Rattle.ag_visits.specs.Promise.{InheritsNone, HasRoot, instances, AreValues, HasOneSolution}

-- a family of two synthesized attributes, which are 1 and 2, and which nothing uses
abbrev pair : List Attribute
pair = record { name = []; of = ty.Int; synthesized = true } ∷ record { name = []; of = ty.Int; synthesized = true } ∷ []

abbrev constants : AttributeGrammar
constants = record {
  table = record {
    families = record { name = []; target = false } ∷ [];
    types = record { name = []; family = 0; base = None; items = [] } ∷ [];
  };
  attributes = pair ∷ [];
  equations = (record { target = Own 0; uses = [] } ∷ record { target = Own 1; uses = [] } ∷ []) ∷ [];
}

abbrev expressions : List (List Expression)
expressions = (number (pos 1) ∷ number (pos 2) ∷ []) ∷ []

abbrev leaf : List Node
leaf = record { ty = 0; children = []; fields = [] } ∷ []

-- an attribute that nothing uses is an instance like any other
pub unused_are_instances : instances constants leaf ≡ 2
unused_are_instances = refl

-- and its value isn't left at 0
abbrev half_done : ValueTable
half_done = record { nodes = 1; width = 2; values = value.Int (pos 1) ∷ value.Int (pos 0) ∷ [] }

pub unused_not_left_at_zero : AreValues [] [] constants expressions leaf [] half_done → ⊥
unused_not_left_at_zero are =
    let same : int (pos 0) ≡ int (pos 2) =
    are.solves.each 0 1 0 1 (Own 1) (record { target = Own 1; uses = [] }) (omega arith) (by_itself refl) refl refl in
    let number_same : pos 0 ≡ pos 2 = ap int_in same in
    cc

-- a family with an inherited attribute, and one without, whose type has a child of the first one
abbrev inheriting : AttributeGrammar
inheriting = record {
  table = record {
    families = record { name = []; target = false } ∷ record { name = []; target = false } ∷ [];
    types = record { name = []; family = 0; base = None; items = [] }
        ∷ record { name = []; family = 1; base = None; items = record { name = []; of = ty.Node 0 } ∷ [] } ∷ [];
  };
  attributes = (record { name = []; of = ty.Int; synthesized = false } ∷ []) ∷ [] ∷ [];
  equations = [] ∷ [] ∷ [];
}

abbrev over_a_leaf : List Node
over_a_leaf = record { ty = 0; children = []; fields = [] } ∷ record { ty = 1; children = 0 ∷ []; fields = [] } ∷ []

nothing_is : {X : Type 0} (i : ℕ) (x : X) → slice_get {X = X} [] i ≡ Some x → ⊥
nothing_is i x at = let within = slice_get_within [] i x at in omega (arith, within)

-- the root inherits nothing, though its child does
pub child_may_inherit : HasRoot inheriting over_a_leaf
child_may_inherit = (1, only, (λ a is. nothing_is a false is))
  where
    no_child : (p i : ℕ) → IsChild over_a_leaf p i 1 → ⊥
    no_child zero i at = nothing_is i 1 at
    no_child (suc zero) zero at = let same : 0 ≡ 1 = same_Some 0 1 at in omega (arith, same)
    no_child (suc zero) (suc i) at = nothing_is i 1 at
    no_child (suc (suc p)) i at = nothing_is i 1 at

    the_root : (n : ℕ) → IsRoot over_a_leaf n → n ≡ 1
    the_root zero root = absurd (root.no_child 1 0 refl)
    the_root (suc zero) root = refl
    the_root (suc (suc n)) root = let within = root.within in absurd (omega (arith, within))

    only : OnlyRoot over_a_leaf 1
    only = record { root = record { within = omega arith; no_child = no_child }; only = the_root }

-- where the root has an inherited attribute nothing gives it
pub root_may_not_inherit : HasRoot inheriting leaf → ⊥
root_may_not_inherit (r, only, inherits) = at_zero r only.root.within inherits
  where
    at_zero : (r : ℕ) → r < 1 → InheritsNone inheriting (type_family inheriting leaf r) → ⊥
    at_zero zero lt none = none 0 refl
    at_zero (suc r) lt none = omega (arith, lt)

-- solutions are one at the instances, and nothing is said elsewhere
pub free_elsewhere : HasOneSolution [] [] constants expressions []
free_elsewhere = record {
  values = λ n a. int (pos 0);
  solves = record { each = λ n a m e u q lt given is target. absurd (omega (arith, lt)) };
  only = λ others solves n a is. absurd (let lt = is.0 in omega (arith, lt));
}

pub others_solve_too : Solves [] [] constants expressions [] (λ n a. int (pos 1))
others_solve_too = record { each = λ n a m e u q lt given is target. absurd (omega (arith, lt)) }
