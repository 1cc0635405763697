-- Which equation a type has, and what it uses, tried where the nearest wrong reading differs.
use Rattle.std.proofs.Common.{◌≡◌, ℕ, ◌⊎◌, inl, inr, true, false, List, [], ◌∷◌, Some, None, refl, sym, ◌∙◌, ap, arith, codes}
use Rattle.std.specs.Prelude.{pos, Contains}
use Rattle.value_store.specs.declared.value.ValType.{ValType}
use Rattle.value_store.specs.declared.value.ValType.TheVariants as ty
use Rattle.ast_types.specs.TypeTable.{TypeTable}
use Rattle.expr_lang.specs.Expression.{number, var}
use Rattle.ag_model.specs.Attribution.{AttributeGrammar, PureEquation}
use Rattle.ag_model.specs.Coverage.{Holder, a_type, a_family, RightSide, behind, IsNearest, own, from_behind, IsCopy, IsCovered, declared, copied}
use Rattle.ag_model.specs.Typed.{IsTyped}
use Rattle.ag_model.specs.declared.attribution.Attribute.{Attribute}
use Rattle.ag_model.specs.declared.attribution.Place.TheVariants.{Own, Child}

-- type 0, which extends no type, and type 1, which extends it; both have a child of their own family, whose
-- attributes are these
abbrev grammar_of_family : List Attribute → List PureEquation → AttributeGrammar
grammar_of_family attributes equations = record {
  table = record {
    families = record { name = []; target = false } ∷ [];
    types = record { name = []; family = 0; base = None; items = record { name = []; of = ty.Node 0 } ∷ [] }
        ∷ record { name = []; family = 0; base = Some 0; items = record { name = []; of = ty.Node 0 } ∷ [] } ∷ [];
  };
  attributes = attributes ∷ [];
  equations = equations ∷ [] ∷ [];
}

-- a right side that is a number
abbrev right : ℕ → RightSide
right n = record { uses = []; value = number (pos n) }

-- type 0 declares that it is 1, the family that it is 2
abbrev Declares : Holder → RightSide → Type 0
Declares h r = ((h ≡ a_type 0) × (r ≡ right 1)) ⊎ ((h ≡ a_family 0) × (r ≡ right 2))

abbrev table : TypeTable
table = let g = grammar_of_family [] [] in g.table

family_is_no_type : (x t : ℕ) (h : Holder) → h ≡ a_type t → h ≡ a_family x → ⊥
family_is_no_type x t h one two = let e : a_type t ≡ a_family x = sym one ∙ two in cc

-- the type's own is taken, and not the family's
pub own_before_family : (h : Holder) (r : RightSide) → h ≡ a_type 0 → IsNearest table Declares h r → r ≡ right 1
own_before_family h r is (own _ _ (inl d)) = d.1
own_before_family h r is (own _ _ (inr d)) = absurd (family_is_no_type 0 0 h is d.0)
own_before_family h r is (from_behind t _ _ none _ _) = absurd (none (right 1) (inl (is, refl)))

-- and so is the base's
pub base_before_family : (h : Holder) (r : RightSide) → h ≡ a_type 1 → IsNearest table Declares h r → r ≡ right 1
base_before_family h r is (own _ _ (inl d)) = d.1
base_before_family h r is (own _ _ (inr d)) = absurd (family_is_no_type 0 1 h is d.0)
base_before_family h r is (from_behind t k _ none k_is rest) = step t k is k_is rest
  where
    step : (t : ℕ) (k : Holder) → a_type t ≡ a_type 1 → k ≡ behind table t → IsNearest table Declares k r → r ≡ right 1
    step t k same k_is rest =
        let one : t ≡ 1 = cc in
        own_before_family k r (k_is ∙ ap (behind table) one) rest

-- an inherited attribute of ints, and one of bools of the same name, of family 0
abbrev inherited : ValType → Attribute
inherited of = record { name = codes "i"; of = of; synthesized = false }

-- the copy of i to the child: its number is that of the own one
pub copy_of_the_name : IsCopy (grammar_of_family (inherited ty.Int ∷ []) []) 0 (Child 0 0) (record { uses = Own 0 ∷ []; value = var 0 })
copy_of_the_name = record {
  child = 0;
  number = 0;
  own_number = 0;
  to = inherited ty.Int;
  from = inherited ty.Int;
  place = refl;
  to_there = refl;
  from_there = refl;
  to_inherited = refl;
  from_inherited = refl;
  same_name = refl;
  same_type = refl;
  uses = refl;
  value = refl;
}

-- a synthesized attribute isn't copied, whatever its name
abbrev synthesized : Attribute
synthesized = record { name = codes "i"; of = ty.Int; synthesized = true }

pub no_copy_of_synthesized : (r : RightSide) → IsCopy (grammar_of_family (synthesized ∷ []) []) 0 (Child 0 0) r → ⊥
no_copy_of_synthesized r copy =
    let place = copy.place in
    let there = copy.to_there in
    let e : Some synthesized ≡ Some copy.to = there in
    let same : synthesized ≡ copy.to = cc in
    let kind : true ≡ false = ap (λ (a : Attribute). a.synthesized) same ∙ copy.to_inherited in
    cc

apart : (n m : ℕ) → a_type n ≡ a_type m → n ≡ 1 → m ≡ 0 → ⊥
apart n m same one none = let e : n ≡ m = cc in omega (arith, e)

-- where a base declares an equation for the child's attribute there is no copy
pub no_copy_beside_the_base : (r : RightSide)
    → IsCovered (grammar_of_family (inherited ty.Int ∷ []) []) (λ h u. Declares h) 1 (Child 0 0) r → r ≡ right 1
no_copy_beside_the_base r (declared _ nearest) = base_before_family (a_type 1) r refl nearest
no_copy_beside_the_base r (copied _ none copy) = absurd (none (right 1) the_base)
  where
    the_base : IsNearest table Declares (a_type 1) (right 1)
    the_base = from_behind 1 (a_type 0) (right 1) (λ q d. not_here q d) refl (own (a_type 0) (right 1) (inl (refl, refl)))
      where
        not_here : (q : RightSide) → Declares (a_type 1) q → ⊥
        not_here q (inl d) = apart 1 0 d.0 refl refl
        not_here q (inr d) = family_is_no_type 0 1 (a_type 1) refl d.0

-- s = 5 doesn't mention i, so that it doesn't use it
abbrev unused : PureEquation
unused = record { target = Own 0; uses = Own 1 ∷ [] }

pub use_is_mentioned : (attributes : List Attribute)
    → IsTyped (grammar_of_family attributes (unused ∷ [])) ((number (pos 5) ∷ []) ∷ []) → ⊥
use_is_mentioned attributes typed = nothing (typed.named 0 0 0 unused refl (omega arith))
  where
    nothing : Contains {X = ℕ} [] 0 → ⊥
    nothing (k, lt, is) = omega (arith, lt)
