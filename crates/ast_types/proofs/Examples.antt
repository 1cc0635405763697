-- Items, bases and what a type is, each tried on a case where the nearest wrong reading differs.
use Rattle.std.proofs.Common.{◌≡◌, ℕ, zero, suc, ◌<◌, ◌≤◌, ◌⊎◌, inl, inr, List, [], ◌∷◌, length, true, false, Some, None, refl, sym, ap, arith}
use Rattle.std.specs.Prelude.{codes, All}
use Rattle.std.proofs.lemmas.List.Elements.{All-head, All-cons, All-nil}
use Rattle.value_store.specs.PlainTypes.{IsPlain, plain_int, plain_bool, plain_text}
use Rattle.value_store.specs.declared.value.ValType.{ValType}
use Rattle.value_store.specs.declared.value.ValType.TheVariants as ty
use Rattle.ast_types.specs.FitTypes.{HasFitItems}
use Rattle.ast_types.specs.Items.{child_families, field_types}
use Rattle.ast_types.specs.TypeTable.{Family, NodeType, TypeTable, family_at, type_at, IsA, itself, extends, base_items, BaseFits, IsSound}
use Rattle.ast_types.proofs.Climbing.{climb, at_top, same_Some}
use Rattle.ast_types.specs.declared.item.Item.{Item}

abbrev pub left : Item
left = record { name = codes "left"; of = ty.Node 0 }

abbrev pub sign : Item
sign = record { name = codes "sign"; of = ty.Int }

abbrev pub right : Item
right = record { name = codes "right"; of = ty.Node 1 }

-- children and fields are numbered apart, each in the order of the items
children_apart : child_families (left ∷ sign ∷ right ∷ []) ≡ 0 ∷ 1 ∷ []
children_apart = refl

fields_apart : field_types (left ∷ sign ∷ right ∷ []) ≡ ty.Int ∷ []
fields_apart = refl

-- type 0 extends its family alone; type 1 extends type 0, and type 2 extends type 1; type 3 is type 0's brother
abbrev pub types : List NodeType
types =
    record { name = codes "Any"; family = 0; base = None; items = left ∷ [] }
    ∷ record { name = codes "Both"; family = 0; base = Some 0; items = left ∷ right ∷ [] }
    ∷ record { name = codes "Signed"; family = 0; base = Some 1; items = left ∷ right ∷ sign ∷ [] }
    ∷ record { name = codes "Other"; family = 0; base = None; items = [] }
    ∷ []

-- a base gives all its items, those of its own base too
all_items : base_items types (Some 1) ≡ left ∷ right ∷ []
all_items = refl

no_items : base_items types None ≡ []
no_items = refl

-- what a type is goes over any number of bases
is_far_base : IsA types 2 0
is_far_base = extends 2 1 0 refl (extends 1 0 0 refl (itself 0))

-- each type is itself
is_itself : IsA types 3 3
is_itself = itself 3

-- and not the other way round: a base isn't what extends it
base_is_not : IsA types 0 1 → ⊥
base_is_not = at_top types 0 1 refl (λ e. omega (arith, e))

-- types of one family aren't one another
brothers_are_not : IsA types 1 3 → ⊥
brothers_are_not is = at_top types 0 3 refl (λ e. omega (arith, e)) (climb types 1 0 3 refl (λ e. omega (arith, e)) is)

-- a base of another family doesn't fit
other_family : BaseFits types 1 (Some 0) → ⊥
other_family fits = omega (arith, fits.1)

-- these types are a sound table, over one family
abbrev pub families : List Family
families = record { name = codes "Any"; target = false } ∷ []

abbrev pub table : List NodeType → TypeTable
table list = record { families = families; types = list }

sound : IsSound (table types)
sound = record {
  base_before = λ t b is. elim (bases t b is) [ inl e ↦ omega (arith, e.0, e.1) | inr e ↦ omega (arith, e.0, e.1) ];
  base_family = λ t b is. elim (bases t b is) [ inl e ↦ rw (e.0, e.1) refl | inr e ↦ rw (e.0, e.1) refl ];
  base_first = λ t b is. elim (bases t b is) [ inl e ↦ rw (e.0, e.1) (right ∷ [], refl) | inr e ↦ rw (e.0, e.1) (sign ∷ [], refl) ];
  family_there = there;
}
  where
    -- type 0 is the base of type 1, type 1 that of type 2, and no other type has one
    bases : (t b : ℕ) → (type_at types t).base ≡ Some b → ((t ≡ 1) × (b ≡ 0)) ⊎ ((t ≡ 2) × (b ≡ 1))
    bases zero b is = (cc)
    bases (suc zero) b is = inl (refl, sym (same_Some is))
    bases (suc (suc zero)) b is = inr (refl, sym (same_Some is))
    bases (suc (suc (suc zero))) b is = (cc)
    bases (suc (suc (suc (suc t)))) b is = (cc)

    there : (t : ℕ) → t < length types → (type_at types t).family < 1
    there zero within = omega arith
    there (suc zero) within = omega arith
    there (suc (suc zero)) within = omega arith
    there (suc (suc (suc zero))) within = omega arith
    there (suc (suc (suc (suc t)))) within = absurd (omega (arith, within))

-- in a sound table no base comes later
base_later : IsSound (table (
    (record { name = codes "Both"; family = 0; base = Some 1; items = left ∷ right ∷ [] })
    ∷ (record { name = codes "Any"; family = 0; base = None; items = left ∷ [] })
    ∷ [])) → ⊥
base_later is = omega (arith, is.base_before 0 1 refl)

-- and the items of a base aren't behind the own ones
own_first : IsSound (table (
    (record { name = codes "Any"; family = 0; base = None; items = left ∷ [] })
    ∷ (record { name = codes "Both"; family = 0; base = Some 0; items = right ∷ left ∷ [] })
    ∷ [])) → ⊥
own_first is = let e = ap child_families (is.base_first 1 0 refl).1 in cc

-- a type is of its base's family
other_than_the_base : IsSound (table (
    (record { name = codes "Any"; family = 0; base = None; items = [] })
    ∷ (record { name = codes "Both"; family = 1; base = Some 0; items = [] })
    ∷ [])) → ⊥
other_than_the_base is = omega (arith, is.base_family 1 0 refl)

-- each family is there
no_such_family : IsSound (table (record { name = codes "Any"; family = 1; base = None; items = [] } ∷ [])) → ⊥
no_such_family is = omega (arith, is.family_there 0 (omega arith))

-- a family of the source, and one of the target
abbrev two_sides : TypeTable
two_sides = record { families = record { name = codes "S"; target = false } ∷ record { name = codes "T"; target = true } ∷ []; types = [] }

-- a type of the source's family
abbrev with_items : List Item → NodeType
with_items items = record { name = codes "Wide"; family = 0; base = None; items = items }

-- so many children of the source's family
abbrev children : ℕ → List Item
children zero = []
children (suc n) = left ∷ children n

abbrev of_type : ValType → List Item
of_type t = record { name = codes "part"; of = t } ∷ []

abbrev IsOfSource : ℕ → Type 0
IsOfSource f = (f < 2) × ((family_at two_sides.families f).target ≡ false)

all_of_source : (n : ℕ) → All IsOfSource (child_families (children n))
all_of_source zero = All-nil IsOfSource
all_of_source (suc n) = All-cons IsOfSource 0 (child_families (children n)) (omega arith, refl) (all_of_source n)

-- eight children aren't too many, and nine are
eight_fit : HasFitItems two_sides (with_items (children 8))
eight_fit = record { few_children = omega arith; few_fields = omega arith; plain = All-nil IsPlain; families = all_of_source 8 }

nine_do_not : HasFitItems two_sides (with_items (children 9)) → ⊥
nine_do_not is = let too_many : 9 ≤ 8 = is.few_children in omega (arith, too_many)

-- a child of the other side doesn't fit
other_side : HasFitItems two_sides (with_items (of_type (ty.Node 1))) → ⊥
other_side is = let e = (All-head IsOfSource 1 [] is.families).1 in cc

-- a field is no map
map_for_a_field : HasFitItems two_sides (with_items (of_type ty.Map)) → ⊥
map_for_a_field is = no_map ty.Map (All-head IsPlain ty.Map [] is.plain) refl
  where
    no_map : (t : ValType) → IsPlain t → t ≡ ty.Map → ⊥
    no_map _ plain_int e = cc
    no_map _ plain_bool e = cc
    no_map _ plain_text e = cc
