-- Made trees that conform, tried on cases where the nearest wrong reading differs.
use Rattle.std.proofs.Common.{◌≡◌, ℕ, pos, true, false, List, [], ◌∷◌, None, codes, refl, arith}
use Rattle.value_store.specs.MadeTrees.{MadeTree, MadeTrees, made, no_trees, and_trees, type_of}
use Rattle.value_store.specs.declared.value.ValType.{ValType}
use Rattle.value_store.specs.declared.value.ValType.TheVariants as ty
use Rattle.value_store.specs.declared.value.Value.{Value}
use Rattle.value_store.specs.declared.value.Value.TheVariants as value
use Rattle.ast_types.specs.Items.{child_families}
use Rattle.ast_types.specs.TypeTable.{TypeTable, type_at}
use Rattle.tree_store.specs.Conforms.{IsOfKind, is_int, is_bool, is_text}
use Rattle.tree_store.specs.Fitting.{as_field, TreeFits, tree_fits, TreesFit, no_tree_fits, and_tree_fits, FieldsFit, no_field_fits, and_field_fits}

-- two families; of the first one `Leaf` without items and `Up (c: F, n: int)`, of the second one `Other`
abbrev two_families : TypeTable
two_families = record {
  families = record { name = codes "F"; target = false } ∷ record { name = codes "G"; target = false } ∷ [];
  types =
      record { name = codes "Leaf"; family = 0; base = None; items = [] }
      ∷ record {
        name = codes "Up";
        family = 0;
        base = None;
        items = record { name = codes "c"; of = ty.Node 0 } ∷ record { name = codes "n"; of = ty.Int } ∷ [];
      }
      ∷ record { name = codes "Other"; family = 1; base = None; items = [] }
      ∷ [];
}

abbrev up : MadeTree → MadeTree
up child = made 1 (and_trees child no_trees) (value.Int (pos 7) ∷ [])

-- a child may be of each type of its family
up_fits : (child : MadeTree) → (type_at two_families.types (type_of child)).family ≡ 0 → TreeFits two_families child
    → TreeFits two_families (up child)
up_fits child family fits = tree_fits 1 _ _ (omega arith) (and_tree_fits child no_trees 0 [] family fits no_tree_fits)
    (and_field_fits (value.Int (pos 7)) [] ty.Int [] (is_int (pos 7)) no_field_fits)

both_types : TreeFits two_families (up (up (made 0 no_trees [])))
both_types = up_fits _ refl (up_fits _ refl (tree_fits 0 no_trees [] (omega arith) no_tree_fits no_field_fits))

-- and of no other family
other_family : TreeFits two_families (up (made 2 no_trees [])) → ⊥
other_family fits = let is : 1 ≡ 0 = family_of_first two_families _ _ 0 [] (children_fit two_families 1 _ _ fits) in omega (arith, is)
  where
    children_fit : (table : TypeTable) (t : ℕ) (children : MadeTrees) (fields : List Value) → TreeFits table (made t children fields)
        → TreesFit table children (child_families (type_at table.types t).items)
    children_fit table _ _ _ (tree_fits t children fields within fit fields_fit) = fit

    family_of_first : (table : TypeTable) (t : MadeTree) (ts : MadeTrees) (f : ℕ) (fs : List ℕ) → TreesFit table (and_trees t ts) (f ∷ fs)
        → (type_at table.types (type_of t)).family ≡ f
    family_of_first table _ _ _ _ (and_tree_fits t ts f fs family fits fit) = family

-- a bool is no int
bool_for_int : FieldsFit (value.Bool true ∷ []) (ty.Int ∷ []) → ⊥
bool_for_int fit = no_int _ _ (kind_of_first _ _ _ _ fit) refl refl
  where
    kind_of_first : (v : Value) (vs : List Value) (kind : ValType) (kinds : List ValType) → FieldsFit (v ∷ vs) (kind ∷ kinds)
        → IsOfKind (as_field v) kind
    kind_of_first _ _ _ _ (and_field_fits v vs kind kinds fits fit) = fits

    no_int : (v : Value) (kind : ValType) → IsOfKind v kind → v ≡ value.Bool true → kind ≡ ty.Int → ⊥
    no_int _ _ (is_int z) is is_kind = cc
    no_int _ _ (is_bool b) is is_kind = cc
    no_int _ _ (is_text t) is is_kind = cc
