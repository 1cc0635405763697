-- Made trees that conform to the types of nodes.
use Rattle.std.specs.Prelude.{◌≡◌, ℕ, ◌<◌, pos, List, [], ◌∷◌, length}
use Rattle.value_store.specs.MadeTrees.{MadeTree, MadeTrees, made, no_trees, and_trees, type_of}
use Rattle.value_store.specs.declared.value.ValType.{ValType}
use Rattle.value_store.specs.declared.value.Value.{Value}
use Rattle.value_store.specs.declared.value.Value.TheVariants as value
use Rattle.ast_types.specs.Items.{child_families, field_types}
use Rattle.ast_types.specs.TypeTable.{TypeTable, type_at}
use Rattle.tree_store.specs.Conforms.{IsOfKind}

-- a value as a field: what is no int, bool or text counts as 0, as in the pure value of a made node
abbrev pub as_field : Value → Value
as_field (value.Int z) = value.Int z
as_field (value.Bool b) = value.Bool b
as_field (value.Text t) = value.Text t
as_field _ = value.Int (pos 0)

-- the fields are of these kinds, one by one
pub data FieldsFit : List Value → List ValType → Type 0 where
  no_field_fits : FieldsFit [] []
  and_field_fits : (v : Value) (vs : List Value) (kind : ValType) (kinds : List ValType) → IsOfKind (as_field v) kind
      → FieldsFit vs kinds → FieldsFit (v ∷ vs) (kind ∷ kinds)

-- a made tree conforms: each node's type is there, and its children and fields are what the type's items ask for, in order
mutual
  pub data TreeFits (table : TypeTable) : MadeTree → Type 0 where
    tree_fits : (ty : ℕ) (children : MadeTrees) (fields : List Value) → ty < length table.types
        → TreesFit table children (child_families (type_at table.types ty).items)
        → FieldsFit fields (field_types (type_at table.types ty).items) → TreeFits table (made ty children fields)

  -- trees of these families, one by one, conform
  pub data TreesFit (table : TypeTable) : MadeTrees → List ℕ → Type 0 where
    no_tree_fits : TreesFit table no_trees []
    and_tree_fits : (t : MadeTree) (ts : MadeTrees) (f : ℕ) (fs : List ℕ) → (type_at table.types (type_of t)).family ≡ f
        → TreeFits table t → TreesFit table ts fs → TreesFit table (and_trees t ts) (f ∷ fs)
