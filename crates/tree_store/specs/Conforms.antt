-- Trees that conform to the types of nodes.
use Rattle.std.specs.Prelude.{◌≡◌, ℕ, ℤ, ◌<◌, Bool, List, length, Some, slice_get}
use Rattle.value_store.specs.declared.text.Text.{Text}
use Rattle.value_store.specs.declared.value.Value.{Value}
use Rattle.value_store.specs.declared.value.Value.TheVariants as value
use Rattle.value_store.specs.declared.value.ValType.{ValType}
use Rattle.value_store.specs.declared.value.ValType.TheVariants as ty
use Rattle.ast_types.specs.Items.{child_families, field_types}
use Rattle.ast_types.specs.TypeTable.{TypeTable, type_at}
use Rattle.tree_store.specs.Forest.{Node, node_at}

-- a field is an int, a bool or a text, as its item says
pub data IsOfKind : Value → ValType → Type 0 where
  is_int : (z : ℤ) → IsOfKind (value.Int z) ty.Int
  is_bool : (b : Bool) → IsOfKind (value.Bool b) ty.Bool
  is_text : (t : Text) → IsOfKind (value.Text t) ty.Text

-- the type is there; there is one child per child item, in order, each of the item's family, and one field
-- per field item, in order, each of the item's kind
pub record Fits (table : TypeTable) (nodes : List Node) (t : ℕ) (children : List ℕ) (fields : List Value) : Type 0 where
  pub type_there : t < length table.types
  pub as_many_children : length children ≡ length (child_families (type_at table.types t).items)
  pub of_families : (k c f : ℕ) → slice_get children k ≡ Some c → slice_get (child_families (type_at table.types t).items) k ≡ Some f
      → (type_at table.types (node_at nodes c).ty).family ≡ f
  pub as_many_fields : length fields ≡ length (field_types (type_at table.types t).items)
  pub of_kinds : (k : ℕ) (v : Value) (kind : ValType) → slice_get fields k ≡ Some v
      → slice_get (field_types (type_at table.types t).items) k ≡ Some kind → IsOfKind v kind

-- each node fits its type
abbrev pub Conforms : TypeTable → List Node → Type 0
Conforms table nodes = (n : ℕ) → n < length nodes
    → Fits table nodes (node_at nodes n).ty (node_at nodes n).children (node_at nodes n).fields
