-- Of which type a value is, where nodes of the source side are those of a tree, and made nodes conform to the types.
use Rattle.std.specs.Prelude.{◌≡◌, ℕ, ◌<◌, ℤ, Bool, true, false, not, List, [], ◌∷◌, length, map}
use Rattle.value_store.specs.Cells.{Cell}
use Rattle.value_store.specs.Maps.{Entry}
use Rattle.value_store.specs.declared.value.Value.{Value}
use Rattle.value_store.specs.declared.value.ValType.{ValType}
use Rattle.value_store.specs.declared.value.ValType.TheVariants as ty
use Rattle.ast_types.specs.TypeTable.{TypeTable, type_at, family_at}
use Rattle.expr_lang.specs.OfType.{IsOf, AreOf}
use Rattle.expr_lang.specs.PureOf.{pure_of}
use Rattle.expr_lang.specs.PureValues.{PureValue, PureValues, int, bool, text, map_of, source, node, no_pure, and_pure}
use Rattle.value_store.specs.PlainTypes.{IsPlain}
use Rattle.tree_store.specs.Forest.{node_at}
use Rattle.puma_model.specs.Scene.{Scene, item_types}

-- whether a family is of the source side
abbrev pub is_source : TypeTable → ℕ → Bool
is_source table f = not (family_at table.families f).target

-- nodes of the source tree may be of the families of the source side, whichever node it is
abbrev pub source_families : TypeTable → ℕ → ℕ → Bool
source_families table n f = is_source table f

mutual
  pub data IsOfType (scene : Scene) : PureValue → ValType → Type 0 where
    typed_int : (z : ℤ) → IsOfType scene (int z) ty.Int
    typed_bool : (b : Bool) → IsOfType scene (bool b) ty.Bool
    typed_text : (bytes : List ℕ) → IsOfType scene (text bytes) ty.Text
    typed_map : (es : List Entry) → IsOfType scene (map_of es) ty.Map
    typed_source : (n f : ℕ) → n < length scene.nodes → (type_at scene.table.types (node_at scene.nodes n).ty).family ≡ f
        → is_source scene.table f ≡ true → IsOfType scene (source n) (ty.Node f)
    typed_node : (n f : ℕ) (children fields : PureValues) → n < length scene.table.types
        → (type_at scene.table.types n).family ≡ f → is_source scene.table f ≡ false
        → ItemsTyped scene children fields (item_types scene.table n) → IsOfType scene (node n children fields) (ty.Node f)

  -- children and fields are what the items ask for, in order
  pub data ItemsTyped (scene : Scene) : PureValues → PureValues → List ValType → Type 0 where
    none_typed : ItemsTyped scene no_pure no_pure []
    child_typed : (v : PureValue) (children fields : PureValues) (f : ℕ) (ts : List ValType) → IsOfType scene v (ty.Node f)
        → ItemsTyped scene children fields ts → ItemsTyped scene (and_pure v children) fields (ty.Node f ∷ ts)
    field_typed : (v : PureValue) (children fields : PureValues) (t : ValType) (ts : List ValType) → IsPlain t
        → IsOfType scene v t → ItemsTyped scene children fields ts
        → ItemsTyped scene children (and_pure v fields) (t ∷ ts)

-- the values are of the types, one by one
pub data AreTyped (scene : Scene) : List PureValue → List ValType → Type 0 where
  no_typed : AreTyped scene [] []
  and_typed : (v : PureValue) (vs : List PureValue) (t : ValType) (ts : List ValType) → IsOfType scene v t
      → AreTyped scene vs ts → AreTyped scene (v ∷ vs) (t ∷ ts)

abbrev pub pures : Scene → List Cell → List Value → List PureValue
pures scene cells vs = map (pure_of scene.source scene.literals cells) vs

-- the values of the program are of the types: their cells are there, and what they mean is of the types
pub record AreIn (scene : Scene) (cells : List Cell) (vs : List Value) (ts : List ValType) : Type 0 where
  pub are : AreOf (source_families scene.table) cells vs ts
  pub typed : AreTyped scene (pures scene cells vs) ts

-- the same of one value
pub record IsIn (scene : Scene) (cells : List Cell) (v : Value) (t : ValType) : Type 0 where
  pub is : IsOf (source_families scene.table) cells v t
  pub typed : IsOfType scene (pure_of scene.source scene.literals cells v) t
