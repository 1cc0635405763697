-- What is read of a node: a child, a field, the parts at the items of a type.
use Rattle.std.specs.Prelude.{◌≡◌, ℕ, ◌+◌, zero, suc, Bool, true, false, List, Option, Some}
use Rattle.value_store.specs.Cells.{Cell}
use Rattle.value_store.specs.declared.value.Value.{Value}
use Rattle.value_store.specs.declared.value.ValType.{ValType}
use Rattle.value_store.specs.declared.value.ValType.TheVariants as ty
use Rattle.expr_lang.specs.PureValues.{PureValue, PureValues, no_pure, and_pure}
use Rattle.expr_lang.specs.PureOf.{pure_of}
use Rattle.puma_model.specs.Scene.{Scene, Seen, seen, item_types, parts_of}
use Rattle.puma_model.specs.Typed.{IsOfType, AreIn, IsIn, pures}

abbrev pub drop_pure : ℕ → PureValues → PureValues
drop_pure zero vs = vs
drop_pure (suc i) no_pure = no_pure
drop_pure (suc i) (and_pure v vs) = drop_pure i vs

-- a value of the program means this value, and is of its type
pub record ReadsAs (scene : Scene) (cells : List Cell) (v : Value) (is : PureValue) : Type 0 where
  pub means : pure_of scene.source scene.literals cells v ≡ is
  pub typed : (t : ValType) → IsOfType scene is t → IsIn scene cells v t

-- what is seen of a value of the program
abbrev pub sees : Scene → List Cell → Value → Option Seen
sees scene cells v = seen scene (pure_of scene.source scene.literals cells v)

-- the values are the parts of the node at the items of the type
pub record AreParts (scene : Scene) (cells : List Cell) (v : Value) (t : ℕ) (parts : List Value) : Type 0 where
  pub means : (node : Seen) → sees scene cells v ≡ Some node
      → pures scene cells parts ≡ parts_of (item_types scene.table t) node.children node.fields
  pub are : AreIn scene cells parts (item_types scene.table t)

abbrev pub is_node_type : ValType → Bool
is_node_type (ty.Node f) = true
is_node_type _ = false

-- the next child or field of the node, behind so many, is this value
abbrev pub HasNext : Bool → ℕ → ℕ → Seen → PureValue → Type 0
HasNext true children fields node c = (rest : PureValues) × (drop_pure children node.children ≡ and_pure c rest)
HasNext false children fields node c = (rest : PureValues) × (drop_pure fields node.fields ≡ and_pure c rest)

abbrev pub plus_if : Bool → ℕ → ℕ
plus_if true n = n + 1
plus_if false n = n
