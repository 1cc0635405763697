-- Expressions and reads of rules, evaluated.
use Rattle.std.specs.Prelude.{◌≡◌, ℕ, ◌<◌, Bool, true, List, ◌++◌, map, length, drop, Option, Some, None}
use Rattle.value_store.specs.Cells.{Cell}
use Rattle.value_store.specs.declared.value.Value.{Value}
use Rattle.value_store.specs.declared.value.ValType.{ValType}
use Rattle.ag_model.specs.ValueTable.{value_in}
use Rattle.ast_types.specs.TypeTable.{type_at}
use Rattle.expr_lang.specs.Evaluated.{Keeps}
use Rattle.expr_lang.specs.Expression.{Expression, Expressions}
use Rattle.expr_lang.specs.Meaning.{meaning, expressions_of}
use Rattle.expr_lang.specs.declared.expr.Expr.{Expr}
use Rattle.expr_lang.specs.PureOf.{pure_of}
use Rattle.expr_lang.specs.PureValues.{PureValue, bool_in}
use Rattle.expr_lang.specs.Typing.{HasType, HaveTypes}
use Rattle.tree_store.specs.Forest.{node_at}
use Rattle.puma_model.specs.Comes.{worth, worths, with_reads, reads_left}
use Rattle.puma_model.specs.Found.{scene_of}
use Rattle.puma_model.specs.Scene.{Scene}
use Rattle.puma_model.specs.Typed.{AreIn, IsIn, pures}
use Rattle.puma_model.specs.TypedRules.{Kinds, AreKinds, ReadsFit, attribute_type, rule_context}
use Rattle.puma_model.specs.declared.rules.Read.{Read}
use Rattle.puma_model.specs.declared.world.World.{World}

-- an expression may be evaluated with these variables
pub record WorthReady (scene : Scene) (cells : List Cell) (env : List Value) (e : Expression) : Type 0 where
  pub kinds : Kinds
  pub kinds_are : AreKinds scene.table kinds
  pub types : List ValType
  pub are : AreIn scene cells env types
  pub of : ValType
  pub typed : HasType (rule_context scene.table kinds types) e of

-- it was evaluated: to a value of its type, which means the expression's value
pub record IsWorth (scene : Scene) (old new : List Cell) (env : List Value) (e : Expression) (v : Value) : Type 0 where
  pub typed : (kinds : Kinds) (types : List ValType) (t : ValType) → AreKinds scene.table kinds → AreIn scene old env types
      → HasType (rule_context scene.table kinds types) e t → IsIn scene new v t
  pub means : pure_of scene.source scene.literals new v ≡ worth (pures scene old env) e

-- the same of expressions
pub record WorthsReady (scene : Scene) (cells : List Cell) (env : List Value) (es : Expressions) : Type 0 where
  pub kinds : Kinds
  pub kinds_are : AreKinds scene.table kinds
  pub types : List ValType
  pub are : AreIn scene cells env types
  pub of : List ValType
  pub typed : HaveTypes (rule_context scene.table kinds types) es of

pub record AreWorth (scene : Scene) (old new : List Cell) (env : List Value) (es : Expressions) (vs : List Value) : Type 0 where
  pub typed : (kinds : Kinds) (types ts : List ValType) → AreKinds scene.table kinds → AreIn scene old env types
      → HaveTypes (rule_context scene.table kinds types) es ts → AreIn scene new vs ts
  pub means : pures scene new vs ≡ worths (pures scene old env) es

-- the expressions before i are evaluated
pub record WorthTo (scene : Scene) (old new : List Cell) (env : List Value) (s l : List ℕ) (es : List Expr) (vs : List Value) (i : ℕ) : Type 0 where
  pub kept : Keeps old new
  pub typed : (kinds : Kinds) (types ts : List ValType) → AreKinds scene.table kinds → AreIn scene old env types
      → HaveTypes (rule_context scene.table kinds types) (expressions_of (map (meaning s l) es)) ts
      → (first : List ValType) × (rest : List ValType) × (ts ≡ first ++ rest) × AreIn scene new vs first
      × HaveTypes (rule_context scene.table kinds types) (expressions_of (map (meaning s l) (drop i es))) rest
  pub means : pures scene new vs ++ worths (pures scene old env) (expressions_of (map (meaning s l) (drop i es)))
      ≡ worths (pures scene old env) (expressions_of (map (meaning s l) es))

-- the IF, if there is one, may be evaluated
abbrev pub TestReady : Scene → List Cell → List Value → Option Expression → Type 0
TestReady scene cells env None = Unit {0}
TestReady scene cells env (Some e) = WorthReady scene cells env e

abbrev pub TestIs : List PureValue → Option Expression → Bool → Type 0
TestIs env None b = b ≡ true
TestIs env (Some e) b = b ≡ bool_in (worth env e)

-- what rules are typed by, and the values of attributes
pub record Setting : Type 0 where
  pub kinds : Kinds
  pub attribute : ℕ → ℕ → PureValue

-- the value of an attribute is there, of its type, and means this
pub record AttributeIs (world : World) (cells : List Cell) (n a : ℕ) (t : ValType) (v : PureValue) : Type 0 where
  pub node : n < world.values.now.nodes
  pub attribute : a < world.values.now.width
  pub is : IsIn (scene_of world) cells (value_in world.values.now n a) t
  pub means : pure_of world.texts.source.now world.texts.literals.now cells (value_in world.values.now n a) ≡ v

abbrev pub Attributes : World → List Cell → Setting → Type 0
Attributes world cells setting = (n a : ℕ) (t : ValType) → n < length world.tree.now
    → attribute_type setting.kinds (type_at world.types.now.types (node_at world.tree.now n).ty).family a ≡ Some t
    → AttributeIs world cells n a t (setting.attribute n a)

-- the reads may be bound after these variables
pub record ReadsReady (world : World) (cells : List Cell) (reads : List Read) (env : List Value) : Type 0 where
  pub setting : Setting
  pub attributes : Attributes world cells setting
  pub types : List ValType
  pub all : List ValType
  pub left : List Read
  pub are : AreIn (scene_of world) cells env types
  pub fit : ReadsFit world.types.now setting.kinds reads types all left

-- the reads of variables bound so far are bound as well, and the others are left
pub record BoundReads (world : World) (cells : List Cell) (setting : Setting) (reads : List Read) (from : ℕ) (old new : List Value)
    (next : ℕ) (all : List ValType) (left : List Read) : Type 0 where
  pub are : AreIn (scene_of world) cells new all
  pub left_is : drop next reads ≡ left
  pub env_is : pures (scene_of world) cells new ≡ with_reads setting.attribute (drop from reads) (pures (scene_of world) cells old)
  pub left_are : drop next reads ≡ reads_left (drop from reads) (length (pures (scene_of world) cells old))

abbrev pub ReadsBound : World → List Cell → List Read → ℕ → List Value → List Value → ℕ → Type 0
ReadsBound world cells reads from old new next = (setting : Setting) (types all : List ValType) (left : List Read)
    → Attributes world cells setting → AreIn (scene_of world) cells old types
    → ReadsFit world.types.now setting.kinds (drop from reads) types all left
    → BoundReads world cells setting reads from old new next all left

-- the reads before place `at` are bound
pub record ReadsTo (world : World) (cells : List Cell) (setting : Setting) (reads : List Read) (from : ℕ) (old env : List Value)
    (at : ℕ) (all : List ValType) (left : List Read) : Type 0 where
  pub types : List ValType
  pub are : AreIn (scene_of world) cells env types
  pub fit : ReadsFit world.types.now setting.kinds (drop at reads) types all left
  pub env_is : with_reads setting.attribute (drop from reads) (pures (scene_of world) cells old)
      ≡ with_reads setting.attribute (drop at reads) (pures (scene_of world) cells env)
  pub left_is : reads_left (drop from reads) (length (pures (scene_of world) cells old))
      ≡ reads_left (drop at reads) (length (pures (scene_of world) cells env))
