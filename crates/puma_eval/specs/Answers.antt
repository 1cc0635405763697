-- What the evaluator needs, and what it answers.
use Rattle.std.specs.Prelude.{◌≡◌, ℕ, ◌<◌, ◌≤◌, List, length, Result, Ok, Err, Some}
use Rattle.value_store.specs.Cells.{Cell}
use Rattle.value_store.specs.declared.value.ValType.{ValType}
use Rattle.ast_types.specs.TypeTable.{type_at}
use Rattle.expr_lang.specs.OfType.{IsOf}
use Rattle.expr_lang.specs.PureOf.{pure_of}
use Rattle.expr_lang.specs.PureValues.{PureValue}
use Rattle.tree_store.specs.Forest.{node_at, OnlyRoot}
use Rattle.ag_model.specs.ValueTable.{value_in}
use Rattle.puma_model.specs.Comes.{Program, Comes, a_value, no_rule}
use Rattle.puma_model.specs.Found.{scene_of}
use Rattle.puma_model.specs.Rules.{PureRoutine, routines_of, routine_at}
use Rattle.puma_model.specs.Typed.{source_families, IsIn}
use Rattle.puma_model.specs.TypedRules.{Kinds, IsMainOf, RoutinesFit, attribute_type}
use Rattle.puma_model.specs.declared.rules.Routines.{Routines}
use Rattle.puma_model.specs.declared.world.World.{World}
use Rattle.puma_eval.specs.declared.results.Rewritten.{Rewritten}
use Rattle.puma_eval.specs.declared.results.RewriteError.{RewriteError}
use Rattle.puma_eval.specs.declared.results.RewriteError.TheVariants as error

-- the routines of a program as pure values
abbrev pub routines_in : World → Routines → List PureRoutine
routines_in world routines = routines_of world.texts.source.now world.texts.literals.now routines.list.items

-- what calls run in, where attributes have these values
abbrev pub program_in : World → Routines → (ℕ → ℕ → PureValue) → Program
program_in world routines attribute = record { scene = scene_of world; attribute = attribute; routines = routines_in world routines }

-- the values of attributes, by the cells of a store
abbrev pub attributes_in : World → List Cell → ℕ → ℕ → PureValue
attributes_in world cells n a = pure_of world.texts.source.now world.texts.literals.now cells (value_in world.values.now n a)

-- a node's attribute has a value of its type
pub record HasAttribute (world : World) (cells : List Cell) (n a : ℕ) (t : ValType) : Type 0 where
  pub node : n < world.values.now.nodes
  pub attribute : a < world.values.now.width
  pub is : IsOf (source_families world.types.now) cells (value_in world.values.now n a) t

-- each node has a value of each attribute of its family
abbrev pub HaveAttributes : World → List Cell → Kinds → Type 0
HaveAttributes world cells kinds = (n a : ℕ) (t : ValType) → n < length world.tree.now
    → attribute_type kinds (type_at world.types.now.types (node_at world.tree.now n).ty).family a ≡ Some t
    → HasAttribute world cells n a t

-- the node is the tree's root, and the main routine takes nodes of its family and gives nodes of the target side
pub record IsMain (world : World) (routines : List PureRoutine) (main root : ℕ) : Type 0 where
  pub only : OnlyRoot world.tree.now root
  pub of : IsMainOf world.types.now (type_at world.types.now.types (node_at world.tree.now root).ty).family routines main

-- the routines are typed by these kinds, and attributes have values of their types
pub record IsReady (world : World) (cells : List Cell) (routines : Routines) (kinds : Kinds) : Type 0 where
  pub fit : RoutinesFit world.types.now kinds (routines_in world routines)
  pub attributes : HaveAttributes world cells kinds

-- the value is of what the routine gives
abbrev pub GivesValue : World → List PureRoutine → List Cell → ℕ → Result Rewritten RewriteError → Type 0
GivesValue world routines cells q (Ok found) = IsIn (scene_of world) cells found.value (routine_at routines q).answer
GivesValue world routines cells q (Err e) = Unit {0}

-- the main call comes to the answer within the budget; the budget is spent exactly where it comes to nothing within it
abbrev pub Answers : Program → List Cell → ℕ → List PureValue → ℕ → Result Rewritten RewriteError → Type 0
Answers p cells main args budget (Ok found) =
    Comes p main args (a_value (pure_of p.scene.source p.scene.literals cells found.value)) found.calls × (found.calls ≤ budget)
Answers p cells main args budget (Err (error.NoRule q calls)) = Comes p main args (no_rule q) calls × (calls ≤ budget)
Answers p cells main args budget (Err (error.SpentBudget b)) =
    (b ≡ budget) × ((r : _) (k : ℕ) → Comes p main args r k → budget < k)
Answers p cells main args budget (Err error.NoMemory) = Unit {0}
