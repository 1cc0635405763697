-- The visits so far, as the program keeps them.
use Rattle.std.specs.Prelude.{◌≡◌, ℕ, ◌+◌, ◌<◌, pos, List, length, slice_index, Contains}
use Rattle.value_store.specs.Cells.{Cell}
use Rattle.value_store.specs.declared.value.Value.{Value}
use Rattle.value_store.specs.declared.value.Value.TheVariants as value
use Rattle.ast_types.specs.Items.{field_types}
use Rattle.ast_types.specs.TypeTable.{type_at}
use Rattle.expr_lang.specs.Evaluated.{Keeps, Evaluated, Ready}
use Rattle.expr_lang.specs.Expression.{Expression}
use Rattle.expr_lang.specs.PureValues.{PureValue}
use Rattle.expr_lang.specs.ValueOf.{no_tokens}
use Rattle.tree_store.specs.Forest.{Node, node_at, children_at, IsChild}
use Rattle.ag_model.specs.Attribution.{AttributeGrammar, PureEquation, IsEquation, equations_of}
use Rattle.ag_model.specs.Plans.{PurePlan}
use Rattle.ag_model.specs.Solution.{expression_at, node_of, attribute_of}
use Rattle.ag_model.specs.ValueTable.{ValueTable, value_in, SetsValue}
use Rattle.ag_model.specs.declared.attribution.Place.{Place}
use Rattle.ag_model.specs.declared.attribution.Place.TheVariants.{Own, Child}
use Rattle.ag_visits.specs.declared.walk.Walk.{Walk}
use Rattle.ag_visits.specs.within.Visits.{State, IsSound, Moves, Turn}
use Rattle.ag_visits.specs.Promise.{pure_values}
use Rattle.ag_visits.specs.within.OfTree.{tree_of, val_of, steps_at, IsWide, AreTyped, env_of}

-- a node's place in the steps of its type
abbrev pub position_of : Walk → ℕ → ℕ
position_of walk n = slice_index walk.positions.items n

-- the walk as the law of plans sees it, by the bytes of texts and the cells of a store
abbrev pub state_of : List ℕ → List ℕ → List Cell → Walk → ℕ → State PureValue
state_of s l cells walk ticks = record {
  current = walk.current;
  position = position_of walk;
  values = pure_values s l cells walk.values;
  ticks = ticks;
}

-- the root is to be visited, no step was made, and all values are the int 0
pub record Begins (size width : ℕ) (walk : Walk) : Type 0 where
  pub current : walk.current + 1 ≡ size
  pub positions : length walk.positions.items ≡ size
  pub none : (n : ℕ) → position_of walk n ≡ 0
  pub nodes : walk.values.nodes ≡ size
  pub width_is : walk.values.width ≡ width
  pub zero : (n a : ℕ) → value_in walk.values n a ≡ value.Int (pos 0)

-- the node has made one step more, and this one is visited
pub record Advances (old new : Walk) (to : ℕ) : Type 0 where
  pub current : new.current ≡ to
  pub moves : Moves (position_of old) (position_of new) old.current
  pub as_many : length new.positions.items ≡ length old.positions.items
  pub values : new.values ≡ old.values

-- where a visit ends
pub data LeavesTo (plan : PurePlan) (nodes : List Node) (walk : Walk) (to : ℕ) : Type 0 where
  to_parent : (m c : ℕ) → IsChild nodes m c walk.current → to ≡ m → LeavesTo plan nodes walk to
  to_itself : ((m c : ℕ) → IsChild nodes m c walk.current → ⊥) → position_of walk walk.current + 1 < length (steps_at plan nodes walk.current)
      → to ≡ walk.current → LeavesTo plan nodes walk to
  to_end : ((m c : ℕ) → IsChild nodes m c walk.current → ⊥) → position_of walk walk.current + 1 ≡ length (steps_at plan nodes walk.current)
      → to ≡ length nodes → LeavesTo plan nodes walk to

-- the place's value is in the table
abbrev pub IsThere : List Node → ValueTable → ℕ → Place → Type 0
IsThere nodes table n (Own a) = (n < table.nodes) × (a < table.width)
IsThere nodes table n (Child c a) =
    (c < length (children_at nodes n)) × (slice_index (children_at nodes n) c < table.nodes) × (a < table.width)

-- equation e of the node's type may be evaluated: types and equations are there, and what the equation names has its place
-- in the table and fits its expression
pub record CanEvaluate (g : AttributeGrammar) (expressions : List (List Expression)) (nodes : List Node) (cells : List Cell) (table : ValueTable) (n e : ℕ) : Type 0 where
  pub node : n < length nodes
  pub ty : (node_at nodes n).ty < length g.table.types
  pub equated : (node_at nodes n).ty < length g.equations
  pub equation : e < length (equations_of g (node_at nodes n).ty)
  pub fields : length (node_at nodes n).fields ≡ length (field_types (type_at g.table.types (node_at nodes n).ty).items)
  pub uses : (q : PureEquation) (u : Place) → IsEquation g (node_at nodes n).ty e q → Contains q.uses u → IsThere nodes table n u
  pub target : (q : PureEquation) → IsEquation g (node_at nodes n).ty e q → IsThere nodes table n q.target
  pub ready : (q : PureEquation) → IsEquation g (node_at nodes n).ty e q
      → Ready cells (env_of nodes table n q.uses) (expression_at expressions (node_at nodes n).ty e)

-- equation e of the node's type was evaluated, and its target has the value; old cells stay
pub record Evaluates (s l : List ℕ) (g : AttributeGrammar) (expressions : List (List Expression)) (nodes : List Node) (n e : ℕ) (old new : List Cell) (before after : ValueTable) : Type 0 where
  pub equation : PureEquation
  pub is_there : IsEquation g (node_at nodes n).ty e equation
  pub value : Value
  pub gives : Evaluated no_tokens s l old new (env_of nodes before n equation.uses) (expression_at expressions (node_at nodes n).ty e) value
  pub sets : SetsValue before after (node_of nodes n equation.target) (attribute_of equation.target) value

-- the node that is visited evaluated the equation, and has made one step more
pub record EvaluatesIn (s l : List ℕ) (g : AttributeGrammar) (expressions : List (List Expression)) (nodes : List Node) (e : ℕ) (cells cells_new : List Cell) (old new : Walk) : Type 0 where
  pub evaluates : Evaluates s l g expressions nodes old.current e cells cells_new old.values new.values
  pub current : new.current ≡ old.current
  pub moves : Moves (position_of old) (position_of new) old.current
  pub as_many : length new.positions.items ≡ length old.positions.items

-- the walk is one over these nodes, and what it knows is sound
pub record IsRunning (s l : List ℕ) (g : AttributeGrammar) (plan : PurePlan) (expressions : List (List Expression)) (nodes : List Node) (cells : List Cell) (walk : Walk) (ticks : ℕ) : Type 0 where
  pub positions : length walk.positions.items ≡ length nodes
  pub nodes_is : walk.values.nodes ≡ length nodes
  pub wide : IsWide g walk.values.width
  pub sound : IsSound (val_of s l expressions nodes) (tree_of g walk.values.width nodes) (steps_at plan nodes) (state_of s l cells walk ticks)
  pub typed : AreTyped g plan nodes cells walk.values (position_of walk)

-- one turn was made
pub record Turns (s l : List ℕ) (g : AttributeGrammar) (plan : PurePlan) (expressions : List (List Expression)) (nodes : List Node) (cells cells_new : List Cell) (old new : Walk) (ticks ticks_new : ℕ) : Type 0 where
  pub positions : length new.positions.items ≡ length old.positions.items
  pub nodes_same : new.values.nodes ≡ old.values.nodes
  pub width_same : new.values.width ≡ old.values.width
  pub turn : Turn (val_of s l expressions nodes) (tree_of g old.values.width nodes) (steps_at plan nodes)
      (state_of s l cells old ticks) (state_of s l cells_new new ticks_new)
  pub typed : AreTyped g plan nodes cells_new new.values (position_of new)
  pub kept : Keeps cells cells_new
