-- What is laid out of a made tree, and what is still to do.
use Rattle.std.specs.Prelude.{◌≡◌, ℕ, ◌+◌, ◌*◌, ◌<◌, List, [], ◌∷◌, ◌++◌, length, map, Some, slice_get, zero, suc}
use Rattle.value_store.specs.Cells.{Cell, tree_at, trees_at, IsMade, AreMade}
use Rattle.value_store.specs.MadeTrees.{MadeTree, MadeTrees, made, no_trees, and_trees, children_of, node_count}
use Rattle.value_store.specs.declared.value.Value.{Value}
use Rattle.ast_types.specs.TypeTable.{TypeTable}
use Rattle.tree_store.specs.Conforms.{Conforms}
use Rattle.tree_store.specs.Forest.{Node, node_at, children_at, IsForest, AreRoots, Under}
use Rattle.expr_lang.specs.PureOf.{pure_trees}
use Rattle.tree_store.specs.Fitting.{as_field, TreeFits}
use Rattle.tree_build.specs.Shown.{pure_node, roots_from, all_nodes_from}
use Rattle.tree_build.specs.declared.laying.Task.{Task}
use Rattle.tree_build.specs.declared.laying.Task.TheVariants as task

-- trees, and then others
abbrev pub joined : MadeTrees → MadeTrees → MadeTrees
joined no_trees us = us
joined (and_trees t ts) us = and_trees t (joined ts us)

-- how many trees a list has
abbrev pub trees_count : MadeTrees → ℕ
trees_count no_trees = 0
trees_count (and_trees t ts) = suc (trees_count ts)

-- the trees from a place on
abbrev pub trees_from : ℕ → MadeTrees → MadeTrees
trees_from zero ts = ts
trees_from (suc i) no_trees = no_trees
trees_from (suc i) (and_trees t ts) = trees_from i ts

-- the nodes with these numbers stand for the made trees, one by one
pub data Stand (nodes : List Node) : List ℕ → MadeTrees → Type 0 where
  none_stand : Stand nodes [] no_trees
  and_stands : (n : ℕ) (ns : List ℕ) (ty : ℕ) (children ts : MadeTrees) (fields : List Value) → n < length nodes
      → (node_at nodes n).ty ≡ ty → Stand nodes (children_at nodes n) children → (node_at nodes n).fields ≡ map as_field fields
      → Stand nodes ns ts → Stand nodes (n ∷ ns) (and_trees (made ty children fields) ts)

-- the tasks, the next one first, make the whole tree of trees that are done, the last one last
pub data Due (cells : List Cell) (table : TypeTable) (whole : MadeTree) : List Task → MadeTrees → Type 0 where
  all_done : Due cells table whole [] (and_trees whole no_trees)
  to_visit : (c : ℕ) (tasks : List Task) (done : MadeTrees) → IsMade cells c → TreeFits table (tree_at cells c)
      → Due cells table whole tasks (joined done (and_trees (tree_at cells c) no_trees))
      → Due cells table whole (task.Visit c ∷ tasks) done
  to_make : (c : ℕ) (tasks : List Task) (done below : MadeTrees) → IsMade cells c → TreeFits table (tree_at cells c)
      → done ≡ joined below (children_of (tree_at cells c))
      → Due cells table whole tasks (joined below (and_trees (tree_at cells c) no_trees))
      → Due cells table whole (task.Make c ∷ tasks) done

-- how much is to do at most: it falls with each task
abbrev pub load_of : List Cell → Task → ℕ
load_of cells (task.Visit c) = 2 * node_count (tree_at cells c)
load_of cells (task.Make c) = 1

-- how much is left to do for a list of tasks
abbrev pub load : List Cell → List Task → ℕ
load cells [] = 0
load cells (t ∷ tasks) = load_of cells t + load cells tasks

-- how many nodes are still to come
abbrev pub nodes_of_task : List Cell → Task → ℕ
nodes_of_task cells (task.Visit c) = node_count (tree_at cells c)
nodes_of_task cells (task.Make c) = 1

-- how many nodes a list of tasks will lay
abbrev pub to_come : List Cell → List Task → ℕ
to_come cells [] = 0
to_come cells (t ∷ tasks) = nodes_of_task cells t + to_come cells tasks

-- a node is one of these, or lies under one of them
pub record UnderOne (nodes : List Node) (roots : List ℕ) (n : ℕ) : Type 0 where
  pub place : ℕ
  pub root : ℕ
  pub is : slice_get roots place ≡ Some root
  pub under : Under nodes root n

-- the nodes and the roots are those of these trees, numbered from 0
pub record AreNodesOf (trees : MadeTrees) (roots : List ℕ) (nodes : List Node) : Type 0 where
  pub nodes_are : (s l : List ℕ) → map (pure_node s l) nodes ≡ all_nodes_from 0 (pure_trees s l trees)
  pub roots_are : (s l : List ℕ) → roots ≡ roots_from 0 (pure_trees s l trees)

-- these roots are done, all nodes are theirs, and the tasks make the whole tree of them
pub record Laying (cells : List Cell) (table : TypeTable) (whole : MadeTree) (tasks : List Task) (done : List ℕ)
    (nodes : List Node) : Type 0 where
  pub trees : MadeTrees
  pub due : Due cells table whole tasks trees
  pub stand : Stand nodes done trees
  pub are : AreNodesOf trees done nodes
  pub forest : IsForest nodes
  pub roots : AreRoots nodes done
  pub under : (n : ℕ) → n < length nodes → UnderOne nodes done n
  pub count : length nodes + to_come cells tasks ≡ node_count whole
  pub conforms : Conforms table nodes

-- visits of these trees, the first one first, stand in front of the tasks
pub record Visits (cells : List Cell) (trees : MadeTrees) (old new : List Task) : Type 0 where
  pub children : List ℕ
  pub are : AreMade cells children
  pub trees_are : trees_at cells children ≡ trees
  pub in_front : new ≡ map (λ c. task.Visit c) children ++ old
