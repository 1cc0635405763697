-- The nodes of a value, and a tree that shows it.
use Rattle.std.specs.Prelude.{◌≡◌, ℕ, ◌+◌, ◌<◌, List, [], ◌∷◌, ◌++◌, length, map}
use Rattle.ast_types.specs.TypeTable.{TypeTable}
use Rattle.expr_lang.specs.PureValues.{PureValue, PureValues, int, bool, text, map_of, token, source, node, no_pure, and_pure}
use Rattle.expr_lang.specs.PureOf.{pure_fields}
use Rattle.tree_store.specs.Conforms.{Conforms}
use Rattle.tree_store.specs.Forest.{Node, node_at, children_at, OnlyRoot, Under}

-- with texts that lie in these bytes, the nodes with these numbers show the values, one by one: a node has the value's type,
-- its children show the value's children in order, and its fields are the value's
pub data Show (s l : List ℕ) (nodes : List Node) : List ℕ → PureValues → Type 0 where
  none_shown : Show s l nodes [] no_pure
  and_shown : (n : ℕ) (ns : List ℕ) (ty : ℕ) (children fields more : PureValues) → n < length nodes → (node_at nodes n).ty ≡ ty
      → Show s l nodes (children_at nodes n) children → pure_fields s l (node_at nodes n).fields ≡ fields
      → Show s l nodes ns more → Show s l nodes (n ∷ ns) (and_pure (node ty children fields) more)

-- how many nodes a value has; one that stands at two places counts at both
abbrev mutual
  pub pure_count : PureValue → ℕ
  pure_count (node ty children fields) = pure_count_all children + 1
  pure_count (int z) = 0
  pure_count (bool b) = 0
  pure_count (text bytes) = 0
  pure_count (map_of es) = 0
  pure_count (token k) = 0
  pure_count (source n) = 0

  pub pure_count_all : PureValues → ℕ
  pure_count_all no_pure = 0
  pure_count_all (and_pure v vs) = pure_count v + pure_count_all vs

-- a node of a value: its type, the numbers of its children, and its fields
pub record PureNode : Type 0 where
  pub ty : ℕ
  pub children : List ℕ
  pub fields : PureValues

-- the number of a value's root, where its nodes are numbered from k on: the last one of them; what is no node has none
abbrev pub root_from : ℕ → PureValue → List ℕ
root_from k (node ty children fields) = (k + pure_count_all children) ∷ []
root_from k (int z) = []
root_from k (bool b) = []
root_from k (text bytes) = []
root_from k (map_of es) = []
root_from k (token t) = []
root_from k (source n) = []

-- the numbers of the roots of values that stand side by side
abbrev pub roots_from : ℕ → PureValues → List ℕ
roots_from k no_pure = []
roots_from k (and_pure v vs) = root_from k v ++ roots_from (k + pure_count v) vs

-- the nodes of a value in postorder, numbered from k on: those of its children, one after the other, and then its root
abbrev mutual
  pub nodes_from : ℕ → PureValue → List PureNode
  nodes_from k (node ty children fields) =
      all_nodes_from k children ++ record { ty = ty; children = roots_from k children; fields = fields } ∷ []
  nodes_from k (int z) = []
  nodes_from k (bool b) = []
  nodes_from k (text bytes) = []
  nodes_from k (map_of es) = []
  nodes_from k (token t) = []
  nodes_from k (source n) = []

  pub all_nodes_from : ℕ → PureValues → List PureNode
  all_nodes_from k no_pure = []
  all_nodes_from k (and_pure v vs) = nodes_from k v ++ all_nodes_from (k + pure_count v) vs

-- the nodes of a value, numbered from 0
abbrev pub nodes_of_value : PureValue → List PureNode
nodes_of_value v = nodes_from 0 v

-- a node of a tree as one of a value, with texts that lie in these bytes
abbrev pub pure_node : List ℕ → List ℕ → Node → PureNode
pure_node s l n = record { ty = n.ty; children = n.children; fields = pure_fields s l n.fields }

-- a node of a value with its links alone
abbrev pub linked : PureNode → Node
linked n = record { ty = n.ty; children = n.children; fields = [] }

-- the nodes are those of the value, one tree that shows it, with no node beside it, and conform to the types
pub record IsTreeOf (s l : List ℕ) (types : TypeTable) (nodes : List Node) (v : PureValue) : Type 0 where
  pub root : ℕ
  pub only : OnlyRoot nodes root
  pub under : (n : ℕ) → n < length nodes → Under nodes root n
  pub shows : Show s l nodes (root ∷ []) (and_pure v no_pure)
  pub count : length nodes ≡ pure_count v
  pub are : map (pure_node s l) nodes ≡ nodes_of_value v
  pub conforms : Conforms types nodes
