-- The printed form of a tree.
use Rattle.std.specs.Prelude.{ℕ, ◌+◌, List, [], ◌∷◌, ◌++◌, length, true, false, codes}
use Rattle.std.specs.Fmt.{decimal, signed_decimal}
use Rattle.value_store.specs.declared.value.ValType.{ValType}
use Rattle.value_store.specs.declared.value.ValType.TheVariants as ty
use Rattle.ast_types.specs.declared.item.Item.{Item}
use Rattle.ast_types.specs.TypeTable.{TypeTable, type_at}
use Rattle.expr_lang.specs.PureValues.{PureValue, PureValues, int, bool, text, map_of, token, source, node, no_pure, and_pure}
use Rattle.quoting.specs.Quoted.{quoted}
use Rattle.tree_build.specs.Shown.{pure_count, pure_count_all}

-- an item that is no child has the name of a field
abbrev pub name_then : ValType → List ℕ → List (List ℕ) → List (List ℕ)
name_then (ty.Node f) name names = names
name_then _ name names = name ∷ names

-- the names of the fields, in order
abbrev pub field_names : List Item → List (List ℕ)
field_names [] = []
field_names (i ∷ is) = name_then i.of i.name (field_names is)

-- an int in decimal, a bool as `true` or `false`, a text in quotes, a map as `map(n)`, where n is how many pairs it has;
-- a token and a node have no printed form
abbrev pub value_text : PureValue → List ℕ
value_text (int z) = signed_decimal z
value_text (bool true) = codes "true"
value_text (bool false) = codes "false"
value_text (text bytes) = quoted bytes
value_text (map_of es) = codes "map(" ++ (decimal (length es) ++ codes ")")
value_text (token k) = []
value_text (source n) = []
value_text (node t children fields) = []

-- ` name=value` of each field, in order
abbrev pub fields_text : List (List ℕ) → PureValues → List ℕ
fields_text [] vs = []
fields_text (name ∷ names) no_pure = []
fields_text (name ∷ names) (and_pure v vs) = (32 ∷ (name ++ (61 ∷ value_text v))) ++ fields_text names vs

-- the line of a node at a depth: `depth Type`, and then the rest of it
abbrev pub line_with : TypeTable → ℕ → ℕ → List ℕ → List ℕ
line_with table depth t rest = decimal depth ++ (32 ∷ ((type_at table.types t).name ++ (rest ++ 10 ∷ [])))

-- the lines of a tree whose root has this depth, each node before its children, where its nodes are numbered from k on, and
-- `rest n` is the rest of the line of node n
abbrev mutual
  pub lines_of : TypeTable → (ℕ → List ℕ) → ℕ → ℕ → PureValue → List ℕ
  lines_of table rest depth k (node t children fields) =
      line_with table depth t (rest (k + pure_count_all children)) ++ all_lines_of table rest (depth + 1) k children
  lines_of table rest depth k (int z) = []
  lines_of table rest depth k (bool b) = []
  lines_of table rest depth k (text bytes) = []
  lines_of table rest depth k (map_of es) = []
  lines_of table rest depth k (token t) = []
  lines_of table rest depth k (source n) = []

  pub all_lines_of : TypeTable → (ℕ → List ℕ) → ℕ → ℕ → PureValues → List ℕ
  all_lines_of table rest depth k no_pure = []
  all_lines_of table rest depth k (and_pure v vs) =
      lines_of table rest depth k v ++ all_lines_of table rest depth (k + pure_count v) vs

-- the line of a node at a depth with its fields
abbrev pub node_line : TypeTable → ℕ → ℕ → PureValues → List ℕ
node_line table depth t fields = line_with table depth t (fields_text (field_names (type_at table.types t).items) fields)

-- the lines of a tree whose root has this depth, each node before its children, with its fields
abbrev mutual
  pub tree_text : TypeTable → ℕ → PureValue → List ℕ
  tree_text table depth (node t children fields) = node_line table depth t fields ++ trees_text table (depth + 1) children
  tree_text table depth (int z) = []
  tree_text table depth (bool b) = []
  tree_text table depth (text bytes) = []
  tree_text table depth (map_of es) = []
  tree_text table depth (token k) = []
  tree_text table depth (source n) = []

  pub trees_text : TypeTable → ℕ → PureValues → List ℕ
  trees_text table depth no_pure = []
  trees_text table depth (and_pure v vs) = tree_text table depth v ++ trees_text table depth vs
