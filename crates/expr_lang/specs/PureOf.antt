-- The pure value of a value, by the bytes of texts and the cells of a store.
use Rattle.std.specs.Prelude.{map, ℕ, pos, List, [], ◌∷◌}
use Rattle.value_store.specs.Texts.{text_of}
use Rattle.value_store.specs.Cells.{Cell, pairs_at, tree_at}
use Rattle.value_store.specs.MadeTrees.{MadeTree, MadeTrees, made, no_trees, and_trees, type_of, children_of, fields_of}
use Rattle.value_store.specs.Maps.{entries}
use Rattle.value_store.specs.declared.text.Texts.{Texts}
use Rattle.value_store.specs.declared.value.Value.{Value}
use Rattle.value_store.specs.declared.value.Value.TheVariants as value
use Rattle.expr_lang.specs.PureValues.{PureValue, PureValues, int, bool, text, map_of, token, source, node, no_pure, and_pure}

-- the pure value of a field of a made node: an int, a bool or a text
abbrev pub pure_field : List ℕ → List ℕ → Value → PureValue
pure_field s l (value.Int z) = int z
pure_field s l (value.Bool b) = bool b
pure_field s l (value.Text t) = text (text_of s l t)
pure_field s l _ = int (pos 0)

-- fields as pure values: texts by their bytes
abbrev pub pure_fields : List ℕ → List ℕ → List Value → PureValues
pure_fields s l [] = no_pure
pure_fields s l (v ∷ vs) = and_pure (pure_field s l v) (pure_fields s l vs)

-- the pure values of made nodes
abbrev pub pure_trees : List ℕ → List ℕ → MadeTrees → PureValues
pure_trees s l no_trees = no_pure
pure_trees s l (and_trees (made ty children fields) ts) =
    and_pure (node ty (pure_trees s l children) (pure_fields s l fields)) (pure_trees s l ts)

-- a made tree as a pure value
abbrev pub pure_tree : List ℕ → List ℕ → MadeTree → PureValue
pure_tree s l t = node (type_of t) (pure_trees s l (children_of t)) (pure_fields s l (fields_of t))

-- the pure value of a value
abbrev pub pure_of : List ℕ → List ℕ → List Cell → Value → PureValue
pure_of s l cells (value.Int z) = int z
pure_of s l cells (value.Bool b) = bool b
pure_of s l cells (value.Text t) = text (text_of s l t)
pure_of s l cells (value.Map m) = map_of (entries s l (pairs_at cells m))
pure_of s l cells (value.Token k) = token k
pure_of s l cells (value.Src n) = source n
pure_of s l cells (value.Made c) = pure_tree s l (tree_at cells c)

-- the pure values of variables, with texts that lie in these
abbrev pub pure_env : Texts → List Cell → List Value → List PureValue
pure_env texts cells env = map (pure_of texts.source.now texts.literals.now cells) env
