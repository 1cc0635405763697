-- The definitions, tried on cases where a wrong reading would differ.
use Rattle.std.proofs.Common.{◌≡◌, ℕ, zero, suc, ◌<◌, ◌≤◌, pos, true, false, List, [], ◌∷◌, map, None, Ok, Err, codes, refl, sym, ap, ◌∙◌, arith}
use Rattle.value_store.specs.MadeTrees.{MadeTree, MadeTrees, made, no_trees, and_trees, type_of}
use Rattle.value_store.specs.declared.value.ValType.{ValType}
use Rattle.value_store.specs.declared.value.ValType.TheVariants as ty
use Rattle.value_store.specs.declared.value.Value.{Value}
use Rattle.value_store.specs.declared.value.Value.TheVariants as value
use Rattle.ast_types.specs.TypeTable.{TypeTable, type_at}
use Rattle.ast_types.specs.declared.item.Item.{Item}
use Rattle.expr_lang.specs.declared.expr.Function.TheVariants as function
use Rattle.expr_lang.specs.Expression.{Expression, var, call, make, no_expressions, and_expression}
use Rattle.expr_lang.specs.PureValues.{PureValue, PureValues, text, int, no_pure, and_pure}
use Rattle.expr_lang.specs.PureValues as pure
use Rattle.expr_lang.specs.ValueOf.{Tokens}
use Rattle.cfg_model.specs.Cfg.{Cfg}
use Rattle.cfg_model.specs.Derivation.{Forest, empty, leaf, node}
use Rattle.cfg_model.specs.Derivation as derivation
use Rattle.cfg_model.specs.declared.symbol.Sym.TheVariants.{T}
use Rattle.parse_driver.specs.declared.step.Step.TheVariants as act
use Rattle.parse_driver.specs.declared.tokens.TokenRef.{TokenRef}
use Rattle.node_model.specs.Nodes.{Nodes}
use Rattle.tree_store.specs.Forest.{Node, node_at, children_at, IsChild}
use Rattle.tree_build.specs.Built.{built, built_value, tokens_in_source, IsReading, LiesInSource, IsBuilt}
use Rattle.tree_build.specs.Shown.{PureNode, pure_count, Show, none_shown, and_shown, nodes_of_value, pure_node, IsTreeOf}
use Rattle.tree_build.specs.declared.error.BuildError.TheVariants as error
use Rattle.tree_build.proofs.TokensListed.{shifted_yield}

-- rule 1 makes a node of type 5 with its second symbol as child and the text of its third one as field; rule 2 makes a node of
-- type 6 with the line of its symbol
abbrev of_rule_1 : Expression
of_rule_1 = make 5 (and_expression (var 1) (and_expression (call function.Text (and_expression (var 2) no_expressions)) no_expressions))

abbrev of_rule_2 : Expression
of_rule_2 = make 6 (and_expression (call function.Line (and_expression (var 0) no_expressions)) no_expressions)

abbrev both : Nodes
both = record { table = record { families = []; types = [] }; families = []; builds = of_rule_1 ∷ of_rule_2 ∷ [] }

-- the texts x, y and z in the lines 1, 2 and 3
abbrev xyz : Tokens
xyz = record { texts = (120 ∷ []) ∷ (121 ∷ []) ∷ (122 ∷ []) ∷ []; places = (1, 1) ∷ (2, 1) ∷ (3, 1) ∷ [] }

-- x, and y under rule 2, and z, under rule 1
abbrev tree : Forest ℕ
tree = node 1 (leaf 7 (node 2 (leaf 8 empty) (leaf 9 empty))) empty

-- the token below counts: z is token 2, and y, which stands below, token 1
third_token : built_value both xyz tree ≡ pure.node 5 (and_pure (pure.node 6 no_pure (and_pure (int (pos 2)) no_pure)) no_pure) (and_pure (text (122 ∷ [])) no_pure)
third_token = refl

-- tokens that stand before are counted
abbrev below : Forest ℕ
below = node 2 (leaf 8 empty) empty

from_one : built both xyz 1 below ≡ pure.node 6 no_pure (and_pure (int (pos 2)) no_pure) ∷ []
from_one = refl

-- a field is no node
two_nodes : pure_count (built_value both xyz tree) ≡ 2
two_nodes = refl

-- the token `a`, line feed, `b`, and behind a blank the token `c`: each has the line and column where it begins
where_they_begin : tokens_in_source (97 ∷ 10 ∷ codes "b c") (record { terminal = 0; from = 0; to = 3 } ∷ record { terminal = 1; from = 4; to = 5 } ∷ [])
    ≡ record { texts = (97 ∷ 10 ∷ codes "b") ∷ codes "c" ∷ []; places = (1, 1) ∷ (2, 3) ∷ [] }
where_they_begin = refl

-- the grammar `S = X`
abbrev s_is_x : Cfg
s_is_x = record { terminals = 1; nonterminals = 1; start = 0; rules = record { left = 0; right = T 0 ∷ [] } ∷ [] }

-- a token shifted and its rule reduced are a reading of that token
reads_it : (t : TokenRef) → t.terminal ≡ 0 → IsReading s_is_x (act.Shift t ∷ act.Reduce 1 ∷ []) (t ∷ []) (node 1 (leaf t empty) empty)
reads_it t is = record {
  derivation = record {
    from_start = derivation.rule 1 0 (T 0 ∷ []) [] (leaf t empty) empty (record { place = 0; from_one = refl; read = refl })
        (derivation.token 0 t [] empty is derivation.nothing) derivation.nothing;
    yields = refl;
  };
  in_postorder = refl;
}

-- and of no other one
reads_no_other : (g : Cfg) (t u : TokenRef) (f : Forest TokenRef) → IsReading g (act.Shift t ∷ act.Reduce 1 ∷ []) (u ∷ []) f → t ≡ u
reads_no_other g t u f is =
    let shifted = shifted_yield (act.Shift t ∷ act.Reduce 1 ∷ []) f is.in_postorder in
    let same : t ∷ [] ≡ u ∷ [] = shifted ∙ sym is.derivation.yields in
    cc

-- a token lies in a source up to the source's very last byte, and not past it
last_byte : LiesInSource (codes "ab") (act.Shift (record { terminal = 0; from = 1; to = 2 }))
last_byte = (omega arith, omega arith)

past_the_end : LiesInSource (codes "ab") (act.Shift (record { terminal = 0; from = 1; to = 3 })) → ⊥
past_the_end lies = let within : 3 ≤ 2 = lies.1 in omega (arith, within)

module _ (s l : List ℕ) (nodes : Nodes) (v : PureValue) where
  -- 1,048,576 nodes aren't too many, and one more is
  fits_at_the_limit : pure_count v ≡ 1048576 → IsBuilt s l nodes v (Err error.TooLarge) → ⊥
  fits_at_the_limit is too_large = let more : 1048576 < pure_count v = too_large in omega (arith, is, more)

  one_node_more : pure_count v ≡ 1048577 → IsBuilt s l nodes v (Err error.TooLarge)
  one_node_more is = omega (arith, is)

  no_tree_then : (tree : List Node) → pure_count v ≡ 1048577 → IsBuilt s l nodes v (Ok tree) → ⊥
  no_tree_then tree is tree_is = let few : pure_count v ≤ 1048576 = tree_is.1 in omega (arith, is, few)

-- a node of type 0 over one of type 1 and one of type 2
abbrev over_two : PureValue
over_two = pure.node 0 (and_pure (pure.node 1 no_pure no_pure) (and_pure (pure.node 2 no_pure no_pure) no_pure)) no_pure

abbrev without_fields : ℕ → List ℕ → Node
without_fields t children = record { ty = t; children = children; fields = [] }

-- the root, the last one, with these children
abbrev three : List ℕ → List Node
three children = without_fields 1 [] ∷ without_fields 2 [] ∷ without_fields 0 children ∷ []

in_order : Show [] [] (three (0 ∷ 1 ∷ [])) (2 ∷ []) (and_pure over_two no_pure)
in_order = and_shown 2 [] 0 _ _ _ (omega arith) refl
    (and_shown 0 (1 ∷ []) 1 _ _ _ (omega arith) refl none_shown refl
    (and_shown 1 [] 2 _ _ _ (omega arith) refl none_shown refl none_shown))
    refl none_shown

-- the children in the other order show another value
other_order : Show [] [] (three (1 ∷ 0 ∷ [])) (2 ∷ []) (and_pure over_two no_pure) → ⊥
other_order shows =
    let is : 2 ≡ 1 = first_type (three (1 ∷ 0 ∷ [])) 1 (0 ∷ []) 1 no_pure no_pure _ (first_children (three (1 ∷ 0 ∷ [])) 2 [] 0 _ no_pure no_pure shows) in
    omega (arith, is)
  where
    first_type : (nodes : List Node) (n : ℕ) (ns : List ℕ) (t : ℕ) (children fields more : PureValues)
        → Show [] [] nodes (n ∷ ns) (and_pure (pure.node t children fields) more) → (node_at nodes n).ty ≡ t
    first_type nodes _ _ _ _ _ _ (and_shown n ns t children fields more within is below are rest) = is

    first_children : (nodes : List Node) (n : ℕ) (ns : List ℕ) (t : ℕ) (children fields more : PureValues)
        → Show [] [] nodes (n ∷ ns) (and_pure (pure.node t children fields) more) → Show [] [] nodes (children_at nodes n) children
    first_children nodes _ _ _ _ _ _ (and_shown n ns t children fields more within is below are rest) = below

-- its nodes: those of the children, in order, and the root behind them
nodes_in_order : nodes_of_value over_two ≡ map (pure_node [] []) (three (0 ∷ 1 ∷ []))
nodes_in_order = refl

-- the type of the first of some nodes
abbrev first_type_of : List PureNode → ℕ
first_type_of [] = 9
first_type_of (n ∷ ns) = n.ty

-- with the places of the children exchanged, and their numbers, the nodes show the value too
abbrev exchanged : List Node
exchanged = without_fields 2 [] ∷ without_fields 1 [] ∷ without_fields 0 (1 ∷ 0 ∷ []) ∷ []

exchanged_shows : Show [] [] exchanged (2 ∷ []) (and_pure over_two no_pure)
exchanged_shows = and_shown 2 [] 0 _ _ _ (omega arith) refl
    (and_shown 1 (0 ∷ []) 1 _ _ _ (omega arith) refl none_shown refl
    (and_shown 0 [] 2 _ _ _ (omega arith) refl none_shown refl none_shown))
    refl none_shown

-- but they aren't its nodes, and so not its tree
exchanged_is_none : (types : TypeTable) → IsTreeOf [] [] types exchanged over_two → ⊥
exchanged_is_none types is = let first : 2 ≡ 1 = ap first_type_of is.are in omega (arith, first)

-- nor is the root in front of its children
preorder_is_none : (types : TypeTable)
    → IsTreeOf [] [] types (without_fields 0 (1 ∷ 2 ∷ []) ∷ without_fields 1 [] ∷ without_fields 2 [] ∷ []) over_two → ⊥
preorder_is_none types is = let first : 0 ≡ 1 = ap first_type_of is.are in omega (arith, first)

-- of the second child's children the first has the number behind the first child's nodes
abbrev deep : PureValue
deep = pure.node 0 (and_pure (pure.node 1 no_pure no_pure) (and_pure over_two no_pure)) no_pure

numbers_go_on : nodes_of_value deep
    ≡ map (pure_node [] []) (without_fields 1 [] ∷ without_fields 1 [] ∷ without_fields 2 [] ∷ without_fields 0 (1 ∷ 2 ∷ [])
    ∷ without_fields 0 (0 ∷ 3 ∷ []) ∷ [])
numbers_go_on = refl

-- two nodes side by side are no tree, whatever they show
side_by_side : (types : TypeTable) (v : PureValue) → IsTreeOf [] [] types (without_fields 1 [] ∷ without_fields 1 [] ∷ []) v → ⊥
side_by_side types v is =
    let first = is.only.only 0 (record { within = omega arith; no_child = childless 0 }) in
    let second = is.only.only 1 (record { within = omega arith; no_child = childless 1 }) in
    omega (arith, first, second)
  where
    childless : (c p i : ℕ) → IsChild (without_fields 1 [] ∷ without_fields 1 [] ∷ []) p i c → ⊥
    childless c zero i is = cc
    childless c (suc zero) i is = cc
    childless c (suc (suc p)) i is = cc
