-- The printed form of a tree, tried on cases that are worked by hand.
use Rattle.std.proofs.Common.{◌≡◌, ℕ, ◌+◌, List, [], ◌∷◌, ◌++◌, pos, negsuc, true, false, None, Some, codes, refl}
use Rattle.std.specs.Fmt.{digits}
use Rattle.value_store.specs.declared.value.ValType.TheVariants as ty
use Rattle.ast_types.specs.TypeTable.{TypeTable}
use Rattle.expr_lang.specs.PureValues.{PureValue, int, bool, text, map_of, node, no_pure, and_pure}
use Rattle.tree_lines.specs.TreeText.{value_text, lines_of, tree_text}

-- one family, with the types `Leaf` without items, `Pair (l: F, n: int, r: F)`, and `More` that adds `(t: text, b: bool)` to it
abbrev table : TypeTable
table = record {
  families = record { name = codes "F"; target = false } ∷ [];
  types =
      record { name = codes "Leaf"; family = 0; base = None; items = [] }
      ∷ record {
        name = codes "Pair";
        family = 0;
        base = None;
        items =
            record { name = codes "l"; of = ty.Node 0 } ∷ record { name = codes "n"; of = ty.Int }
            ∷ record { name = codes "r"; of = ty.Node 0 } ∷ [];
      }
      ∷ record {
        name = codes "More";
        family = 0;
        base = Some 1;
        items =
            record { name = codes "l"; of = ty.Node 0 } ∷ record { name = codes "n"; of = ty.Int }
            ∷ record { name = codes "r"; of = ty.Node 0 }
            ∷ record { name = codes "t"; of = ty.Text } ∷ record { name = codes "b"; of = ty.Bool } ∷ [];
      }
      ∷ [];
}

abbrev leaf : PureValue
leaf = node 0 no_pure no_pure

-- a node without items has no blank at its end
only_a_leaf : tree_text table 0 leaf ≡ codes "0 Leaf" ++ 10 ∷ []
unfolding digits
only_a_leaf = refl

-- the field between two children has its name and stands in the line of its node; the second child has the first one's depth
between_children : tree_text table 0 (node 1
    (and_pure (node 1 (and_pure leaf (and_pure leaf no_pure)) (and_pure (int (pos 10)) no_pure)) (and_pure leaf no_pure))
    (and_pure (int (negsuc 2)) no_pure))
    ≡ codes "0 Pair n=-3" ++ 10 ∷ codes "1 Pair n=10" ++ 10
    ∷ codes "2 Leaf" ++ 10 ∷ codes "2 Leaf" ++ 10 ∷ codes "1 Leaf" ++ 10 ∷ []
unfolding digits
between_children = refl

-- the fields of a base come first, a text stands in quotes
base_first : tree_text table 7 (node 2 (and_pure leaf (and_pure leaf no_pure))
    (and_pure (int (pos 0)) (and_pure (text (codes "x")) (and_pure (bool true) no_pure))))
    ≡ codes "7 More n=0 t=" ++ 34 ∷ 120 ∷ 34 ∷ codes " b=true" ++ 10 ∷ codes "8 Leaf" ++ 10 ∷ codes "8 Leaf" ++ 10 ∷ []
unfolding digits
base_first = refl

-- a map is printed by the number of its pairs; an older one with the same key counts
two_pairs : value_text (map_of (record { key = codes "a"; number = pos 1 } ∷ record { key = codes "a"; number = pos 2 } ∷ []))
    ≡ codes "map(2)"
unfolding digits
two_pairs = refl

no_pairs : value_text (map_of []) ≡ codes "map(0)"
unfolding digits
no_pairs = refl

-- the rest of a line is asked for by the node's number in postorder: of a node over two leaves the root has number 2
abbrev by_number : ℕ → List ℕ
by_number n = (48 + n) ∷ []

rest_by_number : lines_of table by_number 0 0 (node 1 (and_pure leaf (and_pure leaf no_pure)) no_pure)
    ≡ codes "0 Pair2" ++ 10 ∷ codes "1 Leaf0" ++ 10 ∷ codes "1 Leaf1" ++ 10 ∷ []
unfolding digits
rest_by_number = refl
