-- The nodes of a value are one tree.
use Rattle.std.proofs.Common.{◌≡◌, ℕ, ◌+◌, ◌<◌, List, [], ◌∷◌, ◌++◌, length, map, Some, refl, sym, ap, ◌∙◌, subst, arith, zero, suc, length-append, append_assoc, append-nil}
use Rattle.std.specs.Prelude.{slice_get}
use Rattle.std.proofs.lemmas.List.{length-map}
use Rattle.expr_lang.specs.PureValues.{PureValue, PureValues, int, bool, text, map_of, token, source, node, no_pure, and_pure}
use Rattle.tree_store.specs.Forest.{Node, IsChild, IsForest, AreRoots, Under, here, below}
use Rattle.tree_store.proofs.LinksAgree.{is_within}
use Rattle.tree_build.specs.Shown.{PureNode, pure_count, pure_count_all, root_from, roots_from, nodes_from, all_nodes_from, nodes_of_value, linked}
use Rattle.tree_build.specs.within.Laying.{UnderOne}
use Rattle.tree_build.proofs.NodeLaid.{forest_more, roots_more, under_more}
use Rattle.tree_build.proofs.NodesNumbered.{map-append, as_many, as_many_of_all}

-- nodes that are trees side by side under these roots
record Grown (nodes : List Node) (tops : List ℕ) : Type 0 where
  pub forest : IsForest nodes
  pub roots : AreRoots nodes tops
  pub under : (n : ℕ) → n < length nodes → UnderOne nodes tops n

nothing : Grown [] []
nothing = record {
  forest = record { before = λ p i c child. absurd (no_child p i c child); one_place = λ p i q j c child other. absurd (no_child p i c child) };
  roots = record { within = λ k c at. absurd (no_root k c at); no_child = λ k c at. absurd (no_root k c at); differ = λ j k c at other. absurd (no_root j c at) };
  under = λ n within. absurd (omega (arith, within));
}
  where
    no_child : (p i c : ℕ) → IsChild [] p i c → ⊥
    no_child p i c child = (cc)

    no_root : (k c : ℕ) → slice_get [] k ≡ Some c → ⊥
    no_root k c at = (cc)

-- as many nodes more as the value has
longer : (nodes : List Node) (more : List PureNode) (k n : ℕ) → k ≡ length nodes → length more ≡ n
    → k + n ≡ length (nodes ++ map linked more)
longer nodes more k n e many = omega (arith, e, many, length-append nodes (map linked more), length-map more linked)

mutual
  grow : (v : PureValue) (nodes : List Node) (tops : List ℕ) (k : ℕ) → Grown nodes tops → k ≡ length nodes
      → Grown (nodes ++ map linked (nodes_from k v)) (tops ++ root_from k v)
  grow (node ty children fields) nodes tops k grown e =
      let old : List Node = nodes ++ map linked (all_nodes_from k children) in
      let last : PureNode = record { ty = ty; children = roots_from k children; fields = fields } in
      let under = grow_all children nodes tops k grown e in
      let more : Grown (old ++ linked last ∷ []) (tops ++ length old ∷ []) = record {
        forest = forest_more old (linked last) tops under.forest under.roots;
        roots = roots_more old (linked last) tops under.forest under.roots;
        under = under_more old (linked last) tops under.under;
      } in
      let long = longer nodes (all_nodes_from k children) k (pure_count_all children) e (as_many_of_all k children) in
      let grouped : old ++ linked last ∷ [] ≡ nodes ++ map linked (all_nodes_from k children ++ last ∷ []) =
      append_assoc nodes (map linked (all_nodes_from k children)) (linked last ∷ [])
      ∙ ap (λ ns. nodes ++ ns) (sym (map-append linked (all_nodes_from k children) (last ∷ []))) in
      subst (λ ns. Grown ns (tops ++ (k + pure_count_all children) ∷ [])) grouped
      (subst (λ n. Grown (old ++ linked last ∷ []) (tops ++ n ∷ [])) (sym long) more)
  grow (int z) nodes tops k grown e = rw (append-nil nodes, append-nil tops) grown
  grow (bool b) nodes tops k grown e = rw (append-nil nodes, append-nil tops) grown
  grow (text bytes) nodes tops k grown e = rw (append-nil nodes, append-nil tops) grown
  grow (map_of es) nodes tops k grown e = rw (append-nil nodes, append-nil tops) grown
  grow (token t) nodes tops k grown e = rw (append-nil nodes, append-nil tops) grown
  grow (source n) nodes tops k grown e = rw (append-nil nodes, append-nil tops) grown

  grow_all : (vs : PureValues) (nodes : List Node) (tops : List ℕ) (k : ℕ) → Grown nodes tops → k ≡ length nodes
      → Grown (nodes ++ map linked (all_nodes_from k vs)) (tops ++ roots_from k vs)
  grow_all no_pure nodes tops k grown e = rw (append-nil nodes, append-nil tops) grown
  grow_all (and_pure v vs) nodes tops k grown e =
      let first = grow v nodes tops k grown e in
      let long = longer nodes (nodes_from k v) k (pure_count v) e (as_many k v) in
      let rest = grow_all vs (nodes ++ map linked (nodes_from k v)) (tops ++ root_from k v) (k + pure_count v) first long in
      let grouped = append_assoc nodes (map linked (nodes_from k v)) (map linked (all_nodes_from (k + pure_count v) vs))
      ∙ ap (λ ns. nodes ++ ns) (sym (map-append linked (nodes_from k v) (all_nodes_from (k + pure_count v) vs))) in
      subst (λ ns. Grown ns (tops ++ (root_from k v ++ roots_from (k + pure_count v) vs))) grouped
      (subst (λ rs. Grown ((nodes ++ map linked (nodes_from k v)) ++ map linked (all_nodes_from (k + pure_count v) vs)) rs)
      (append_assoc tops (root_from k v) (roots_from (k + pure_count v) vs)) rest)

-- the nodes of a value, under its root
of_value : (v : PureValue) → Grown (map linked (nodes_of_value v)) (root_from 0 v)
of_value v = grow v [] [] 0 nothing refl

pub value_forest : (v : PureValue) → IsForest (map linked (nodes_of_value v))
value_forest v = (of_value v).forest

-- the last node is no node's child
pub last_is_root : (v : PureValue) (p i c : ℕ) → IsChild (map linked (nodes_of_value v)) p i c → c + 1 < length (nodes_of_value v)
last_is_root v p i c child =
    let low = (value_forest v).before p i c child in
    let within = is_within (map linked (nodes_of_value v)) p i c child in
    omega (arith, low, within, length-map (nodes_of_value v) linked)

-- every other one is
pub has_a_place : (v : PureValue) (c : ℕ) → c + 1 < length (nodes_of_value v)
    → (p : ℕ) × (i : ℕ) × IsChild (map linked (nodes_of_value v)) p i c
has_a_place v c low =
    let one = (of_value v).under c (omega (arith, low, length-map (nodes_of_value v) linked)) in
    let last = root_is v one.place one.root one.is in
    parent (map linked (nodes_of_value v)) one.root c one.under (λ e. omega (arith, e, last, low))
  where
    parent : (nodes : List Node) (root n : ℕ) → Under nodes root n → (n ≡ root → ⊥) → (p : ℕ) × (i : ℕ) × IsChild nodes p i n
    parent nodes root _ (here n is) differ = absurd (differ is)
    parent nodes root _ (below p i c up child) differ = (p, i, child)

    root_is : (u : PureValue) (place root : ℕ) → slice_get (root_from 0 u) place ≡ Some root → root + 1 ≡ length (nodes_of_value u)
    root_is (node ty children fields) zero root is =
        let same : 0 + pure_count_all children ≡ root = cc in
        let many = as_many 0 (node ty children fields) in
        omega (arith, same, many)
    root_is (node ty children fields) (suc place) root is = (cc)
    root_is (int z) place root is = (cc)
    root_is (bool b) place root is = (cc)
    root_is (text bytes) place root is = (cc)
    root_is (map_of es) place root is = (cc)
    root_is (token t) place root is = (cc)
    root_is (source n) place root is = (cc)
