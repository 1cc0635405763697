-- The nodes of trees that are laid out one after the other are those of their values.
use Rattle.std.proofs.Common.{◌≡◌, ℕ, ◌+◌, List, [], ◌∷◌, ◌++◌, length, map, take, drop, refl, sym, ap, ap₂, ◌∙◌, subst, arith, zero, suc, length-append, append_assoc, append-nil}
use Rattle.std.proofs.lemmas.List.{length-map}
use Rattle.value_store.specs.MadeTrees.{MadeTree, MadeTrees, made, no_trees, and_trees, type_of, children_of, fields_of}
use Rattle.value_store.specs.declared.value.Value.{Value}
use Rattle.value_store.specs.declared.value.Value.TheVariants as value
use Rattle.expr_lang.specs.PureOf.{pure_field, pure_fields, pure_trees, pure_tree}
use Rattle.expr_lang.specs.PureValues.{PureValue, PureValues, int, bool, text, map_of, token, source, node, no_pure, and_pure}
use Rattle.tree_store.specs.Forest.{Node}
use Rattle.tree_store.specs.Fitting.{as_field}
use Rattle.tree_build.specs.Shown.{PureNode, pure_count, pure_count_all, root_from, roots_from, nodes_from, all_nodes_from, nodes_of_value, pure_node}
use Rattle.tree_build.specs.within.Laying.{joined, trees_count, AreNodesOf}

pub map-append : {A B : Type 0} (f : A → B) (xs ys : List A) → map f (xs ++ ys) ≡ map f xs ++ map f ys
map-append f [] ys = refl
map-append f (x ∷ xs) ys = ap (λ zs. f x ∷ zs) (map-append f xs ys)

take-front : {A : Type 0} (xs ys : List A) (n : ℕ) → n ≡ length xs → take n (xs ++ ys) ≡ xs
take-front [] [] zero e = refl
take-front [] (y ∷ ys) zero e = refl
take-front [] ys (suc n) e = absurd (omega (arith, e))
take-front (x ∷ xs) ys zero e = absurd (omega (arith, e))
take-front (x ∷ xs) ys (suc n) e = ap (λ zs. x ∷ zs) (take-front xs ys n (omega (arith, e)))

drop-front : {A : Type 0} (xs ys : List A) (n : ℕ) → n ≡ length xs → drop n (xs ++ ys) ≡ ys
drop-front [] [] zero e = refl
drop-front [] (y ∷ ys) zero e = refl
drop-front [] ys (suc n) e = absurd (omega (arith, e))
drop-front (x ∷ xs) ys zero e = absurd (omega (arith, e))
drop-front (x ∷ xs) ys (suc n) e = drop-front xs ys n (omega (arith, e))

-- fields as they are laid out have the pure values of the fields
field_shown : (s l : List ℕ) (v : Value) → pure_field s l (as_field v) ≡ pure_field s l v
field_shown s l (value.Int z) = refl
field_shown s l (value.Bool b) = refl
field_shown s l (value.Text t) = refl
field_shown s l (value.Map m) = refl
field_shown s l (value.Token k) = refl
field_shown s l (value.Src n) = refl
field_shown s l (value.Made c) = refl

pub fields_shown : (s l : List ℕ) (vs : List Value) → pure_fields s l (map as_field vs) ≡ pure_fields s l vs
fields_shown s l [] = refl
fields_shown s l (v ∷ vs) = ap₂ (λ x y. and_pure x y) (field_shown s l v) (fields_shown s l vs)

-- a value has as many nodes as are counted
mutual
  pub as_many : (k : ℕ) (v : PureValue) → length (nodes_from k v) ≡ pure_count v
  as_many k (node ty children fields) =
      let below = as_many_of_all k children in
      omega (arith, below, length-append (all_nodes_from k children) (record { ty = ty; children = roots_from k children; fields = fields } ∷ []))
  as_many k (int z) = refl
  as_many k (bool b) = refl
  as_many k (text bytes) = refl
  as_many k (map_of es) = refl
  as_many k (token t) = refl
  as_many k (source n) = refl

  pub as_many_of_all : (k : ℕ) (vs : PureValues) → length (all_nodes_from k vs) ≡ pure_count_all vs
  as_many_of_all k no_pure = refl
  as_many_of_all k (and_pure v vs) =
      let first = as_many k v in
      let rest = as_many_of_all (k + pure_count v) vs in
      omega (arith, first, rest, length-append (nodes_from k v) (all_nodes_from (k + pure_count v) vs))

module _ (s l : List ℕ) where
  -- trees, and then others
  nodes_joined : (k : ℕ) (ts us : MadeTrees) → all_nodes_from k (pure_trees s l (joined ts us))
      ≡ all_nodes_from k (pure_trees s l ts) ++ all_nodes_from (k + pure_count_all (pure_trees s l ts)) (pure_trees s l us)
  nodes_joined k no_trees us =
      let same : k ≡ k + 0 = omega arith in
      subst (λ n. all_nodes_from k (pure_trees s l us) ≡ all_nodes_from n (pure_trees s l us)) same refl
  nodes_joined k (and_trees (made ty children fields) ts) us =
      let v : PureValue = node ty (pure_trees s l children) (pure_fields s l fields) in
      let n : ℕ = pure_count v in
      let m : ℕ = pure_count_all (pure_trees s l ts) in
      let at : (k + n) + m ≡ k + (n + m) = omega arith in
      let rest = nodes_joined (k + n) ts us in
      let moved = subst (λ i. all_nodes_from (k + n) (pure_trees s l (joined ts us))
      ≡ all_nodes_from (k + n) (pure_trees s l ts) ++ all_nodes_from i (pure_trees s l us)) at rest in
      ap (λ xs. nodes_from k v ++ xs) moved
      ∙ sym (append_assoc (nodes_from k v) (all_nodes_from (k + n) (pure_trees s l ts)) (all_nodes_from (k + (n + m)) (pure_trees s l us)))

  roots_joined : (k : ℕ) (ts us : MadeTrees) → roots_from k (pure_trees s l (joined ts us))
      ≡ roots_from k (pure_trees s l ts) ++ roots_from (k + pure_count_all (pure_trees s l ts)) (pure_trees s l us)
  roots_joined k no_trees us =
      let same : k ≡ k + 0 = omega arith in
      subst (λ n. roots_from k (pure_trees s l us) ≡ roots_from n (pure_trees s l us)) same refl
  roots_joined k (and_trees (made ty children fields) ts) us =
      let v : PureValue = node ty (pure_trees s l children) (pure_fields s l fields) in
      let n : ℕ = pure_count v in
      let m : ℕ = pure_count_all (pure_trees s l ts) in
      let at : (k + n) + m ≡ k + (n + m) = omega arith in
      let rest = roots_joined (k + n) ts us in
      let moved = subst (λ i. roots_from (k + n) (pure_trees s l (joined ts us))
      ≡ roots_from (k + n) (pure_trees s l ts) ++ roots_from i (pure_trees s l us)) at rest in
      ap (λ xs. root_from k v ++ xs) moved
      ∙ sym (append_assoc (root_from k v) (roots_from (k + n) (pure_trees s l ts)) (roots_from (k + (n + m)) (pure_trees s l us)))

  as_many_roots : (k : ℕ) (ts : MadeTrees) → length (roots_from k (pure_trees s l ts)) ≡ trees_count ts
  as_many_roots k no_trees = refl
  as_many_roots k (and_trees (made ty children fields) ts) =
      ap suc (as_many_roots (k + pure_count (node ty (pure_trees s l children) (pure_fields s l fields))) ts)

  -- one tree: the nodes of its children, and its root
  nodes_of_one : (k : ℕ) (t : MadeTree) → all_nodes_from k (pure_trees s l (and_trees t no_trees))
      ≡ all_nodes_from k (pure_trees s l (children_of t)) ++ record {
        ty = type_of t;
        children = roots_from k (pure_trees s l (children_of t));
        fields = pure_fields s l (fields_of t);
      } ∷ []
  nodes_of_one k (made ty children fields) = append-nil _

  root_of_one : (k : ℕ) (t : MadeTree) → roots_from k (pure_trees s l (and_trees t no_trees))
      ≡ (k + pure_count_all (pure_trees s l (children_of t))) ∷ []
  root_of_one k (made ty children fields) = refl

  -- a node over the last roots
  node_is : (x : Node) (t : MadeTree) (kids : List ℕ) → x.ty ≡ type_of t → x.children ≡ kids → x.fields ≡ map as_field (fields_of t)
      → pure_node s l x ≡ record { ty = type_of t; children = kids; fields = pure_fields s l (fields_of t) }
  node_is x t kids is over are = rw (is, over, are, fields_shown s l (fields_of t)) refl

  nodes_more : (ts : MadeTrees) (t : MadeTree) (done : List ℕ) (nodes : List Node) (front : ℕ) (x : Node)
      → front ≡ trees_count ts → map (pure_node s l) nodes ≡ all_nodes_from 0 (pure_trees s l (joined ts (children_of t)))
      → done ≡ roots_from 0 (pure_trees s l (joined ts (children_of t)))
      → x.ty ≡ type_of t → x.children ≡ drop front done → x.fields ≡ map as_field (fields_of t)
      → map (pure_node s l) (nodes ++ x ∷ []) ≡ all_nodes_from 0 (pure_trees s l (joined ts (and_trees t no_trees)))
  nodes_more ts t done nodes front x e laid numbered is kids are =
      let k : ℕ = 0 + pure_count_all (pure_trees s l ts) in
      let below : List PureNode = all_nodes_from 0 (pure_trees s l ts) in
      let under : List PureNode = all_nodes_from k (pure_trees s l (children_of t)) in
      let over : x.children ≡ roots_from k (pure_trees s l (children_of t)) =
      kids ∙ ap (drop front) (numbered ∙ roots_joined 0 ts (children_of t))
      ∙ drop-front (roots_from 0 (pure_trees s l ts)) (roots_from k (pure_trees s l (children_of t))) front
      (let n = as_many_roots 0 ts in omega (arith, e, n)) in
      map-append (pure_node s l) nodes (x ∷ [])
      ∙ ap (λ ns. ns ++ pure_node s l x ∷ []) (laid ∙ nodes_joined 0 ts (children_of t))
      ∙ append_assoc below under (pure_node s l x ∷ [])
      ∙ ap (λ n. below ++ (under ++ n ∷ [])) (node_is x t (roots_from k (pure_trees s l (children_of t))) is over are)
      ∙ ap (λ ns. below ++ ns) (sym (nodes_of_one k t))
      ∙ sym (nodes_joined 0 ts (and_trees t no_trees))

  roots_more_are : (ts : MadeTrees) (t : MadeTree) (done : List ℕ) (nodes : List Node) (front : ℕ)
      → front ≡ trees_count ts → map (pure_node s l) nodes ≡ all_nodes_from 0 (pure_trees s l (joined ts (children_of t)))
      → done ≡ roots_from 0 (pure_trees s l (joined ts (children_of t)))
      → take front done ++ length nodes ∷ [] ≡ roots_from 0 (pure_trees s l (joined ts (and_trees t no_trees)))
  roots_more_are ts t done nodes front e laid numbered =
      let k : ℕ = 0 + pure_count_all (pure_trees s l ts) in
      let first : take front done ≡ roots_from 0 (pure_trees s l ts) =
      ap (take front) (numbered ∙ roots_joined 0 ts (children_of t))
      ∙ take-front (roots_from 0 (pure_trees s l ts)) (roots_from k (pure_trees s l (children_of t))) front
      (let n = as_many_roots 0 ts in omega (arith, e, n)) in
      let long : length nodes ≡ k + pure_count_all (pure_trees s l (children_of t)) =
      (let a = length-map nodes (pure_node s l) in
      let b = ap (λ ns. length ns) (laid ∙ nodes_joined 0 ts (children_of t)) in
      let c = length-append (all_nodes_from 0 (pure_trees s l ts)) (all_nodes_from k (pure_trees s l (children_of t))) in
      let d = as_many_of_all 0 (pure_trees s l ts) in
      let f = as_many_of_all k (pure_trees s l (children_of t)) in
      omega (arith, a, b, c, d, f)) in
      ap₂ (λ xs n. xs ++ n ∷ []) first long
      ∙ ap (λ ns. roots_from 0 (pure_trees s l ts) ++ ns) (sym (root_of_one k t))
      ∙ sym (roots_joined 0 ts (and_trees t no_trees))

-- one node more over the last roots
pub nodes_of_more : (ts : MadeTrees) (t : MadeTree) (done : List ℕ) (nodes : List Node) (front : ℕ) (x : Node)
    → front ≡ trees_count ts → AreNodesOf (joined ts (children_of t)) done nodes
    → x.ty ≡ type_of t → x.children ≡ drop front done → x.fields ≡ map as_field (fields_of t)
    → AreNodesOf (joined ts (and_trees t no_trees)) (take front done ++ length nodes ∷ []) (nodes ++ x ∷ [])
nodes_of_more ts t done nodes front x e before is kids are = record {
  nodes_are = λ s l. nodes_more s l ts t done nodes front x e (before.nodes_are s l) (before.roots_are s l) is kids are;
  roots_are = λ s l. roots_more_are s l ts t done nodes front e (before.nodes_are s l) (before.roots_are s l);
}

-- the nodes of one tree alone are those of its value
pub nodes_of_whole : (s l : List ℕ) (t : MadeTree) → all_nodes_from 0 (pure_trees s l (and_trees t no_trees)) ≡ nodes_of_value (pure_tree s l t)
nodes_of_whole s l (made ty children fields) = append-nil _
