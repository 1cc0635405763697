-- Where the nodes of a value stand in its tree.
use Rattle.std.proofs.Common.{◌≡◌, ℕ, ◌+◌, ◌<◌, List, [], ◌∷◌, ◌++◌, length, map, Some, zero, suc, refl, sym, ap, ◌∙◌, subst, arith, append_assoc, length-append}
use Rattle.std.specs.Prelude.{slice_get}
use Rattle.expr_lang.specs.PureOf.{pure_fields}
use Rattle.expr_lang.specs.PureValues.{PureValue, PureValues, node, and_pure}
use Rattle.tree_store.specs.Forest.{Node, node_at, children_at}
use Rattle.tree_build.specs.Shown.{PureNode, pure_count, pure_count_all, roots_from, nodes_from, all_nodes_from, pure_node}
use Rattle.tree_build.proofs.NodesNumbered.{as_many, as_many_of_all}

-- from place k on a list has these
pub record Placed (all : List PureNode) (k : ℕ) (part : List PureNode) : Type 0 where
  pub before : List PureNode
  pub after : List PureNode
  pub long : length before ≡ k
  pub is : all ≡ before ++ (part ++ after)

pub front : (all : List PureNode) (k : ℕ) (a b : List PureNode) → Placed all k (a ++ b) → Placed all k a
front all k a b p = record {
  before = p.before;
  after = b ++ p.after;
  long = p.long;
  is = p.is ∙ ap (λ xs. p.before ++ xs) (append_assoc a b p.after);
}

pub back : (all : List PureNode) (k n : ℕ) (a b : List PureNode) → length a ≡ n → Placed all k (a ++ b) → Placed all (k + n) b
back all k n a b e p = record {
  before = p.before ++ a;
  after = p.after;
  long = (let long = p.long in omega (arith, e, long, length-append p.before a));
  is = p.is ∙ ap (λ xs. p.before ++ xs) (append_assoc a b p.after) ∙ sym (append_assoc p.before a (b ++ p.after));
}

at_place : (before after : List PureNode) (x : PureNode) (k : ℕ) → length before ≡ k → slice_get (before ++ (x ∷ after)) k ≡ Some x
at_place [] after x zero e = refl
at_place [] after x (suc k) e = absurd (omega (arith, e))
at_place (y ∷ before) after x zero e = absurd (omega (arith, e))
at_place (y ∷ before) after x (suc k) e = at_place before after x k (omega (arith, e))

pub here : (all : List PureNode) (k : ℕ) (x : PureNode) → Placed all k (x ∷ []) → slice_get all k ≡ Some x
here all k x p = ap (λ xs. slice_get xs k) p.is ∙ at_place p.before p.after x k p.long

-- the node at a place of a tree
pub record IsAt (s l : List ℕ) (nodes : List Node) (n ty : ℕ) (children : List ℕ) (fields : PureValues) : Type 0 where
  pub within : n < length nodes
  pub type_is : (node_at nodes n).ty ≡ ty
  pub children_are : children_at nodes n ≡ children
  pub fields_are : pure_fields s l (node_at nodes n).fields ≡ fields

node_there : (s l : List ℕ) (nodes : List Node) (n : ℕ) (x : PureNode) → slice_get (map (pure_node s l) nodes) n ≡ Some x
    → (n < length nodes) × (pure_node s l (node_at nodes n) ≡ x)
node_there s l [] n x is = (cc)
node_there s l (y ∷ nodes) zero x is = (omega arith, (let same : pure_node s l y ≡ x = cc in same))
node_there s l (y ∷ nodes) (suc n) x is = (let rest = node_there s l nodes n x is in let low = rest.0 in (omega (arith, low), rest.1))

-- the parts of a value that stands at a place: its children's nodes, its root, and what stands beside it
pub record Parts (s l : List ℕ) (nodes : List Node) (k ty : ℕ) (children fields more : PureValues) : Type 0 where
  pub root : IsAt s l nodes (k + pure_count_all children) ty (roots_from k children) fields
  pub under : Placed (map (pure_node s l) nodes) k (all_nodes_from k children)
  pub beside : Placed (map (pure_node s l) nodes) (k + pure_count (node ty children fields))
      (all_nodes_from (k + pure_count (node ty children fields)) more)

pub parts : (s l : List ℕ) (nodes : List Node) (k ty : ℕ) (children fields more : PureValues)
    → Placed (map (pure_node s l) nodes) k (all_nodes_from k (and_pure (node ty children fields) more))
    → Parts s l nodes k ty children fields more
parts s l nodes k ty children fields more p =
    let all : List PureNode = map (pure_node s l) nodes in
    let v : PureValue = node ty children fields in
    let x : PureNode = record { ty = ty; children = roots_from k children; fields = fields } in
    let first = front all k (nodes_from k v) (all_nodes_from (k + pure_count v) more) p in
    let last = back all k (pure_count_all children) (all_nodes_from k children) (x ∷ []) (as_many_of_all k children) first in
    let there = node_there s l nodes (k + pure_count_all children) x (here all (k + pure_count_all children) x last) in
    record {
      root = record {
        within = there.0;
        type_is = ap (λ y. y.ty) there.1;
        children_are = ap (λ y. y.children) there.1;
        fields_are = ap (λ y. y.fields) there.1;
      };
      under = front all k (all_nodes_from k children) (x ∷ []) first;
      beside = back all k (pure_count v) (nodes_from k v) (all_nodes_from (k + pure_count v) more) (as_many k v) p;
    }

-- a value that is no node takes no place
pub skip : (all : List PureNode) (k : ℕ) (part : List PureNode) → Placed all k part → Placed all (k + 0) part
skip all k part p = (let same : k ≡ k + 0 = omega arith in subst (λ n. Placed all n part) same p)
