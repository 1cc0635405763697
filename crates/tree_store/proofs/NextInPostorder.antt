-- Where a node stands in the postorder of a tree, and what comes behind it.
use Rattle.std.proofs.Common.{◌≡◌, ℕ, List, [], ◌∷◌, ◌++◌, drop, Some, None, refl, sym, ap, ◌∙◌, subst, arith, suc, zero, append_assoc}
use Rattle.std.specs.Prelude.{slice_get, slice_index}
use Rattle.tree_store.specs.Forest.{Node, children_at, Under, here, below}
use Rattle.tree_store.specs.Orders.{Postorder, no_tree_left, node_last, IsNext, is_last, is_before}
use Rattle.tree_store.proofs.WalkSteps.{siblings}
use Rattle.tree_store.proofs.LinksAgree.{Tied, under_le}
use Rattle.tree_store.proofs.NextInPreorder.{siblings_of}

-- the nodes that come after n: those of its later siblings, its parent, and what comes after that
pub data Behind (nodes : List Node) (par num : ℕ → ℕ) (root : ℕ) : ℕ → List ℕ → Type 0 where
  at_root : (n : ℕ) → n ≡ root → Behind nodes par num root n []
  beside : (n : ℕ) (s r : List ℕ) → (n ≡ root → ⊥) → Postorder nodes (siblings nodes par num n) s → Behind nodes par num root (par n) r
      → Behind nodes par num root n (s ++ (par n ∷ r))

-- the order is some nodes, those under n, then n, and the rest
pub record Ends (nodes : List Node) (par num : ℕ → ℕ) (root : ℕ) (order : List ℕ) (n : ℕ) : Type 0 where
  pub front : List ℕ
  pub under : List ℕ
  pub rest : List ℕ
  pub is : order ≡ front ++ (under ++ (n ∷ rest))
  pub its : Postorder nodes (children_at nodes n) under
  pub after : Behind nodes par num root n rest

-- the same of one of several trees
record Splits (nodes : List Node) (ns all : List ℕ) (i c : ℕ) : Type 0 where
  front : List ℕ
  under : List ℕ
  rest : List ℕ
  is : all ≡ front ++ (under ++ (c ∷ rest))
  its : Postorder nodes (children_at nodes c) under
  later : Postorder nodes (drop (suc i) ns) rest

split_at : (nodes : List Node) (ns all : List ℕ) (i c : ℕ) → Postorder nodes ns all → slice_get ns i ≡ Some c → Splits nodes ns all i c
split_at nodes _ _ i c no_tree_left at = (cc)
split_at nodes _ _ zero c (node_last n ns under rest its more) at =
    let e : n ≡ c = cc in
    record { front = []; under = under; rest = rest; is = ap (λ x. under ++ (x ∷ rest)) e; its = subst (λ x. Postorder nodes (children_at nodes x) under) e its; later = more }
split_at nodes _ _ (suc i) c (node_last n ns under rest its more) at =
    let s = split_at nodes ns rest i c more at in
    record {
      front = under ++ (n ∷ s.front);
      under = s.under;
      rest = s.rest;
      is = ap (λ x. under ++ (n ∷ x)) s.is ∙ sym (append_assoc under (n ∷ s.front) (s.under ++ (c ∷ s.rest)));
      its = s.its;
      later = s.later;
    }

regroup : (a b c d r : List ℕ) (p n : ℕ) → a ++ ((b ++ (c ++ (n ∷ d))) ++ (p ∷ r)) ≡ (a ++ b) ++ (c ++ (n ∷ (d ++ (p ∷ r))))
regroup a b c d r p n = simp append_assoc

start : (nodes : List Node) (par num : ℕ → ℕ) (root n : ℕ) (order : List ℕ) → n ≡ root → Postorder nodes (root ∷ []) order → Ends nodes par num root order n
start nodes par num root n _ e (node_last _ _ under _ its no_tree_left) =
    record { front = []; under = under; rest = []; is = ap (λ x. under ++ (x ∷ [])) (sym e); its = subst (λ x. Postorder nodes (children_at nodes x) under) (sym e) its; after = at_root n e }

-- each node under the root stands in the order
pub ends_at : {nodes : List Node} {parents numbers firsts nexts : List ℕ} (root n : ℕ) (order : List ℕ) → Tied nodes parents numbers firsts nexts → Under nodes root n
    → Postorder nodes (root ∷ []) order → Ends nodes (slice_index parents) (slice_index numbers) root order n
ends_at {nodes = nodes} root n order tied (here _ e) all = start nodes _ _ root n order e all
ends_at {nodes = nodes} {parents = parents} {numbers = numbers} root n order tied (below p i _ up child) all =
    let s = ends_at root p order tied up all in
    let t = split_at nodes (children_at nodes p) s.under i n s.its child in
    let links = tied.up p i n child in
    let le = under_le root p tied up in
    record {
      front = s.front ++ t.front;
      under = t.under;
      rest = t.rest ++ (slice_index parents n ∷ s.rest);
      is = s.is ∙ ap (λ x. s.front ++ (x ++ (p ∷ s.rest))) t.is ∙ ap (λ q. s.front ++ ((t.front ++ (t.under ++ (n ∷ t.rest))) ++ (q ∷ s.rest))) (sym links.0)
          ∙ regroup s.front t.front t.under t.rest s.rest (slice_index parents n) n;
      its = t.its;
      after = beside n t.rest s.rest (λ e. omega (arith, e, links.2, le))
          (subst (λ ns. Postorder nodes ns t.rest) (sym (siblings_of nodes (slice_index parents) (slice_index numbers) p i n links.0 links.1)) t.later)
          (subst (λ q. Behind nodes (slice_index parents) (slice_index numbers) root q s.rest) (sym links.0) s.after);
    }

-- after n comes what the trees at `at` and beside it begin with
pub record Comes (nodes : List Node) (order : List ℕ) (n at : ℕ) : Type 0 where
  pub front : List ℕ
  pub ms : List ℕ
  pub these : List ℕ
  pub rest : List ℕ
  pub is : order ≡ front ++ (n ∷ (these ++ rest))
  pub its : Postorder nodes (at ∷ ms) these

nothing : (nodes : List Node) (ns all : List ℕ) → Postorder nodes ns all → ns ≡ [] → all ≡ []
nothing nodes _ _ no_tree_left e = refl
nothing nodes _ _ (node_last n ns under rest its more) e = (cc)

-- the root is the last
pub root_is_last : (nodes : List Node) (par num : ℕ → ℕ) (root n : ℕ) (order : List ℕ) → n ≡ root → Ends nodes par num root order n → IsNext order n None
root_is_last nodes par num root n order e s = is_last (s.front ++ s.under) (s.is ∙ ap (λ x. s.front ++ (s.under ++ (n ∷ x))) (none s.rest s.after) ∙ sym (append_assoc s.front s.under (n ∷ [])))
  where
    none : (rest : List ℕ) → Behind nodes par num root n rest → rest ≡ []
    none _ (at_root _ _) = refl
    none _ (beside _ _ _ differ _ _) = absurd (differ e)

-- a node without later siblings is followed by its parent
pub parent_is_next : (nodes : List Node) (par num : ℕ → ℕ) (root n : ℕ) (order : List ℕ) → (n ≡ root → ⊥) → siblings nodes par num n ≡ [] → Ends nodes par num root order n
    → IsNext order n (Some (par n))
parent_is_next nodes par num root n order differ none s =
    let b = up s.rest s.after in
    is_before (s.front ++ s.under) (par n) b.0 (s.is ∙ ap (λ x. s.front ++ (s.under ++ (n ∷ x))) b.1 ∙ sym (append_assoc s.front s.under (n ∷ par n ∷ b.0)))
  where
    up : (rest : List ℕ) → Behind nodes par num root n rest → (more : List ℕ) × (rest ≡ par n ∷ more)
    up _ (at_root _ e) = absurd (differ e)
    up _ (beside _ t r _ post more) = (r, ap (λ x. x ++ (par n ∷ r)) (nothing nodes (siblings nodes par num n) t post none))

-- one with later siblings by the first node of the next one's tree
pub sibling_comes : (nodes : List Node) (par num : ℕ → ℕ) (root n m : ℕ) (ms order : List ℕ) → (n ≡ root → ⊥) → siblings nodes par num n ≡ m ∷ ms → Ends nodes par num root order n
    → Comes nodes order n m
sibling_comes nodes par num root n m ms order differ are s = go s.rest s.after s.is
  where
    go : (rest : List ℕ) → Behind nodes par num root n rest → order ≡ s.front ++ (s.under ++ (n ∷ rest)) → Comes nodes order n m
    go _ (at_root _ e) is = absurd (differ e)
    go _ (beside _ t r _ post more) is = record {
      front = s.front ++ s.under;
      ms = ms;
      these = t;
      rest = par n ∷ r;
      is = is ∙ sym (append_assoc s.front s.under (n ∷ (t ++ (par n ∷ r))));
      its = subst (λ ns. Postorder nodes ns t) are post;
    }

-- going down to the first child
pub comes_down : (nodes : List Node) (order : List ℕ) (n at c : ℕ) (cs : List ℕ) → children_at nodes at ≡ c ∷ cs → Comes nodes order n at → Comes nodes order n c
comes_down nodes order n at c cs are s = go s.ms s.these s.its s.is
  where
    go : (ms these : List ℕ) → Postorder nodes (at ∷ ms) these → order ≡ s.front ++ (n ∷ (these ++ s.rest)) → Comes nodes order n c
    go ms _ (node_last _ _ under rest its more) is = record {
      front = s.front;
      ms = cs;
      these = under;
      rest = (at ∷ rest) ++ s.rest;
      is = is ∙ ap (λ x. s.front ++ (n ∷ x)) (append_assoc under (at ∷ rest) s.rest);
      its = subst (λ ns. Postorder nodes ns under) are its;
    }

-- a node without children is the first of its tree
pub leaf_is_next : (nodes : List Node) (order : List ℕ) (n at : ℕ) → children_at nodes at ≡ [] → Comes nodes order n at → IsNext order n (Some at)
leaf_is_next nodes order n at none s = go s.ms s.these s.its s.is
  where
    go : (ms these : List ℕ) → Postorder nodes (at ∷ ms) these → order ≡ s.front ++ (n ∷ (these ++ s.rest)) → IsNext order n (Some at)
    go ms _ (node_last _ _ under rest its more) is =
        is_before s.front at (rest ++ s.rest) (is ∙ ap (λ x. s.front ++ (n ∷ ((x ++ (at ∷ rest)) ++ s.rest))) (nothing nodes (children_at nodes at) under its none))
