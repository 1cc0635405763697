-- Where a node stands in the preorder of a tree, and what comes behind it.
use Rattle.std.proofs.Common.{◌≡◌, ℕ, ◌+◌, List, [], ◌∷◌, ◌++◌, drop, Some, None, refl, sym, ap, ◌∙◌, subst, arith, suc, zero, append_assoc}
use Rattle.std.specs.Prelude.{slice_get, slice_index}
use Rattle.tree_store.specs.Forest.{Node, children_at, Under, here, below}
use Rattle.tree_store.specs.Orders.{Preorder, no_tree, node_first, IsNext, is_last, is_before}
use Rattle.tree_store.proofs.WalkSteps.{siblings}
use Rattle.tree_store.proofs.LinksAgree.{Tied, under_le}

-- the nodes that come after n and those under it
pub data Rest (nodes : List Node) (par num : ℕ → ℕ) (root : ℕ) : ℕ → List ℕ → Type 0 where
  at_root : (n : ℕ) → n ≡ root → Rest nodes par num root n []
  beside : (n : ℕ) (s r : List ℕ) → (n ≡ root → ⊥) → Preorder nodes (siblings nodes par num n) s → Rest nodes par num root (par n) r
      → Rest nodes par num root n (s ++ r)

-- the order is some nodes, then n, those under it, and the rest
pub record Stands (nodes : List Node) (par num : ℕ → ℕ) (root : ℕ) (order : List ℕ) (n : ℕ) : Type 0 where
  pub front : List ℕ
  pub under : List ℕ
  pub rest : List ℕ
  pub is : order ≡ front ++ (n ∷ (under ++ rest))
  pub its : Preorder nodes (children_at nodes n) under
  pub after : Rest nodes par num root n rest

-- the same of one of several trees
record Splits (nodes : List Node) (ns all : List ℕ) (i c : ℕ) : Type 0 where
  front : List ℕ
  under : List ℕ
  rest : List ℕ
  is : all ≡ front ++ (c ∷ (under ++ rest))
  its : Preorder nodes (children_at nodes c) under
  later : Preorder nodes (drop (suc i) ns) rest

split_at : (nodes : List Node) (ns all : List ℕ) (i c : ℕ) → Preorder nodes ns all → slice_get ns i ≡ Some c → Splits nodes ns all i c
split_at nodes _ _ i c no_tree at = (cc)
split_at nodes _ _ zero c (node_first n ns under rest its more) at =
    let e : n ≡ c = cc in
    record { front = []; under = under; rest = rest; is = ap (λ x. x ∷ (under ++ rest)) e; its = subst (λ x. Preorder nodes (children_at nodes x) under) e its; later = more }
split_at nodes _ _ (suc i) c (node_first n ns under rest its more) at =
    let s = split_at nodes ns rest i c more at in
    record {
      front = n ∷ (under ++ s.front);
      under = s.under;
      rest = s.rest;
      is = ap (λ x. n ∷ (under ++ x)) s.is ∙ ap (λ x. n ∷ x) (sym (append_assoc under s.front (c ∷ (s.under ++ s.rest))));
      its = s.its;
      later = s.later;
    }

regroup : (a b c d r : List ℕ) (p n : ℕ) → a ++ (p ∷ ((b ++ (n ∷ (c ++ d))) ++ r)) ≡ (a ++ (p ∷ b)) ++ (n ∷ (c ++ (d ++ r)))
regroup a b c d r p n = simp append_assoc

-- the siblings after a child
pub siblings_of : (nodes : List Node) (par num : ℕ → ℕ) (p i n : ℕ) → par n ≡ p → num n ≡ i → siblings nodes par num n ≡ drop (suc i) (children_at nodes p)
siblings_of nodes par num p i n ps is =
    let next : i + 1 ≡ suc i = omega arith in
    ap (λ k. drop (k + 1) (children_at nodes (par n))) is ∙ ap (λ q. drop (i + 1) (children_at nodes q)) ps ∙ ap (λ k. drop k (children_at nodes p)) next

start : (nodes : List Node) (par num : ℕ → ℕ) (root n : ℕ) (order : List ℕ) → n ≡ root → Preorder nodes (root ∷ []) order → Stands nodes par num root order n
start nodes par num root n _ e (node_first _ _ under _ its no_tree) =
    record { front = []; under = under; rest = []; is = ap (λ x. x ∷ (under ++ [])) (sym e); its = subst (λ x. Preorder nodes (children_at nodes x) under) (sym e) its; after = at_root n e }

-- each node under the root stands in the order
pub stands : {nodes : List Node} {parents numbers firsts nexts : List ℕ} (root n : ℕ) (order : List ℕ) → Tied nodes parents numbers firsts nexts → Under nodes root n
    → Preorder nodes (root ∷ []) order → Stands nodes (slice_index parents) (slice_index numbers) root order n
stands {nodes = nodes} root n order tied (here _ e) all = start nodes _ _ root n order e all
stands {nodes = nodes} {parents = parents} {numbers = numbers} root n order tied (below p i _ up child) all =
    let s = stands root p order tied up all in
    let t = split_at nodes (children_at nodes p) s.under i n s.its child in
    let links = tied.up p i n child in
    let le = under_le root p tied up in
    record {
      front = s.front ++ (p ∷ t.front);
      under = t.under;
      rest = t.rest ++ s.rest;
      is = s.is ∙ ap (λ x. s.front ++ (p ∷ (x ++ s.rest))) t.is ∙ regroup s.front t.front t.under t.rest s.rest p n;
      its = t.its;
      after = beside n t.rest s.rest (λ e. omega (arith, e, links.2, le))
          (subst (λ ns. Preorder nodes ns t.rest) (sym (siblings_of nodes (slice_index parents) (slice_index numbers) p i n links.0 links.1)) t.later)
          (subst (λ q. Rest nodes (slice_index parents) (slice_index numbers) root q s.rest) (sym links.0) s.after);
    }

-- the order is some nodes, then n, and what comes after a node above it
pub record After (nodes : List Node) (par num : ℕ → ℕ) (root : ℕ) (order : List ℕ) (n at : ℕ) : Type 0 where
  pub front : List ℕ
  pub rest : List ℕ
  pub is : order ≡ front ++ (n ∷ rest)
  pub after : Rest nodes par num root at rest

begins : (nodes : List Node) (ns all : List ℕ) (m : ℕ) (ms : List ℕ) → Preorder nodes ns all → ns ≡ m ∷ ms → (more : List ℕ) × (all ≡ m ∷ more)
begins nodes _ _ m ms no_tree e = (cc)
begins nodes _ _ m ms (node_first n ns under rest its more) e = let same : n ≡ m = cc in (under ++ rest, ap (λ x. x ∷ (under ++ rest)) same)

nothing : (nodes : List Node) (ns all : List ℕ) → Preorder nodes ns all → ns ≡ [] → all ≡ []
nothing nodes _ _ no_tree e = refl
nothing nodes _ _ (node_first n ns under rest its more) e = (cc)

-- a node with children is followed by the first one
pub child_is_next : (nodes : List Node) (par num : ℕ → ℕ) (root n c : ℕ) (cs order : List ℕ) → children_at nodes n ≡ c ∷ cs → Stands nodes par num root order n → IsNext order n (Some c)
child_is_next nodes par num root n c cs order are s =
    let b = begins nodes (children_at nodes n) s.under c cs s.its are in
    is_before s.front c (b.0 ++ s.rest) (s.is ∙ ap (λ x. s.front ++ (n ∷ (x ++ s.rest))) b.1)

-- one without children by what comes after it
pub bare : (nodes : List Node) (par num : ℕ → ℕ) (root n : ℕ) (order : List ℕ) → children_at nodes n ≡ [] → Stands nodes par num root order n → After nodes par num root order n n
bare nodes par num root n order none s =
    record { front = s.front; rest = s.rest; is = s.is ∙ ap (λ x. s.front ++ (n ∷ (x ++ s.rest))) (nothing nodes (children_at nodes n) s.under s.its none); after = s.after }

rest_begins : (nodes : List Node) (par num : ℕ → ℕ) (root at m : ℕ) (ms rest : List ℕ) → (at ≡ root → ⊥) → siblings nodes par num at ≡ m ∷ ms → Rest nodes par num root at rest
    → (more : List ℕ) × (rest ≡ m ∷ more)
rest_begins nodes par num root at m ms _ differ are (at_root _ e) = absurd (differ e)
rest_begins nodes par num root at m ms _ differ are (beside _ s r _ pre up) = let b = begins nodes (siblings nodes par num at) s m ms pre are in (b.0 ++ r, ap (λ x. x ++ r) b.1)

rest_up : (nodes : List Node) (par num : ℕ → ℕ) (root at : ℕ) (rest : List ℕ) → (at ≡ root → ⊥) → siblings nodes par num at ≡ [] → Rest nodes par num root at rest → Rest nodes par num root (par at) rest
rest_up nodes par num root at _ differ none (at_root _ e) = absurd (differ e)
rest_up nodes par num root at _ differ none (beside _ s r _ pre up) =
    subst (λ x. Rest nodes par num root (par at) (x ++ r)) (sym (nothing nodes (siblings nodes par num at) s pre none)) up

rest_ends : (nodes : List Node) (par num : ℕ → ℕ) (root at : ℕ) (rest : List ℕ) → at ≡ root → Rest nodes par num root at rest → rest ≡ []
rest_ends nodes par num root at _ e (at_root _ _) = refl
rest_ends nodes par num root at _ e (beside _ s r differ pre up) = absurd (differ e)

pub sibling_is_next : (nodes : List Node) (par num : ℕ → ℕ) (root n at m : ℕ) (ms order : List ℕ) → (at ≡ root → ⊥) → siblings nodes par num at ≡ m ∷ ms
    → After nodes par num root order n at → IsNext order n (Some m)
sibling_is_next nodes par num root n at m ms order differ are a =
    let b = rest_begins nodes par num root at m ms a.rest differ are a.after in
    is_before a.front m b.0 (a.is ∙ ap (λ x. a.front ++ (n ∷ x)) b.1)

pub above : (nodes : List Node) (par num : ℕ → ℕ) (root n at : ℕ) (order : List ℕ) → (at ≡ root → ⊥) → siblings nodes par num at ≡ []
    → After nodes par num root order n at → After nodes par num root order n (par at)
above nodes par num root n at order differ none a = record { front = a.front; rest = a.rest; is = a.is; after = rest_up nodes par num root at a.rest differ none a.after }

pub is_the_last : (nodes : List Node) (par num : ℕ → ℕ) (root n at : ℕ) (order : List ℕ) → at ≡ root → After nodes par num root order n at → IsNext order n None
is_the_last nodes par num root n at order e a = is_last a.front (a.is ∙ ap (λ x. a.front ++ (n ∷ x)) (rest_ends nodes par num root at a.rest e a.after))
