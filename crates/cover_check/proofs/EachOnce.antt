-- In the preorder of a tree with one root each node stands exactly once.
use Rattle.std.proofs.Common.{◌≡◌, ℕ, zero, suc, ◌+◌, ◌<◌, ◌≤◌, ◌⊎◌, List, [], ◌∷◌, ◌++◌, length, Option, Some, inl, inr, arith, refl, sym, subst, ap, ◌∙◌, if◌then◌else◌}
use Rattle.std.specs.Prelude.{slice_get, nat_eq}
use Rattle.std.proofs.lemmas.Bool.{cases_eq, eq-eqb, ne_eqb}
use Rattle.tree_store.specs.Forest.{Node, children_at, IsChild, IsForest, OnlyRoot, Under, below, here}
use Rattle.tree_store.specs.Orders.{Preorder, no_tree, node_first}

-- how often a number stands in a list
abbrev pub one : ℕ → ℕ → ℕ
one m x = if nat_eq m x then 1 else 0

abbrev pub times : ℕ → List ℕ → ℕ
times m [] = 0
times m (x ∷ xs) = one m x + times m xs

pub one_same : (m x : ℕ) → m ≡ x → one m x ≡ 1
one_same m x e = rw (eq-eqb m x e) refl

pub one_other : (m x : ℕ) → (m ≡ x → ⊥) → one m x ≡ 0
one_other m x e = rw (ne_eqb m x e) refl

pub same_or_not : (m x : ℕ) → (m ≡ x) ⊎ (m ≡ x → ⊥)
same_or_not m x = cases_eq m x

times-append : (m : ℕ) (xs ys : List ℕ) → times m (xs ++ ys) ≡ times m xs + times m ys
times-append m [] ys = omega arith
times-append m (x ∷ xs) ys = let more = times-append m xs ys in omega (arith, more)

same_in : {o : Option ℕ} {a b : ℕ} → o ≡ Some a → o ≡ Some b → a ≡ b
same_in e f = cc

pub times_none : (m : ℕ) (xs : List ℕ) → ((i : ℕ) → slice_get xs i ≡ Some m → ⊥) → times m xs ≡ 0
times_none m [] none = refl
times_none m (x ∷ xs) none =
    let mine = one_other m x (λ e. none 0 (ap Some (sym e))) in
    let more = times_none m xs (λ i. none (suc i)) in omega (arith, mine, more)

times_once : (m : ℕ) (xs : List ℕ) (i : ℕ) → slice_get xs i ≡ Some m → ((j : ℕ) → slice_get xs j ≡ Some m → j ≡ i) → times m xs ≡ 1
times_once m [] i at only = cc
times_once m (x ∷ xs) zero at only =
    let mine = one_same m x (same_in refl (sym at)) in
    let more = times_none m xs (λ j e. (let no = only (suc j) e in omega (arith, no))) in omega (arith, mine, more)
times_once m (x ∷ xs) (suc i) at only =
    let mine = one_other m x (λ e. (let no = only 0 (ap Some (sym e)) in omega (arith, no))) in
    let more = times_once m xs i at (λ j e. (let same = only (suc j) e in omega (arith, same))) in omega (arith, mine, more)

-- a node that is no child stands in an order as often as among the roots
times_root : {nodes : List Node} {ns order : List ℕ} (m : ℕ) → ((p i : ℕ) → IsChild nodes p i m → ⊥) → Preorder nodes ns order → times m order ≡ times m ns
times_root m none no_tree = refl
times_root {nodes = nodes} m none (node_first n ns under rest inner beside) =
    let a = times-append m under rest in
    let b = times_root m none inner in
    let c = times_root m none beside in
    let d = times_none m (children_at nodes n) (none n) in
    omega (arith, a, b, c, d)

children_times : (nodes : List Node) (p i m n : ℕ) → IsForest nodes → IsChild nodes p i m → times m (children_at nodes n) ≡ one p n
children_times nodes p i m n forest is = elim (same_or_not p n) [
  | inl same ↦ times_once m (children_at nodes n) i (subst (λ z. IsChild nodes z i m) same is)
      (λ j at. (forest.one_place n j p i m at is).1) ∙ sym (one_same p n same)
  | inr differ ↦ times_none m (children_at nodes n) (λ j at. differ (sym (forest.one_place n j p i m at is).0)) ∙ sym (one_other p n differ)
]

-- a child stands in an order once more for each time that its parent does
times_child : {nodes : List Node} {ns order : List ℕ} (p i m : ℕ) → IsForest nodes → IsChild nodes p i m → Preorder nodes ns order
    → times m order ≡ times m ns + times p order
times_child p i m forest is no_tree = refl
times_child {nodes = nodes} p i m forest is (node_first n ns under rest inner beside) =
    let a = times-append m under rest in
    let b = times-append p under rest in
    let c = times_child p i m forest is inner in
    let d = times_child p i m forest is beside in
    let e = children_times nodes p i m n forest is in
    omega (arith, a, b, c, d, e)

child_or_not : (xs : List ℕ) (m : ℕ) → ((i : ℕ) × (slice_get xs i ≡ Some m)) ⊎ ((i : ℕ) → slice_get xs i ≡ Some m → ⊥)
child_or_not [] m = inr (λ i e. cc)
child_or_not (x ∷ xs) m = elim (same_or_not m x) [
  | inl same ↦ inl (0, ap Some (sym same))
  | inr differ ↦ elim (child_or_not xs m) [
    | inl (i, at) ↦ inl (suc i, at)
    | inr none ↦ inr (further differ none)
  ]
]
  where
    further : (m ≡ x → ⊥) → ((i : ℕ) → slice_get xs i ≡ Some m → ⊥) → (i : ℕ) → slice_get (x ∷ xs) i ≡ Some m → ⊥
    further differ none zero e = differ (same_in refl (sym e))
    further differ none (suc i) e = none i e

-- a node is the child of one, or of none
parent_or_not : (nodes : List Node) (m : ℕ) → ((p : ℕ) × (i : ℕ) × (p < length nodes) × IsChild nodes p i m) ⊎ ((p i : ℕ) → IsChild nodes p i m → ⊥)
parent_or_not [] m = inr (λ p i e. cc)
parent_or_not (node ∷ nodes) m = elim (child_or_not node.children m) [
  | inl (i, at) ↦ inl (0, i, omega arith, at)
  | inr none ↦ elim (parent_or_not nodes m) [
    | inl (p, i, lt, at) ↦ inl (suc p, i, omega (arith, lt), at)
    | inr no_more ↦ inr (further none no_more)
  ]
]
  where
    further : ((i : ℕ) → slice_get node.children i ≡ Some m → ⊥) → ((p i : ℕ) → IsChild nodes p i m → ⊥) → (p i : ℕ) → IsChild (node ∷ nodes) p i m → ⊥
    further none no_more zero i e = none i e
    further none no_more (suc p) i e = no_more p i e

-- each node stands once in the order of a tree with one root
pub once : (nodes : List Node) (r : ℕ) (order : List ℕ) → IsForest nodes → OnlyRoot nodes r → Preorder nodes (r ∷ []) order
    → (d n : ℕ) → length nodes ≤ n + d → n < length nodes → times n order ≡ 1
once nodes r order forest only pre zero n le lt = absurd (omega (arith, le, lt))
once nodes r order forest only pre (suc d) n le lt = elim (parent_or_not nodes n) [
  | inl (p, i, low, is) ↦ (
      let above = forest.before p i n is in
      let parent = once nodes r order forest only pre d p (omega (arith, le, above)) low in
      let mine = times_child p i n forest is pre in
      let not_root = one_other n r (λ e. only.root.no_child p i (subst (λ z. IsChild nodes p i z) e is)) in
      omega (arith, parent, mine, not_root))
  | inr none ↦ (
      let same = only.only n (record { within = lt; no_child = none }) in
      let mine = times_root n none pre in
      let itself = one_same n r same in
      omega (arith, mine, itself))
]

-- what stands in a list stands there at some place, and at one place where it stands once
pub some_place : (m : ℕ) (xs : List ℕ) → times m xs ≡ 1 → (i : ℕ) × (slice_get xs i ≡ Some m)
some_place m xs e = elim (child_or_not xs m) [
  | inl found ↦ found
  | inr none ↦ absurd (let no = times_none m xs none in omega (arith, e, no))
]

times_some : (m : ℕ) (xs : List ℕ) (i : ℕ) → slice_get xs i ≡ Some m → 1 ≤ times m xs
times_some m [] i at = cc
times_some m (x ∷ xs) zero at = let mine = one_same m x (same_in refl (sym at)) in omega (arith, mine)
times_some m (x ∷ xs) (suc i) at = let more = times_some m xs i at in omega (arith, more)

pub one_place : (m : ℕ) (xs : List ℕ) (i j : ℕ) → times m xs ≤ 1 → slice_get xs i ≡ Some m → slice_get xs j ≡ Some m → i ≡ j
one_place m [] i j le a b = cc
one_place m (x ∷ xs) zero zero le a b = refl
one_place m (x ∷ xs) zero (suc j) le a b = absurd (
    let mine = one_same m x (same_in refl (sym a)) in let more = times_some m xs j b in omega (arith, mine, more, le))
one_place m (x ∷ xs) (suc i) zero le a b = absurd (
    let mine = one_same m x (same_in refl (sym b)) in let more = times_some m xs i a in omega (arith, mine, more, le))
one_place m (x ∷ xs) (suc i) (suc j) le a b = let same = one_place m xs i j (omega (arith, le)) a b in omega (arith, same)

either : (xs ys : List ℕ) (k n : ℕ) → slice_get (xs ++ ys) k ≡ Some n → (slice_get xs k ≡ Some n) ⊎ ((j : ℕ) × (slice_get ys j ≡ Some n))
either [] ys k n e = inr (k, e)
either (x ∷ xs) ys zero n e = inl e
either (x ∷ xs) ys (suc k) n e = either xs ys k n e

-- what holds of roots, and of children where it holds of their parent, holds of all nodes of an order
pub all_of_order : {nodes : List Node} {ns order : List ℕ} (P : ℕ → Type 0) → ((p i c : ℕ) → IsChild nodes p i c → P p → P c)
    → ((k n : ℕ) → slice_get ns k ≡ Some n → P n) → Preorder nodes ns order → (k n : ℕ) → slice_get order k ≡ Some n → P n
all_of_order P down roots no_tree k n at = cc
all_of_order P down roots (node_first r ns under rest inner beside) zero n at = roots 0 n at
all_of_order P down roots (node_first r ns under rest inner beside) (suc k) n at = go (either under rest k n at)
    (λ left. all_of_order P down (λ j c is. down r j c is (roots 0 r refl)) inner k n left)
    (λ j right. all_of_order P down (λ i m is. roots (suc i) m is) beside j n right)
  where
    go : (slice_get under k ≡ Some n) ⊎ ((j : ℕ) × (slice_get rest j ≡ Some n)) → (slice_get under k ≡ Some n → P n) → ((j : ℕ) → slice_get rest j ≡ Some n → P n) → P n
    go (inl left) f g = f left
    go (inr (j, right)) f g = g j right

-- all nodes of an order are there
pub all_there : {nodes : List Node} {ns order : List ℕ} → IsForest nodes → ((k n : ℕ) → slice_get ns k ≡ Some n → n < length nodes) → Preorder nodes ns order
    → (k n : ℕ) → slice_get order k ≡ Some n → n < length nodes
all_there {nodes = nodes} forest low pre k n at =
    all_of_order (λ m. m < length nodes) (λ p i c is lt. (let b = forest.before p i c is in omega (arith, b, lt))) low pre k n at

-- all nodes of a root's order are under it
pub all_under : {nodes : List Node} {r : ℕ} {order : List ℕ} → Preorder nodes (r ∷ []) order → (k n : ℕ) → slice_get order k ≡ Some n → Under nodes r n
all_under {nodes = nodes} {r = r} pre k n at = all_of_order (Under nodes r) (λ p i c is up. below p i c up is) roots pre k n at
  where
    roots : (k n : ℕ) → slice_get (r ∷ []) k ≡ Some n → Under nodes r n
    roots zero n e = here n (same_in refl (sym e))
    roots (suc k) n e = cc
