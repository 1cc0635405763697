-- The nodes of a preorder, one after the other: each step goes one place on, and there are no more places than nodes.
use Rattle.std.proofs.Common.{◌≡◌, ℕ, zero, suc, ◌+◌, ◌<◌, ◌≤◌, List, [], ◌∷◌, ◌++◌, length, Option, Some, None, inl, inr, arith, refl, sym, subst, ap, ◌∙◌, length-append}
use Rattle.std.specs.Prelude.{slice_get}
use Rattle.std.proofs.lemmas.Option.{slice_get_within}
use Rattle.std.proofs.lemmas.Bool.{cases_lt}
use Rattle.beg_model.proofs.Search.{last_or_before}
use Rattle.beg_model.specs.Cover.{Application}
use Rattle.beg_model.specs.Labels.{Costs, IsRightAt}
use Rattle.tree_store.specs.Forest.{Node, IsForest, OnlyRoot, Under, here}
use Rattle.tree_store.specs.Orders.{Preorder, node_first, IsNext, is_last, is_before}
use Rattle.cover_check.specs.Checked.{IsFirstWrong}
use Rattle.cover_check.specs.within.Pairs.{NodeChecked}
use Rattle.cover_check.proofs.EachOnce.{one_same, one_other, same_or_not, times, times_none, once, one_place, all_there, all_under, some_place}

at_end : (front : List ℕ) (x : ℕ) (rest : List ℕ) → slice_get (front ++ (x ∷ rest)) (length front) ≡ Some x
at_end [] x rest = refl
at_end (y ∷ front) x rest = at_end front x rest

at_next : (front : List ℕ) (x y : ℕ) (rest : List ℕ) (k : ℕ) → k ≡ length front + 1 → slice_get (front ++ (x ∷ y ∷ rest)) k ≡ Some y
at_next [] x y rest zero e = absurd (omega (arith, e))
at_next [] x y rest (suc zero) e = refl
at_next [] x y rest (suc (suc k)) e = absurd (omega (arith, e))
at_next (z ∷ front) x y rest zero e = absurd (omega (arith, e))
at_next (z ∷ front) x y rest (suc k) e = at_next front x y rest k (omega (arith, e))

-- ------------------------------------------------------------------ no more places than nodes

-- how many of a list are below a number
abbrev total : ℕ → List ℕ → ℕ
total zero xs = 0
total (suc k) xs = times k xs + total k xs

total_none : (n : ℕ) → total n [] ≡ 0
total_none zero = refl
total_none (suc k) = let more = total_none k in omega (arith, more)

total_past : (n x : ℕ) (xs : List ℕ) → n ≤ x → total n (x ∷ xs) ≡ total n xs
total_past zero x xs le = refl
total_past (suc k) x xs le =
    let more = total_past k x xs (omega (arith, le)) in
    let other = one_other k x (λ e. omega (arith, e, le)) in omega (arith, more, other)

total_more : (n x : ℕ) (xs : List ℕ) → x < n → total n (x ∷ xs) ≡ total n xs + 1
total_more zero x xs lt = absurd (omega (arith, lt))
total_more (suc k) x xs lt = elim (same_or_not k x) [
  | inl same ↦ (let more = total_past k x xs (omega (arith, same)) in let mine = one_same k x same in omega (arith, more, mine))
  | inr differ ↦ (let more = total_more k x xs (before k x lt differ) in let mine = one_other k x differ in omega (arith, more, mine))
]
  where
    before : (k x : ℕ) → x < suc k → (k ≡ x → ⊥) → x < k
    before k x lt differ = elim (last_or_before x k lt) [
      | inl same ↦ absurd (differ same)
      | inr less ↦ less
    ]

all_counted : (n : ℕ) (xs : List ℕ) → ((k m : ℕ) → slice_get xs k ≡ Some m → m < n) → total n xs ≡ length xs
all_counted n [] low = total_none n
all_counted n (x ∷ xs) low =
    let first = total_more n x xs (low 0 x refl) in
    let more = all_counted n xs (λ k m at. low (suc k) m at) in omega (arith, first, more)

few_counted : (n : ℕ) (xs : List ℕ) → ((m : ℕ) → times m xs ≤ 1) → total n xs ≤ n
few_counted zero xs few = omega arith
few_counted (suc k) xs few = let same = few k in let more = few_counted k xs few in omega (arith, same, more)

module _ (nodes : List Node) (r : ℕ) (forest : IsForest nodes) (only : OnlyRoot nodes r) (order : List ℕ) (pre : Preorder nodes (r ∷ []) order) where
  roots_low : (k n : ℕ) → slice_get (r ∷ []) k ≡ Some n → n < length nodes
  roots_low zero n at = let same : r ≡ n = cc in let lt = only.root.within in omega (arith, same, lt)
  roots_low (suc k) n at = cc

  pub standing : (n : ℕ) → n < length nodes → times n order ≡ 1
  standing n lt = once nodes r order forest only pre (length nodes) n (omega arith) lt

  pub low : (k n : ℕ) → slice_get order k ≡ Some n → n < length nodes
  low = all_there forest roots_low pre

  at_most_once : (m : ℕ) → times m order ≤ 1
  at_most_once m = elim (cases_lt m (length nodes)) [
    | inl lt ↦ (let e = standing m lt in omega (arith, e))
    | inr le ↦ (let e = times_none m order (λ i at. (let lt = low i m at in omega (arith, lt, le))) in omega (arith, e))
  ]

  pub few_places : length order ≤ length nodes
  few_places =
      let a = all_counted (length nodes) order low in
      let b = few_counted (length nodes) order at_most_once in omega (arith, a, b)

  pub same_place : (m i j : ℕ) → slice_get order i ≡ Some m → slice_get order j ≡ Some m → i ≡ j
  same_place m i j a b = one_place m order i j (at_most_once m) a b

  pub a_place : (n : ℕ) → n < length nodes → (i : ℕ) × (slice_get order i ≡ Some n)
  a_place n lt = some_place n order (standing n lt)

  -- what stands behind a node stands at the next place
  pub next_place : (n m turn : ℕ) → IsNext order n (Some m) → slice_get order turn ≡ Some n → slice_get order (turn + 1) ≡ Some m
  next_place n m turn (is_before front _ rest is) at =
      let same = same_place n turn (length front) at (subst (λ z. slice_get z (length front) ≡ Some n) (sym is) (at_end front n (m ∷ rest))) in
      subst (λ z. slice_get z (turn + 1) ≡ Some m) (sym is) (at_next front n m rest (turn + 1) (omega (arith, same)))

  -- behind the last one there is none
  pub last_place : (n turn k : ℕ) {x : ℕ} → IsNext order n None → slice_get order turn ≡ Some n → slice_get order k ≡ Some x → k ≤ turn
  last_place n turn k (is_last front is) at there =
      let same = same_place n turn (length front) at (subst (λ z. slice_get z (length front) ≡ Some n) (sym is) (at_end front n [])) in
      let within = slice_get_within order k _ there in
      let size = ap length is ∙ length-append front (n ∷ []) in
      omega (arith, same, within, size)

-- ------------------------------------------------------------------ pairs so far

-- the nodes of the order before this place are right
pub record RightBefore (A : Application) (costs rules : Costs) (nodes : List Node) (root width turn node : ℕ) : Type 0 where
  pub under : Under nodes root node
  pub stands : (order : List ℕ) → Preorder nodes (root ∷ []) order → slice_get order turn ≡ Some node
  pub right : (order : List ℕ) → Preorder nodes (root ∷ []) order → (j m y : ℕ) → slice_get order j ≡ Some m → j < turn → y < width → IsRightAt A costs rules m y

first_of_order : {nodes : List Node} {r : ℕ} {order : List ℕ} → Preorder nodes (r ∷ []) order → slice_get order 0 ≡ Some r
first_of_order (node_first n ns under rest inner beside) = refl

pub begin : (A : Application) (costs rules : Costs) (nodes : List Node) (root width : ℕ) → RightBefore A costs rules nodes root width 0 root
begin A costs rules nodes root width = record {
  under = here root refl;
  stands = λ order pre. first_of_order pre;
  right = λ order pre j m y at lt. absurd (omega (arith, lt));
}

same_node : {o : Option ℕ} {a b : ℕ} → o ≡ Some a → o ≡ Some b → a ≡ b
same_node e f = cc

-- the nodes up to this place
pub right_to : (A : Application) (costs rules : Costs) (nodes : List Node) (root width turn node : ℕ) → RightBefore A costs rules nodes root width turn node
    → NodeChecked A costs rules width node None → (order : List ℕ) → Preorder nodes (root ∷ []) order
    → (j m y : ℕ) → slice_get order j ≡ Some m → j < turn + 1 → y < width → IsRightAt A costs rules m y
right_to A costs rules nodes root width turn node so_far checked order pre j m y at lt small = elim (last_or_before j turn (omega (arith, lt))) [
  | inl same ↦ subst (λ z. IsRightAt A costs rules z y)
      (same_node (so_far.stands order pre) (subst (λ z. slice_get order z ≡ Some m) (sym same) at)) (checked y small)
  | inr before ↦ so_far.right order pre j m y at before small
]

pub step : (A : Application) (costs rules : Costs) (nodes : List Node) (root width turn node next : ℕ) → IsForest nodes → OnlyRoot nodes root
    → RightBefore A costs rules nodes root width turn node → NodeChecked A costs rules width node None → (some : List ℕ) → Preorder nodes (root ∷ []) some
    → ((order : List ℕ) → Preorder nodes (root ∷ []) order → IsNext order node (Some next)) → RightBefore A costs rules nodes root width (turn + 1) next
step A costs rules nodes root width turn node next forest only so_far checked some pre behind = record {
  under = all_under pre (turn + 1) next (next_place nodes root forest only some pre node next turn (behind some pre) (so_far.stands some pre));
  stands = λ order pre. next_place nodes root forest only order pre node next turn (behind order pre) (so_far.stands order pre);
  right = right_to A costs rules nodes root width turn node so_far checked;
}

-- the node that is told is the first that isn't right
pub told_wrong : (A : Application) (costs rules : Costs) (nodes : List Node) (root width turn node x : ℕ) → RightBefore A costs rules nodes root width turn node
    → NodeChecked A costs rules width node (Some x) → (order : List ℕ) → Preorder nodes (root ∷ []) order → IsFirstWrong A costs rules order width node x
told_wrong A costs rules nodes root width turn node x so_far wrong order pre = record {
  at = turn;
  stands = so_far.stands order pre;
  there = wrong.there;
  wrong = wrong.wrong;
  before = λ j m y at small earlier. elim earlier [
    | inl lt ↦ so_far.right order pre j m y at lt small
    | inr (same, less) ↦ subst (λ z. IsRightAt A costs rules z y)
        (same_node (so_far.stands order pre) (subst (λ z. slice_get order z ≡ Some m) same at)) (wrong.before y less)
  ];
}

-- at the last node all pairs of nodes and nonterminals that there are are right
pub all_right : (A : Application) (costs rules : Costs) (nodes : List Node) (root width turn node : ℕ) → IsForest nodes → OnlyRoot nodes root
    → RightBefore A costs rules nodes root width turn node → NodeChecked A costs rules width node None
    → (order : List ℕ) → Preorder nodes (root ∷ []) order → IsNext order node None → (n x : ℕ) → n < length nodes → x < width → IsRightAt A costs rules n x
all_right A costs rules nodes root width turn node forest only so_far checked order pre last n x lt small =
    let (i, at) = a_place nodes root forest only order pre n lt in
    let le = last_place nodes root forest only order pre node turn i last (so_far.stands order pre) at in
    right_to A costs rules nodes root width turn node so_far checked order pre i n x at (omega (arith, le)) small

-- there are no more turns than nodes
pub turns_over : (A : Application) (costs rules : Costs) (nodes : List Node) (root width turn node : ℕ) → IsForest nodes → OnlyRoot nodes root
    → RightBefore A costs rules nodes root width turn node → (order : List ℕ) → Preorder nodes (root ∷ []) order → length nodes ≤ turn → ⊥
turns_over A costs rules nodes root width turn node forest only so_far order pre past =
    let within = slice_get_within order turn node (so_far.stands order pre) in
    let few = few_places nodes root forest only order pre in omega (arith, within, few, past)

pub node_there : (A : Application) (costs rules : Costs) (nodes : List Node) (root width turn node : ℕ) → IsForest nodes → OnlyRoot nodes root
    → RightBefore A costs rules nodes root width turn node → (order : List ℕ) → Preorder nodes (root ∷ []) order → node < length nodes
node_there A costs rules nodes root width turn node forest only so_far order pre = low nodes root forest only order pre turn node (so_far.stands order pre)

-- an order of the only root is one of this root
pub of_this_root : (nodes : List Node) (root other : ℕ) (order : List ℕ) → OnlyRoot nodes root → OnlyRoot nodes other → Preorder nodes (other ∷ []) order → Preorder nodes (root ∷ []) order
of_this_root nodes root other order only also pre = subst (λ z. Preorder nodes (z ∷ []) order) (only.only other also.root) pre
