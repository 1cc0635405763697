-- The pass over the instances of a class, so far.
use Rattle.std.proofs.Common.{◌≡◌, ℕ, zero, suc, ◌+◌, ◌<◌, ◌≤◌, ◌⊎◌, Bool, true, false, List, [], ◌∷◌, length, get_or, set, Option, Some, arith, inl, inr, refl, sym, subst, ap, ◌∙◌}
use Rattle.std.specs.Prelude.{slice_get, ◌==◌}
use Rattle.std.proofs.lemmas.Bool.{eqb-true}
use Rattle.std.proofs.lemmas.List.{get_or-set_same, get_or-set_other, length-set}
use Rattle.beg_model.specs.declared.rules.Holding.{Holding}
use Rattle.beg_model.specs.declared.rules.Holding.TheVariants.{Class, Operand, Nothing}
use Rattle.beg_registers.proofs.RegsExist.{one_item}
use Rattle.beg_model.proofs.Search.{at_most_or_more, same_or_other}
use Rattle.beg_model.specs.Items.{Item}
use Rattle.beg_model.specs.Registers.{HasClass, UsedAt, Registers, IsLeastFree}
use Rattle.beg_registers.specs.within.OnePass.{busy, holds_class, AreUses, IsRoomy}
use Rattle.beg_registers.proofs.OnePass.{Owners, IsBusy, least_of_busy, one_value_more, one_other_more}

pub record PassSoFar (items : List Item) (uses : List ℕ) (class : ℕ) (first_until : List ℕ) (first_registers : Registers)
    (until : List ℕ) (registers : Registers) (p : ℕ) : Type 0 where
  pub have : length until ≡ length first_until
  pub size : length registers ≡ length first_registers
  pub owners : Owners items class (λ w. get_or uses w 0) (λ k. get_or until k 0) registers p
  pub values : (q : ℕ) → q < p → HasClass items q class
      → (k : ℕ) × (slice_get registers q ≡ Some (Some k)) × IsLeastFree items registers class q k × (k < length first_until)
  pub others : (q : ℕ) → (q < p → HasClass items q class → ⊥) → slice_get registers q ≡ slice_get first_registers q

-- ------------------------------------------------------------------ what the tests say

class_of_test : (h : Holding) (class : ℕ) → (elim h [ Class c ↦ c == class | Operand ↦ false | Nothing ↦ false ]) ≡ true → h ≡ Class class
class_of_test (Class c) class t = ap Class (eqb-true c class t)
class_of_test Operand class t = cc
class_of_test Nothing class t = cc

itself : (n : ℕ) → (n == n) ≡ true
itself n = grind arith

test_of_class : (h : Holding) (class : ℕ) → h ≡ Class class → (elim h [ Class c ↦ c == class | Operand ↦ false | Nothing ↦ false ]) ≡ true
test_of_class h class e = rw e (itself class)

pub has_of_test : (items : List Item) (p class : ℕ) (item : Item) → slice_get items p ≡ Some item → holds_class item class ≡ true
    → HasClass items p class
has_of_test items p class item is h = record { item = item; is_item = is; holds = class_of_test item.holds class h }

pub none_of_test : (items : List Item) (p class : ℕ) (item : Item) → slice_get items p ≡ Some item → holds_class item class ≡ false
    → HasClass items p class → ⊥
none_of_test items p class item is h has =
    let same : has.item ≡ item = one_item has.is_item is in
    let t = test_of_class item.holds class (subst (λ z. z.holds ≡ Class class) same has.holds) in
    let e : true ≡ false = sym t ∙ h in cc

busy_parts : (until next : ℕ) (early : Bool) → busy until next early ≡ true → (next < until) ⊎ ((until ≡ next) × (early ≡ true))
busy_parts until next early h = grind arith

parts_busy : (until next : ℕ) (early : Bool) → busy until next early ≡ false → (next < until) ⊎ ((until ≡ next) × (early ≡ true)) → ⊥
parts_busy until next early h (inl less) = grind arith
parts_busy until next early h (inr (same, e)) = grind arith

module _ (items : List Item) (p : ℕ) (item : Item) (is : slice_get items p ≡ Some item) where
  busy_of_test : (until : ℕ) → busy until (p + 1) item.early ≡ true → IsBusy items until p
  busy_of_test until h = elim (busy_parts until (p + 1) item.early h) [
    | inl less ↦ inl less
    | inr (same, early) ↦ inr (same, record { item = item; is_item = is; early = early })
  ]

  idle_of_test : (until : ℕ) → busy until (p + 1) item.early ≡ false → IsBusy items until p → ⊥
  idle_of_test until h (inl less) = parts_busy until (p + 1) item.early h (inl less)
  idle_of_test until h (inr (same, e)) =
      parts_busy until (p + 1) item.early h (inr (same, subst (λ z. z.early ≡ true) (one_item e.is_item is) e.early))

idle_past : (items : List Item) (t p : ℕ) → t ≡ 0 → IsBusy items t p → ⊥
idle_past items t p none (inl less) = omega (arith, none, less)
idle_past items t p none (inr (same, early)) = omega (arith, none, same)

past_zero : (xs : List ℕ) (k : ℕ) → length xs ≤ k → get_or xs k 0 ≡ 0
past_zero [] k le = refl
past_zero (x ∷ xs) zero le = absurd (omega (arith, le))
past_zero (x ∷ xs) (suc k) le = past_zero xs k (omega (arith, le))

-- ------------------------------------------------------------------ one more turn

set_here : {X : Type 0} (xs : List X) (i : ℕ) (x : X) → i < length xs → slice_get (set xs i x) i ≡ Some x
set_here [] i x lt = absurd (omega (arith, lt))
set_here (y ∷ xs) zero x lt = refl
set_here (y ∷ xs) (suc i) x lt = set_here xs i x (omega (arith, lt))

set_else : {X : Type 0} (xs : List X) (i j : ℕ) (x : X) → (j ≡ i → ⊥) → slice_get (set xs i x) j ≡ slice_get xs j
set_else [] i j x other = refl
set_else (y ∷ xs) zero zero x other = absurd (other refl)
set_else (y ∷ xs) zero (suc j) x other = refl
set_else (y ∷ xs) (suc i) zero x other = refl
set_else (y ∷ xs) (suc i) (suc j) x other = set_else xs i j x (λ e. other (omega (arith, e)))

module _ (items : List Item) (uses : List ℕ) (class : ℕ) (first_until : List ℕ) (first_registers : Registers)
    (are : AreUses items uses class) (until : List ℕ) (registers : Registers) (p : ℕ)
    (so_far : PassSoFar items uses class first_until first_registers until registers p) where
  used : (w : ℕ) → HasClass items w class → UsedAt items w (get_or uses w 0) × (w < get_or uses w 0)
  used w h = let (u, lt, within) = are.used w h in (u, lt)

  module _ (item : Item) (is : slice_get items p ≡ Some item) (k : ℕ)
      (before : (j : ℕ) → j < k → busy (get_or until j 0) (p + 1) item.early ≡ true)
      (idle : k < length until → busy (get_or until k 0) (p + 1) item.early ≡ false) where
    not_busy : IsBusy items (get_or until k 0) p → ⊥
    not_busy = elim (at_most_or_more (length until) k) [
      | inl past ↦ idle_past items (get_or until k 0) p (past_zero until k past)
      | inr within ↦ idle_of_test items p item is (get_or until k 0) (idle within)
    ]

    pub found : IsLeastFree items registers class p k
    found = least_of_busy items class (λ w. get_or uses w 0) used are.once (λ j. get_or until j 0) registers p k so_far.owners not_busy
        (λ j lt. busy_of_test items p item is (get_or until j 0) (before j lt))

    pub found_within : HasClass items p class → IsRoomy items class (length first_until) → k < length until
    found_within has room = let lt = room registers p k has found in let e = so_far.have in omega (arith, lt, e)

    apart_or_same : (j : ℕ) (x : ℕ) → k < length until → (j ≡ k) ⊎ (get_or (set until k x) j 0 ≡ get_or until j 0)
    apart_or_same j x within = elim (same_or_other j k) [
      | inl same ↦ inl same
      | inr other ↦ inr (get_or-set_other until k j x 0 other)
    ]

    front : (x : Option ℕ) (w : ℕ) → w < p → slice_get (set registers p x) w ≡ slice_get registers w
    front x w lt = set_else registers p w x (λ e. omega (arith, lt, e))

    keeps_free : (q j : ℕ) → q ≤ p → (x : Option ℕ) → IsLeastFree items registers class q j → IsLeastFree items (set registers p x) class q j
    keeps_free q j le x least = record {
      free = λ w h has. (let lt = h.1.before in least.free w h (sym (front x w (omega (arith, lt, le))) ∙ has));
      least = λ i less. (let (w, h, has) = least.least i less in let lt = h.1.before in
          (w, h, front x w (omega (arith, lt, le)) ∙ has));
    }

    pub turn_value : HasClass items p class → IsRoomy items class (length first_until) → p < length registers
        → PassSoFar items uses class first_until first_registers (set until k (get_or uses p 0 + 1)) (set registers p (Some k)) (p + 1)
    turn_value has room within = let inside = found_within has room in record {
      have = length-set until k (get_or uses p 0 + 1) ∙ so_far.have;
      size = length-set registers p (Some k) ∙ so_far.size;
      owners = one_value_more items class (λ w. get_or uses w 0) used are.once (λ j. get_or until j 0)
          (λ j. get_or (set until k (get_or uses p 0 + 1)) j 0) registers (set registers p (Some k)) p k so_far.owners has not_busy
          (get_or-set_same until k (get_or uses p 0 + 1) 0 inside) (λ j. apart_or_same j (get_or uses p 0 + 1) inside)
          (set_here registers p (Some k) within) (front (Some k));
      values = λ q lt h. elim (at_most_or_more p q) [
        | inl at ↦ (let same : q ≡ p = omega (arith, at, lt) in let e = so_far.have in (
          k,
          subst (λ z. slice_get (set registers p (Some k)) z ≡ Some (Some k)) (sym same) (set_here registers p (Some k) within),
          subst (λ z. IsLeastFree items (set registers p (Some k)) class z k) (sym same) (keeps_free p k (omega arith) (Some k) found),
          omega (arith, inside, e),
        ))
        | inr less ↦ (let (j, has_j, free, room_j) = so_far.values q less h in
            (j, front (Some k) q less ∙ has_j, keeps_free q j (omega (arith, less)) (Some k) free, room_j))
      ];
      others = λ q none. elim (same_or_other q p) [
        | inl same ↦ absurd (none (omega (arith, same)) (subst (λ z. HasClass items z class) (sym same) has))
        | inr other ↦ set_else registers p q (Some k) other ∙ so_far.others q (λ lt h. none (omega (arith, lt)) h)
      ];
    }

  pub turn_other : (HasClass items p class → ⊥) → PassSoFar items uses class first_until first_registers until registers (p + 1)
  turn_other none = record {
    have = so_far.have;
    size = so_far.size;
    owners = one_other_more items class (λ w. get_or uses w 0) used are.once (λ j. get_or until j 0) registers registers p so_far.owners none
        (λ w lt. refl);
    values = λ q lt h. elim (at_most_or_more p q) [
      | inl at ↦ absurd (let same : q ≡ p = omega (arith, at, lt) in none (subst (λ z. HasClass items z class) same h))
      | inr less ↦ so_far.values q less h
    ];
    others = λ q absent. so_far.others q (λ lt h. absent (omega (arith, lt)) h);
  }
