-- The register rule: within the need there are registers for all values, and no held one is overwritten.
use Rattle.std.proofs.Common.{◌≡◌, ℕ, zero, suc, ◌+◌, ◌<◌, ◌≤◌, ◌⊎◌, Bool, true, false, ◌||◌, eqb, List, [], ◌∷◌, length, Option, Some, None, arith, inl, inr, refl, sym, subst, ◌∙◌}
use Rattle.std.specs.Prelude.{slice_get}
use Rattle.std.specs.List.{list_any}
use Rattle.std.proofs.lemmas.Map.Steps.{le-length_from_below}
use Rattle.beg_model.specs.Items.{Item}
use Rattle.beg_model.specs.Registers.{HasClass, IsText, IsEarly, IsOperand, UsedAt, directly, by_text, Held, HeldOf, CountBelow, IsNeed, Registers, IsLeastFree, Regs, Kept}
use Rattle.beg_model.specs.Registers as registers
use Rattle.beg_model.proofs.Search.{Tested, search_least, last_or_before, both, same_or_other}

-- ---------------------------------------------------------------- counting

pub count_exists : (P : ℕ → Type 0) → (m : ℕ) → ((w : ℕ) → w < m → Tested (P w)) → (n : ℕ) × CountBelow P m n
count_exists P zero test = (0, registers.nothing)
count_exists P (suc m) test =
    let (n, count) = count_exists P m (λ w lt. test w (omega (arith, lt))) in
    elim (test m (omega arith)) [
      | inl p ↦ (suc n, registers.one_more m n count p)
      | inr none ↦ (n, registers.as_many m n count none)
    ]

-- what f says of each counted number
numbers : {P : ℕ → Type 0} {m n : ℕ} → (ℕ → ℕ) → CountBelow P m n → List ℕ
numbers f registers.nothing = []
numbers f (registers.one_more m n count p) = f m ∷ numbers f count
numbers f (registers.as_many m n count none) = numbers f count

length_numbers : {P : ℕ → Type 0} {m n : ℕ} (f : ℕ → ℕ) (count : CountBelow P m n) → length (numbers f count) ≡ n
unfolding numbers
length_numbers f registers.nothing = refl
length_numbers f (registers.one_more m n count p) = let e = length_numbers f count in omega (arith, e)
length_numbers f (registers.as_many m n count none) = length_numbers f count

equal_to_itself : (n : ℕ) → eqb n n ≡ true
equal_to_itself n = grind arith

or_true : (b : Bool) → b || true ≡ true
or_true true = refl
or_true false = refl

among_numbers : {P : ℕ → Type 0} {m n : ℕ} (f : ℕ → ℕ) (count : CountBelow P m n) (w : ℕ) → w < m → P w
    → list_any (eqb (f w)) (numbers f count) ≡ true
unfolding numbers
among_numbers f registers.nothing w lt p = absurd (omega (arith, lt))
among_numbers f (registers.one_more m n count q) w lt p = elim (last_or_before w m lt) [
  | inl same ↦ rw (same, equal_to_itself)
  | inr before ↦ rw (among_numbers f count w before p, or_true)
]
among_numbers {P = P} f (registers.as_many m n count none) w lt p = elim (last_or_before w m lt) [
  | inl same ↦ absurd (none (subst P (sym same) p))
  | inr before ↦ among_numbers f count w before p
]

-- k different numbers that f says of counted ones are at most as many as there are
pub least_at_most : {P : ℕ → Type 0} {m n : ℕ} (f : ℕ → ℕ) (k : ℕ) → CountBelow P m n
    → ((j : ℕ) → j < k → (w : ℕ) × (w < m) × P w × (f w ≡ j)) → k ≤ n
least_at_most f k count each =
    let le = le-length_from_below (numbers f count) k (λ j lt. (let (w, within, p, is) = each j lt in
    subst (λ z. list_any (eqb z) (numbers f count) ≡ true) is (among_numbers f count w within p))) in
    rw length_numbers at le

-- ---------------------------------------------------------------- registers

pub some_number : (j k : ℕ) → Some (Some j) ≡ Some (Some k) → j ≡ k
some_number j k e = cc

pub is_same : {o : Option (Option ℕ)} {j k : ℕ} → o ≡ Some (Some j) → o ≡ Some (Some k) → Some (Some j) ≡ Some (Some k)
is_same a b = sym a ∙ b

flipped : {items : List Item} {p u : ℕ} → (p < u) ⊎ ((p ≡ u) × IsEarly items p) → (p < u) ⊎ ((u ≡ p) × IsEarly items p)
flipped (inl less) = inl less
flipped (inr (same, early)) = inr (sym same, early)

-- the number of the register of w
number : Registers → ℕ → ℕ
number rs w = elim (slice_get rs w) [ None ↦ 0 | Some r ↦ elim r [ None ↦ 0 | Some k ↦ k ] ]

number_is : (rs : Registers) (w k : ℕ) → slice_get rs w ≡ Some (Some k) → number rs w ≡ k
unfolding number
number_is rs w k h = rw (number, h)

-- some value of the class that is held against p has register j
abbrev pub Taken : List Item → Registers → ℕ → ℕ → ℕ → Type 0
Taken items rs class p j = (w : ℕ) × HeldOf items class p w × (slice_get rs w ≡ Some (Some j))

-- whether an option of an option of a number is this number
is_number : (o : Option (Option ℕ)) (j : ℕ) → Tested (o ≡ Some (Some j))
is_number None j = inr (λ e. cc)
is_number (Some None) j = inr (λ e. cc)
is_number (Some (Some k)) j = elim (same_or_other k j) [
  | inl same ↦ inl (rw same refl)
  | inr other ↦ inr (λ e. other (some_number k j e))
]

module _ (items : List Item) (held : (class p w : ℕ) → Tested (HeldOf items class p w)) where
  taken : (rs : Registers) (class p j : ℕ) → Tested (Taken items rs class p j)
  taken rs class p j = elim (search_least (λ w. HeldOf items class p w × (slice_get rs w ≡ Some (Some j))) p
      (λ w lt. both (held class p w) (is_number (slice_get rs w) j))) [
        | inl (w, lt, (h, is), none) ↦ inl (w, h, is)
        | inr none ↦ inr (λ (w, h, is). none w h.1.before (h, is))
      ]

  held_count : (class p : ℕ) → (n : ℕ) × CountBelow (HeldOf items class p) p n
  held_count class p = count_exists (HeldOf items class p) p (λ w lt. held class p w)

  taken_at_most : (rs : Registers) (class p k n : ℕ) → CountBelow (HeldOf items class p) p n
      → ((j : ℕ) → j < k → Taken items rs class p j) → k ≤ n
  taken_at_most rs class p k n count each = least_at_most (number rs) k count (λ j lt.
      (let (w, h, is) = each j lt in (w, h.1.before, h, number_is rs w j is)))

  -- there is a least free register, and no more than as many below it as values are held
  pub free_register : (rs : Registers) (class p : ℕ) → (k : ℕ) × IsLeastFree items rs class p k
  free_register rs class p =
      let (n, count) = held_count class p in
      elim (search_least (λ j. Taken items rs class p j → ⊥) (n + 1) (λ j lt. elim (taken rs class p j) [
        | inl t ↦ inr (λ none. none t)
        | inr none ↦ inl none
      ])) [
        | inl (k, lt, free, below) ↦ (
          k,
          record {
            free = λ w h is. free (w, h, is);
            least = λ j less. elim (taken rs class p j) [ inl t ↦ t | inr none ↦ absurd (below j less none) ];
          },
        )
        | inr none ↦ absurd (let most = taken_at_most rs class p (n + 1) n count (λ j lt.
            elim (taken rs class p j) [ inl t ↦ t | inr free ↦ absurd (none j lt free) ]) in omega (arith, most))
      ]

  -- each register is within the need
  pub within_need : (rs : Registers) (class p k need : ℕ) → IsNeed items class need → HasClass items p class
      → IsLeastFree items rs class p k → k < need
  within_need rs class p k need is value least =
      let (n, count) = held_count class p in
      let most = taken_at_most rs class p k n count least.least in
      let enough = is.enough p n value count in
      omega (arith, most, enough)

-- a register that the rule gives is kept
pub kept : (items : List Item) (rs : Registers) → Regs items rs → Kept items rs
kept items rs regs class v p k u value other used before after has had =
    let (j, is, least) = regs.value p class other in
    let same : j ≡ k = some_number j k (is_same is had) in
    let held : Held items v p = record { before = before; use_place = u; used = used; after = flipped after } in
    least.free v (value, held) (rw same has)
