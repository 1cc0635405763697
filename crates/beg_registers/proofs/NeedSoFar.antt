-- The counts and the need of the values so far.
use Rattle.std.proofs.Common.{◌≡◌, ℕ, ◌+◌, ◌-◌, ◌<◌, ◌≤◌, List, length, get_or, set, Bool, Option, Some, ◌⊎◌, true, false, if◌then◌else◌, max, arith, inl, inr, refl, sym, subst, ◌∙◌}
use Rattle.std.specs.Prelude.{slice_get}
use Rattle.std.proofs.lemmas.Option.{slice_get_within}
use Rattle.std.proofs.lemmas.List.{get_or-set_same, get_or-set_other, length-set}
use Rattle.beg_model.specs.Items.{Item}
use Rattle.beg_model.specs.Registers.{HasClass, IsEarly, UsedAt, HeldOf, CountBelow, IsNeed}
use Rattle.beg_model.specs.Registers as registers
use Rattle.beg_registers.specs.within.OnePass.{AreUses}
use Rattle.beg_registers.proofs.NeedPass.{Counts, EndsAt, later_count, NeedTo, next_value, next_other, held_count, held_count_early, need_value, need_other, count_at_most}

pub record SoFar (items : List Item) (uses : List ℕ) (class live need : ℕ) (ends : List ℕ) (p : ℕ) : Type 0 where
  pub size : length ends ≡ length items
  pub counts : Counts items class (λ w. get_or uses w 0) (λ q. get_or ends q 0) live p
  pub needs : NeedTo items class need p

pub live_at_most : {items : List Item} {uses : List ℕ} {class live need : ℕ} {ends : List ℕ} {p : ℕ} → SoFar items uses class live need ends p → live ≤ p
live_at_most s = count_at_most s.counts.living

pub ends_at_most : {items : List Item} {uses : List ℕ} {class live need : ℕ} {ends : List ℕ} {p : ℕ} → SoFar items uses class live need ends p
    → (q : ℕ) → get_or ends q 0 ≤ p
ends_at_most s q = count_at_most (s.counts.ending q)

tells : (b : Bool) → (b ≡ true) ⊎ (b ≡ false)
tells true = inl refl
tells false = inr refl

pub begin : (items : List Item) (uses ends : List ℕ) (class : ℕ) → length ends ≡ length items → ((q : ℕ) → get_or ends q 0 ≡ 0) → SoFar items uses class 0 0 ends 0
begin items uses ends class size fresh = record {
  size = size;
  counts = record { living = registers.nothing; ending = λ q. subst (λ z. CountBelow (EndsAt items class (λ w. get_or uses w 0) q) 0 z) (sym (fresh q)) registers.nothing };
  needs = record { enough = λ q m lt h count. absurd (omega (arith, lt)); reached = inl (refl, λ q lt h. omega (arith, lt)) };
}

pub finish : (items : List Item) (uses ends : List ℕ) (class live need p : ℕ) → SoFar items uses class live need ends p → length items ≤ p → IsNeed items class need
finish items uses ends class live need p s past = record {
  enough = λ q m h count. s.needs.enough q m (let lt = slice_get_within items q h.item h.is_item in omega (arith, lt, past)) h count;
  reached = elim s.needs.reached [
    | inl (zero_is, absent) ↦ inl (zero_is, λ q h. absent q (let lt = slice_get_within items q h.item h.is_item in omega (arith, lt, past)) h)
    | inr (q, m, lt, h, count, is) ↦ inr (q, m, h, count, is)
  ];
}

module _ (items : List Item) (uses ends : List ℕ) (class live need p : ℕ) (are : AreUses items uses class) (s : SoFar items uses class live need ends p) where
  used : (w : ℕ) → HasClass items w class → UsedAt items w (get_or uses w 0) × (w < get_or uses w 0)
  used w h = let (u, lt, within) = are.used w h in (u, lt)

  pub ending_at_most : get_or ends p 0 ≤ live
  ending_at_most = let (c, count, e) = later_count items class (λ w. get_or uses w 0) used are.once (λ q. get_or ends q 0) live p s.counts in omega (arith, e)

  one_of : {o : Option Item} {a b : Item} → o ≡ Some a → o ≡ Some b → a ≡ b
  one_of e f = cc

  late : (item : Item) → slice_get items p ≡ Some item → item.early ≡ false → IsEarly items p → ⊥
  late item is none e = let same = subst (λ z. z.early ≡ true) (one_of e.is_item is) e.early in let x : true ≡ false = sym same ∙ none in cc

  early_cases : (item : Item) → slice_get items p ≡ Some item → (held : ℕ) → (item.early ≡ true) ⊎ (item.early ≡ false)
      → held ≡ (if item.early then live else (live - get_or ends p 0)) → CountBelow (HeldOf items class p) p held
  early_cases item is held (inl early) held_is =
      let e : held ≡ live = rw early at held_is in
      rw e (held_count_early items class (λ w. get_or uses w 0) used are.once (λ q. get_or ends q 0) live p s.counts
      (record { item = item; is_item = is; early = early }))
  early_cases item is held (inr none) held_is =
      let e : held ≡ live - get_or ends p 0 = rw none at held_is in
      rw e (held_count items class (λ w. get_or uses w 0) used are.once (λ q. get_or ends q 0) live p s.counts (late item is none))

  pub early_of : (item : Item) → slice_get items p ≡ Some item → (held : ℕ) → held ≡ (if item.early then live else (live - get_or ends p 0))
      → CountBelow (HeldOf items class p) p held
  early_of item is held held_is = early_cases item is held (tells item.early) held_is

  pub turn_value : (item : Item) (held more : ℕ) → more ≡ max need (held + 1) → slice_get items p ≡ Some item → HasClass items p class
      → held ≡ (if item.early then live else (live - get_or ends p 0))
      → SoFar items uses class (live - get_or ends p 0 + 1) more (set ends (get_or uses p 0) (get_or ends (get_or uses p 0) 0 + 1)) (p + 1)
  turn_value item held more more_is is has held_is =
      let (u, later, within) = are.used p has in
      let size = s.size in
      let inside : get_or uses p 0 < length ends = omega (arith, within, size) in
      record {
        size = length-set ends (get_or uses p 0) (get_or ends (get_or uses p 0) 0 + 1) ∙ s.size;
        counts = next_value items class (λ w. get_or uses w 0) used are.once (λ q. get_or ends q 0) live p s.counts has
            (λ q. get_or (set ends (get_or uses p 0) (get_or ends (get_or uses p 0) 0 + 1)) q 0)
            (get_or-set_same ends (get_or uses p 0) (get_or ends (get_or uses p 0) 0 + 1) 0 inside)
            (λ q other. get_or-set_other ends (get_or uses p 0) q (get_or ends (get_or uses p 0) 0 + 1) 0 other);
        needs = need_value items class need held more p s.needs has (early_of item is held held_is) more_is;
      }

  pub turn_other : (HasClass items p class → ⊥) → SoFar items uses class (live - get_or ends p 0) need ends (p + 1)
  turn_other none = record {
    size = s.size;
    counts = next_other items class (λ w. get_or uses w 0) used are.once (λ q. get_or ends q 0) live p s.counts none;
    needs = need_other items class need p s.needs none;
  }

  pub held_at_most : (item : Item) (held : ℕ) → slice_get items p ≡ Some item → held ≡ (if item.early then live else (live - get_or ends p 0)) → held ≤ p
  held_at_most item held is held_is = count_at_most (early_of item is held held_is)
