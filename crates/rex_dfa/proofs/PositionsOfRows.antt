-- Rows of positions as a table of positions.
use Rattle.std.proofs.Common.{◌≡◌, ℕ, ◌+◌, ◌<◌, ◌≤◌, ◌↔◌, Bool, List, [], length, get_or, slice_get, Some, All, IsTrue, true≢false, arith, sym, subst, ap, ◌∙◌, inl, inr}
use Rattle.std.proofs.lemmas.Bool.{cases_eq}
use Rattle.std.proofs.lemmas.Option.{slice_get-get_or, slice_get_within, get_or_from_slice_get, same_Some}
use Rattle.ck_base.specs.BitSet.{BitSet, Has, Adds}
use Rattle.ck_base.proofs.Representing.{element_at}
use Rattle.rex_model.specs.Language.{Re}
use Rattle.rex_model.specs.Positions.{position_count, Takes, Follow}
use Rattle.rex_model.specs.Sets.{marked, FollowBackwards}
use Rattle.rex_model.proofs.Within.{First-within, Follow-within}
use Rattle.rex_dfa.specs.within.Alike.{words_at, AreLike}
use Rattle.rex_dfa.specs.within.Positions.{ArePositions, HasAt}
use Rattle.rex_dfa.specs.within.Rows.{AreRows}
use Rattle.rex_dfa.specs.declared.positions.Positions.{Positions}

pub row_at : (size count : ℕ) (P : ℕ → ℕ → Type 0) (sets : List BitSet) → AreRows size count P sets → (i p : ℕ) → i < count → HasAt sets i p ↔ P i p
row_at size count P sets rows i p below = (
  λ h. (rows.has i h.0 h.1 p).0 h.2,
  λ h. let (set, is) = element_at sets i (omega (arith, rows.long)) in (set, is, (rows.has i set is p).1 h),
)

pub row_below : (size count : ℕ) (P : ℕ → ℕ → Type 0) (sets : List BitSet) → AreRows size count P sets → ((i p : ℕ) → P i p → i < count) → (i p : ℕ) → HasAt sets i p ↔ P i p
row_below size count P sets rows bound i p = (
  λ h. (row_at size count P sets rows i p (let within = slice_get_within sets i h.0 h.1 in omega (arith, rows.long))).0 h,
  λ h. (row_at size count P sets rows i p (bound i p h)).1 h,
)

-- what follows in the marked expression is among its positions
pub marked_bound : (r : Re) (p q : ℕ) → Follow (marked r) 0 p q → p < position_count r + 1
marked_bound r p q h = let below = (Follow-within (marked r) 0 p q h).0.below in omega arith

pub backwards_bound : (r : Re) (p q : ℕ) → FollowBackwards r p q → p < position_count r + 1
backwards_bound r p q (inl h) = let below = (Follow-within r 0 q p h).1.below in omega arith
backwards_bound r p q (inr (h, at)) = let below = (First-within r 0 p h).below in omega arith

pub takes_marked_at : (r : Re) (k p b : ℕ) → Takes r k p b ↔ Takes (marked r) k p b
takes_marked_at r k p b = (λ h. inl h, back)
  where
    back : Takes (marked r) k p b → Takes r k p b
    back (inl h) = h
    back (inr (at, is)) = absurd (true≢false (sym is.1))

pub same_at : (size : ℕ) (sets : List BitSet) → All (λ set. set.size ≡ size) sets → (a b p : ℕ) → b < length sets → words_at sets a ≡ words_at sets b
    → HasAt sets a p → HasAt sets b p
same_at size sets sizes a b p within same (set, is, has) =
    let other : BitSet = get_or sets b (record { size = 0; words = [] }) in
    let own : get_or sets a (record { size = 0; words = [] }) ≡ set = get_or_from_slice_get sets a set (record { size = 0; words = [] }) is in
    let words : set.words ≡ other.words = ap (λ (s : BitSet). s.words) (sym own) ∙ same in
    let a_within = slice_get_within sets a set is in
    let set_size : set.size ≡ size = subst (λ (s : BitSet). s.size ≡ size) own (sizes a (record { size = 0; words = [] }) a_within) in
    let other_size : other.size ≡ size = sizes b (record { size = 0; words = [] }) within in
    (other, slice_get-get_or sets b (record { size = 0; words = [] }) within, has_of set other p (set_size ∙ sym other_size) words has)
  where
    has_of : (x y : BitSet) (p : ℕ) → x.size ≡ y.size → x.words ≡ y.words → Has x p → Has y p
    has_of x y p size_is words_are h = (omega (arith, h.0), rw (← words_are) h.1)

pub positions_are : (positions : Positions) (size : ℕ) → positions.size ≡ size → size ≤ 4096 → length positions.takers.items ≡ 256 → All (λ set. set.size ≡ size) positions.takers.items
    → length positions.follows.items ≡ size → All (λ set. set.size ≡ size) positions.follows.items → AreLike positions.takers.items 256 positions.alike.items → ArePositions positions
positions_are positions size is small takers taker_sizes follows follow_sizes like = record {
  few = omega arith;
  takers = takers;
  taker_sizes = rw is taker_sizes;
  alike_count = like.count;
  alike = λ byte below. (like.like byte below).at_most;
  same = λ byte p below.
      let l = like.like byte below in
      let at_most = l.at_most in
      (same_at size positions.takers.items taker_sizes _ byte p (omega arith) l.same, same_at size positions.takers.items taker_sizes byte _ p (omega arith) (sym l.same));
  follows = follows ∙ sym is;
  sizes = rw is follow_sizes;
}

-- the positions after which p comes directly, among the first n rows
pub record BeforesUpTo (follows : List BitSet) (p n : ℕ) (old to : BitSet) : Type 0 where
  pub adds : Adds old to (λ q. (q < n) × HasAt follows q p)

pub befores_more : (follows : List BitSet) (p n : ℕ) (old mid to row : BitSet) (b : Bool) → slice_get follows n ≡ Some row → BeforesUpTo follows p n old mid
    → IsTrue b ↔ Has row p → Adds mid to (λ q. IsTrue b × (q ≡ n)) → BeforesUpTo follows p (n + 1) old to
befores_more follows p n old mid to row b is before says adds = record {
  adds = record {
    size = adds.size ∙ before.adds.size;
    only = λ i h. elim (adds.only i h) [
      | inl was ↦ elim (before.adds.only i was) [ inl o ↦ inl o | inr m ↦ let below = m.0 in inr (omega arith, m.1) ]
      | inr new ↦ inr (let at = new.1 in omega arith, subst (λ k. HasAt follows k p) (sym new.1) (row, is, says.0 new.0))
    ];
    kept = λ i h. adds.kept i (before.adds.kept i h);
    more = λ i h. elim (cases_eq i n) [
      | inl same ↦
          let there = subst (λ k. HasAt follows k p) same h.1 in
          adds.more i (says.1 (subst (λ s. Has s p) (same_Some there.0 row (sym there.1 ∙ is)) there.2), same)
      | inr other ↦ adds.kept i (before.adds.more i (let below = h.0 in omega arith, h.1))
    ];
  };
}

pub befores_done : (follows : List BitSet) (p : ℕ) (old to : BitSet) → BeforesUpTo follows p (length follows) old to → Adds old to (λ q. HasAt follows q p)
befores_done follows p old to done = record {
  size = done.adds.size;
  only = λ i h. elim (done.adds.only i h) [ inl o ↦ inl o | inr m ↦ inr m.1 ];
  kept = done.adds.kept;
  more = λ i h. done.adds.more i (slice_get_within follows i h.0 h.1, h);
}
