-- From positions to words: bytes taken at positions that may begin, follow and end make a word.
use Rattle.std.proofs.Common.{◌≡◌, ℕ, ◌+◌, ◌≤◌, ◌⊎◌, List, [], ◌∷◌, length, arith, refl, ap, inl, inr}
use Rattle.rex_model.specs.Language.{Re, none, bytes, class, sequence, alternative, star, plus, optional, no_more, one_more, Language}
use Rattle.rex_model.specs.Positions.{position_count, TakesIn, Takes, First, Last, Follow}
use Rattle.rex_model.proofs.Within.{IsAmong, not_in_both, TakesIn-within, Takes-within, First-within, Follow-within}
use Rattle.rex_model.proofs.EmptyWord.{has_empty_of}
use Rattle.rex_model.proofs.After.{AfterIn, AfterIn-within, After, After-within}

-- what holds of a position of the first part, where it holds in one of two parts, holds in the first
pub in_first : {A B : Type 0} (k m n p : ℕ) → IsAmong k m p → (B → IsAmong (k + m) n p) → A ⊎ B → A
in_first k m n p i within (inl a) = a
in_first k m n p i within (inr b) = absurd (not_in_both k m n p i (within b))

-- what holds of a position of the second part, where it holds in one of two parts, holds in the second
pub in_second : {A B : Type 0} (k m n p : ℕ) → IsAmong (k + m) n p → (A → IsAmong k m p) → A ⊎ B → B
in_second k m n p i within (inl a) = absurd (not_in_both k m n p (within a) i)
in_second k m n p i within (inr b) = b

-- what position p takes, if it is one of the first part, the first part's p takes
pub takes_first : (r s : Re) (k p b : ℕ) → IsAmong k (position_count r) p
    → Takes (sequence r s) k p b → Takes r k p b
takes_first r s k p b i = in_first k _ _ p i (Takes-within s (k + position_count r) p b)

-- what position p takes, if it is one of the second part, the second part's p takes
pub takes_second : (r s : Re) (k p b : ℕ) → IsAmong (k + position_count r) (position_count s) p
    → Takes (sequence r s) k p b → Takes s (k + position_count r) p b
takes_second r s k p b i = in_second k _ _ p i (Takes-within r k p b)

-- a byte taken at the first position of a string begins it
pub comes_first_in : (string : List ℕ) (k p b : ℕ) (w : List ℕ) → p ≡ k → TakesIn string k p b
    → AfterIn string k p w → b ∷ w ≡ string
comes_first_in [] k p b w at takes after = elim takes [ ]
comes_first_in (c ∷ cs) k p b w at (inl takes) (inl after) = cc
comes_first_in (c ∷ cs) k p b w at (inl takes) (inr after) =
    let i = AfterIn-within cs (k + 1) p w after in
    absurd (omega arith)
comes_first_in (c ∷ cs) k p b w at (inr takes) after =
    let i = TakesIn-within cs (k + 1) p b takes in
    absurd (omega arith)

-- a byte taken at a first position, and what completes a word after it, make a word
pub comes_first : (r : Re) (k p b : ℕ) (w : List ℕ) → First r k p → Takes r k p b → After r k p w
    → Language r (b ∷ w)
comes_first none k p b w begins takes after = elim begins [ ]
comes_first (bytes string) k p b w begins takes after = comes_first_in string k p b w begins.0 takes after
comes_first (class set) k p b w begins takes after = (b, ap (λ x. b ∷ x) after.1, takes.1)
comes_first (sequence r s) k p b w (inl begins) takes after =
    let i = First-within r k p begins in
    let taken = takes_first r s k p b i takes in
    let (u, v, is, rest, second) = in_first k _ _ p i (After-within s (k + position_count r) p w) after in
    (b ∷ u, v, ap (λ x. b ∷ x) is, comes_first r k p b u begins taken rest, second)
comes_first (sequence r s) k p b w (inr (empty, begins)) takes after =
    let i = First-within s (k + position_count r) p begins in
    let taken = takes_second r s k p b i takes in
    let rest = in_second k _ _ p i (λ a. After-within r k p _ a.3) after in
    ([], b ∷ w, refl, has_empty_of r empty, comes_first s (k + position_count r) p b w begins taken rest)
comes_first (alternative r s) k p b w (inl begins) takes after =
    let i = First-within r k p begins in
    let taken = takes_first r s k p b i takes in
    let rest = in_first k _ _ p i (After-within s (k + position_count r) p w) after in
    inl (comes_first r k p b w begins taken rest)
comes_first (alternative r s) k p b w (inr begins) takes after =
    let i = First-within s (k + position_count r) p begins in
    let taken = takes_second r s k p b i takes in
    let rest = in_second k _ _ p i (After-within r k p w) after in
    inr (comes_first s (k + position_count r) p b w begins taken rest)
comes_first (star r) k p b w begins takes (u, v, is, after, more) =
    rw is (one_more (b ∷ u) v (comes_first r k p b u begins takes after) more)
comes_first (plus r) k p b w begins takes (u, v, is, after, more) =
    (b ∷ u, v, ap (λ x. b ∷ x) is, comes_first r k p b u begins takes after, more)
comes_first (optional r) k p b w begins takes after = inr (comes_first r k p b w begins takes after)

-- nothing is left after the last position of a string
pub ended_in : (string : List ℕ) (k p : ℕ) → k ≤ p → p + 1 ≡ k + length string → AfterIn string k p []
ended_in [] k p from at = absurd (omega arith)
ended_in (c ∷ []) k p from at = inl (omega arith, refl)
ended_in (c ∷ d ∷ cs) k p from at = inr (ended_in (d ∷ cs) (k + 1) p (omega arith) (omega arith))

-- the empty word completes a word after a position that one may end with
pub ended : (r : Re) (k p : ℕ) → Last r k p → After r k p []
ended none k p h = elim h [ ]
ended (bytes string) k p h = ended_in string k p h.0 h.1
ended (class set) k p h = (h, refl)
ended (sequence r s) k p (inl h) = inr (ended s _ p h)
ended (sequence r s) k p (inr (empty, h)) = inl ([], [], refl, ended r k p h, has_empty_of s empty)
ended (alternative r s) k p (inl h) = inl (ended r k p h)
ended (alternative r s) k p (inr h) = inr (ended s _ p h)
ended (star r) k p h = ([], [], refl, ended r k p h, no_more)
ended (plus r) k p h = ([], [], refl, ended r k p h, no_more)
ended (optional r) k p h = ended r k p h

-- a byte taken at the next position of a string stands between the position before and the rest
pub comes_on_in : (string : List ℕ) (k p q b : ℕ) (w : List ℕ) → k ≤ p → q ≡ p + 1 → TakesIn string k q b
    → AfterIn string k q w → AfterIn string k p (b ∷ w)
comes_on_in [] k p q b w from next takes after = elim takes [ ]
comes_on_in (c ∷ cs) k p q b w from next (inl takes) after = absurd (omega arith)
comes_on_in (c ∷ cs) k p q b w from next (inr takes) (inl after) = absurd (omega arith)
comes_on_in (c ∷ cs) k p q b w from next (inr takes) (inr after) = elim (at_or_past k p from) [
  | inl at ↦ inl (at, comes_first_in cs (k + 1) q b w (omega arith) takes after)
  | inr past ↦ inr (comes_on_in cs (k + 1) p q b w past next takes after)
]
  where
    at_or_past : (k p : ℕ) → k ≤ p → (p ≡ k) ⊎ (k + 1 ≤ p)
    at_or_past k p from = grind arith

-- a byte taken at a position that follows stands between the position before and the rest
pub comes_on : (r : Re) (k p q b : ℕ) (w : List ℕ) → Follow r k p q → Takes r k q b → After r k q w
    → After r k p (b ∷ w)
comes_on none k p q b w follows takes after = elim follows [ ]
comes_on (bytes string) k p q b w follows takes after =
    comes_on_in string k p q b w follows.0 follows.1 takes after
comes_on (class set) k p q b w follows takes after = elim follows [ ]
comes_on (sequence r s) k p q b w (inl follows) takes after =
    let i = (Follow-within r k p q follows).1 in
    let taken = takes_first r s k q b i takes in
    let (u, v, is, rest, second) = in_first k _ _ q i (After-within s (k + position_count r) q w) after in
    inl (b ∷ u, v, ap (λ x. b ∷ x) is, comes_on r k p q b u follows taken rest, second)
comes_on (sequence r s) k p q b w (inr (inl follows)) takes after =
    let i = (Follow-within s (k + position_count r) p q follows).1 in
    let taken = takes_second r s k q b i takes in
    let rest = in_second k _ _ q i (λ a. After-within r k q _ a.3) after in
    inr (comes_on s (k + position_count r) p q b w follows taken rest)
comes_on (sequence r s) k p q b w (inr (inr (last, begins))) takes after =
    let i = First-within s (k + position_count r) q begins in
    let taken = takes_second r s k q b i takes in
    let rest = in_second k _ _ q i (λ a. After-within r k q _ a.3) after in
    inl ([], b ∷ w, refl, ended r k p last, comes_first s (k + position_count r) q b w begins taken rest)
comes_on (alternative r s) k p q b w (inl follows) takes after =
    let i = (Follow-within r k p q follows).1 in
    let taken = takes_first r s k q b i takes in
    let rest = in_first k _ _ q i (After-within s (k + position_count r) q w) after in
    inl (comes_on r k p q b w follows taken rest)
comes_on (alternative r s) k p q b w (inr follows) takes after =
    let i = (Follow-within s (k + position_count r) p q follows).1 in
    let taken = takes_second r s k q b i takes in
    let rest = in_second k _ _ q i (After-within r k q w) after in
    inr (comes_on s (k + position_count r) p q b w follows taken rest)
comes_on (star r) k p q b w (inl follows) takes (u, v, is, after, more) =
    (b ∷ u, v, ap (λ x. b ∷ x) is, comes_on r k p q b u follows takes after, more)
comes_on (star r) k p q b w (inr (last, begins)) takes (u, v, is, after, more) =
    ([], b ∷ w, refl, ended r k p last, rw is (one_more (b ∷ u) v (comes_first r k q b u begins takes after) more))
comes_on (plus r) k p q b w (inl follows) takes (u, v, is, after, more) =
    (b ∷ u, v, ap (λ x. b ∷ x) is, comes_on r k p q b u follows takes after, more)
comes_on (plus r) k p q b w (inr (last, begins)) takes (u, v, is, after, more) =
    ([], b ∷ w, refl, ended r k p last, rw is (one_more (b ∷ u) v (comes_first r k q b u begins takes after) more))
comes_on (optional r) k p q b w follows takes after = comes_on r k p q b w follows takes after
