-- The positions of an expression, numbered from k on, are the numbers from k to before k and their
-- count.
use Rattle.std.proofs.Common.{ℕ, ◌+◌, ◌<◌, ◌≤◌, List, [], ◌∷◌, length, arith, inl, inr}
use Rattle.rex_model.specs.Language.{Re, none, bytes, class, sequence, alternative, star, plus, optional}
use Rattle.rex_model.specs.Positions.{position_count, TakesIn, Takes, First, Last, Follow}

-- p is one of the n numbers from k on
pub record IsAmong (k n p : ℕ) : Type 0 where
  pub from : k ≤ p
  pub below : p < k + n

-- a position of the first part is one of the whole
pub among_first : (k m n p : ℕ) → IsAmong k m p → IsAmong k (m + n) p
among_first k m n p i = record { from = i.from; below = omega arith }

-- a position of the second part is one of the whole
pub among_second : (k m n p : ℕ) → IsAmong (k + m) n p → IsAmong k (m + n) p
among_second k m n p i = record { from = omega arith; below = omega arith }

-- no number is a position of the first part and of the second
pub not_in_both : (k m n p : ℕ) → IsAmong k m p → IsAmong (k + m) n p → ⊥
not_in_both k m n p i j = omega arith

-- a position of a string that takes a byte is one of the string's
pub TakesIn-within : (string : List ℕ) (k p byte : ℕ) → TakesIn string k p byte → IsAmong k (length string) p
TakesIn-within [] k p byte h = elim h [ ]
TakesIn-within (b ∷ bs) k p byte (inl h) = record { from = omega arith; below = omega arith }
TakesIn-within (b ∷ bs) k p byte (inr h) =
    let i = TakesIn-within bs (k + 1) p byte h in
    record { from = omega arith; below = omega arith }

-- a position that takes a byte is one of the expression's
pub Takes-within : (r : Re) (k p byte : ℕ) → Takes r k p byte → IsAmong k (position_count r) p
Takes-within none k p byte h = elim h [ ]
Takes-within (bytes string) k p byte h = TakesIn-within string k p byte h
Takes-within (class set) k p byte h = record { from = omega arith; below = omega arith }
Takes-within (sequence r s) k p byte (inl h) = among_first k _ _ p (Takes-within r k p byte h)
Takes-within (sequence r s) k p byte (inr h) = among_second k _ _ p (Takes-within s _ p byte h)
Takes-within (alternative r s) k p byte (inl h) = among_first k _ _ p (Takes-within r k p byte h)
Takes-within (alternative r s) k p byte (inr h) = among_second k _ _ p (Takes-within s _ p byte h)
Takes-within (star r) k p byte h = Takes-within r k p byte h
Takes-within (plus r) k p byte h = Takes-within r k p byte h
Takes-within (optional r) k p byte h = Takes-within r k p byte h

-- a position where a word may begin is one of the expression's
pub First-within : (r : Re) (k p : ℕ) → First r k p → IsAmong k (position_count r) p
First-within none k p h = elim h [ ]
First-within (bytes string) k p h = record { from = omega arith; below = omega arith }
First-within (class set) k p h = record { from = omega arith; below = omega arith }
First-within (sequence r s) k p (inl h) = among_first k _ _ p (First-within r k p h)
First-within (sequence r s) k p (inr (empty, h)) = among_second k _ _ p (First-within s _ p h)
First-within (alternative r s) k p (inl h) = among_first k _ _ p (First-within r k p h)
First-within (alternative r s) k p (inr h) = among_second k _ _ p (First-within s _ p h)
First-within (star r) k p h = First-within r k p h
First-within (plus r) k p h = First-within r k p h
First-within (optional r) k p h = First-within r k p h

-- a position where a word may end is one of the expression's
pub Last-within : (r : Re) (k p : ℕ) → Last r k p → IsAmong k (position_count r) p
Last-within none k p h = elim h [ ]
Last-within (bytes string) k p h = record { from = omega arith; below = omega arith }
Last-within (class set) k p h = record { from = omega arith; below = omega arith }
Last-within (sequence r s) k p (inl h) = among_second k _ _ p (Last-within s _ p h)
Last-within (sequence r s) k p (inr (empty, h)) = among_first k _ _ p (Last-within r k p h)
Last-within (alternative r s) k p (inl h) = among_first k _ _ p (Last-within r k p h)
Last-within (alternative r s) k p (inr h) = among_second k _ _ p (Last-within s _ p h)
Last-within (star r) k p h = Last-within r k p h
Last-within (plus r) k p h = Last-within r k p h
Last-within (optional r) k p h = Last-within r k p h

-- two positions that may follow each other are both the expression's
pub Follow-within : (r : Re) (k p q : ℕ) → Follow r k p q
    → IsAmong k (position_count r) p × IsAmong k (position_count r) q
Follow-within none k p q h = elim h [ ]
Follow-within (bytes string) k p q h =
    (record { from = omega arith; below = omega arith }, record { from = omega arith; below = omega arith })
Follow-within (class set) k p q h = elim h [ ]
Follow-within (sequence r s) k p q (inl h) =
    let i = Follow-within r k p q h in
    (among_first k _ _ p i.0, among_first k _ _ q i.1)
Follow-within (sequence r s) k p q (inr (inl h)) =
    let i = Follow-within s (k + position_count r) p q h in
    (among_second k _ _ p i.0, among_second k _ _ q i.1)
Follow-within (sequence r s) k p q (inr (inr (last, first))) =
    (among_first k _ _ p (Last-within r k p last), among_second k _ _ q (First-within s _ q first))
Follow-within (alternative r s) k p q (inl h) =
    let i = Follow-within r k p q h in
    (among_first k _ _ p i.0, among_first k _ _ q i.1)
Follow-within (alternative r s) k p q (inr h) =
    let i = Follow-within s (k + position_count r) p q h in
    (among_second k _ _ p i.0, among_second k _ _ q i.1)
Follow-within (star r) k p q (inl h) = Follow-within r k p q h
Follow-within (star r) k p q (inr (last, first)) = (Last-within r k p last, First-within r k q first)
Follow-within (plus r) k p q (inl h) = Follow-within r k p q h
Follow-within (plus r) k p q (inr (last, first)) = (Last-within r k p last, First-within r k q first)
Follow-within (optional r) k p q h = Follow-within r k p q h
