-- What a walk over an expression puts into the rows of its positions.
use Rattle.std.specs.Prelude.{◌≡◌, ℕ, ◌+◌, ◌<◌, ◌⊎◌, ◌↔◌, IsTrue, List, [], length, get_or}
use Rattle.ck_base.specs.BitSet.{BitSet, Has, Adds}
use Rattle.rex_model.specs.Language.{Re}
use Rattle.rex_model.specs.Positions.{position_count, has_empty, Takes, First, Last, Follow}
use Rattle.rex_dfa.specs.declared.walk.Rows.{Rows}

-- set i; an empty one where there is none
abbrev pub row : List BitSet → ℕ → BitSet
row sets i = get_or sets i (record { size = 0; words = [] })

-- the same sets, to each of which those numbers are added
pub record Fills (old new : List BitSet) (P : ℕ → ℕ → Type 0) : Type 0 where
  pub long : length new ≡ length old
  pub adds : (i : ℕ) → i < length old → Adds (row old i) (row new i) (P i)

-- a set for each byte and for each of so many positions
pub record HasRoom (size : ℕ) (rows : Rows) : Type 0 where
  pub bytes : length rows.takers.items ≡ 256
  pub taker_sizes : (i : ℕ) → i < 256 → (row rows.takers.items i).size ≡ size
  pub positions : length rows.follows.items ≡ size
  pub follow_sizes : (i : ℕ) → i < size → (row rows.follows.items i).size ≡ size

-- position q comes directly after p in a word of the expression and what stands behind it, where that
-- may begin at the positions of `behind`
abbrev pub Leads : Re → ℕ → (ℕ → Type 0) → ℕ → ℕ → Type 0
Leads r k behind p q = Follow r k p q ⊎ (Last r k p × behind q)

-- a word of the expression and what stands behind it may begin at position q
abbrev pub Begins : Re → ℕ → (ℕ → Type 0) → ℕ → Type 0
Begins r k behind q = First r k q ⊎ (IsTrue (has_empty r) × behind q)

-- the rows got the positions of the expression, from k to the one before `past`
pub record IsWalked (r : Re) (past : ℕ) (behind : ℕ → Type 0) (old new : Rows) (k : ℕ) : Type 0 where
  pub count : k + position_count r ≡ past
  pub takers : Fills old.takers.items new.takers.items (λ byte p. Takes r k p byte)
  pub follows : Fills old.follows.items new.follows.items (Leads r k behind)

-- the set has the positions at which the expression and what stands behind it may begin
pub record IsPassed (r : Re) (k : ℕ) (behind : ℕ → Type 0) (size : ℕ) (next : BitSet) : Type 0 where
  pub same : next.size ≡ size
  pub has : (q : ℕ) → Has next q ↔ Begins r k behind q

-- the rows got the positions of the expression from k on
pub record IsPut (r : Re) (k : ℕ) (old new : Rows) : Type 0 where
  pub takers : Fills old.takers.items new.takers.items (λ byte p. Takes r k p byte)
  pub follows : Fills old.follows.items new.follows.items (Follow r k)

-- position p comes directly after q; or p is a first one, and q is the end mark
abbrev pub IsTurned : Re → ℕ → ℕ → ℕ → Type 0
IsTurned r mark p q = Follow r 0 q p ⊎ (First r 0 p × (q ≡ mark))
