-- The positions that take a byte, part by part.
use Rattle.std.proofs.Common.{◌≡◌, ℕ, ◌+◌, ◌≤◌, List, ◌∷◌, length, arith}
use Rattle.ck_base.specs.BitSet.{BitSet, Adds}
use Rattle.rex_model.specs.Language.{Re}
use Rattle.rex_model.specs.Positions.{position_count, Takes, TakesIn}
use Rattle.rex_model.proofs.Adding.{Adding, adding_more}

-- those of `rest`, whose positions are numbered from `at`, are the ones that may be missing
pub record AddingTakers (all : Re) (k : ℕ) (rest : Re) (at byte : ℕ) (old new : BitSet) : Type 0 where
  pub adding : Adding old new (λ p. Takes all k p byte) (λ p. Takes rest at p byte)
  pub room : at + position_count rest ≤ new.size

pub record TakingString (all : List ℕ) (k : ℕ) (rest : List ℕ) (at byte : ℕ) (old new : BitSet) : Type 0 where
  pub adding : Adding old new (λ p. TakesIn all k p byte) (λ p. TakesIn rest at p byte)
  pub room : at + length rest ≤ new.size

pub string_more : (all : List ℕ) (k : ℕ) (b : ℕ) (bs : List ℕ) (at byte : ℕ) (old mid new : BitSet) → TakingString all k (b ∷ bs) at byte old mid
    → Adds mid new (λ q. (q ≡ at) × (byte ≡ b)) → TakingString all k bs (at + 1) byte old new
string_more all k b bs at byte old mid new before added = record {
  adding = adding_more before.adding _ _ added (λ q. (λ h. h, λ h. h));
  room = let same = added.size in let was = before.room in omega arith;
}
