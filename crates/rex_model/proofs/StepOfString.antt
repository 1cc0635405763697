-- A step over a string, taken byte by byte.
use Rattle.std.proofs.Common.{◌≡◌, ℕ, zero, suc, ◌+◌, ◌-◌, ◌<◌, ◌≤◌, ◌⊎◌, List, [], ◌∷◌, length, slice_index, inl, inr, refl, sym, ◌∙◌, subst, arith}
use Rattle.std.proofs.lemmas.Bool.{cases_eq}
use Rattle.ck_base.specs.BitSet.{BitSet, Has, Adds}
use Rattle.rex_model.specs.Language.{bytes}
use Rattle.rex_model.specs.Positions.{TakesIn, Moves, Ends}
use Rattle.rex_model.proofs.Adding.{Adding, adding_more, adding_same}

-- position p is the one of byte i, which is the byte taken
pub record TakesAt (string : List ℕ) (k p byte i : ℕ) : Type 0 where
  pub place : p ≡ k + i
  pub inside : i < length string
  pub same : byte ≡ slice_index string i

-- a position that takes a byte is that of some byte of the string, and the other way round
pub takes_at : (string : List ℕ) (k p byte : ℕ) → TakesIn string k p byte → (i : ℕ) × TakesAt string k p byte i
takes_at [] k p byte h = elim h [ ]
takes_at (b ∷ bs) k p byte (inl (at, is)) = (0, record { place = omega arith; inside = omega arith; same = is })
takes_at (b ∷ bs) k p byte (inr h) =
    let (i, at) = takes_at bs (k + 1) p byte h in
    let place = at.place in
    let inside = at.inside in
    (suc i, record { place = omega arith; inside = omega arith; same = at.same })

pub takes_in : (string : List ℕ) (k p byte i : ℕ) → TakesAt string k p byte i → TakesIn string k p byte
takes_in [] k p byte i at = absurd (let inside = at.inside in omega arith)
takes_in (b ∷ bs) k p byte zero at = inl (let place = at.place in omega arith, at.same)
takes_in (b ∷ bs) k p byte (suc i) at =
    let place = at.place in
    let inside = at.inside in
    inr (takes_in bs (k + 1) p byte i (record { place = omega arith; inside = omega arith; same = at.same }))

module _ (string : List ℕ) (k : ℕ) (from : BitSet) (byte : ℕ) where
  -- the byte is taken at byte i
  abbrev pub IsTakenAt : ℕ → Type 0
  IsTakenAt i = Has from (k + i) × (byte ≡ slice_index string i)

  -- one moves from the position of each byte but the last to the next
  pub moved_from : (q : ℕ) → Moves (bytes string) k from byte q
      → (i : ℕ) × (q ≡ k + (i + 1)) × (i + 1 < length string) × IsTakenAt i
  moved_from q (p, has, takes, follows) =
      let (i, at) = takes_at string k p byte takes in
      let place = at.place in
      (i, omega arith, omega arith, (subst (Has from) place has, at.same))

  pub moves_on : (i : ℕ) → i + 1 < length string → IsTakenAt i → Moves (bytes string) k from byte (k + (i + 1))
  moves_on i inside (has, same) =
      let at : TakesAt string k (k + i) byte i = record { place = refl; inside = omega arith; same = same } in
      (k + i, has, takes_in string k (k + i) byte i at, (omega arith, omega arith, omega arith))

  -- a word ends with the last byte
  pub ended_at : Ends (bytes string) k from byte → (0 < length string) × IsTakenAt (length string - 1)
  ended_at (p, has, takes, last) =
      let (i, at) = takes_at string k p byte takes in
      let place = at.place in
      let inside = at.inside in
      let here : i ≡ length string - 1 = omega arith in
      (omega arith, rw (← here) (subst (Has from) place has, at.same))

  pub ends_at : 0 < length string → IsTakenAt (length string - 1) → Ends (bytes string) k from byte
  ends_at some (has, same) =
      let i = length string - 1 in
      let at : TakesAt string k (k + i) byte i = record { place = refl; inside = omega arith; same = same } in
      (k + i, has, takes_in string k (k + i) byte i at, (omega arith, omega arith))

  -- the moves to byte `next` and those behind it may be missing
  pub record SteppingString (next : ℕ) (old new : BitSet) : Type 0 where
    pub adding : Adding old new (Moves (bytes string) k from byte) (λ q. (k + next ≤ q) × Moves (bytes string) k from byte q)

  -- the byte before is taken, and its move is added
  pub string_taken : (next : ℕ) (old mid new : BitSet) → SteppingString next old mid → 0 < next → next < length string
      → IsTakenAt (next - 1) → Adds mid new (λ q. q ≡ k + next) → SteppingString (next + 1) old new
  string_taken next old mid new before some inside taken added = record {
    adding = adding_more before.adding _ _ added (λ q. (split q, joined q));
  }
    where
      here : k + (next - 1 + 1) ≡ k + next
      here = omega arith

      split : (q : ℕ) → (k + next ≤ q) × Moves (bytes string) k from byte q
          → (q ≡ k + next) ⊎ ((k + (next + 1) ≤ q) × Moves (bytes string) k from byte q)
      split q (past, moves) = elim (cases_eq q (k + next)) [ inl same ↦ inl same | inr other ↦ inr (omega arith, moves) ]

      joined : (q : ℕ) → (q ≡ k + next) ⊎ ((k + (next + 1) ≤ q) × Moves (bytes string) k from byte q)
          → (k + next ≤ q) × Moves (bytes string) k from byte q
      joined q (inl same) =
          let moves = moves_on (next - 1) (omega arith) taken in
          (omega arith, subst (Moves (bytes string) k from byte) (here ∙ sym same) moves)
      joined q (inr (past, moves)) = (omega arith, moves)

  -- the byte before isn't taken
  pub string_left : (next : ℕ) (old new : BitSet) → SteppingString next old new → 0 < next
      → (IsTakenAt (next - 1) → ⊥) → SteppingString (next + 1) old new
  string_left next old new before some left = record {
    adding = adding_same before.adding _ (λ q. (later q, λ missing. (omega (arith, missing.0), missing.1)));
  }
    where
      later : (q : ℕ) → (k + next ≤ q) × Moves (bytes string) k from byte q
          → (k + (next + 1) ≤ q) × Moves (bytes string) k from byte q
      later q (past, moves) =
          let (i, at, inside, taken) = moved_from q moves in
          elim (cases_eq i (next - 1)) [
            | inl same ↦ absurd (left (subst IsTakenAt same taken))
            | inr other ↦ (omega arith, moves)
          ]
