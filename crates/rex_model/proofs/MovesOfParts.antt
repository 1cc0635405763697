-- What comes after a byte, and whether a word may end with it, by the parts of an expression.
use Rattle.std.proofs.Common.{ℕ, ◌+◌, ◌⊎◌, ◌↔◌, IsTrue, inl, inr}
use Rattle.ck_base.specs.BitSet.{BitSet}
use Rattle.rex_model.specs.Language.{Re, sequence, alternative, star}
use Rattle.rex_model.specs.Positions.{position_count, has_empty, First, Moves, Ends}
use Rattle.rex_model.proofs.Within.{not_in_both, Takes-within, Last-within, Follow-within}

module _ (r s : Re) (k : ℕ) (from : BitSet) (byte : ℕ) where
  -- in a sequence one moves within a part, or from an end of the first into the second
  abbrev pub MovesInSequence : ℕ → Type 0
  MovesInSequence q = Moves r k from byte q
      ⊎ (Moves s (k + position_count r) from byte q ⊎ (Ends r k from byte × First s (k + position_count r) q))

  in_sequence_of_moves : (q : ℕ) → Moves (sequence r s) k from byte q → MovesInSequence q
  in_sequence_of_moves q (p, has, inl t, inl f) = inl (p, has, t, f)
  in_sequence_of_moves q (p, has, inr t, inl f) =
      absurd (not_in_both k _ _ p (Follow-within r k p q f).0 (Takes-within s _ p byte t))
  in_sequence_of_moves q (p, has, inl t, inr (inl f)) =
      absurd (not_in_both k _ _ p (Takes-within r k p byte t) (Follow-within s _ p q f).0)
  in_sequence_of_moves q (p, has, inr t, inr (inl f)) = inr (inl (p, has, t, f))
  in_sequence_of_moves q (p, has, inl t, inr (inr (last, first))) = inr (inr ((p, has, t, last), first))
  in_sequence_of_moves q (p, has, inr t, inr (inr (last, first))) =
      absurd (not_in_both k _ _ p (Last-within r k p last) (Takes-within s _ p byte t))

  moves_of_in_sequence : (q : ℕ) → MovesInSequence q → Moves (sequence r s) k from byte q
  moves_of_in_sequence q (inl (p, has, t, f)) = (p, has, inl t, inl f)
  moves_of_in_sequence q (inr (inl (p, has, t, f))) = (p, has, inr t, inr (inl f))
  moves_of_in_sequence q (inr (inr ((p, has, t, last), first))) = (p, has, inl t, inr (inr (last, first)))

  pub moves_sequence : (q : ℕ) → Moves (sequence r s) k from byte q ↔ MovesInSequence q
  moves_sequence q = (in_sequence_of_moves q, moves_of_in_sequence q)

  -- a sequence ends with its second part, or with the first where the second may be empty
  abbrev pub EndsSequence : Type 0
  EndsSequence = Ends s (k + position_count r) from byte ⊎ (IsTrue (has_empty s) × Ends r k from byte)

  by_part_of_ends : Ends (sequence r s) k from byte → EndsSequence
  by_part_of_ends (p, has, inr t, inl last) = inl (p, has, t, last)
  by_part_of_ends (p, has, inl t, inl last) =
      absurd (not_in_both k _ _ p (Takes-within r k p byte t) (Last-within s _ p last))
  by_part_of_ends (p, has, inl t, inr (empty, last)) = inr (empty, (p, has, t, last))
  by_part_of_ends (p, has, inr t, inr (empty, last)) =
      absurd (not_in_both k _ _ p (Last-within r k p last) (Takes-within s _ p byte t))

  ends_of_by_part : EndsSequence → Ends (sequence r s) k from byte
  ends_of_by_part (inl (p, has, t, last)) = (p, has, inr t, inl last)
  ends_of_by_part (inr (empty, (p, has, t, last))) = (p, has, inl t, inr (empty, last))

  pub ends_sequence : Ends (sequence r s) k from byte ↔ EndsSequence
  ends_sequence = (by_part_of_ends, ends_of_by_part)

  -- one moves within an alternative
  abbrev pub MovesInAlternative : ℕ → Type 0
  MovesInAlternative q = Moves r k from byte q ⊎ Moves s (k + position_count r) from byte q

  in_alternative_of_moves : (q : ℕ) → Moves (alternative r s) k from byte q → MovesInAlternative q
  in_alternative_of_moves q (p, has, inl t, inl f) = inl (p, has, t, f)
  in_alternative_of_moves q (p, has, inr t, inl f) =
      absurd (not_in_both k _ _ p (Follow-within r k p q f).0 (Takes-within s _ p byte t))
  in_alternative_of_moves q (p, has, inl t, inr f) =
      absurd (not_in_both k _ _ p (Takes-within r k p byte t) (Follow-within s _ p q f).0)
  in_alternative_of_moves q (p, has, inr t, inr f) = inr (p, has, t, f)

  moves_of_in_alternative : (q : ℕ) → MovesInAlternative q → Moves (alternative r s) k from byte q
  moves_of_in_alternative q (inl (p, has, t, f)) = (p, has, inl t, inl f)
  moves_of_in_alternative q (inr (p, has, t, f)) = (p, has, inr t, inr f)

  pub moves_alternative : (q : ℕ) → Moves (alternative r s) k from byte q ↔ MovesInAlternative q
  moves_alternative q = (in_alternative_of_moves q, moves_of_in_alternative q)

  -- it ends with an alternative
  abbrev pub EndsAlternative : Type 0
  EndsAlternative = Ends r k from byte ⊎ Ends s (k + position_count r) from byte

  alternative_of_ends : Ends (alternative r s) k from byte → EndsAlternative
  alternative_of_ends (p, has, inl t, inl last) = inl (p, has, t, last)
  alternative_of_ends (p, has, inr t, inl last) =
      absurd (not_in_both k _ _ p (Last-within r k p last) (Takes-within s _ p byte t))
  alternative_of_ends (p, has, inl t, inr last) =
      absurd (not_in_both k _ _ p (Takes-within r k p byte t) (Last-within s _ p last))
  alternative_of_ends (p, has, inr t, inr last) = inr (p, has, t, last)

  ends_of_alternative : EndsAlternative → Ends (alternative r s) k from byte
  ends_of_alternative (inl (p, has, t, last)) = (p, has, inl t, inl last)
  ends_of_alternative (inr (p, has, t, last)) = (p, has, inr t, inr last)

  pub ends_alternative : Ends (alternative r s) k from byte ↔ EndsAlternative
  ends_alternative = (alternative_of_ends, ends_of_alternative)

module _ (r : Re) (k : ℕ) (from : BitSet) (byte : ℕ) where
  -- where a part may come again one moves within it, or from an end of it to its beginning
  abbrev pub MovesInRounds : ℕ → Type 0
  MovesInRounds q = Moves r k from byte q ⊎ (Ends r k from byte × First r k q)

  in_rounds_of_moves : (q : ℕ) → Moves (star r) k from byte q → MovesInRounds q
  in_rounds_of_moves q (p, has, t, inl f) = inl (p, has, t, f)
  in_rounds_of_moves q (p, has, t, inr (last, first)) = inr ((p, has, t, last), first)

  moves_of_in_rounds : (q : ℕ) → MovesInRounds q → Moves (star r) k from byte q
  moves_of_in_rounds q (inl (p, has, t, f)) = (p, has, t, inl f)
  moves_of_in_rounds q (inr ((p, has, t, last), first)) = (p, has, t, inr (last, first))

  pub moves_star : (q : ℕ) → Moves (star r) k from byte q ↔ MovesInRounds q
  moves_star q = (in_rounds_of_moves q, moves_of_in_rounds q)
