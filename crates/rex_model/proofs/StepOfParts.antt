-- A step over parts, taken part by part.
use Rattle.std.proofs.Common.{◌≡◌, ℕ, ◌+◌, ◌≤◌, ◌⊎◌, ◌↔◌, Bool, ◌&&◌, ◌||◌, IsTrue, [], inl, inr, arith}
use Rattle.ck_base.specs.BitSet.{BitSet, Adds}
use Rattle.rex_model.specs.Language.{Re, none, bytes, sequence, alternative, star}
use Rattle.rex_model.specs.Positions.{position_count, has_empty, First, Moves, Ends}
use Rattle.rex_model.proofs.EmptyWord.{and_parts, and_from, or_first, or_second, or_parts}
use Rattle.rex_model.proofs.MovesOfParts.{moves_sequence, ends_sequence, moves_alternative, ends_alternative, moves_star}
use Rattle.rex_model.proofs.Adding.{Adding, adding_more, adding_all, adds_both}

module _ (all : Re) (k : ℕ) (from : BitSet) (byte : ℕ) where
  -- what is missing of a sequence's moves are those in the parts that are left and, where the parts
  -- before them have ended, their first positions
  pub record SteppingSequence (rest : Re) (at : ℕ) (entered : Bool) (old new : BitSet) : Type 0 where
    pub adding : Adding old new (Moves all k from byte) (λ q. Moves rest at from byte q ⊎ (IsTrue entered × First rest at q))
    pub ends : Ends all k from byte ↔ (Ends rest at from byte ⊎ (IsTrue entered × IsTrue (has_empty rest)))
    pub room : at + position_count rest ≤ new.size

  -- one part more: `ended` says whether the parts up to it have ended
  pub sequence_more : (r rest : Re) (at later : ℕ) (entered ended : Bool) (old mid new : BitSet)
      → SteppingSequence (sequence r rest) at entered old mid
      → Adds mid new (λ q. Moves r at from byte q ⊎ (IsTrue entered × First r at q))
      → IsTrue ended ↔ (Ends r at from byte ⊎ (IsTrue entered × IsTrue (has_empty r)))
      → later ≡ at + position_count r
      → SteppingSequence rest later ended old new
  sequence_more r rest at later entered ended old mid new before added end place = rw place (record {
    adding = adding_more before.adding _ _ added (λ q. (split q, joined q));
    ends = (λ e. by_rest (before.ends.0 e), λ e. before.ends.1 (by_whole e));
    room = let same = added.size in let was = before.room in omega arith;
  })
    where
      split : (q : ℕ) → Moves (sequence r rest) at from byte q ⊎ (IsTrue entered × First (sequence r rest) at q)
          → (Moves r at from byte q ⊎ (IsTrue entered × First r at q))
          ⊎ (Moves rest (at + position_count r) from byte q ⊎ (IsTrue ended × First rest (at + position_count r) q))
      split q (inl moves) = elim ((moves_sequence r rest at from byte q).0 moves) [
        | inl m ↦ inl (inl m)
        | inr (inl m) ↦ inr (inl m)
        | inr (inr (e, first)) ↦ inr (inr (end.1 (inl e), first))
      ]
      split q (inr (t, inl first)) = inl (inr (t, first))
      split q (inr (t, inr (empty, first))) = inr (inr (end.1 (inr (t, empty)), first))

      joined : (q : ℕ) → (Moves r at from byte q ⊎ (IsTrue entered × First r at q))
          ⊎ (Moves rest (at + position_count r) from byte q ⊎ (IsTrue ended × First rest (at + position_count r) q))
          → Moves (sequence r rest) at from byte q ⊎ (IsTrue entered × First (sequence r rest) at q)
      joined q (inl (inl m)) = inl ((moves_sequence r rest at from byte q).1 (inl m))
      joined q (inl (inr (t, first))) = inr (t, inl first)
      joined q (inr (inl m)) = inl ((moves_sequence r rest at from byte q).1 (inr (inl m)))
      joined q (inr (inr (t, first))) = elim (end.0 t) [
        | inl e ↦ inl ((moves_sequence r rest at from byte q).1 (inr (inr (e, first))))
        | inr (was, empty) ↦ inr (was, inr (empty, first))
      ]

      by_rest : Ends (sequence r rest) at from byte ⊎ (IsTrue entered × IsTrue (has_empty r && has_empty rest))
          → Ends rest (at + position_count r) from byte ⊎ (IsTrue ended × IsTrue (has_empty rest))
      by_rest (inl e) = elim ((ends_sequence r rest at from byte).0 e) [
        | inl later ↦ inl later
        | inr (empty, first) ↦ inr (end.1 (inl first), empty)
      ]
      by_rest (inr (t, empty)) =
          let e = and_parts (has_empty r) (has_empty rest) empty in
          inr (end.1 (inr (t, e.0)), e.1)

      by_whole : Ends rest (at + position_count r) from byte ⊎ (IsTrue ended × IsTrue (has_empty rest))
          → Ends (sequence r rest) at from byte ⊎ (IsTrue entered × IsTrue (has_empty r && has_empty rest))
      by_whole (inl e) = inl ((ends_sequence r rest at from byte).1 (inl e))
      by_whole (inr (t, empty)) = elim (end.0 t) [
        | inl e ↦ inl ((ends_sequence r rest at from byte).1 (inr (empty, e)))
        | inr (was, also) ↦ inr (was, and_from _ _ also empty)
      ]

  -- what is missing of alternatives' moves are those in the parts that are left
  pub record SteppingAlternatives (rest : Re) (at : ℕ) (ended : Bool) (old new : BitSet) : Type 0 where
    pub adding : Adding old new (Moves all k from byte) (Moves rest at from byte)
    pub ends : Ends all k from byte ↔ (IsTrue ended ⊎ Ends rest at from byte)
    pub room : at + position_count rest ≤ new.size

  -- one part more
  pub alternatives_more : (r rest : Re) (at later : ℕ) (before ended : Bool) (old mid new : BitSet)
      → SteppingAlternatives (alternative r rest) at before old mid
      → Adds mid new (Moves r at from byte) → IsTrue ended ↔ Ends r at from byte
      → later ≡ at + position_count r
      → SteppingAlternatives rest later (before || ended) old new
  alternatives_more r rest at later before ended old mid new was added end place = rw place (record {
    adding = adding_more was.adding _ _ added (moves_alternative r rest at from byte);
    ends = (λ e. by_rest (was.ends.0 e), λ e. was.ends.1 (by_whole e));
    room = let same = added.size in let room = was.room in omega arith;
  })
    where
      by_rest : IsTrue before ⊎ Ends (alternative r rest) at from byte
          → IsTrue (before || ended) ⊎ Ends rest (at + position_count r) from byte
      by_rest (inl t) = inl (or_first before ended t)
      by_rest (inr e) = elim ((ends_alternative r rest at from byte).0 e) [
        | inl first ↦ inl (or_second before ended (end.1 first))
        | inr second ↦ inr second
      ]

      by_whole : IsTrue (before || ended) ⊎ Ends rest (at + position_count r) from byte
          → IsTrue before ⊎ Ends (alternative r rest) at from byte
      by_whole (inl t) = elim (or_parts before ended t) [
        | inl was ↦ inl was
        | inr e ↦ inr ((ends_alternative r rest at from byte).1 (inl (end.0 e)))
      ]
      by_whole (inr e) = inr ((ends_alternative r rest at from byte).1 (inr e))

-- no part is left
pub sequence_done : (all : Re) (k : ℕ) (from : BitSet) (byte at : ℕ) (entered : Bool) (old new : BitSet)
    → SteppingSequence all k from byte (bytes []) at entered old new → Adds old new (Moves all k from byte)
sequence_done all k from byte at entered old new stepping = adding_all stepping.adding (λ q missing. elim missing [
  | inl moves ↦ moves.2
  | inr later ↦ let first = later.1 in omega arith
])

pub alternatives_done : (all : Re) (k : ℕ) (from : BitSet) (byte at : ℕ) (ended : Bool) (old new : BitSet)
    → SteppingAlternatives all k from byte none at ended old new → Adds old new (Moves all k from byte)
alternatives_done all k from byte at ended old new stepping = adding_all stepping.adding (λ q moves. moves.2)

-- a part that may come again: from its ends one goes on to its beginning
pub round : (r : Re) (k : ℕ) (from : BitSet) (byte : ℕ) (ended : Bool) (old mid new : BitSet)
    → Adds old mid (Moves r k from byte) → IsTrue ended ↔ Ends r k from byte
    → Adds mid new (λ q. IsTrue ended × First r k q) → Adds old new (Moves (star r) k from byte)
round r k from byte ended old mid new moved end began = adds_both _ moved began (λ q. (
  λ moves. elim ((moves_star r k from byte q).0 moves) [ inl m ↦ inl m | inr (e, first) ↦ inr (end.1 e, first) ],
  λ parts. elim parts [
    | inl m ↦ (moves_star r k from byte q).1 (inl m)
    | inr (t, first) ↦ (moves_star r k from byte q).1 (inr (end.0 t, first))
  ],
))
