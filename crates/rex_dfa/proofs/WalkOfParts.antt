-- The rows of parts, from the last part on.
use Rattle.std.proofs.Common.{◌≡◌, ℕ, zero, suc, ◌+◌, ◌-◌, ◌<◌, ◌≤◌, ◌⊎◌, ◌↔◌, IsTrue, List, [], ◌∷◌, length, get_or, map, drop, arith, refl, sym, subst, inl, inr, ◌∙◌}
use Rattle.ck_base.specs.BitSet.{BitSet, Has, Adds, IsEmpty}
use Rattle.rex_model.specs.Language.{Re, bytes, sequence, alternative, star, plus, optional}
use Rattle.rex_model.specs.Meaning.{meaning, sequence_of, alternative_of}
use Rattle.rex_model.specs.Positions.{position_count, has_empty, Takes, First}
use Rattle.rex_model.specs.declared.regex.Regex.{Regex}
use Rattle.rex_model.proofs.Adding.{adds_both}
use Rattle.rex_model.proofs.MeaningsOfParts.{meanings_at, alternative_count}
use Rattle.rex_model.proofs.EmptyWord.{and_parts, and_from}
use Rattle.rex_model.proofs.Within.{Takes-within, Last-within, Follow-within}
use Rattle.rex_dfa.specs.within.Walked.{Fills, HasRoom, Leads, Begins, IsWalked, IsPassed}
use Rattle.rex_dfa.specs.declared.walk.Rows.{Rows}

pub fills_none : (rows : List BitSet) (P : ℕ → ℕ → Type 0) → ((i p : ℕ) → P i p → ⊥) → Fills rows rows P
fills_none rows P none = record {
  long = refl;
  adds = λ i below. record {
    size = refl;
    only = λ p has. inl has;
    kept = λ p has. has;
    more = λ p h. absurd (none i p h);
  };
}

pub fills_both : (old mid new : List BitSet) (P Q R : ℕ → ℕ → Type 0) → Fills old mid P → Fills mid new Q
    → ((i p : ℕ) → R i p ↔ (P i p ⊎ Q i p)) → Fills old new R
fills_both old mid new P Q R first second both = record {
  long = second.long ∙ first.long;
  adds = λ i below. adds_both (R i) (first.adds i below) (second.adds i (omega (arith, below, first.long))) (both i);
}

-- the same numbers in other words
pub fills_same : (old new : List BitSet) (P Q : ℕ → ℕ → Type 0) → ((i p : ℕ) → P i p ↔ Q i p) → Fills old new P → Fills old new Q
fills_same old new P Q same fills = record {
  long = fills.long;
  adds = λ i below. let a = fills.adds i below in record {
    size = a.size;
    only = λ p h. elim (a.only p h) [ inl o ↦ inl o | inr m ↦ inr ((same i p).0 m) ];
    kept = a.kept;
    more = λ p h. a.more p ((same i p).1 h);
  };
}

pub room_kept : (size : ℕ) (r : Re) (past k : ℕ) (behind : ℕ → Type 0) (old new : Rows) → HasRoom size old → IsWalked r past behind old new k → HasRoom size new
room_kept size r past k behind old new room walked = record {
  bytes = walked.takers.long ∙ room.bytes;
  taker_sizes = λ i below. (walked.takers.adds i (omega (arith, below, room.bytes))).size ∙ room.taker_sizes i below;
  positions = walked.follows.long ∙ room.positions;
  follow_sizes = λ i below. (walked.follows.adds i (omega (arith, below, room.positions))).size ∙ room.follow_sizes i below;
}

-- an expression without positions adds nothing
pub walked_nothing : (r : Re) (past : ℕ) (behind : ℕ → Type 0) (rows : Rows) → position_count r ≡ 0 → IsWalked r past behind rows rows past
walked_nothing r past behind rows none = record {
  count = omega (arith, none);
  takers = fills_none rows.takers.items (λ byte p. Takes r past p byte) (λ byte p h. let w = Takes-within r past p byte h in let from = w.from in let below = w.below in omega (arith, from, below, none));
  follows = fills_none rows.follows.items (Leads r past behind) leads;
}
  where
    leads : (p q : ℕ) → Leads r past behind p q → ⊥
    leads p q (inl h) = let w = (Follow-within r past p q h).0 in let from = w.from in let below = w.below in omega (arith, from, below, none)
    leads p q (inr h) = let w = Last-within r past p h.0 in let from = w.from in let below = w.below in omega (arith, from, below, none)

-- at the end of a sequence what comes next is what stands behind it
pub passed_nothing : (past : ℕ) (behind : ℕ → Type 0) (size : ℕ) (next : BitSet) → next.size ≡ size → ((q : ℕ) → Has next q ↔ behind q)
    → IsPassed (bytes []) past behind size next
passed_nothing past behind size next same has = record {
  same = same;
  has = λ q. (λ h. inr (refl, (has q).0 h), λ h. elim h [ inl first ↦ absurd (let some = first.1 in omega arith) | inr rest ↦ (has q).1 rest.1 ]);
}

-- one part more in front of the others
module _ (r s : Re) (past k : ℕ) (behind mid_behind : ℕ → Type 0) where
  leads_more : ((q : ℕ) → mid_behind q ↔ Begins s (k + position_count r) behind q) → (p q : ℕ)
      → Leads (sequence r s) k behind p q ↔ (Leads s (k + position_count r) behind p q ⊎ Leads r k mid_behind p q)
  leads_more same p q = (split, joined)
    where
      split : Leads (sequence r s) k behind p q → Leads s (k + position_count r) behind p q ⊎ Leads r k mid_behind p q
      split (inl (inl h)) = inr (inl h)
      split (inl (inr (inl h))) = inl (inl h)
      split (inl (inr (inr (last, first)))) = inr (inr (last, (same q).1 (inl first)))
      split (inr (inl last, h)) = inl (inr (last, h))
      split (inr (inr (empty, last), h)) = inr (inr (last, (same q).1 (inr (empty, h))))

      joined : Leads s (k + position_count r) behind p q ⊎ Leads r k mid_behind p q → Leads (sequence r s) k behind p q
      joined (inl (inl h)) = inl (inr (inl h))
      joined (inl (inr (last, h))) = inr (inl last, h)
      joined (inr (inl h)) = inl (inl h)
      joined (inr (inr (last, h))) = elim ((same q).0 h) [
        | inl first ↦ inl (inr (inr (last, first)))
        | inr (empty, b) ↦ inr (inr (empty, last), b)
      ]

  begins_more : ((q : ℕ) → mid_behind q ↔ Begins s (k + position_count r) behind q) → (q : ℕ) → Begins r k mid_behind q ↔ Begins (sequence r s) k behind q
  begins_more same q = (there, back)
    where
      there : Begins r k mid_behind q → Begins (sequence r s) k behind q
      there (inl first) = inl (inl first)
      there (inr (empty, h)) = elim ((same q).0 h) [
        | inl first ↦ inl (inr (empty, first))
        | inr (also, b) ↦ inr (and_from _ _ empty also, b)
      ]

      back : Begins (sequence r s) k behind q → Begins r k mid_behind q
      back (inl (inl first)) = inl first
      back (inl (inr (empty, first))) = inr (empty, (same q).1 (inl first))
      back (inr (both, b)) = let e = and_parts (has_empty r) (has_empty s) both in inr (e.0, (same q).1 (inr (e.1, b)))

  pub walked_sequence : (middle : ℕ) (old mid new : Rows) → IsWalked s past behind old mid middle → IsWalked r middle mid_behind mid new k
      → ((q : ℕ) → mid_behind q ↔ Begins s middle behind q) → IsWalked (sequence r s) past behind old new k
  walked_sequence middle old mid new first second same =
      let before = subst (λ m. IsWalked s past behind old mid m) (sym second.count) first in
      let alike = subst (λ m. (q : ℕ) → mid_behind q ↔ Begins s m behind q) (sym second.count) same in
      record {
        count = let sum = before.count in omega (arith, sum);
        takers = fills_both old.takers.items mid.takers.items new.takers.items (λ byte p. Takes s (k + position_count r) p byte) (λ byte p. Takes r k p byte) _ before.takers second.takers
            (λ byte p. (λ h. elim h [ inl a ↦ inr a | inr b ↦ inl b ], λ h. elim h [ inl a ↦ inr a | inr b ↦ inl b ]));
        follows = fills_both old.follows.items mid.follows.items new.follows.items (Leads s (k + position_count r) behind) (Leads r k mid_behind) _ before.follows second.follows (leads_more alike);
      }

  pub passed_sequence : (middle size : ℕ) (next : BitSet) → k + position_count r ≡ middle → IsPassed r k mid_behind size next
      → ((q : ℕ) → mid_behind q ↔ Begins s middle behind q) → IsPassed (sequence r s) k behind size next
  passed_sequence middle size next place passed same =
      let alike = begins_more (subst (λ m. (q : ℕ) → mid_behind q ↔ Begins s m behind q) (sym place) same) in
      record {
        same = passed.same;
        has = λ q. (λ h. (alike q).0 ((passed.has q).0 h), λ h. (passed.has q).1 ((alike q).1 h));
      }

-- one alternative more
pub walked_alternative : (r s : Re) (past middle k : ℕ) (behind : ℕ → Type 0) (old mid new : Rows) → IsWalked s past behind old mid middle → IsWalked r middle behind mid new k
    → IsWalked (alternative r s) past behind old new k
walked_alternative r s past middle k behind old mid new first second =
    let before = subst (λ m. IsWalked s past behind old mid m) (sym second.count) first in
    record {
      count = let sum = before.count in omega (arith, sum);
      takers = fills_both old.takers.items mid.takers.items new.takers.items (λ byte p. Takes s (k + position_count r) p byte) (λ byte p. Takes r k p byte) _ before.takers second.takers
          (λ byte p. (λ h. elim h [ inl a ↦ inr a | inr b ↦ inl b ], λ h. elim h [ inl a ↦ inr a | inr b ↦ inl b ]));
      follows = fills_both old.follows.items mid.follows.items new.follows.items (Leads s (k + position_count r) behind) (Leads r k behind) _ before.follows second.follows (λ p q. (split p q, joined p q));
    }
  where
    split : (p q : ℕ) → Leads (alternative r s) k behind p q → Leads s (k + position_count r) behind p q ⊎ Leads r k behind p q
    split p q (inl (inl h)) = inr (inl h)
    split p q (inl (inr h)) = inl (inl h)
    split p q (inr (inl h, b)) = inr (inr (h, b))
    split p q (inr (inr h, b)) = inl (inr (h, b))

    joined : (p q : ℕ) → Leads s (k + position_count r) behind p q ⊎ Leads r k behind p q → Leads (alternative r s) k behind p q
    joined p q (inl (inl h)) = inl (inr h)
    joined p q (inl (inr (h, b))) = inr (inr h, b)
    joined p q (inr (inl h)) = inl (inl h)
    joined p q (inr (inr (h, b))) = inr (inl h, b)

-- a part that may come again is followed by itself
pub walked_round : (r : Re) (past k : ℕ) (behind again : ℕ → Type 0) (old new : Rows) → IsWalked r past again old new k → ((q : ℕ) → again q ↔ (behind q ⊎ First r k q))
    → IsWalked (star r) past behind old new k
walked_round r past k behind again old new walked same = record {
  count = walked.count;
  takers = walked.takers;
  follows = fills_same old.follows.items new.follows.items (Leads r k again) (Leads (star r) k behind) (λ p q. (there p q, back p q)) walked.follows;
}
  where
    there : (p q : ℕ) → Leads r k again p q → Leads (star r) k behind p q
    there p q (inl h) = inl (inl h)
    there p q (inr (last, h)) = elim ((same q).0 h) [ inl b ↦ inr (last, b) | inr first ↦ inl (inr (last, first)) ]

    back : (p q : ℕ) → Leads (star r) k behind p q → Leads r k again p q
    back p q (inl (inl h)) = inl h
    back p q (inl (inr (last, first))) = inr (last, (same q).1 (inr first))
    back p q (inr (last, b)) = inr (last, (same q).1 (inl b))

pub walked_plus : (r : Re) (past k : ℕ) (behind : ℕ → Type 0) (old new : Rows) → IsWalked (star r) past behind old new k → IsWalked (plus r) past behind old new k
walked_plus r past k behind old new walked = record { count = walked.count; takers = walked.takers; follows = walked.follows }

pub walked_optional : (r : Re) (past k : ℕ) (behind : ℕ → Type 0) (old new : Rows) → IsWalked r past behind old new k → IsWalked (optional r) past behind old new k
walked_optional r past k behind old new walked = record { count = walked.count; takers = walked.takers; follows = walked.follows }

-- some of the parts have no more positions than all
pub fewer_left : (parts : List Regex) (n : ℕ) → position_count (sequence_of (map meaning (drop n parts))) ≤ position_count (sequence_of (map meaning parts))
fewer_left parts zero = omega arith
fewer_left [] (suc n) = omega arith
fewer_left (part ∷ parts) (suc n) = let rest = fewer_left parts n in omega (arith, rest)

-- the set with the positions at which a word of the expression may begin, joined to those behind it
pub passed_on : (r : Re) (k size : ℕ) (behind : ℕ → Type 0) (old new : BitSet) → IsTrue (has_empty r) → old.size ≡ size → ((q : ℕ) → Has old q ↔ behind q) → Adds old new (First r k)
    → IsPassed r k behind size new
passed_on r k size behind old new empty was has adds = record {
  same = adds.size ∙ was;
  has = λ q. (
    λ h. elim (adds.only q h) [ inl o ↦ inr (empty, (has q).0 o) | inr first ↦ inl first ],
    λ h. elim h [ inl first ↦ adds.more q first | inr b ↦ adds.kept q ((has q).1 b.1) ],
  );
}

pub passed_by : (r : Re) (k size : ℕ) (behind : ℕ → Type 0) (old new : BitSet) → (IsTrue (has_empty r) → ⊥) → old.size ≡ size → IsEmpty old → Adds old new (First r k)
    → IsPassed r k behind size new
passed_by r k size behind old new filled was none adds = record {
  same = adds.size ∙ was;
  has = λ q. (
    λ h. elim (adds.only q h) [ inl o ↦ absurd (none q o) | inr first ↦ inl first ],
    λ h. elim h [ inl first ↦ adds.more q first | inr b ↦ absurd (filled b.0) ],
  );
}

-- behind the last part there is none
pub parts_none : (parts : List Regex) → map meaning (drop (length parts) parts) ≡ []
parts_none [] = refl
parts_none (part ∷ parts) = parts_none parts

-- the part before those that are walked has its positions before theirs
pub part_fits : (parts : List Regex) (i : ℕ) (part : Regex) (at past : ℕ) → 0 < i → i - 1 < length parts → part ≡ get_or parts (i - 1) part
    → at + position_count (sequence_of (map meaning (drop i parts))) ≡ past → position_count (sequence_of (map meaning parts)) ≤ past
    → (position_count (meaning part) ≤ at) × (at ≤ past)
part_fits parts i part at past some within is count fits =
    let next : (i - 1) + 1 ≡ i = omega (arith, some) in
    let left = fewer_left parts (i - 1) in
    let e : map meaning (drop (i - 1) parts) ≡ meaning part ∷ map meaning (drop i parts) = rw next at (meanings_at parts (i - 1) part within is) in
    let sum : position_count (meaning part) + position_count (sequence_of (map meaning (drop i parts))) ≤ position_count (sequence_of (map meaning parts)) = rw e at left in
    (omega (arith, sum, count, fits), omega (arith, count))

pub alternative_fits : (parts : List Regex) (i : ℕ) (part : Regex) (at past : ℕ) → 0 < i → i - 1 < length parts → part ≡ get_or parts (i - 1) part
    → at + position_count (alternative_of (map meaning (drop i parts))) ≡ past → position_count (alternative_of (map meaning parts)) ≤ past
    → (position_count (meaning part) ≤ at) × (at ≤ past)
alternative_fits parts i part at past some within is count fits =
    part_fits parts i part at past some within is (rw (alternative_count (map meaning (drop i parts))) at count) (rw (alternative_count (map meaning parts)) at fits)

pub Leads-within : (r : Re) (k : ℕ) (behind : ℕ → Type 0) (p q : ℕ) → Leads r k behind p q → (k ≤ p) × (p < k + position_count r)
Leads-within r k behind p q (inl h) = let w = (Follow-within r k p q h).0 in (w.from, w.below)
Leads-within r k behind p q (inr h) = let w = Last-within r k p h.0 in (w.from, w.below)
