-- The first positions of parts, added part by part.
use Rattle.std.proofs.Common.{◌≡◌, ℕ, ◌+◌, ◌≤◌, ◌⊎◌, Bool, true, false, ◌&&◌, ◌||◌, IsTrue, [], inl, inr, refl, ◌∙◌, arith}
use Rattle.ck_base.specs.BitSet.{BitSet, Adds}
use Rattle.rex_model.specs.Language.{Re, none, bytes, sequence, alternative}
use Rattle.rex_model.specs.Positions.{position_count, has_empty, First}
use Rattle.rex_model.proofs.Adding.{Adding, adding_more, adding_all}
use Rattle.rex_model.proofs.EmptyWord.{and_parts, and_from}

-- the first positions of `rest`, whose positions are numbered from `at`, are the ones that may be missing
-- where the parts before it have the empty word, and else none
pub record FrontOfSequence (all : Re) (k : ℕ) (rest : Re) (at : ℕ) (empty : Bool) (old new : BitSet) : Type 0 where
  pub adding : Adding old new (First all k) (λ q. IsTrue empty × First rest at q)
  pub has : has_empty all ≡ (empty && has_empty rest)
  pub place : at + position_count rest ≡ k + position_count all
  pub room : at + position_count rest ≤ new.size

pub front_sequence_more : (all : Re) (k : ℕ) (r rest : Re) (at later : ℕ) (empty also : Bool) (old mid new : BitSet) → FrontOfSequence all k (sequence r rest) at empty old mid
    → Adds mid new (λ q. IsTrue empty × First r at q) → later ≡ at + position_count r → also ≡ (empty && has_empty r) → FrontOfSequence all k rest later also old new
front_sequence_more all k r rest at later empty also old mid new before added place is = rw (place, is) (record {
  adding = adding_more before.adding _ _ added (λ q. (split q, joined q));
  has = before.has ∙ three empty (has_empty r) (has_empty rest);
  place = let was = before.place in omega (arith, was);
  room = let same = added.size in let was = before.room in omega (arith, same, was);
})
  where
    three : (a b c : Bool) → (a && (b && c)) ≡ ((a && b) && c)
    three true b c = refl
    three false b c = refl

    split : (q : ℕ) → IsTrue empty × First (sequence r rest) at q → (IsTrue empty × First r at q) ⊎ (IsTrue (empty && has_empty r) × First rest (at + position_count r) q)
    split q (so, inl first) = inl (so, first)
    split q (so, inr (none_before, first)) = inr (and_from _ _ so none_before, first)

    joined : (q : ℕ) → (IsTrue empty × First r at q) ⊎ (IsTrue (empty && has_empty r) × First rest (at + position_count r) q) → IsTrue empty × First (sequence r rest) at q
    joined q (inl (so, first)) = (so, inl first)
    joined q (inr (both, first)) = let e = and_parts empty (has_empty r) both in (e.0, inr (e.1, first))

pub front_sequence_done : (all : Re) (k at : ℕ) (empty : Bool) (old new : BitSet) → FrontOfSequence all k (bytes []) at empty old new → Adds old new (First all k)
front_sequence_done all k at empty old new done = adding_all done.adding (λ q missing. let some = missing.1.1 in omega (arith, some))

-- the first positions of alternatives: those that are left may be missing
pub record FrontOfAlternatives (all : Re) (k : ℕ) (rest : Re) (at : ℕ) (empty : Bool) (old new : BitSet) : Type 0 where
  pub adding : Adding old new (First all k) (First rest at)
  pub has : has_empty all ≡ (empty || has_empty rest)
  pub place : at + position_count rest ≡ k + position_count all
  pub room : at + position_count rest ≤ new.size

pub front_alternatives_more : (all : Re) (k : ℕ) (r rest : Re) (at later : ℕ) (empty also : Bool) (old mid new : BitSet) → FrontOfAlternatives all k (alternative r rest) at empty old mid
    → Adds mid new (First r at) → later ≡ at + position_count r → also ≡ has_empty r → FrontOfAlternatives all k rest later (empty || also) old new
front_alternatives_more all k r rest at later empty also old mid new before added place is = rw (place, is) (record {
  adding = adding_more before.adding _ _ added (λ q. (λ h. h, λ h. h));
  has = before.has ∙ three empty (has_empty r) (has_empty rest);
  place = let was = before.place in omega (arith, was);
  room = let same = added.size in let was = before.room in omega (arith, same, was);
})
  where
    three : (a b c : Bool) → (a || (b || c)) ≡ ((a || b) || c)
    three true b c = refl
    three false b c = refl

pub front_alternatives_done : (all : Re) (k at : ℕ) (empty : Bool) (old new : BitSet) → FrontOfAlternatives all k none at empty old new → Adds old new (First all k)
front_alternatives_done all k at empty old new done = adding_all done.adding (λ q first. elim first [ ])
