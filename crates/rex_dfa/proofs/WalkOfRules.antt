-- The rows of rules and of marked expressions.
use Rattle.std.proofs.Common.{◌≡◌, ℕ, ◌+◌, ◌<◌, ◌↔◌, Bool, IsTrue, List, ◌∷◌, arith, sym, inl, inr, ◌∙◌}
use Rattle.ck_base.specs.BitSet.{BitSet, Has, IsEmpty, Adds}
use Rattle.rex_model.specs.Language.{Re}
use Rattle.rex_model.specs.Positions.{position_count, Takes, First, Follow}
use Rattle.rex_model.specs.Rules.{Rule}
use Rattle.rex_model.specs.Sets.{marked, marked_rules, body_and_context, FirstOfActive, FirstBackwards, FollowBackwards}
use Rattle.rex_model.specs.RuleMeaning.{rule_of}
use Rattle.rex_model.specs.declared.rules.ScanRule.{ScanRule}
use Rattle.rex_model.proofs.MeantRules.{contains_has}
use Rattle.rex_model.proofs.Within.{First-within, Follow-within}
use Rattle.rex_dfa.specs.within.Positions.{HasAt}
use Rattle.rex_dfa.specs.within.Rows.{AreRows}
use Rattle.rex_dfa.specs.within.Walked.{Fills, HasRoom, Leads, Begins, IsWalked, IsPassed, IsPut, IsTurned}
use Rattle.rex_dfa.specs.declared.walk.Rows.{Rows}
use Rattle.rex_dfa.proofs.PositionsOfRows.{takes_marked_at, row_below, marked_bound}
use Rattle.rex_dfa.proofs.RowsSoFar.{RowsSoFar, so_far_begin, so_far_more}
use Rattle.rex_dfa.proofs.WalkOfParts.{fills_same}

-- an expression before its end mark
module _ (r : Re) (k mark : ℕ) (behind : ℕ → Type 0) (is_mark : (q : ℕ) → behind q ↔ (q ≡ mark)) (place : k + position_count r ≡ mark) where
  pub put_marked : (old new : Rows) → IsWalked r mark behind old new k → IsPut (marked r) k old new
  put_marked old new walked = record {
    takers = fills_same old.takers.items new.takers.items (λ byte p. Takes r k p byte) (λ byte p. Takes (marked r) k p byte) (λ byte p. takes_marked_at r k p byte) walked.takers;
    follows = fills_same old.follows.items new.follows.items (Leads r k behind) (Follow (marked r) k) (λ p q. (there p q, back p q)) walked.follows;
  }
    where
      there : (p q : ℕ) → Leads r k behind p q → Follow (marked r) k p q
      there p q (inl h) = inl h
      there p q (inr (last, b)) = let at = (is_mark q).0 b in inr (inr (last, omega (arith, at, place)))

      back : (p q : ℕ) → Follow (marked r) k p q → Leads r k behind p q
      back p q (inl h) = inl h
      back p q (inr (inl h)) = elim h [ ]
      back p q (inr (inr (last, at))) = inr (last, (is_mark q).1 (omega (arith, at, place)))

  pub first_marked : (size : ℕ) (next : BitSet) → IsPassed r k behind size next → (q : ℕ) → Has next q ↔ First (marked r) k q
  first_marked size next passed q = (λ h. there ((passed.has q).0 h), λ h. (passed.has q).1 (back h))
    where
      there : Begins r k behind q → First (marked r) k q
      there (inl first) = inl first
      there (inr (empty, b)) = let at = (is_mark q).0 b in inr (empty, omega (arith, at, place))

      back : First (marked r) k q → Begins r k behind q
      back (inl first) = inl first
      back (inr (empty, at)) = inr (empty, (is_mark q).1 (omega (arith, at, place)))

-- a set with the one number that it got
pub one_number : (fresh set : BitSet) (mark : ℕ) → ((q : ℕ) → Has fresh q → ⊥) → Adds fresh set (λ k. k ≡ mark) → (q : ℕ) → Has set q ↔ (q ≡ mark)
one_number fresh set mark none adds q = (λ h. elim (adds.only q h) [ inl o ↦ absurd (none q o) | inr is ↦ is ], λ is. adds.more q is)

-- the rows of the rules that are left may be missing
pub record WalkingRules (all rest : List Rule) (at size states : ℕ) (rows : Rows) (firsts : List BitSet) : Type 0 where
  pub takers : RowsSoFar size 256 (λ byte p. Takes (marked_rules all) 0 p byte) (λ byte p. Takes (marked_rules rest) at p byte) rows.takers.items
  pub follows : RowsSoFar size size (Follow (marked_rules all) 0) (Follow (marked_rules rest) at) rows.follows.items
  pub begins : RowsSoFar size states (λ state. FirstOfActive all state 0) (λ state. FirstOfActive rest state at) firsts
  pub room : at + position_count (marked_rules rest) ≡ size

pub walking_room : (all rest : List Rule) (at size states : ℕ) (rows : Rows) (firsts : List BitSet) → WalkingRules all rest at size states rows firsts → HasRoom size rows
walking_room all rest at size states rows firsts w = record {
  bytes = w.takers.long;
  taker_sizes = w.takers.sizes;
  positions = w.follows.long;
  follow_sizes = w.follows.sizes;
}

pub walking_begin : (all : List Rule) (size states : ℕ) (rows : Rows) (firsts : List BitSet) → AreRows size 256 (λ _ _. ⊥) rows.takers.items → AreRows size size (λ _ _. ⊥) rows.follows.items
    → AreRows size states (λ _ _. ⊥) firsts → position_count (marked_rules all) ≡ size → WalkingRules all all 0 size states rows firsts
walking_begin all size states rows firsts takers follows begins count = record {
  takers = so_far_begin size 256 rows.takers.items (λ byte p. Takes (marked_rules all) 0 p byte) takers;
  follows = so_far_begin size size rows.follows.items (Follow (marked_rules all) 0) follows;
  begins = so_far_begin size states firsts (λ state. FirstOfActive all state 0) begins;
  room = omega (arith, count);
}

pub walking_more : (all rest : List Rule) (rule : Rule) (at later size states : ℕ) (rows new : Rows) (firsts new_firsts : List BitSet) → WalkingRules all (rule ∷ rest) at size states rows firsts
    → IsPut (marked (body_and_context rule)) at rows new
    → Fills firsts new_firsts (λ state q. IsTrue (rule.active state) × First (marked (body_and_context rule)) at q)
    → later ≡ at + position_count (marked (body_and_context rule)) → WalkingRules all rest later size states new new_firsts
walking_more all rest rule at later size states rows new firsts new_firsts before put begins place = rw place (record {
  takers = so_far_more size 256 rows.takers.items _ (λ byte p. Takes (marked_rules (rule ∷ rest)) at p byte) (λ byte p. Takes (marked (body_and_context rule)) at p byte)
      (λ byte p. Takes (marked_rules rest) (at + position_count (marked (body_and_context rule))) p byte) new.takers.items before.takers put.takers (λ i p. (λ h. h, λ h. h));
  follows = so_far_more size size rows.follows.items _ (Follow (marked_rules (rule ∷ rest)) at) (Follow (marked (body_and_context rule)) at)
      (Follow (marked_rules rest) (at + position_count (marked (body_and_context rule)))) new.follows.items before.follows put.follows (λ i p. (λ h. h, λ h. h));
  begins = so_far_more size states firsts _ (λ state. FirstOfActive (rule ∷ rest) state at) (λ state q. IsTrue (rule.active state) × First (marked (body_and_context rule)) at q)
      (λ state. FirstOfActive rest state (at + position_count (marked (body_and_context rule)))) new_firsts before.begins begins (λ i p. (λ h. h, λ h. h));
  room = let room = before.room in omega (arith, room);
})

-- the columns of the rows of a marked expression are those backwards
module _ (r : Re) where
  pub turned_before : (p q : ℕ) → p < position_count r → IsTurned (marked r) (position_count r) p q ↔ FollowBackwards r p q
  turned_before p q below = (there, back)
    where
      there : IsTurned (marked r) (position_count r) p q → FollowBackwards r p q
      there (inl (inl h)) = inl h
      there (inl (inr (inl h))) = elim h [ ]
      there (inl (inr (inr (last, at)))) = absurd (omega (arith, at, below))
      there (inr (inl first, is)) = inr (first, is)
      there (inr (inr (empty, at), is)) = absurd (omega (arith, at, below))

      back : FollowBackwards r p q → IsTurned (marked r) (position_count r) p q
      back (inl h) = inl (inl h)
      back (inr (first, is)) = inr (inl first, is)

  pub turned_last : (q : ℕ) → IsTurned (marked r) (position_count r) (position_count r) q ↔ FirstBackwards r q
  turned_last q = (there, back)
    where
      there : IsTurned (marked r) (position_count r) (position_count r) q → FirstBackwards r q
      there (inl (inl h)) = let below = (Follow-within r 0 q (position_count r) h).1.below in absurd (omega (arith, below))
      there (inl (inr (inl h))) = elim h [ ]
      there (inl (inr (inr (last, at)))) = inl last
      there (inr (inl first, is)) = let below = (First-within r 0 (position_count r) first).below in absurd (omega (arith, below))
      there (inr (inr (empty, at), is)) = inr (empty, is)

      back : FirstBackwards r q → IsTurned (marked r) (position_count r) (position_count r) q
      back (inl last) = inl (inr (inr (last, omega arith)))
      back (inr (empty, is)) = inr (inr (empty, omega arith), is)

  -- before the end mark there is nothing
  pub none_behind : (q : ℕ) → FollowBackwards r (position_count r) q → ⊥
  none_behind q (inl h) = let below = (Follow-within r 0 q (position_count r) h).1.below in omega (arith, below)
  none_behind q (inr (first, is)) = let below = (First-within r 0 (position_count r) first).below in omega (arith, below)

-- a column of the rows of a marked expression, with the end mark
pub is_turned : (r : Re) (size mark p : ℕ) (follows : List BitSet) (fresh mid set first : BitSet) (b : Bool) → AreRows size size (Follow (marked r) 0) follows
    → ((q : ℕ) → Has first q ↔ First (marked r) 0 q) → IsEmpty fresh → Adds fresh mid (λ q. HasAt follows q p) → IsTrue b ↔ Has first p → Adds mid set (λ q. IsTrue b × (q ≡ mark))
    → mark + 1 ≡ size × (mark ≡ position_count r)
    → (q : ℕ) → Has set q ↔ IsTurned (marked r) (position_count r) p q
is_turned r size mark p follows fresh mid set first b rows begins none befores says marks (size_is, mark_is) q = (there, back)
  where
    column : HasAt follows q p ↔ Follow (marked r) 0 q p
    column = row_below size size (Follow (marked r) 0) follows rows (λ i k h. let below = marked_bound r i k h in omega (arith, below, size_is, mark_is)) q p

    there : Has set q → IsTurned (marked r) (position_count r) p q
    there h = elim (marks.only q h) [
      | inl was ↦ elim (befores.only q was) [ inl old ↦ absurd (none q old) | inr before ↦ inl (column.0 before) ]
      | inr new ↦ inr ((begins p).0 (says.0 new.0), new.1 ∙ mark_is)
    ]

    back : IsTurned (marked r) (position_count r) p q → Has set q
    back (inl h) = marks.kept q (befores.more q (column.1 h))
    back (inr (h, at)) = marks.more q (says.1 ((begins p).1 h), at ∙ sym mark_is)

-- the first positions of a rule in the start states in which it is active
pub begin_alike : (rule : ScanRule) (at : ℕ) (first : BitSet) (old new : List BitSet) → ((q : ℕ) → Has first q ↔ First (marked (body_and_context (rule_of rule))) at q)
    → Fills old new (λ state q. Has rule.states state × Has first q) → Fills old new (λ state q. IsTrue ((rule_of rule).active state) × First (marked (body_and_context (rule_of rule))) at q)
begin_alike rule at first old new same fills =
    fills_same old new (λ state q. Has rule.states state × Has first q) (λ state q. IsTrue ((rule_of rule).active state) × First (marked (body_and_context (rule_of rule))) at q)
    (λ state q. (λ h. ((contains_has rule.states state).1 h.0, (same q).0 h.1), λ h. ((contains_has rule.states state).0 h.0, (same q).1 h.1))) fills
