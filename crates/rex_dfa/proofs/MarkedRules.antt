-- A rule's end mark comes next exactly after the words of its body and context, where it is active.
use Rattle.std.proofs.Common.{IsTrue, ◌≡◌, ℕ, suc, zero, ◌+◌, ◌≤◌, List, [], ◌∷◌, Some, arith, refl, sym, subst, inl, inr, slice_get}
use Rattle.std.proofs.lemmas.Option.{none-some, same_Some}
use Rattle.rex_model.specs.Language.{Re, alternative, Language}
use Rattle.rex_model.specs.Positions.{position_count, Takes, Follow}
use Rattle.rex_model.specs.Rules.{Rule}
use Rattle.rex_model.proofs.Within.{IsAmong, among_second, Takes-within, First-within, Follow-within}
use Rattle.rex_model.proofs.PositionsToWords.{in_first, in_second}
use Rattle.rex_dfa.specs.within.Marks.{IsMark}
use Rattle.rex_model.specs.Sets.{Goes, there, on, marked, body_and_context, marked_rules, FirstOfActive}
use Rattle.rex_dfa.specs.within.Main.{IsFound}
use Rattle.rex_dfa.proofs.MarkedWords.{mark_of_word, word_of_mark}

module _ (r s : Re) (k : ℕ) where
  -- paths of either part are paths of both
  pub goes_of_left : (p q : ℕ) (w : List ℕ) → Goes (Takes r k) (Follow r k) p w q
      → Goes (Takes (alternative r s) k) (Follow (alternative r s) k) p w q
  goes_of_left p q w (there _) = there p
  goes_of_left p q w (on _ next _ b v taken follows more) =
      on p next q b v (inl taken) (inl follows) (goes_of_left next q v more)

  pub goes_of_right : (p q : ℕ) (w : List ℕ) → Goes (Takes s (k + position_count r)) (Follow s (k + position_count r)) p w q
      → Goes (Takes (alternative r s) k) (Follow (alternative r s) k) p w q
  goes_of_right p q w (there _) = there p
  goes_of_right p q w (on _ next _ b v taken follows more) =
      on p next q b v (inr taken) (inr follows) (goes_of_right next q v more)

  -- a path that begins in one part stays in it
  pub left_of_goes : (p q : ℕ) (w : List ℕ) → IsAmong k (position_count r) p
      → Goes (Takes (alternative r s) k) (Follow (alternative r s) k) p w q
      → Goes (Takes r k) (Follow r k) p w q × IsAmong k (position_count r) q
  left_of_goes p q w i (there _) = (there p, i)
  left_of_goes p q w i (on _ next _ b v taken follows more) =
      let takes = in_first k _ _ p i (Takes-within s (k + position_count r) p b) taken in
      let follow = in_first k _ _ p i (λ h. (Follow-within s (k + position_count r) p next h).0) follows in
      let (goes, j) = left_of_goes next q v (Follow-within r k p next follow).1 more in
      (on p next q b v takes follow goes, j)

  pub right_of_goes : (p q : ℕ) (w : List ℕ) → IsAmong (k + position_count r) (position_count s) p
      → Goes (Takes (alternative r s) k) (Follow (alternative r s) k) p w q
      → Goes (Takes s (k + position_count r)) (Follow s (k + position_count r)) p w q
      × IsAmong (k + position_count r) (position_count s) q
  right_of_goes p q w i (there _) = (there p, i)
  right_of_goes p q w i (on _ next _ b v taken follows more) =
      let takes = in_second k _ _ p i (Takes-within r k p b) taken in
      let follow = in_second k _ _ p i (λ h. (Follow-within r k p next h).0) follows in
      let (goes, j) = right_of_goes next q v (Follow-within s (k + position_count r) p next follow).1 more in
      (on p next q b v takes follow goes, j)

-- the first positions of the rules are among their positions
pub FirstOfActive-within : (rules : List Rule) (state k p : ℕ) → FirstOfActive rules state k p
    → IsAmong k (position_count (marked_rules rules)) p
FirstOfActive-within [] state k p h = elim h [ ]
FirstOfActive-within (rule ∷ rules) state k p (inl (active, begins)) =
    let i = First-within (marked (body_and_context rule)) k p begins in
    record { from = i.from; below = let below = i.below in omega arith }
FirstOfActive-within (rule ∷ rules) state k p (inr begins) =
    among_second k _ _ p (FirstOfActive-within rules state _ p begins)

pub IsMark-from : (rules : List Rule) (k i p : ℕ) → IsMark rules k i p → k ≤ p
IsMark-from [] k i p h = elim h [ ]
IsMark-from (rule ∷ rules) k zero p h = omega arith
IsMark-from (rule ∷ rules) k (suc i) p h =
    let from = IsMark-from rules (k + position_count (marked (body_and_context rule))) i p h in
    omega arith

pub found_of_mark : (rules : List Rule) (state k i p q : ℕ) (w : List ℕ) → FirstOfActive rules state k p
    → Goes (Takes (marked_rules rules) k) (Follow (marked_rules rules) k) p w q → IsMark rules k i q → IsFound rules state i w
found_of_mark [] state k i p q w begins goes mark = elim begins [ ]
found_of_mark (rule ∷ rules) state k zero p q w (inl (active, begins)) goes mark =
    let within = First-within (marked (body_and_context rule)) k p begins in
    let own = left_of_goes (marked (body_and_context rule)) (marked_rules rules) k p q w within goes in
    record {
      rule = rule;
      is_rule = refl;
      active = active;
      word = word_of_mark (body_and_context rule) k q w mark (p, begins, own.0);
    }
found_of_mark (rule ∷ rules) state k (suc i) p q w (inl (active, begins)) goes mark =
    let within = First-within (marked (body_and_context rule)) k p begins in
    let own = left_of_goes (marked (body_and_context rule)) (marked_rules rules) k p q w within goes in
    let below = own.1.below in
    let from = IsMark-from rules _ i q mark in
    absurd (omega arith)
found_of_mark (rule ∷ rules) state k zero p q w (inr begins) goes mark =
    let within = FirstOfActive-within rules state _ p begins in
    let own = right_of_goes (marked (body_and_context rule)) (marked_rules rules) k p q w within goes in
    let from = own.1.from in
    absurd (omega arith)
found_of_mark (rule ∷ rules) state k (suc i) p q w (inr begins) goes mark =
    let within = FirstOfActive-within rules state _ p begins in
    let own = right_of_goes (marked (body_and_context rule)) (marked_rules rules) k p q w within goes in
    let found = found_of_mark rules state _ i p q w begins own.0 mark in
    record { rule = found.rule; is_rule = found.is_rule; active = found.active; word = found.word }

-- after a word of an active rule its end mark comes next
pub mark_of_found : (rules : List Rule) (state k i : ℕ) (rule : Rule) (w : List ℕ) → slice_get rules i ≡ Some rule
    → IsTrue (rule.active state) → Language (body_and_context rule) w
    → (p : ℕ) × (q : ℕ) × FirstOfActive rules state k p
    × Goes (Takes (marked_rules rules) k) (Follow (marked_rules rules) k) p w q × IsMark rules k i q
mark_of_found [] state k i rule w is active word = absurd (none-some rule is)
mark_of_found (other ∷ rules) state k zero rule w is active word =
    let same : other ≡ rule = same_Some other rule is in
    let word = subst (λ one. Language (body_and_context one) w) (sym same) word in
    let active = subst (λ one. IsTrue (one.active state)) (sym same) active in
    let (p, begins, goes) = mark_of_word (body_and_context other) k w word in (
      p,
      k + position_count (body_and_context other),
      inl (active, begins),
      goes_of_left (marked (body_and_context other)) (marked_rules rules) k p _ w goes,
      refl,
    )
mark_of_found (other ∷ rules) state k (suc i) rule w is active word =
    let (p, q, begins, goes, mark) = mark_of_found rules state (k + position_count (marked (body_and_context other))) i rule w is active word in
    (p, q, inr begins, goes_of_right (marked (body_and_context other)) (marked_rules rules) k p q w goes, mark)
