-- What the rules of the program mean, place by place; a set and the test of its numbers.
use Rattle.std.proofs.Common.{◌≡◌, ℕ, ◌≤◌, ◌↔◌, IsTrue, List, map, Some}
use Rattle.std.specs.Prelude.{slice_get}
use Rattle.std.proofs.lemmas.Bool.{and_parts, and_from, not-true, not_from_false, ltb-true, lt-ltb, eqb-false, ne_eqb}
use Rattle.std.proofs.lemmas.Option.{slice_get-map, slice_get_within, get_or_from_slice_get}
use Rattle.ck_base.specs.BitSet.{BitSet, Has}
use Rattle.rex_model.specs.Positions.{position_count, HasRoomFor}
use Rattle.rex_model.specs.Rules.{Rule, trailing}
use Rattle.rex_model.specs.RuleMeaning.{contains, rule_of}
use Rattle.rex_model.specs.declared.rules.ScanRule.{ScanRule}

-- what stands at a place, by what the program has there
pub meant_at : (rules : List ScanRule) (i : ℕ) (rule : ScanRule) → slice_get rules i ≡ Some rule
    → slice_get (map rule_of rules) i ≡ Some (rule_of rule)
meant_at rules i rule is = rw (slice_get-map rule_of rules i, is)

-- the test is true of the numbers in the set
pub contains_has : (set : BitSet) (i : ℕ) → IsTrue (contains set i) ↔ Has set i
contains_has set i = (
  λ is. let (inside, bit) = and_parts _ _ is in (ltb-true _ _ inside, eqb-false _ _ (not-true _ bit)),
  λ has. and_from _ _ (lt-ltb _ _ has.0) (not_from_false _ (ne_eqb _ _ has.1)),
)

-- there is room for the rule at a place
pub room_at : (size : ℕ) (rules : List Rule) (i : ℕ) (rule : Rule) → HasRoomFor size rules → slice_get rules i ≡ Some rule
    → (position_count rule.body ≤ size) × (position_count (trailing rule.context) ≤ size)
room_at size rules i rule room is =
    rw (get_or_from_slice_get rules i rule rule is) at (room i rule (slice_get_within rules i rule is))
