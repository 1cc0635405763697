-- Flags of a block, and going back through it.
use Rattle.std.proofs.Common.{◌≡◌, ℕ, ◌+◌, ◌-◌, ◌<◌, ◌≤◌, ◌↔◌, Bool, true, false, List, length, take, get_or, IsSome, arith, refl, sym, subst, ap, inl, inr, true≢false, ◌∙◌}
use Rattle.std.proofs.Common.{set, length-set}
use Rattle.std.proofs.Math.ListN.{replicate}
use Rattle.std.proofs.lemmas.Bool.{cases_eq, cases_lt}
use Rattle.std.proofs.lemmas.List.{get_or-set_other, get_or-replicate, get_or_past, length-replicate}
use Rattle.std.proofs.lemmas.Grind.{get_or-set_at}
use Rattle.scan_driver.specs.within.Blocks.{AreFlags}
use Rattle.rex_model.specs.Runs.{run, accepted, nowhere, IsStateOf}
use Rattle.rex_model.specs.Runs.{Automaton}
use Rattle.scan_driver.proofs.RunsAlong.{IsAlong, stays_nowhere}

pub record Flagging (dfa : Automaton) (word : List ℕ) (begin i state : ℕ) (flags : List Bool) : Type 0 where
  pub along : IsAlong dfa 0 word i state
  pub long : length flags ≡ 1024
  pub are : AreFlags dfa word begin i flags
  pub later : (j : ℕ) → i ≤ begin + j → get_or flags j false ≡ false

-- before the first byte no flag is set
pub flags_none : (dfa : Automaton) (word : List ℕ) (begin : ℕ) → IsStateOf dfa 0 → Flagging dfa word begin 0 0 (replicate 1024 false)
flags_none dfa word begin state_of = record {
  along = record { is = refl; state_of = state_of };
  long = length-replicate 1024 false;
  are = λ j within. absurd (omega arith);
  later = λ j within. elim (cases_lt j 1024) [
    | inl inside ↦ get_or-replicate 1024 j false false inside
    | inr past ↦ get_or_past (replicate 1024 false) j false (omega (arith, length-replicate 1024 false))
  ];
}

pub flags_skipped : (dfa : Automaton) (word : List ℕ) (begin i state next : ℕ) (flags : List Bool) → i < begin → Flagging dfa word begin i state flags
    → IsAlong dfa 0 word (i + 1) next → Flagging dfa word begin (i + 1) next flags
flags_skipped dfa word begin i state next flags early before along = record {
  along = along;
  long = before.long;
  are = λ j within. absurd (omega arith);
  later = λ j within. before.later j (omega arith);
}

pub flags_more : (dfa : Automaton) (word : List ℕ) (begin i state next : ℕ) (flags : List Bool) (flag : Bool) → begin ≤ i → i < begin + 1024 → Flagging dfa word begin i state flags
    → IsAlong dfa 0 word (i + 1) next → (flag ≡ true) ↔ IsSome (accepted dfa next) → Flagging dfa word begin (i + 1) next (set flags (i - begin) flag)
flags_more dfa word begin i state next flags flag late few before along says = record {
  along = along;
  long = length-set flags (i - begin) flag ∙ before.long;
  are = λ j within. elim (cases_eq (begin + j) i) [
    | inl same ↦
        let at : j ≡ i - begin = omega arith in
        let place : begin + j + 1 ≡ i + 1 = omega arith in
        let is : get_or (set flags (i - begin) flag) j false ≡ flag = get_or-set_at flags (i - begin) j flag false at (omega (arith, before.long)) in
        let here : accepted dfa next ≡ accepted dfa (run dfa 0 (take (begin + j + 1) word)) = rw (place, along.is) refl in
        (λ h. subst IsSome here (says.0 (sym is ∙ h)), λ h. is ∙ says.1 (subst IsSome (sym here) h))
    | inr other ↦
        let is : get_or (set flags (i - begin) flag) j false ≡ get_or flags j false = get_or-set_other flags (i - begin) j flag false (λ same. other (omega arith)) in
        let was = before.are j (omega arith) in
        (λ h. was.0 (sym is ∙ h), λ h. is ∙ was.1 h)
  ];
  later = λ j within. get_or-set_other flags (i - begin) j flag false (λ same. absurd (omega arith)) ∙ before.later j (omega arith);
}

-- where there is no state any more, all flags are known
pub flags_ended : (dfa : Automaton) (word : List ℕ) (begin i end state : ℕ) (flags : List Bool) → Flagging dfa word begin i state flags → state ≡ nowhere
    → AreFlags dfa word begin end flags
flags_ended dfa word begin i end state flags before at j within = elim (cases_lt (begin + j) i) [
  | inl early ↦ before.are j early
  | inr late ↦ (
    λ h. absurd (true≢false (sym h ∙ before.later j (omega arith))),
    λ h. absurd (true≢false (sym (subst IsSome (ap (accepted dfa) (stays_nowhere dfa 0 word i state (begin + j + 1) at before.along.is (omega arith))) h))),
  )
]
