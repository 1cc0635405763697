-- The main automaton, the splits and the actions make the tables of the rules.
use Rattle.std.proofs.Common.{◌≡◌, ℕ, ◌+◌, ◌<◌, ◌≤◌, List, [], length, slice_get, Some, arith, sym, subst, ap, ◌∙◌, inl, inr}
use Rattle.std.proofs.lemmas.Bool.{cases_eq, cases_lt}
use Rattle.std.proofs.lemmas.List.{get_or_default}
use Rattle.std.proofs.lemmas.Option.{same_Some, slice_get_within}
use Rattle.ck_base.proofs.Representing.{element_at}
use Rattle.rex_model.specs.Language.{Language}
use Rattle.rex_model.specs.Rules.{Rule, Rules}
use Rattle.ck_base.specs.Found.{HasNo}
use Rattle.rex_dfa.specs.Faults.{IsNullable, IsFirstNullable, IsDfaFault, scanner, split}
use Rattle.rex_dfa.specs.declared.fault.DfaError.TheVariants as fault
use Rattle.ck_base.specs.declared.refusal.StateKind.{StateKind}
use Rattle.rex_dfa.specs.within.Building.{NoneNullable, AreActions, AreTablesOf, AreTooMany}
use Rattle.rex_dfa.specs.within.Main.{IsMain}
use Rattle.rex_model.specs.Runs.{IsStateOf}
use Rattle.rex_dfa.specs.within.Splits.{AreSplits}
use Rattle.rex_model.specs.declared.tables.ScanAction.{ScanAction}
use Rattle.rex_model.specs.Tables.{Tables}
use Rattle.rex_dfa.proofs.WinnersOfTables.{gives_winners}

pub tables_are : (rules : List Rule) (states : ℕ) (tables : Tables) → ((i n : ℕ) (rule : Rule) → slice_get rules i ≡ Some rule → rule.next ≡ Some n → n < states)
    → HasNo (IsNullable rules) → IsMain rules states tables.starts tables.main → AreSplits rules tables.splits → AreActions rules (length rules) tables.actions
    → AreTablesOf rules states tables
tables_are rules states tables next bodies main splits actions = record {
  well_formed = record {
    main = main.is_dfa;
    starts = λ k d within. subst (IsStateOf tables.main) (get_or_default tables.starts k 0 d within) (main.inside k (omega (arith, main.count)));
    splits = splits.well;
    actions = λ s i at. let below = main.marked s i at in omega (arith, actions.count);
    next = λ i state action at goes.
        let within = slice_get_within tables.actions i action at in
        let (rule, is_rule) = element_at rules i (omega (arith, actions.count)) in
        let same = same_Some action _ (sym at ∙ actions.each i rule (slice_get_within rules i rule is_rule) is_rule) in
        let below = next i state rule is_rule (sym (ap (λ (a : ScanAction). a.next) same) ∙ goes) in
        omega (arith, main.count);
  };
  gives = gives_winners tables rules
      (λ state w below small. main.least state w (omega (arith, main.count)) small)
      splits.has
      (λ i rule is_rule. actions.each i rule (slice_get_within rules i rule is_rule) is_rule)
      (λ i rule is_rule word. bodies i (record { rule = rule; is_rule = is_rule; empty_word = word }));
  starts = main.count;
  scanner = main.few;
  splits = splits.few;
}

pub none_more : (rules : List Rule) (i : ℕ) (rule : Rule) → slice_get rules i ≡ Some rule → NoneNullable rules i → (Language rule.body [] → ⊥)
    → NoneNullable rules (i + 1)
none_more rules i rule is before none = λ j below nullable. elim (cases_eq j i) [
  | inl same ↦
      let also : slice_get rules i ≡ Some nullable.rule = subst (λ k. slice_get rules k ≡ Some nullable.rule) same nullable.is_rule in
      none (subst (λ (r : Rule). Language r.body []) (same_Some nullable.rule rule (sym also ∙ is)) nullable.empty_word)
  | inr early ↦ before j (omega arith) nullable
]

-- none of all rules
pub none_at_all : (rules : List Rule) (n : ℕ) → length rules ≤ n → NoneNullable rules n → HasNo (IsNullable rules)
none_at_all rules n all none = λ i nullable.
    let within = slice_get_within rules i nullable.rule nullable.is_rule in
    none i (omega arith) nullable

-- the first one, where none of the rules before is
pub first_is : (rules : List Rule) (i : ℕ) (rule : Rule) → slice_get rules i ≡ Some rule → Language rule.body [] → NoneNullable rules i
    → IsFirstNullable rules i
first_is rules i rule is word before = record {
  here = record { rule = rule; is_rule = is; empty_word = word };
  first = λ j nullable. elim (cases_lt j i) [ inl less ↦ absurd (before j less nullable) | inr late ↦ late ];
}

-- what there is too much of is why there are no tables
pub fault_of : (rules : Rules) (which : StateKind) → HasNo (IsNullable rules.list)
    → AreTooMany rules.list (length rules.states) which → IsDfaFault rules (fault.TooManyStates which)
fault_of rules which none (AreTooMany.scanner more) = scanner none more
fault_of rules which none (AreTooMany.split few more) = split none few more
