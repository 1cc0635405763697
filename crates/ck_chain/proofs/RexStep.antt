-- The section REX of a file that has sections gives rules with tables, or is refused in one way.
use Rattle.std.proofs.Common.{◌≡◌, ◌⊎◌, ℕ, zero, suc, ◌+◌, ◌<◌, inl, inr, List, length, Some, refl, arith}
use Rattle.std.proofs.lemmas.Bool.{cases_lt}
use Rattle.ck_base.specs.Found.{HasNo}
use Rattle.ck_base.specs.declared.refusal.Refusal.{Refusal}
use Rattle.ck_base.specs.declared.refusal.Refusal.TheVariants as refusal
use Rattle.ck_base.specs.declared.refusal.StateKind.TheVariants as states
use Rattle.rex_model.specs.Rules.{Rule, Rules}
use Rattle.rex_model.specs.ScanSets.{HasMoreScanSets, HasMoreSplitSets}
use Rattle.rex_dfa.specs.Faults.{IsNullable, IsFirstNullable, IsDfaFault, nullable, scanner, split, memory}
use Rattle.rex_dfa.specs.declared.fault.DfaError.{DfaError}
use Rattle.rex_dfa.specs.declared.fault.DfaError.TheVariants as fault
use Rattle.spec_text.specs.Lines.{Line}
use Rattle.spec_text.specs.Promise.{HasSections}
use Rattle.spec_text.specs.declared.section.Part.{Part}
use Rattle.front_spec.specs.Promise.{DeclaresRules}
use Rattle.front_spec.proofs.OneRex.{one_rex, one_rex_fault, rex_not_fault, rex_or_fault}
use Rattle.ck_chain.specs.RexAccepts.{dfa_refusal, HaveTables, GivesRules, RefusesRex, faulty, no_tables}
use Rattle.ck_chain.proofs.InOrder.{IsStep}

-- rules have tables, or not for one reason
one_reason : (rules : Rules) (these those : DfaError) (r s : Refusal) → IsDfaFault rules these → IsDfaFault rules those
    → dfa_refusal these ≡ Some r → dfa_refusal those ≡ Some s → r ≡ s
one_reason rules _ _ r s (nullable i first) (nullable j second) is is2 =
    let least = first.first j second.here in
    let same = second.first i first.here in
    let numbers : i ≡ j = omega arith in
    cc
one_reason rules _ _ r s (nullable i first) (scanner none more) is is2 = absurd (none i first.here)
one_reason rules _ _ r s (nullable i first) (split none few more) is is2 = absurd (none i first.here)
one_reason rules _ _ r s (scanner none more) (nullable j second) is is2 = absurd (none j second.here)
one_reason rules _ _ r s (scanner none more) (scanner none2 more2) is is2 = cc
one_reason rules _ _ r s (scanner none more) (split none2 few more2) is is2 = absurd (few more)
one_reason rules _ _ r s (split none few more) (nullable j second) is is2 = absurd (none j second.here)
one_reason rules _ _ r s (split none few more) (scanner none2 more2) is is2 = absurd (few more2)
one_reason rules _ _ r s (split none few more) (split none2 few2 more2) is is2 = cc
one_reason rules _ _ r s (memory) second is is2 = cc
one_reason rules _ _ r s first (memory) is is2 = cc

tables_or_reason : (rules : Rules) (error : DfaError) (r : Refusal) → HaveTables rules → IsDfaFault rules error → dfa_refusal error ≡ Some r → ⊥
tables_or_reason rules _ r have (nullable i first) is = have.bodies i first.here
tables_or_reason rules _ r have (scanner none more) is = have.scanner more
tables_or_reason rules _ r have (split none few more) is = have.splits more
tables_or_reason rules _ r have (memory) is = cc

-- where no rule is the first nullable one none is nullable
none_nullable : (list : List Rule) → HasNo (IsFirstNullable list) → HasNo (IsNullable list)
none_nullable list none i is = below (i + 1) i (omega arith) is
  where
    below : (n i : ℕ) → i < n → IsNullable list i → ⊥
    below zero i less is = omega (arith, less)
    below (suc n) i less is = none i (record {
      here = is;
      first = λ j other. elim (cases_lt j i) [ inl before ↦ absurd (below n j (omega (arith, before, less)) other) | inr after ↦ after ];
    })

-- no refusal for want of tables is one of these two
pub not_of_tables : (error : DfaError) (r : Refusal) → dfa_refusal error ≡ Some r → (r ≡ refusal.Usage) ⊎ (r ≡ refusal.SpecTooLong) → ⊥
not_of_tables (fault.NullableRule i) r told (inl is) = cc
not_of_tables (fault.NullableRule i) r told (inr is) = cc
not_of_tables (fault.TooManyStates k) r told (inl is) = cc
not_of_tables (fault.TooManyStates k) r told (inr is) = cc
not_of_tables fault.NoMemory r told either = cc

module _ (spec : List ℕ) where
  one_refusal : (r s : Refusal) → RefusesRex spec r → RefusesRex spec s → r ≡ s
  one_refusal _ _ (faulty line k first) (faulty other j second) =
      let (lines, kinds) = one_rex_fault spec line other k j first second in cc
  one_refusal _ _ (faulty line k first) (no_tables rules error r declares is told) = absurd (rex_not_fault spec rules line k declares first)
  one_refusal _ _ (no_tables rules error r declares is told) (faulty line k first) = absurd (rex_not_fault spec rules line k declares first)
  one_refusal _ _ (no_tables rules error r declares is told) (no_tables rules2 error2 s declares2 is2 told2) =
      one_reason rules2 error error2 r s (rw (one_rex spec rules rules2 declares declares2) at is) is2 told told2

  not_both : (rules : Rules) (r : Refusal) → GivesRules spec rules → RefusesRex spec r → ⊥
  not_both rules _ gives (faulty line k first) = rex_not_fault spec rules line k gives.declares first
  not_both rules _ gives (no_tables rules2 error r declares is told) =
      tables_or_reason rules error r gives.tables (rw (one_rex spec rules2 rules declares gives.declares) at is) told

  with_rules : HasNo (GivesRules spec) → HasNo (RefusesRex spec) → (rules : Rules) → DeclaresRules spec rules → ⊥
  with_rules none no_refusal rules declares =
      let bodies : HasNo (IsNullable rules.list) = none_nullable rules.list (λ i first.
      no_refusal (refusal.NullableRule (i + 1)) (no_tables rules (fault.NullableRule i) _ declares (nullable i first) refl)) in
      let few : HasMoreScanSets rules.list (length rules.states) 4096 → ⊥ = (λ more.
      no_refusal (refusal.TooManyStates states.Scanner) (no_tables rules (fault.TooManyStates states.Scanner) _ declares (scanner bodies more) refl)) in
      let few_splits : HasMoreSplitSets rules.list 4096 → ⊥ = (λ more.
      no_refusal (refusal.TooManyStates states.Split) (no_tables rules (fault.TooManyStates states.Split) _ declares (split bodies few more) refl)) in
      none rules (record { declares = declares; tables = record { bodies = bodies; scanner = few; splits = few_splits } })

  pub rex_step : (lines : List Line) (parts : List Part) → HasSections spec lines parts → IsStep (GivesRules spec) (RefusesRex spec)
  rex_step lines parts has = record {
    one_gift = λ rules others a b. one_rex spec rules others a.declares b.declares;
    one_failure = one_refusal;
    not_both = not_both;
    some = λ none no_refusal. rex_or_fault spec lines parts has (with_rules none no_refusal)
        (λ line k first. no_refusal (refusal.BadSpec line k) (faulty line k first));
  }

-- it isn't refused as wrong words
pub rex_never_usage : (spec : List ℕ) (r : Refusal) → RefusesRex spec r → r ≡ refusal.Usage → ⊥
rex_never_usage spec _ (faulty line k first) is = cc
rex_never_usage spec _ (no_tables rules error r declares why told) is = not_of_tables error r told (inl is)
