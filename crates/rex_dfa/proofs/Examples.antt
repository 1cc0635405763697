-- Why there are no tables, tried on cases that are worked by hand.
use Rattle.std.proofs.Common.{◌≡◌, ℕ, zero, suc, ◌↔◌, true, List, [], ◌∷◌, length, Some, None, refl, sym, subst, arith, inl}
use Rattle.std.proofs.lemmas.Option.{none-some, same_Some}
use Rattle.std.specs.Prelude.{codes}
use Rattle.ck_base.specs.Represents.{Represents}
use Rattle.ck_base.specs.declared.refusal.StateKind.{StateKind}
use Rattle.ck_base.specs.declared.refusal.StateKind.TheVariants as kind
use Rattle.ck_base.proofs.Representing.{no_more_represented}
use Rattle.rex_model.specs.Language.{Language, bytes, optional}
use Rattle.rex_model.specs.Rules.{Rule, Rules}
use Rattle.rex_model.specs.ScanSets.{Way, InScanSet, IsScanWay, HasMoreScanSets}
use Rattle.rex_dfa.specs.Faults.{IsNullable, IsFirstNullable, IsDfaFault, scanner, split}
use Rattle.rex_dfa.specs.declared.fault.DfaError.TheVariants as fault

-- maybe "a", where "b" follows
abbrev maybe_a : Rule
maybe_a = record { active = λ state. true; body = optional (bytes (codes "a")); context = Some (bytes (codes "b")); token = Some 0; next = None }

-- its body has the empty word, though no text has it together with its context
body_alone : IsNullable (maybe_a ∷ []) 0
body_alone = record { rule = maybe_a; is_rule = refl; empty_word = inl refl }

-- a context may have it
context_apart : (i : ℕ) → IsNullable (record maybe_a { body = bytes (codes "a"); context = Some (optional (bytes (codes "b"))) } ∷ []) i → ⊥
context_apart zero is =
    let word : [] ≡ codes "a" = subst (λ (r : Rule). Language r.body []) (sym (same_Some _ is.rule is.is_rule)) is.empty_word in
    cc
context_apart (suc i) is = none-some is.rule is.is_rule

-- of two such bodies the first one counts
first_of_two : IsFirstNullable (maybe_a ∷ maybe_a ∷ []) 0
first_of_two = record { here = record { rule = maybe_a; is_rule = refl; empty_word = inl refl }; first = λ j is. omega arith }

not_the_second : IsFirstNullable (maybe_a ∷ maybe_a ∷ []) 1 → ⊥
not_the_second second = omega (arith, second.first 0 first_of_two.here)

-- such a body comes before too many sets, of whatever kind
empty_word_first : (rules : Rules) (which : StateKind) (i : ℕ) → IsNullable rules.list i → IsDfaFault rules (fault.TooManyStates which) → ⊥
empty_word_first rules _ i is (scanner none more) = none i is
empty_word_first rules _ i is (split none few more) = none i is

-- too many sets of the scanner come before those of the splits
scanner_first : (rules : Rules) → HasMoreScanSets rules.list (length rules.states) 4096 → IsDfaFault rules (fault.TooManyStates kind.Split) → ⊥
scanner_first rules more (split none few splits) = few more

-- 4,096 sets aren't too many
limit_is_reached : (rules : Rules) (ways : List Way)
    → Represents (IsScanWay rules.list (length rules.states)) (λ a b. (q : ℕ) → InScanSet rules.list a q ↔ InScanSet rules.list b q) ways
    → length ways ≡ 4096 → IsDfaFault rules (fault.TooManyStates kind.Scanner) → ⊥
limit_is_reached rules ways all count (scanner none more) =
    no_more_represented (IsScanWay rules.list (length rules.states)) (λ a b. (q : ℕ) → InScanSet rules.list a q ↔ InScanSet rules.list b q) ways all
    (λ a b same q. ((same q).1, (same q).0)) (λ a b c one other q. (λ h. (other q).0 ((one q).0 h), λ h. (one q).1 ((other q).1 h)))
    (subst (HasMoreScanSets rules.list (length rules.states)) (sym count) more)
