-- What a scan answers where a rule wins.
use Rattle.std.proofs.Common.{◌≡◌, ℕ, ◌+◌, List, drop, Option, Some, None, IsSome, refl, sym, ap, ◌∙◌, subst}
use Rattle.std.specs.Prelude.{slice_get}
use Rattle.std.proofs.lemmas.Option.{same_Some}
use Rattle.rex_model.specs.Run.{Scans, token, skip}
use Rattle.rex_model.specs.Rules.{Rule}
use Rattle.rex_model.specs.Winner.{Winner, next_state}
use Rattle.rex_model.specs.declared.scan.Scan.{Scan}
use Rattle.rex_model.specs.declared.scan.Scan.TheVariants as scan

module _ (rules : List Rule) (text : List ℕ) (state at i n m : ℕ) (rule : Rule) where
  pub scan_of_winner : (found : Scan) → Winner rules state (drop at text) i n m → slice_get rules i ≡ Some rule
      → (IsSome rule.token → found ≡ scan.Token i (at + n) (next_state rule state))
      → (rule.token ≡ None → found ≡ scan.Skip i (at + n) (next_state rule state))
      → Scans rules text state at found
  scan_of_winner found won is_rule by_token by_skip = by_cases rule.token refl
    where
      same : won.candidate.rule ≡ rule
      same = same_Some won.candidate.rule rule (sym won.candidate.is_rule ∙ is_rule)

      by_cases : (named : Option ℕ) → rule.token ≡ named → Scans rules text state at found
      by_cases None is = rw (by_skip is) (subst
          (λ (r : Rule). Scans rules text state at (scan.Skip i (at + n) (next_state r state))) same
          (skip i n m won (ap (λ (r : Rule). r.token) same ∙ is)))
      by_cases (Some t) is = rw (by_token (rw is refl)) (subst
          (λ (r : Rule). Scans rules text state at (scan.Token i (at + n) (next_state r state))) same
          (token i n m t won (ap (λ (r : Rule). r.token) same ∙ is)))
