-- The tokens of scan rules have names, as printing asks for.
use Rattle.std.proofs.Common.{◌≡◌, ℕ, ◌<◌, length, get_or, Option, Some, None, IfSome, option_map, slice_get, refl, sym, ap, ◌∙◌}
use Rattle.std.proofs.lemmas.Option.{slice_get-map, slice_get-get_or, slice_get_within, get_or_from_slice_get}
use Rattle.rex_model.specs.Rules.{Rule}
use Rattle.rex_model.specs.RuleMeaning.{rule_of, rules_of}
use Rattle.rex_model.specs.declared.rules.ScanRule.{ScanRule}
use Rattle.rex_model.specs.declared.rules.ScanRules.{ScanRules}
use Rattle.ck_chain.specs.within.Scanners.{NameTokens}

pub have_names : (rules : ScanRules)
    → ((i n : ℕ) (rule : Rule) → slice_get (rules_of rules).list i ≡ Some rule → rule.token ≡ Some n → n < length rules.tokens)
    → NameTokens rules
have_names rules number = λ k d within.
    let here = slice_get-get_or rules.rules.items k d within in
    named (get_or rules.rules.items k d) k (slice_get-map rule_of rules.rules.items k ∙ ap (option_map rule_of) here)
  where
    named : (rule : ScanRule) (k : ℕ) → slice_get (rules_of rules).list k ≡ Some (rule_of rule) → IfSome rule.token (λ t. t < length rules.tokens)
    named rule k at = cases rule.token (λ n is. number k n (rule_of rule) at is)
      where
        cases : (token : Option ℕ) → ((n : ℕ) → token ≡ Some n → n < length rules.tokens) → IfSome token (λ t. t < length rules.tokens)
        cases None below = tt
        cases (Some n) below = below n refl

-- and the other way round
pub names_of : (rules : ScanRules) → NameTokens rules → (i t : ℕ) (rule : Rule) → slice_get (rules_of rules).list i ≡ Some rule
    → rule.token ≡ Some t → t < length rules.tokens
names_of rules named i t rule at is =
    by (slice_get rules.rules.items i) refl (sym (slice_get-map rule_of rules.rules.items i) ∙ at)
  where
    by : (found : Option ScanRule) → slice_get rules.rules.items i ≡ found → option_map rule_of found ≡ Some rule → t < length rules.tokens
    by None here same = cc
    by (Some scan) here same =
        let one : rule_of scan ≡ rule = cc in
        let token : scan.token ≡ Some t = ap (λ r. r.token) one ∙ is in
        let its = named i scan (slice_get_within rules.rules.items i scan here) in
        let get = get_or_from_slice_get rules.rules.items i scan scan here in
        rw token at (rw get at its)
