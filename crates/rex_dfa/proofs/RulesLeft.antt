-- The rules that are left, as values.
use Rattle.std.proofs.Common.{◌≡◌, ℕ, ◌+◌, ◌<◌, List, ◌∷◌, length, map, drop, get_or, sym, ap, ◌∙◌}
use Rattle.std.proofs.lemmas.List.{drop_more}
use Rattle.rex_model.specs.RuleMeaning.{rule_of}
use Rattle.rex_model.specs.declared.rules.ScanRule.{ScanRule}

-- from a place on there is the rule at that place, and those behind it
pub rules_left : (rules : List ScanRule) (i : ℕ) (rule : ScanRule) → i < length rules → rule ≡ get_or rules i rule
    → map rule_of (drop i rules) ≡ rule_of rule ∷ map rule_of (drop (i + 1) rules)
rules_left rules i rule within is =
    ap (map rule_of) (drop_more rules i rule within) ∙ ap (λ first. rule_of first ∷ map rule_of (drop (i + 1) rules)) (sym is)
