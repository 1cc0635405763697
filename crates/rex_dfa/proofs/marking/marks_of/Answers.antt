-- Where no rule is left the marks are those of all rules.
use Rattle.std.proofs.Common.{◌≡◌, List, [], map, drop, arith, subst}
use Rattle.std.proofs.lemmas.List.{drop_all}
use Rattle.rex_model.specs.RuleMeaning.{rule_of}
use Rattle.rex_model.specs.Rules.{Rule}
use Rattle.rex_dfa.proofs.MarksOfRules.{Marking, marking_done}
use Rattle.rex_dfa.proofs.marking.marks_of.Goals as goal

pub returns : goal.returns
returns c =
    let rules = map rule_of c.args.rules.now in
    let none : map rule_of (drop c.loop-rule.rule-index c.args.rules.now) ≡ [] = rw (drop_all c.loop-rule.rule-index c.args.rules.now (omega arith)) in
    marking_done rules c.loop-rule.at c.loop-rule.marks.items
    (subst (λ (rest : List Rule). Marking rules rest c.loop-rule.at c.loop-rule.marks.items) none c.loop-rule.invariant)
