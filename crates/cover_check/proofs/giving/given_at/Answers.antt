-- The rule's match, and the sum of its operands' labels.
use Rattle.beg_model.specs.Fitting.{target}
use Rattle.beg_model.specs.Labels.{least_of}
use Rattle.beg_model.specs.RuleMeaning.{rule_of}
use Rattle.beg_model.proofs.PatternsInRow.{mapped_read}
use Rattle.beg_model.proofs.OperandRange.{operands_range, range_of}
use Rattle.beg_model.proofs.AcceptedRules.{accepted_order}
use Rattle.cover_check.proofs.RuleGiven.{given_rule, not_given, other_left}
use Rattle.cover_check.proofs.giving.given_at.Goals as goal

pub applies_at-fits-requires-clause-rule : goal.applies_at-fits-requires-clause-rule
applies_at-fits-requires-clause-rule c =
    let view = rule_of c.args.texts.now.source.now c.args.texts.now.literals.now in
    let is = mapped_read view c.args.rules.now.rules.items c.args.r c.rule_at-rule.result.now c.rule_at-rule.ensures in
    (_, c.requires.accepted.rules_are.each c.args.r (view c.rule_at-rule.result.now) is)

pub cost_at-own_cost-requires : goal.cost_at-own_cost-requires
cost_at-own_cost-requires c =
    let view = rule_of c.args.texts.now.source.now c.args.texts.now.literals.now in
    let is = mapped_read view c.args.rules.now.rules.items c.args.r c.rule_at-rule.result.now c.rule_at-rule.ensures in
    record {
      table = c.args.types.now;
      nonterminals = _;
      nodes = c.args.tree.now;
      node = c.args.node;
      rule_is = c.requires.accepted.rules_are.each c.args.r (view c.rule_at-rule.result.now) is;
      conforms = c.requires.accepted.conforms;
      fits = c.if-not-fits.ensures.0;
    }

pub sum_of-requires : goal.sum_of-requires
sum_of-requires c = λ k p at. (
    let view = rule_of c.args.texts.now.source.now c.args.texts.now.literals.now in
    let on = target c.args.texts.now c.args.types.now c.args.tree.now in
    let is = mapped_read view c.args.rules.now.rules.items c.args.r c.rule_at-rule.result.now c.rule_at-rule.ensures in
    let rule = c.requires.accepted.rules_are.each c.args.r (view c.rule_at-rule.result.now) is in
    range_of _ _ _ _ p c.requires.nodes c.requires.nonterminals
    (operands_range on c.requires.forest _ (view c.rule_at-rule.result.now) rule c.args.node c.requires.node c.operands-operands.result.now c.applies_at-fits.new.found.operands _
    c.if-not-fits.ensures.0 c.operands-operands.ensures.is k p at))

pub returns : goal.returns
returns c =
    let view = rule_of c.args.texts.now.source.now c.args.texts.now.literals.now in
    let is = mapped_read view c.args.rules.now.rules.items c.args.r c.rule_at-rule.result.now c.rule_at-rule.ensures in
    let order = accepted_order c.args.texts.now c.args.rules.now c.args.types.now c.args.tree.now c.requires.sound c.requires.forest c.requires.accepted in
    given_rule (least_of c.args.labels.now) c.args.node c.args.x c.args.r (view c.rule_at-rule.result.now) c.applies_at-fits.new.found c.operands-operands.result.now c.cost_at-own_cost.result
    _ order.one is c.if-not-fits.ensures c.if-rule-x.false c.operands-operands.ensures.is (c.cost_at-own_cost.ensures.is c.args.types.now c.args.tree.now) c.sum_of.ensures

pub returns-then-not-fits : goal.returns-then-not-fits
returns-then-not-fits c =
    let view = rule_of c.args.texts.now.source.now c.args.texts.now.literals.now in
    let is = mapped_read view c.args.rules.now.rules.items c.args.r c.rule_at-rule.result.now c.rule_at-rule.ensures in
    not_given (least_of c.args.labels.now) c.args.node c.args.x c.args.r (view c.rule_at-rule.result.now) c.applies_at-fits.new.found is c.if-not-fits.ensures

pub returns-then-rule-x : goal.returns-then-rule-x
returns-then-rule-x c =
    let view = rule_of c.args.texts.now.source.now c.args.texts.now.literals.now in
    let is = mapped_read view c.args.rules.now.rules.items c.args.r c.rule_at-rule.result.now c.rule_at-rule.ensures in
    other_left (least_of c.args.labels.now) c.args.node c.args.x c.args.r (view c.rule_at-rule.result.now) is c.if-rule-x.true
