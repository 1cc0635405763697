-- The label of the pair and its own rule.
use Rattle.std.proofs.Common.{sym, ◌∙◌}
use Rattle.beg_model.specs.Applies.{applies}
use Rattle.beg_model.specs.Labels.{least_of, rule_of}
use Rattle.beg_model.proofs.AcceptedRules.{accepted_order}
use Rattle.cover_check.proofs.PairTold.{own_told}
use Rattle.cover_check.proofs.pairs.is_own.Goals as goal

pub returns : goal.returns
returns c =
    let order = accepted_order c.args.texts.now c.args.rules.now c.args.types.now c.args.tree.now c.requires.sound c.requires.forest c.requires.accepted in
    own_told (applies c.args.texts.now c.args.rules.now c.args.types.now c.args.tree.now) (least_of c.args.labels.now) (rule_of c.args.labels.now) c.args.node c.args.x c.in-Some.cost c.in-Some-rule.r c.given_at-given.result c.gives.result order.one c.gives.ensures.small
    (sym c.least.ensures ∙ c.in-Some.is) (sym c.rule.ensures ∙ c.in-Some-rule.is) c.given_at-given.ensures c.gives.ensures.is
