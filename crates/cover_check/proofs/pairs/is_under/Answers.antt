-- One rule after the other.
use Rattle.std.proofs.Common.{sym, ◌∙◌, arith}
use Rattle.std.proofs.lemmas.List.{length-map}
use Rattle.beg_model.specs.Applies.{applies}
use Rattle.beg_model.specs.Labels.{least_of}
use Rattle.beg_model.specs.RuleMeaning.{rule_of}
use Rattle.beg_model.proofs.AcceptedRules.{accepted_order}
use Rattle.cover_check.proofs.PairTold.{under_begin, under_step, under_broken, under_end}
use Rattle.cover_check.proofs.pairs.is_under.Goals as goal

pub loop-r-init : goal.loop-r-init
loop-r-init c = under_begin (applies c.args.texts.now c.args.rules.now c.args.types.now c.args.tree.now) (least_of c.args.labels.now) c.args.node c.args.x c.least-label.result

pub loop-r-preserved : goal.loop-r-preserved
loop-r-preserved c =
    let order = accepted_order c.args.texts.now c.args.rules.now c.args.types.now c.args.tree.now c.requires.sound c.requires.forest c.requires.accepted in
    under_step (applies c.args.texts.now c.args.rules.now c.args.types.now c.args.tree.now) (least_of c.args.labels.now) c.args.node c.args.x c.loop-r.r c.given_at-given.result c.least-label.result order.one c.breaks-broken.ensures.small
    c.given_at-given.ensures (sym c.breaks-broken.ensures.is ∙ c.if-broken.false) c.loop-r.invariant

pub returns-then-broken : goal.returns-then-broken
returns-then-broken c =
    under_broken (applies c.args.texts.now c.args.rules.now c.args.types.now c.args.tree.now) (least_of c.args.labels.now) c.args.node c.args.x c.loop-r.r c.given_at-given.result c.least-label.result c.least-label.ensures
    c.given_at-given.ensures (sym c.breaks-broken.ensures.is ∙ c.if-broken.true)

pub returns : goal.returns
returns c =
    let order = accepted_order c.args.texts.now c.args.rules.now c.args.types.now c.args.tree.now c.requires.sound c.requires.forest c.requires.accepted in
    let size = length-map c.args.rules.now.rules.items (rule_of c.args.texts.now.source.now c.args.texts.now.literals.now) in
    under_end (applies c.args.texts.now c.args.rules.now c.args.types.now c.args.tree.now) (least_of c.args.labels.now) c.args.node c.args.x _ c.loop-r.r c.least-label.result c.least-label.ensures order.among
    (omega (arith, size, c.loop-r-test.false, c.args.rules.now.rules.ok)) c.loop-r.invariant
