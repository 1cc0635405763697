-- The own rule, and the others.
use Rattle.beg_model.specs.Applies.{applies}
use Rattle.beg_model.specs.Labels.{least_of, rule_of}
use Rattle.cover_check.proofs.PairTold.{right_told, right_not}
use Rattle.cover_check.proofs.pairs.is_right.Goals as goal

pub returns-then-not-own : goal.returns-then-not-own
returns-then-not-own c = right_not (applies c.args.texts.now c.args.rules.now c.args.types.now c.args.tree.now) (least_of c.args.labels.now) (rule_of c.args.labels.now) c.args.node c.args.x c.if-not-own.ensures

pub returns : goal.returns
returns c = right_told (applies c.args.texts.now c.args.rules.now c.args.types.now c.args.tree.now) (least_of c.args.labels.now) (rule_of c.args.labels.now) c.args.node c.args.x c.is_under.result c.if-not-own.ensures c.is_under.ensures
