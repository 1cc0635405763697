-- By the label first, then by the rule.
use Rattle.node_spec.proofs.JoinedFamilies.{joins_not, joins_where}
use Rattle.node_spec.proofs.wrong_sides.joins_at.Goals as goal

pub returns-then-not-is_absent : goal.returns-then-not-is_absent
returns-then-not-is_absent c = joins_not _ _ _ _ _ _ _ c.label_at-label.ensures c.is_absent.ensures c.if-not-is_absent.true

pub returns : goal.returns
returns c =
    joins_where _ _ _ _ _ _ _ _ _ c.label_at-label.ensures c.rule_at-rule.ensures c.is_absent.ensures c.if-not-is_absent.false
    c.is_of_other.ensures
