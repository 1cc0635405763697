-- What isn't a child is a field.
use Rattle.node_spec.proofs.AstLimits.{children_fit, too_many}
use Rattle.node_spec.proofs.limits.has_too_many.Goals as goal

pub overflow_sub-items : goal.overflow_sub-items
overflow_sub-items c = children_fit _ _ c.count_children-children.ensures

pub returns : goal.returns
returns c = too_many c.args.items.now _ _ c.count_children-children.ensures c.exceed.ensures
