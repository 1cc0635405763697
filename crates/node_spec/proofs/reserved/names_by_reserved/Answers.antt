-- Each form of line.
use Rattle.std.proofs.Common.{map}
use Rattle.node_spec.specs.within.AstSeen.{item_seen}
use Rattle.node_spec.proofs.AstTwicePasses.{reserved_family, reserved_target, reserved_type}
use Rattle.node_spec.proofs.reserved.names_by_reserved.Goals as goal

pub returns-in-Family : goal.returns-in-Family
returns-in-Family c = λ i. rw c.in-Family.is (reserved_family i c.in-Family.name.now _ c.is_reserved.ensures)

pub returns-in-Target : goal.returns-in-Target
returns-in-Target c = λ i. rw c.in-Target.is (reserved_target i c.in-Target.name.now _ c.is_reserved-in-Target.ensures)

pub returns-in-NodeType : goal.returns-in-NodeType
returns-in-NodeType c = λ i. rw c.in-NodeType.is
    (reserved_type i c.in-NodeType.name.now c.in-NodeType.field-1.now (map item_seen c.in-NodeType.items.now) _
    c.type_by_reserved.ensures)
