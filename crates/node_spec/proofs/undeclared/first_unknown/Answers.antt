-- The head first, then the earliest of what the passes find.
use Rattle.std.proofs.Common.{map}
use Rattle.node_spec.specs.within.AstSeen.{declared_by}
use Rattle.node_spec.proofs.AstUnknown.{at_head, not_at_head, first_of_all}
use Rattle.node_spec.proofs.undeclared.first_unknown.Goals as goal

pub returns-then-branch : goal.returns-then-branch
returns-then-branch c =
    at_head c.args.g.now c.args.head (map declared_by c.args.list.now) c.requires.before
    (c.in_ok-is_head_unknown.ensures.0 c.if-branch.true)

pub returns : goal.returns
returns c =
    not_at_head c.args.g.now c.args.head (map declared_by c.args.list.now)
    (λ fault. let is = c.in_ok-is_head_unknown.ensures.1 fault in let e = c.if-branch.false in cc) _
    (first_of_all c.args.g.now (map declared_by c.args.list.now) c.args.families.now.names c.args.types.now
    c.requires.families.names c.requires.types _ _ _ _ _ _ _ c.in_ok-base.ensures c.first_without_item_type-item.ensures
    c.first_unknown_node-node.ensures c.first_unknown_build-build.ensures c.earlier-first.ensures
    c.earlier-second.ensures
    c.earlier-found.ensures)
