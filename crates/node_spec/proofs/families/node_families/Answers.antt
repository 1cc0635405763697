-- By the families' names, which are those of the lines.
use Rattle.std.proofs.Common.{map}
use Rattle.node_spec.specs.within.AstSeen.{declared_by}
use Rattle.node_spec.proofs.AstFamilies.{nodes_as_many, by_these_families}
use Rattle.node_spec.proofs.families.node_families.Goals as goal

pub families_each-requires : goal.families_each-requires
families_each-requires c = nodes_as_many _ _ _ c.in_ok-nodes.ensures

pub returns : goal.returns
returns c =
    by_these_families _ (map declared_by c.args.list.now) _ _ c.requires.are.names
    (c.in_ok-found.ensures _ c.in_ok-nodes.ensures)
