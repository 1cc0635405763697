-- The names of the types stand there once each.
use Rattle.std.proofs.Common.{map}
use Rattle.node_spec.specs.within.AstSeen.{declared_by}
use Rattle.node_spec.proofs.AstFamilies.{types_apart}
use Rattle.node_spec.proofs.families.type_names_of.Goals as goal

pub returns : goal.returns
returns c = types_apart (map declared_by c.args.list.now) _ c.requires.apart c.in_ok-names.ensures
