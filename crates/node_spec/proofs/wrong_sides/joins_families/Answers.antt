-- What the rules without a BUILD line say.
use Rattle.std.proofs.Common.{map}
use Rattle.node_spec.specs.within.AstSeen.{declared_by}
use Rattle.node_spec.proofs.JoinedFamilies.{joined}
use Rattle.node_spec.proofs.wrong_sides.joins_families.Goals as goal

pub returns : goal.returns
returns c = joined c.args.g.now (map declared_by c.args.list.now) _ _ c.in_ok-built.ensures c.requires.families _ c.some_joins-found.ensures
