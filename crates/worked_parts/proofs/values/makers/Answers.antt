use Rattle.std.proofs.Common.{sym, subst}
use Rattle.worked_parts.specs.Making.{AllMake}
use Rattle.worked_parts.proofs.Makers.{all_make}
use Rattle.worked_parts.proofs.values.makers.Goals as goal

pub returns : goal.returns
returns c = subst AllMake (sym c.in_ok-list.ensures) (all_make c.in_ok-leaf.leaf c.in_ok-pair.pair c.in_ok-leaf.ensures c.in_ok-pair.ensures)
