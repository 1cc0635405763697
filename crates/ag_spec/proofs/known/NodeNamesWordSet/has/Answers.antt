-- A name is there where it has a number.
use Rattle.ag_spec.proofs.LineFaults.{has_number}
use Rattle.ag_spec.proofs.known.NodeNamesWordSet.has.Goals as goal

pub returns : goal.returns
returns c = has_number _ _ _ _ c.is_some.ensures c.type_of.ensures.number
