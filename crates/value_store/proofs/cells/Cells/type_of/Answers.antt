use Rattle.value_store.proofs.PartsStand.{type_of_made}
use Rattle.value_store.proofs.cells.Cells.type_of.Goals as goal

pub returns : goal.returns
returns c = type_of_made _ _ _ c.node.ensures
