use Rattle.value_store.proofs.PartsStand.{nodes_of_made}
use Rattle.value_store.proofs.cells.Cells.nodes.Goals as goal

pub returns : goal.returns
returns c = nodes_of_made _ _ _ c.node.ensures
