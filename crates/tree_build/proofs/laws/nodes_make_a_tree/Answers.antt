use Rattle.tree_build.proofs.NodesNumbered.{as_many}
use Rattle.tree_build.proofs.NodesLinked.{value_forest, has_a_place, last_is_root}
use Rattle.tree_build.proofs.laws.nodes_make_a_tree.Goals as goal

pub returns : goal.returns
returns c = record { many = as_many 0; forest = value_forest; each = has_a_place; last = last_is_root }
