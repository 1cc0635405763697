use Rattle.std.proofs.Common.{sym, ◌∙◌}
use Rattle.tree_build.proofs.laws.one_tree_of_a_value.Goals as goal

pub returns : goal.returns
returns c = λ s l t m types others a b v is other. is.are ∙ sym other.are
