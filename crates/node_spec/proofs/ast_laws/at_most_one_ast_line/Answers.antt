-- By the shapes.
use Rattle.node_spec.proofs.OneAstSaying.{one_ast_line}
use Rattle.node_spec.proofs.ast_laws.at_most_one_ast_line.Goals as goal

pub returns : goal.returns
returns c = one_ast_line
