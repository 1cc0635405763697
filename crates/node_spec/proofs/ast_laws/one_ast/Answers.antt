-- Since AST stands once, and its lines are judged in one way.
use Rattle.node_spec.proofs.OneAst.{ast_or_fault, one_nodes, one_ast_fault, ast_not_fault}
use Rattle.node_spec.proofs.ast_laws.one_ast.Goals as goal

pub returns-clause-some : goal.returns-clause-some
returns-clause-some c = ast_or_fault

pub returns-clause-one : goal.returns-clause-one
returns-clause-one c = one_nodes

pub returns-clause-one_fault : goal.returns-clause-one_fault
returns-clause-one_fault c = one_ast_fault

pub returns-clause-not_both : goal.returns-clause-not_both
returns-clause-not_both c = ast_not_fault
