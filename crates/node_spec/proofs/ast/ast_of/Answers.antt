-- The section is there.
use Rattle.node_spec.proofs.ReadAst.{ast_there, ast_found}
use Rattle.node_spec.proofs.ast.ast_of.Goals as goal

pub unwrap-requires : goal.unwrap-requires
unwrap-requires c =
    let file = c.requires.0 in ast_there file c.requires.1 _ c.requires.3 (c.section_of.ensures file c.requires.2)

pub returns : goal.returns
returns c = λ file are. ast_found file _ _ c.unwrap.ensures (c.section_of.ensures file are)
