-- AST is read where it is there, for the grammar.
use Rattle.ck_chain.specs.within.Grammars.{without_grammar, no_nodes}
use Rattle.ck_chain.proofs.RefusedSpec.{found_nodes}
use Rattle.ck_chain.proofs.accepting.declared_nodes.Goals as goal

pub returns-in-None-clause-found : goal.returns-in-None-clause-found
returns-in-None-clause-found c = rw c.in-None.is without_grammar

pub read_ast-requires-clause-some : goal.read_ast-requires-clause-some
read_ast-requires-clause-some c = let found = c.in-Some-section_of.ensures _ c.requires.read in (found.these, found.has)

pub returns-in_ok-nodes-in-Some-section_of-clause-found : goal.returns-in_ok-nodes-in-Some-section_of-clause-found
returns-in_ok-nodes-in-Some-section_of-clause-found c =
    let read = c.in_ok-nodes-in-Some-section_of in
    rw c.in-Some.is (found_nodes _ _ c.in-Some.g _ read.ensures.nodes read.ensures.fits)

pub returns-in-None-section_of-clause-found : goal.returns-in-None-section_of-clause-found
returns-in-None-section_of-clause-found c =
    rw c.in-Some.is (no_nodes c.in-Some.g (c.in-None-section_of.ensures _ c.requires.read))
