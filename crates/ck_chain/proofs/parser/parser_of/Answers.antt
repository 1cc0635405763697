use Rattle.ck_chain.proofs.parser.parser_of.Goals as goal

pub returns-in-None-clause-parser : goal.returns-in-None-clause-parser
returns-in-None-clause-parser c = rw c.in-None.is tt
