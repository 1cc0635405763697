use Rattle.ck_chain.specs.GrammarAccepts.{no_lr}
use Rattle.ck_chain.proofs.parser.lr_parser.Goals as goal

pub returns-in-Ok-clause-parser : goal.returns-in-Ok-clause-parser
returns-in-Ok-clause-parser c = (c.requires.kind, c.in-Ok.ensures.table)

pub returns-in_ok-refusal-in-Err-clause-refused : goal.returns-in_ok-refusal-in-Err-clause-refused
returns-in_ok-refusal-in-Err-clause-refused c = no_lr _ _ c.requires.kind c.in-Err.ensures.refused c.in_ok-refusal-in-Err.ensures
