-- The walk to the next token.
use Rattle.std.proofs.Common.{◌-◌, length}
use Rattle.rex_model.specs.TableMeaning.{tables_of}
use Rattle.ck_chain.proofs.Drawn.{Walking}
use Rattle.ck_chain.proofs.source_tokens.draw.Given as goal

abbrev pub invariant-loop-rule : goal.invariant-loop-rule
invariant-loop-rule l = Walking (tables_of l.tables) l.source l.first_state l.from l.state l.at

abbrev pub decreases-loop-rule : goal.decreases-loop-rule
decreases-loop-rule l = length l.source - l.at
