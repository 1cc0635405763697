-- What was read and what is still to come are the tokens.
use Rattle.std.proofs.Common.{IsTrue}
use Rattle.parse_driver.specs.within.LlStack.{entries}
use Rattle.parse_driver.proofs.Parsing.{ParsingEach}
use Rattle.parse_driver.proofs.ll.parse_ll.Given as goal

abbrev pub invariant-tokens : goal.invariant-tokens
invariant-tokens g l = record {
  parsing : ParsingEach (g.T.LlTable.grammar l.fn.table) (g.K.Tokens.comes l.fn.tokens) (g.K.Tokens.comes l.tokens) (entries l.stack) l.steps.items l.k;
  more : IsTrue (g.K.Tokens.is_open l.tokens);
}

abbrev pub decreases-tokens : goal.decreases-tokens
decreases-tokens g l = g.K.Tokens.left l.tokens
