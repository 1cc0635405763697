-- What was read and what is still to come are the tokens.
use Rattle.std.proofs.Common.{IsTrue}
use Rattle.parse_driver.proofs.LrReading.{LrReadingEach}
use Rattle.parse_driver.proofs.lr.parse_lr.Given as goal

abbrev pub invariant-tokens : goal.invariant-tokens
invariant-tokens g l = record {
  reading : LrReadingEach (g.T.LrTable.grammar l.fn.table) (g.T.LrTable.table l.fn.table)
      (g.K.Tokens.comes l.fn.tokens) (g.K.Tokens.comes l.tokens) l.states.items l.steps.items l.k;
  more : IsTrue (g.K.Tokens.is_open l.tokens);
}

abbrev pub decreases-tokens : goal.decreases-tokens
decreases-tokens g l = g.K.Tokens.left l.tokens
