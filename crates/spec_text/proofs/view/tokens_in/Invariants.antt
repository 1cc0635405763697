-- What is seen of the tokens so far.
use Rattle.spec_text.proofs.Views.{SeenSoFar}
use Rattle.spec_text.proofs.view.tokens_in.Given as goal

abbrev pub invariant-loop-token : goal.invariant-loop-token
invariant-loop-token l = SeenSoFar l.spec l.line l.tokens.items l.token-index
