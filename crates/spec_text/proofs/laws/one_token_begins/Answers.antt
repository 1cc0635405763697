-- By the longest.
use Rattle.spec_text.proofs.Forms.{one_begin}
use Rattle.spec_text.proofs.laws.one_token_begins.Goals as goal

pub returns : goal.returns
returns c = one_begin
