-- By both derivations at once.
use Rattle.spec_text.proofs.OneFile.{one_file}
use Rattle.spec_text.proofs.laws.at_most_one_file.Goals as goal

pub returns : goal.returns
returns c = one_file
