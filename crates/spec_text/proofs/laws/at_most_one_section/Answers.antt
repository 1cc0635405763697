-- By both derivations at once.
use Rattle.spec_text.proofs.OneSections.{one_section}
use Rattle.spec_text.proofs.laws.at_most_one_section.Goals as goal

pub returns : goal.returns
returns c = one_section
