-- The first line that breaks the order is one, and sections can't go on where they are broken.
use Rattle.spec_text.proofs.OneSections.{one_fault_line, none_beside}
use Rattle.spec_text.proofs.laws.at_most_one_section_fault.Goals as goal

pub returns : goal.returns
returns c = (one_fault_line, none_beside)
