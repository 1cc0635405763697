-- If no line is the first that breaks the order, END is missing or these are sections.
use Rattle.spec_text.proofs.SomeSections.{some_sections}
use Rattle.spec_text.proofs.laws.some_order.Goals as goal

pub returns : goal.returns
returns c = some_sections
