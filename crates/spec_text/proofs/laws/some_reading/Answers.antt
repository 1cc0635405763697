-- By the length of the line.
use Rattle.spec_text.proofs.SomeReading.{some_reading}
use Rattle.spec_text.proofs.laws.some_reading.Goals as goal

pub returns : goal.returns
returns c = some_reading
