-- By the length of the file, line by line.
use Rattle.spec_text.proofs.SomeReading.{some_lines}
use Rattle.spec_text.proofs.laws.some_file.Goals as goal

pub returns : goal.returns
returns c = some_lines
