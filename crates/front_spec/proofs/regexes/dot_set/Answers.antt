-- Byte for byte.
use Rattle.std.proofs.Common.{refl}
use Rattle.front_spec.proofs.Dot.{dot_same}
use Rattle.front_spec.proofs.regexes.dot_set.Goals as goal

pub returns : goal.returns
returns c = dot_same _ refl
