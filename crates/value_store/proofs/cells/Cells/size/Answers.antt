use Rattle.std.proofs.Common.{arith, refl}
use Rattle.value_store.proofs.PairFound.{size_of_map, no_pairs}
use Rattle.value_store.proofs.cells.Cells.size.Goals as goal

pub returns-then-m-eq0 : goal.returns-then-m-eq0
returns-then-m-eq0 c = record { is = rw (c.if-m-eq0.true, no_pairs) refl; few = omega arith; small = omega arith }

pub returns : goal.returns
returns c = record { is = size_of_map _ _ _ c.entry.ensures.says; few = c.entry.ensures.says.few; small = (let few = c.entry.ensures.says.few in let small = c.entry.ensures.small in omega (arith, few, small)) }
