use Rattle.std.proofs.Common.{ap, arith, length, refl}
use Rattle.value_store.proofs.PartsStand.{unit_says, unit_there}
use Rattle.value_store.proofs.CellsStay.{length-cells_of}
use Rattle.value_store.proofs.cells.Cells.unit.Goals as goal

pub at-requires : goal.at-requires
at-requires c = unit_there c.self.inside.units.units _ _ c.args.cell (ap (λ s. s.units) c.self.view_is) refl c.requires.some c.requires.within

pub returns : goal.returns
returns c = record {
  small = (let within = c.requires.within in let all = length-cells_of c.args.self.now.units in let same = ap (λ s. length s.units) c.self.view_is in
      omega (arith, within, all, same, c.at.ensures.few));
  says = unit_says c.self.inside.units.units _ _ c.args.cell _ c.self.invariant (ap (λ s. s.units) c.self.view_is) refl c.requires.some c.at.ensures.is;
}
