use Rattle.value_store.proofs.CellsStay.{first_cell}
use Rattle.value_store.proofs.PairFound.{no_pairs}
use Rattle.value_store.proofs.cells.Cells.empty_map.Goals as goal

pub returns : goal.returns
returns c = record { map = record { pairs = _; is = first_cell c.args.self.now.units }; none = no_pairs c.args.self.now.units }
