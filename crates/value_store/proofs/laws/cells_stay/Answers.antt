use Rattle.value_store.proofs.CellsStay.{pairs-kept, tree-kept, length-cells_of}
use Rattle.value_store.proofs.laws.cells_stay.Goals as goal

pub returns : goal.returns
returns c = record {
  maps = λ more m is. pairs-kept _ more m is;
  nodes = λ more m is. tree-kept _ more m is;
  count = length-cells_of _;
}
