use Rattle.std.proofs.Common.{◌<◌, length}
use Rattle.ast_types.specs.TypeTable.{IsA}
use Rattle.ast_types.proofs.types.Types.is_a.Given as goal

abbrev pub invariant-loop-at : goal.invariant-loop-at
invariant-loop-at l = record {
  within : l.at < length l.self.types;
  up : IsA l.self.types l.at l.base → IsA l.self.types l.t l.base;
  down : IsA l.self.types l.t l.base → IsA l.self.types l.at l.base;
}

abbrev pub decreases-loop-at : goal.decreases-loop-at
decreases-loop-at l = l.at
