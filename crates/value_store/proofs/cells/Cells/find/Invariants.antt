use Rattle.std.proofs.Common.{◌≡◌}
use Rattle.value_store.specs.Cells.{cells_of, pairs_at, IsMap}
use Rattle.value_store.specs.Maps.{entries, first_with}
use Rattle.value_store.proofs.cells.Cells.find.Given as goal

abbrev pub invariant-loop-at : goal.invariant-loop-at
invariant-loop-at l = record {
  map : IsMap (cells_of l.self.units) l.at;
  same : first_with l.wanted (entries l.texts.source.now l.texts.literals.now (pairs_at (cells_of l.self.units) l.at))
      ≡ first_with l.wanted (entries l.texts.source.now l.texts.literals.now (pairs_at (cells_of l.self.units) l.m));
}

abbrev pub decreases-loop-at : goal.decreases-loop-at
decreases-loop-at l = l.at
