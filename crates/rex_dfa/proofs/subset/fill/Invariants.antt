use Rattle.std.proofs.Common.{◌≡◌, ◌≤◌, ◌-◌, ◌*◌, length}
use Rattle.rex_dfa.specs.within.Subset.{Building, IsGrown}
use Rattle.rex_dfa.proofs.subset.fill.Given as goal

abbrev pub invariant-loop-moves : goal.invariant-loop-moves
invariant-loop-moves l = record {
  size : l.to.size ≡ l.positions.size;
  building : Building l.positions l.firsts.items l.sets l.moves.items;
  grown : IsGrown l.initial.sets l.sets;
  within : length l.moves.items ≤ 256 * length l.sets;
}

abbrev pub decreases-loop-moves : goal.decreases-loop-moves
decreases-loop-moves l = 256 * 4096 - length l.moves.items
