use Rattle.std.proofs.Common.{◌≡◌, ◌+◌, ◌++◌, length, take, drop}
use Rattle.expr_lang.specs.Evaluated.{cells_among}
use Rattle.expr_lang.proofs.application.pick_children.Given as goal

abbrev pub invariant-loop-v : goal.invariant-loop-v
invariant-loop-v l = record {
  eight : length l.into ≡ 8;
  counted : l.count + length (cells_among (drop l.v-index l.values)) ≡ length (cells_among l.values);
  so_far : take l.count l.into ++ cells_among (drop l.v-index l.values) ≡ cells_among l.values;
}
