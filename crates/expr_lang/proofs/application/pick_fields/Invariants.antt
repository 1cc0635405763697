use Rattle.std.proofs.Common.{◌≡◌, ◌+◌, ◌++◌, length, take, drop}
use Rattle.expr_lang.specs.Evaluated.{others_among}
use Rattle.expr_lang.proofs.application.pick_fields.Given as goal

abbrev pub invariant-loop-v : goal.invariant-loop-v
invariant-loop-v l = record {
  eight : length l.into ≡ 8;
  counted : l.count + length (others_among (drop l.v-index l.values)) ≡ length (others_among l.values);
  so_far : take l.count l.into ++ others_among (drop l.v-index l.values) ≡ others_among l.values;
}
