use Rattle.std.proofs.Common.{◌≡◌, drop, true, ◌%◌, ◌^◌}
use Rattle.expr_lang.specs.ValueOf.{decimal, all_digits}
use Rattle.expr_lang.proofs.application.decimal_of.Given as goal

abbrev pub invariant-loop-b : goal.invariant-loop-b
invariant-loop-b l = record {
  so_far : decimal l.n (drop l.b-index l.bytes) % 2 ^ 64 ≡ decimal 0 l.bytes % 2 ^ 64;
  digits : all_digits (drop l.b-index l.bytes) ≡ true;
}
