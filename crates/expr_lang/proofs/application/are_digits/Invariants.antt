use Rattle.std.proofs.Common.{◌≡◌, drop}
use Rattle.expr_lang.specs.ValueOf.{all_digits}
use Rattle.expr_lang.proofs.application.are_digits.Given as goal

abbrev pub invariant-loop-b : goal.invariant-loop-b
invariant-loop-b l = all_digits (drop l.b-index l.bytes) ≡ all_digits l.bytes
