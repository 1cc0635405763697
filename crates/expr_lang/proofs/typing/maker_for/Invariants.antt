use Rattle.std.proofs.Common.{◌≡◌, drop}
use Rattle.expr_lang.specs.Typing.{maker_of}
use Rattle.expr_lang.proofs.typing.maker_for.Given as goal

abbrev pub invariant-loop-m : goal.invariant-loop-m
invariant-loop-m l = maker_of (drop l.m-index l.makers) l.ty ≡ maker_of l.makers l.ty
