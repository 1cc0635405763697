use Rattle.std.proofs.Common.{◌≡◌, map, take}
use Rattle.expr_read.proofs.expression.types_of.Given as goal

abbrev pub invariant-loop-maker : goal.invariant-loop-maker
invariant-loop-maker l = l.types.items ≡ map (λ m. m.ty) (take l.maker-index l.makers)
