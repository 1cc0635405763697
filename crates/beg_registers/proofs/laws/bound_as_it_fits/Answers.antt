-- A pattern that fits binds what stands at its own items.
use Rattle.std.proofs.Common.{◌≡◌, map, subst}
use Rattle.beg_model.specs.Fitting.{field_value}
use Rattle.beg_registers.specs.Bound.{bound_at}
use Rattle.beg_registers.proofs.BoundFields.{bound_fits}
use Rattle.beg_registers.proofs.laws.bound_as_it_fits.Goals as goal

pub returns : goal.returns
returns c = λ on p n operands env same fits. subst (λ z. map (field_value on) (bound_at z p n) ≡ env) same (bound_fits fits)
