use Rattle.std.proofs.Common.{refl}
use Rattle.tree_build.proofs.Conforming.{tree_conforms}
use Rattle.tree_build.proofs.laws.made_of_a_family_fits.Goals as goal

pub returns : goal.returns
returns c = λ table makers sources s l t f are is. tree_conforms table makers sources are s l t _ _ f refl refl is
