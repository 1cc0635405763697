use Rattle.expr_lang.proofs.ValueTyped.{value_typed}
use Rattle.expr_lang.proofs.laws.value_of_the_type.Goals as goal

pub returns : goal.returns
returns c = λ tokens scope env e t are makers typed. value_typed scope tokens env are makers e t typed
