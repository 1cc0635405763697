use Rattle.expr_lang.proofs.OneType.{one_type}
use Rattle.expr_lang.proofs.laws.one_type_at_most.Goals as goal

pub returns : goal.returns
returns c = one_type
