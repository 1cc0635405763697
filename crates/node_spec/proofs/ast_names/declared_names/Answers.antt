-- Twice, then unknown.
use Rattle.node_spec.proofs.AstStages.{is_twice, is_unknown}
use Rattle.node_spec.proofs.ast_names.declared_names.Goals as goal

pub returns-in-Some-clause-fault : goal.returns-in-Some-clause-fault
returns-in-Some-clause-fault c = λ these head all.
    is_twice _ these _ _ head all _ (rw c.in-Some.is at c.in_ok-line.ensures.fault)

pub returns-in-Some-2-clause-fault : goal.returns-in-Some-2-clause-fault
returns-in-Some-2-clause-fault c = λ these head all.
    is_unknown _ these _ _ head all _ (rw c.in_default.is at c.in_ok-line.ensures.fault)
    (rw c.in-Some-2.is at c.in_ok-line-2.ensures)
