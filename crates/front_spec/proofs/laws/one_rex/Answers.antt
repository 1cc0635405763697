-- Since REX stands once, and its lines are judged in one way.
use Rattle.front_spec.proofs.OneRex.{rex_or_fault, one_rex, one_rex_fault, rex_not_fault}
use Rattle.front_spec.proofs.laws.one_rex.Goals as goal

pub returns-clause-some : goal.returns-clause-some
returns-clause-some c = rex_or_fault

pub returns-clause-one : goal.returns-clause-one
returns-clause-one c = one_rex

pub returns-clause-one_fault : goal.returns-clause-one_fault
returns-clause-one_fault c = one_rex_fault

pub returns-clause-not_both : goal.returns-clause-not_both
returns-clause-not_both c = rex_not_fault
