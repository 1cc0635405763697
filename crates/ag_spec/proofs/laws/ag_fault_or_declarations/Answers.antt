-- Since a line declares one thing at most.
use Rattle.ag_spec.proofs.OneAgSaying.{fault_or_lines}
use Rattle.ag_spec.proofs.laws.ag_fault_or_declarations.Goals as goal

pub returns : goal.returns
returns c = fault_or_lines
