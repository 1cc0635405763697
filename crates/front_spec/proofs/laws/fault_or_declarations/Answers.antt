-- Since a line has one shape at most.
use Rattle.section_frame.proofs.Frame.{one_of_both}
use Rattle.front_spec.specs.RexFaults.{rex}
use Rattle.front_spec.proofs.OneSaying.{one_saying}
use Rattle.front_spec.proofs.laws.fault_or_declarations.Goals as goal

pub returns : goal.returns
returns c = one_of_both rex one_saying
