use Rattle.cfg_model.proofs.CoreNumbers.{core_zero_last, state_zero_last}
use Rattle.cfg_model.proofs.lalr_laws.no_move_leads_to_0.Goals as goal

pub returns-clause-cores : goal.returns-clause-cores
returns-clause-cores c = core_zero_last

pub returns-clause-states : goal.returns-clause-states
returns-clause-states c = state_zero_last
