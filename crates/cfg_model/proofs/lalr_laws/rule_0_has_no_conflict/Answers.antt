use Rattle.cfg_model.proofs.RuleZero.{zero_first, zero_second, start_reachable}
use Rattle.cfg_model.proofs.lalr_laws.rule_0_has_no_conflict.Goals as goal

pub returns-clause-first : goal.returns-clause-first
returns-clause-first c g t other ok free = zero_first g ok (free g.start (start_reachable g)) t other

pub returns-clause-other : goal.returns-clause-other
returns-clause-other c g t r ok free = zero_second g ok (free g.start (start_reachable g)) t r
