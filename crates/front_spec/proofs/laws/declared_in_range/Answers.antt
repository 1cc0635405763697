-- By the faults that are not there.
use Rattle.front_spec.proofs.MadeGrammar.{declared_in_range, declared_counts}
use Rattle.front_spec.proofs.laws.declared_in_range.Goals as goal

pub returns-clause-in_range : goal.returns-clause-in_range
returns-clause-in_range c = declared_in_range

pub returns-clause-counts : goal.returns-clause-counts
returns-clause-counts c = declared_counts
