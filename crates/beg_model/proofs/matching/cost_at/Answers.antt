-- A rule costs little wherever it applies.
use Rattle.std.specs.Prelude.{[]}
use Rattle.beg_model.proofs.matching.cost_at.Goals as goal

pub returns-clause-few : goal.returns-clause-few
returns-clause-few c = c.requires.rule_is.cost []
