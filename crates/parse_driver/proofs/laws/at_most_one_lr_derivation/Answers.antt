-- That there is one derivation is what `one_derivation` shows.
use Rattle.parse_driver.proofs.LrOneDerivation.{one_plain_derivation, one_derivation}
use Rattle.parse_driver.proofs.laws.at_most_one_lr_derivation.Goals as goal

pub returns-clause-terminals : goal.returns-clause-terminals
returns-clause-terminals c = one_plain_derivation c.args.g.now c.requires.no_conflict

pub returns-clause-tokens : goal.returns-clause-tokens
returns-clause-tokens c = one_derivation c.args.g.now c.requires.no_conflict
