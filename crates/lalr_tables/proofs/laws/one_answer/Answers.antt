-- What the lemmas of `OneAnswer` say.
use Rattle.lalr_tables.proofs.OneAnswer.{one_refusal, not_both, table_or_refusal}
use Rattle.lalr_tables.proofs.laws.one_answer.Goals as goal

pub returns-clause-one : goal.returns-clause-one
returns-clause-one c = one_refusal c.args.g.now

pub returns-clause-not_both : goal.returns-clause-not_both
returns-clause-not_both c = not_both c.args.g.now

pub returns-clause-some : goal.returns-clause-some
returns-clause-some c = table_or_refusal c.args.g.now c.requires
