-- With a context and without one: without, the longest text makes the best pair.
use Rattle.std.proofs.Common.{Some, None}
use Rattle.rex_model.specs.Meaning.{meaning}
use Rattle.rex_model.proofs.BestOfRules.{pair_with_context}
use Rattle.rex_model.proofs.BestPair.{plain_pair}
use Rattle.rex_model.proofs.pairs.pair_of_rule.Goals as goal

pub returns-in-None-clause-best : goal.returns-in-None-clause-best
returns-in-None-clause-best c = rw c.plain.ensures (
    pair_with_context c.args.rule.now None c.args.state c.args.rest.now _ c.in-None.is
    (c.has.ensures.0 c.if-not-has.false)
    (plain_pair (meaning c.args.rule.now.body.now) c.args.rest.now _ c.longest.ensures.longest)
    )

pub returns-in-Some-clause-best : goal.returns-in-Some-clause-best
returns-in-Some-clause-best c =
    pair_with_context c.args.rule.now (Some c.in-Some.context) c.args.state c.args.rest.now _ c.in-Some.is
    (c.has.ensures.0 c.if-not-has.false) c.best_pair.ensures.best
