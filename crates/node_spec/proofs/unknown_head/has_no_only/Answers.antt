-- There is no such rule, or it has its nonterminals.
use Rattle.node_spec.proofs.AstUnknownHead.{only_is}
use Rattle.node_spec.proofs.unknown_head.has_no_only.Goals as goal

pub returns : goal.returns
returns c = only_is c.args.g.now.rules c.args.n _ _ c.rule.ensures c.builds_nothing.ensures
