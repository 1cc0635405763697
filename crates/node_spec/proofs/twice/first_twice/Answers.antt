-- The passes joined.
use Rattle.std.proofs.Common.{map}
use Rattle.node_spec.specs.within.AstSeen.{declared_by}
use Rattle.node_spec.proofs.AstTwiceJoined.{first_of_all, none_apart, none_labelled}
use Rattle.node_spec.proofs.twice.first_twice.Goals as goal

pub returns-clause-fault : goal.returns-clause-fault
returns-clause-fault c =
    first_of_all c.args.g.now _ _ _ _ _ _ _ c.in_ok-declared.ensures.first c.in_ok-nonterminals.ensures.first
    c.in_ok-labels.ensures.first c.first_reserved-reserved.ensures c.in_ok-items.ensures c.in_ok-used.ensures _ (cc)

pub returns-clause-apart : goal.returns-clause-apart
returns-clause-apart c =
    none_apart (map declared_by c.args.list.now) c.earlier-first.result c.in_ok-declared.declared c.in_ok-nonterminals.nonterminals c.in_ok-labels.labels c.earlier-others.result (cc)
    c.in_ok-declared.ensures.apart

pub returns-clause-labels : goal.returns-clause-labels
returns-clause-labels c =
    none_labelled (map declared_by c.args.list.now) c.earlier-first.result c.in_ok-declared.declared c.in_ok-nonterminals.nonterminals c.in_ok-labels.labels c.earlier-others.result (cc)
    c.in_ok-labels.ensures.apart
