-- Each turn looks at one rule.
use Rattle.std.proofs.Common.{arith}
use Rattle.node_spec.proofs.JoinedFamilies.{one_joins_not, rule_joins, none_joins}
use Rattle.node_spec.proofs.wrong_sides.some_joins.Goals as goal

pub returns-then-joins_at : goal.returns-then-joins_at
returns-then-joins_at c = rule_joins _ _ _ _ _ _ c.joins_at.ensures c.if-joins_at.true

pub loop-r-preserved : goal.loop-r-preserved
loop-r-preserved c =
    one_joins_not _ _ _ _ c.loop-r.r c.loop-r.invariant
    (λ joins. let is = c.joins_at.ensures.1 joins in let e = c.if-joins_at.false in cc)

pub returns : goal.returns
returns c =
    let end = c.loop-r-test.false in let long = c.len-r-end.ensures in
    none_joins c.args.labels.now _ _ _ c.loop-r.r (omega (arith, end, long)) c.loop-r.invariant
