-- Each turn looks at one label.
use Rattle.std.proofs.Common.{arith, refl}
use Rattle.node_spec.proofs.AstUnknownHead.{build_there, builds_there}
use Rattle.node_spec.proofs.unknown_head.one_lacks_build.Goals as goal

pub loop-n-init : goal.loop-n-init
loop-n-init c = λ j label less at lacks. absurd (omega (arith, less))

pub returns-then-lacks_build : goal.returns-then-lacks_build
returns-then-lacks_build c = ((λ is. (_, c.lacks_build.ensures.0 c.if-lacks_build.true)), (λ one. refl))

pub loop-n-preserved : goal.loop-n-preserved
loop-n-preserved c =
    build_there c.args.g.now.labels c.args.g.now.grammar.rules c.args.lines.now c.loop-n.n _ c.text_of.ensures
    c.loop-n.invariant
    (λ lacks. let is = c.lacks_build.ensures.1 lacks in let e = c.if-lacks_build.false in cc)

pub returns : goal.returns
returns c = (
  (λ is. cc),
  (λ one. absurd (builds_there c.args.g.now.labels c.args.g.now.grammar.rules c.args.lines.now c.loop-n.n
      (let past = c.loop-n-test.false in let count = c.len-n-end.ensures in omega (arith, past, count))
      c.loop-n.invariant one)),
)
