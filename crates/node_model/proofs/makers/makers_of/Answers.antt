-- Each turn looks at one type.
use Rattle.std.proofs.Common.{◌≡◌, length, arith}
use Rattle.node_model.proofs.MakersFound.{all_makers}
use Rattle.node_model.proofs.makers.makers_of.Goals as goal

pub returns-clause-makers : goal.returns-clause-makers
returns-clause-makers c =
    let end : c.loop-t.t ≡ length c.args.types.now.types =
    omega (arith, c.len-t-end.ensures.is, c.loop-t.auto.t-end, c.loop-t-test.false) in
    (all_makers c.args.types.now c.args.target c.loop-t.t c.loop-t.made c.len-t-end.ensures.sound end c.loop-t.invariant).1
