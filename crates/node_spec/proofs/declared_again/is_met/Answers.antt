-- A name that is found is there.
use Rattle.node_spec.specs.within.AstTwice.{again}
use Rattle.node_spec.proofs.AstTwicePasses.{is_there, is_fresh}
use Rattle.node_spec.proofs.declared_again.is_met.Goals as goal

pub returns-then-is_some : goal.returns-then-is_some
returns-then-is_some c =
    let means = rw (← c.is_some.ensures) at (is_there c.args.names.now c.args.name.now _ c.find.ensures.found c.find.ensures.absent) in
    again (means.0 c.if-is_some.true)

pub returns : goal.returns
returns c =
    let means = rw (← c.is_some.ensures) at (is_there c.args.names.now c.args.name.now _ c.find.ensures.found c.find.ensures.absent) in
    is_fresh c.args.names.now c.intern.new.self c.args.name.now _ means c.if-is_some.false c.in_ok-intern.ensures.met
