-- Each turn adds the name of one type.
use Rattle.std.proofs.Common.{◌<◌, length, arith}
use Rattle.node_model.proofs.PlaceAdded.{all_named, front_length, next_type}
use Rattle.node_model.proofs.type_names.type_places.Goals as goal

pub loop-t-preserved : goal.loop-t-preserved
loop-t-preserved c =
    let less : c.loop-t.t < length c.args.types.now.types = omega (arith, c.len-t-end.ensures.is, c.loop-t.auto.t-end, c.loop-t-test.true) in
    next_type c.args.types.now c.loop-t.t _ _ less c.type_name.ensures
    (c.in_ok-add.ensures _ (front_length (λ x. x.name) c.args.types.now.types c.loop-t.t
    (omega (arith, less))) c.loop-t.invariant)

pub returns : goal.returns
returns c =
    all_named (λ x. x.name) c.args.types.now.types c.loop-t.t c.loop-t.places
    (omega (arith, c.len-t-end.ensures.is, c.loop-t.auto.t-end, c.loop-t-test.false)) c.loop-t.invariant
