-- Each turn adds the name of one family.
use Rattle.std.proofs.Common.{◌<◌, length, arith}
use Rattle.node_model.proofs.PlaceAdded.{all_named, front_length, next_family}
use Rattle.node_model.proofs.type_names.family_places.Goals as goal

pub loop-f-preserved : goal.loop-f-preserved
loop-f-preserved c =
    let less : c.loop-f.f < length c.args.types.now.families = omega (arith, c.families-f-end.ensures, c.loop-f.auto.f-end, c.loop-f-test.true) in
    next_family c.args.types.now c.loop-f.f _ _ less c.family_name.ensures
    (c.in_ok-add.ensures _ (front_length (λ x. x.name) c.args.types.now.families c.loop-f.f
    (omega (arith, less))) c.loop-f.invariant)

pub returns : goal.returns
returns c =
    all_named (λ x. x.name) c.args.types.now.families c.loop-f.f c.loop-f.places
    (omega (arith, c.families-f-end.ensures, c.loop-f.auto.f-end, c.loop-f-test.false)) c.loop-f.invariant
