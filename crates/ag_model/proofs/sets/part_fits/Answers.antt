-- Place by place.
use Rattle.ag_model.specs.Attribution.{kinds_in}
use Rattle.ag_model.specs.Plans.{lists}
use Rattle.ag_model.proofs.SetsByPlace.{one_more_place, all_places}
use Rattle.ag_model.proofs.sets.part_fits.Goals as goal

pub loop-i-preserved : goal.loop-i-preserved
loop-i-preserved c =
    one_more_place (kinds_in c.args.attributes.now) (lists c.args.sets.now) c.args.k c.loop-i.i c.set_at-part.result.now c.place_fits.result c.set_at-part.ensures c.loop-i-test.true c.loop-i.invariant c.place_fits.ensures c.if-not-place_fits.false

pub returns : goal.returns
returns c =
    all_places (kinds_in c.args.attributes.now) (lists c.args.sets.now) c.args.k c.loop-i.i c.set_at-part.result.now c.set_at-part.ensures c.loop-i-test.false c.loop-i.invariant
