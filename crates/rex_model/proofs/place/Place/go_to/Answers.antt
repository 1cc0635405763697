use Rattle.std.proofs.Common.{arith}
use Rattle.std.proofs.lemmas.Option.{slice_get-get_or}
use Rattle.rex_model.proofs.NextPlace.{column_at-le}
use Rattle.rex_model.proofs.place.Place.go_to.Goals as goal

pub after-place-requires-clause-column : goal.after-place-requires-clause-column
after-place-requires-clause-column c = omega (arith, column_at-le c.args.text.now c.loop-place.place.at)

pub loop-place-preserved : goal.loop-place-preserved
loop-place-preserved c =
    let text = c.args.text.now in
    let place = c.loop-place.place in
    let byte = slice_get-get_or text place.at 0 (omega arith) in
    (omega arith, c.after-place.ensures.is_place text byte c.loop-place.invariant.1)
