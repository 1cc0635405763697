-- The sets fit where each place of them does.
use Rattle.std.proofs.Common.{arith}
use Rattle.std.proofs.lemmas.List.{length-map}
use Rattle.ag_model.specs.Attribution.{kinds_in}
use Rattle.ag_model.specs.Plans.{SetsFit, lists}
use Rattle.ag_model.proofs.SetsByPlace.{by_place, of_place}
use Rattle.ag_model.proofs.Tries.{first_fails, both_hold}
use Rattle.ag_model.proofs.sets.sets_fit.Goals as goal

pub returns-then-not-all_placed : goal.returns-then-not-all_placed
returns-then-not-all_placed c =
    let kinds = kinds_in c.args.attributes.now in
    let sets = lists c.args.sets.now in
    first_fails _ (SetsFit kinds sets) c.all_placed.result c.all_placed.ensures
    (λ fits a lt. (by_place kinds sets fits).each a (let many = length-map c.args.attributes.now (λ attribute. attribute.synthesized) in omega (arith, many, lt)))
    c.if-not-all_placed.true

pub returns : goal.returns
returns c =
    let kinds = kinds_in c.args.attributes.now in
    let sets = lists c.args.sets.now in
    both_hold _ _ (SetsFit kinds sets) c.all_placed.result c.parts_fit.result c.all_placed.ensures c.if-not-all_placed.false c.parts_fit.ensures
    (λ each parts. of_place kinds sets (record {
      each = λ a lt. each a (let many = length-map c.args.attributes.now (λ attribute. attribute.synthesized) in omega (arith, many, lt));
      parts = parts;
    }))
    (λ fits. (by_place kinds sets fits).parts)
