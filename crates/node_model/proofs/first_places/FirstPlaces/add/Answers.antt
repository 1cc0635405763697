-- The name is new, or it was met before.
use Rattle.std.proofs.Common.{◌∙◌, ◌++◌, ◌∷◌, [], ap, refl, arith}
use Rattle.node_model.proofs.PlaceAdded.{place_added, place_kept}
use Rattle.node_model.proofs.first_places.FirstPlaces.add.Goals as goal

pub returns-in_ok-push : goal.returns-in_ok-push
returns-in_ok-push c = λ all is so.
    place_added all c.args.name.now c.args.self.now _ so c.in_ok-n.n c.in_ok-n.ensures.met c.in_ok-n.ensures.number
    (omega (arith, c.if-n-len.true, c.len.ensures, c.args.self.now.places.ok))
    (c.in_ok-push.ensures.items ∙ ap (λ p. c.args.self.now.places.items ++ p ∷ []) is)

pub returns-else-n-len : goal.returns-else-n-len
returns-else-n-len c = λ all is so.
    place_kept all c.args.name.now c.args.self.now _ so c.in_ok-n.n c.in_ok-n.ensures.met c.in_ok-n.ensures.number
    (λ same. c.if-n-len.false (omega (arith, same, c.len.ensures, c.args.self.now.places.ok))) refl
