-- The first place that passes is the set's, and there is no other.
use Rattle.std.proofs.Common.{◌≡◌, Some, None, ◌∙◌, rules}
use Rattle.ck_base.proofs.NameFound.{first_place_finds}
use Rattle.ck_base.proofs.set_numbers.SetNumbers.find.Goals as goal

pub returns : goal.returns
returns c =
    let finds = first_place_finds _ c.args.words.now (Some c.in_ok-index.index) c.self.invariant.apart c.in_ok-index.ensures.index in
    rw (← c.self.view_is) (record { number = finds.number; found = finds.found; absent = finds.absent })

pub returns-in_err-index : goal.returns-in_err-index
returns-in_err-index c =
    let none : c.from_residual.result ≡ None = search rules in
    let finds = first_place_finds _ c.args.words.now c.from_residual.result c.self.invariant.apart (none ∙ c.in_err-index.ensures.index) in
    rw (← c.self.view_is) (record { number = finds.number; found = finds.found; absent = finds.absent })
