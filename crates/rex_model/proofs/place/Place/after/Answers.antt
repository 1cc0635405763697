use Rattle.std.proofs.Common.{◌≡◌, ℕ, Some, slice_get, subst}
use Rattle.rex_model.proofs.NextPlace.{after_feed, after_other}
use Rattle.rex_model.proofs.place.Place.after.Goals as goal

pub returns-then-byte-eq10-clause-is_place : goal.returns-then-byte-eq10-clause-is_place
returns-then-byte-eq10-clause-is_place c = λ text found is.
    let stands : ℕ → Type 0 = λ byte. slice_get text c.args.self.at ≡ Some byte in
    after_feed text c.args.self (subst stands c.if-byte-eq10.true found) is

pub returns-else-byte-eq10-clause-is_place : goal.returns-else-byte-eq10-clause-is_place
returns-else-byte-eq10-clause-is_place c = λ text found is. after_other text c.args.self c.args.byte c.if-byte-eq10.false found is
