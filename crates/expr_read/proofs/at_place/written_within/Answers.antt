-- What was read is the expression at the place.
use Rattle.std.proofs.Common.{ap, ◌∙◌, map}
use Rattle.spec_text.specs.Seen.{seen}
use Rattle.expr_read.specs.Writing.{spoken_of}
use Rattle.expr_read.proofs.FoundParts.{found_stands, none_stands}
use Rattle.expr_read.proofs.at_place.written_within.Goals as goal

pub returns-in_default : goal.returns-in_default
returns-in_default c = none_stands c.args.spec.now c.args.tokens.now c.args.at c.as_slice.result.now
    (λ s a. ap (map seen) c.as_slice.ensures.value ∙ c.in_ok-views.ensures s a) (rw c.in_default.is at c.in_ok-written.ensures.reading)

pub returns : goal.returns
returns c = found_stands c.args.spec.now c.args.tokens.now c.args.at c.next_behind-next.result c.as_slice.result.now c.in-Some.rest.now (spoken_of c.in-Some.written)
    (λ s a. ap (map seen) c.as_slice.ensures.value ∙ c.in_ok-views.ensures s a) (rw c.in-Some.is at c.in_ok-written.ensures.reading)
    (rw c.in-Some.is at c.in_ok-written.ensures.follows) c.next_behind-next.ensures
