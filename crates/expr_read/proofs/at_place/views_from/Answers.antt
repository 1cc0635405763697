-- The tokens from the place on are a line of their own.
use Rattle.expr_read.proofs.FoundParts.{line_there, seen_from}
use Rattle.expr_read.proofs.at_place.views_from.Goals as goal

pub tokens_in-requires : goal.tokens_in-requires
tokens_in-requires c =
    line_there c.args.spec.now c.args.tokens.now c.args.at c.in_ok-line.line c.requires.spelled c.in_ok-line.ensures.tokens c.in_ok-line.ensures.number c.in_ok-line.ensures.bad

pub returns : goal.returns
returns c =
    seen_from c.args.spec.now c.args.tokens.now c.args.at c.in_ok-line.line c.in_ok-views.views.items c.in_ok-line.ensures.tokens c.in_ok-line.ensures.number c.in_ok-line.ensures.bad
    c.in_ok-views.ensures
