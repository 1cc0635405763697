-- The parts of an expression.
use Rattle.std.proofs.Common.{arith, [], rules}
use Rattle.front_spec.proofs.RegexParts.{leaf_atom, no_atom_zero, no_open, no_inner, no_close, group_atom, some_depth, no_piece, piece_first, piece_more, piece_end, piece_deep, piece_deeper, no_row, row_first, row_more, row_end, no_rows, rows_first, rows_more, rows_none, shorter}
use Rattle.front_spec.proofs.regexes.+regex.Goals as goal

pub atom-returns-in-Some-clause-reading : goal.atom-returns-in-Some-clause-reading
atom-returns-in-Some-clause-reading t c = leaf_atom _ _ _ _ (rw c.in-Some.is at c.in_ok-body.ensures.reading)

pub atom-returns-then-depth-eq0-clause-reading : goal.atom-returns-then-depth-eq0-clause-reading
atom-returns-then-depth-eq0-clause-reading t c = rw c.if-depth-eq0.true (no_atom_zero _ (rw c.in_default.is at c.in_ok-body.ensures.reading))

pub atom-returns-in_default-after_sign-clause-reading : goal.atom-returns-in_default-after_sign-clause-reading
atom-returns-in_default-after_sign-clause-reading t c =
    rw (some_depth _ c.if-depth-eq0.false) (no_open _ _ (rw c.in_default.is at c.in_ok-body.ensures.reading) c.in_default-after_sign.ensures)

pub atom-returns-in_default-2-clause-reading : goal.atom-returns-in_default-2-clause-reading
atom-returns-in_default-2-clause-reading t c =
    rw (some_depth _ c.if-depth-eq0.false) (no_inner _ _ (rw c.in_default.is at c.in_ok-body.ensures.reading) _ c.in-Some-after_sign.ensures (rw c.in_default-2.is at c.in_ok-read.ensures.reading))

pub atom-returns-in_default-after_sign-2-clause-reading : goal.atom-returns-in_default-after_sign-2-clause-reading
atom-returns-in_default-after_sign-2-clause-reading t c =
    rw (some_depth _ c.if-depth-eq0.false) (no_close _ _ (rw c.in_default.is at c.in_ok-body.ensures.reading) _ _ _ c.in-Some-after_sign.ensures
    (rw c.in-Some-2.is at c.in_ok-read.ensures.reading) c.in_default-after_sign-2.ensures)

pub atom-returns-clause-reading : goal.atom-returns-clause-reading
atom-returns-clause-reading t c =
    rw (some_depth _ c.if-depth-eq0.false) (group_atom _ _ _ _ _ _ c.in-Some-after_sign.ensures (rw c.in-Some-2.is at c.in_ok-read.ensures.reading) c.in-Some-after_sign-2.ensures)

pub piece-returns-in_default-clause-reading : goal.piece-returns-in_default-clause-reading
piece-returns-in_default-clause-reading t c = no_piece _ _ (rw c.in_default.is at c.in_ok-first.ensures.reading)

pub piece-loop-repeat-init : goal.piece-loop-repeat-init
piece-loop-repeat-init t c =
    let fits = rw c.in-Some.is at c.in_ok-first.ensures.fits in
    (piece_first _ _ _ _ (rw c.in-Some.is at c.in_ok-first.ensures.reading), fits.0, fits.1)

pub piece-returns-then-read-ge64-clause-reading : goal.piece-returns-then-read-ge64-clause-reading
piece-returns-then-read-ge64-clause-reading t c = piece_deeper _ _ _ _ _ _ c.loop-repeat.invariant.0 c.in-Some-repeat_of.ensures (omega (arith, c.if-read-ge64.true))

pub piece-loop-repeat-preserved : goal.piece-loop-repeat-preserved
piece-loop-repeat-preserved t c =
    let next = c.in_ok-read.ensures in
    let less = shorter _ _ _ c.in-Some-repeat_of.ensures in
    let before = c.loop-repeat.invariant.2 in
    (piece_more _ _ _ _ _ _ _ c.loop-repeat.invariant.0 c.in-Some-repeat_of.ensures next, search rules, omega (arith, less, before))

pub piece-returns-then-read-le64-clause-reading : goal.piece-returns-then-read-le64-clause-reading
piece-returns-then-read-le64-clause-reading t c = piece_end _ _ _ _ c.loop-repeat.invariant.0 c.in_default-repeat_of.ensures (omega (arith, c.if-read-le64.true))

pub piece-returns-else-read-le64-clause-reading : goal.piece-returns-else-read-le64-clause-reading
piece-returns-else-read-le64-clause-reading t c = piece_deep _ _ _ _ c.loop-repeat.invariant.0 (λ within. omega (arith, within, c.if-read-le64.false))

pub regex-returns-in_default-clause-reading : goal.regex-returns-in_default-clause-reading
regex-returns-in_default-clause-reading t c = no_rows _ _ (rw c.in_default.is at c.in_ok-first.ensures.reading)

pub regex-loop-behind-init : goal.regex-loop-behind-init
regex-loop-behind-init t c =
    let fits = rw c.in-Some.is at c.in_ok-first.ensures.fits in
    (rows_first _ _ _ [] [] _ _ _ 0 _ c.new-parts.ensures.items c.in_ok-push.ensures.items (rw c.in-Some.is at c.in_ok-first.ensures.reading), fits.0, fits.1)

pub regex-returns-in_default-2-clause-reading : goal.regex-returns-in_default-2-clause-reading
regex-returns-in_default-2-clause-reading t c = rows_none _ _ _ _ _ _ c.loop-behind.invariant.0 c.in-Some-after_sign.ensures (rw c.in_default-2.is at c.in_ok-next.ensures.reading)

pub row-returns-in_default-clause-reading : goal.row-returns-in_default-clause-reading
row-returns-in_default-clause-reading t c = no_row _ _ (rw c.in_default.is at c.in_ok-first.ensures.reading)

pub row-loop-parts-init : goal.row-loop-parts-init
row-loop-parts-init t c =
    let fits = rw c.in-Some.is at c.in_ok-first.ensures.fits in
    (row_first _ _ _ [] _ _ _ 0 _ c.new-parts.ensures.items c.in_ok-push.ensures.items (rw c.in-Some.is at c.in_ok-first.ensures.reading), fits.0, fits.1)

pub row-loop-parts-preserved : goal.row-loop-parts-preserved
row-loop-parts-preserved t c =
    let fits = rw c.in-Some-2.is at c.in_ok-next.ensures.fits in
    let before = c.loop-parts.invariant.2 in
    let most = c.max-deepest.ensures in
    (row_more _ _ _ _ _ _ _ _ _ c.loop-parts.invariant.0 (rw c.in-Some-2.is at c.in_ok-next.ensures.reading) c.in_ok-push-2.ensures.items _ most, search rules, omega (arith, fits.1, before))

pub row-returns-clause-reading : goal.row-returns-clause-reading
row-returns-clause-reading t c = row_end _ _ _ _ _ _ c.loop-parts.invariant.0 (rw c.in_default-2.is at c.in_ok-next.ensures.reading) c.all_of.ensures.is

pub regex-loop-behind-preserved : goal.regex-loop-behind-preserved
regex-loop-behind-preserved t c =
    let fits = rw c.in-Some-2.is at c.in_ok-next.ensures.fits in
    let before = c.loop-behind.invariant.2 in
    let less = shorter _ _ _ c.in-Some-after_sign.ensures in
    let most = c.max-deepest.ensures in (
      rows_more _ _ _ _ _ _ _ _ _ _ c.loop-behind.invariant.0 c.in-Some-after_sign.ensures (rw c.in-Some-2.is at c.in_ok-next.ensures.reading) c.in_ok-push-2.ensures.items _ most,
      search rules,
      omega (arith, fits.1, before, less),
    )
