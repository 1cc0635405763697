use Rattle.std.proofs.Common.{◌≡◌, ℕ, ◌+◌, ◌*◌, ◌-◌, ◌↔◌, arith, sym, subst, ◌∙◌, get_or, slice_index, []}
use Rattle.std.proofs.lemmas.List.{get_or_default}
use Rattle.rex_dfa.specs.within.Positions.{NextOf, TakesAt}
use Rattle.rex_dfa.proofs.StateNumbers.{numbers_of_stands, numbers_alike, next_alike, next_taken}
use Rattle.rex_dfa.proofs.subset.next_move.Goals as goal

pub returns-then-like-byte-clause-number : goal.returns-then-like-byte-clause-number
returns-then-like-byte-clause-number c =
    let words = get_or c.args.sets.now c.args.s [] in
    let like = c.index-like.result.now in
    let is : like ≡ slice_index c.args.positions.now.alike.items c.args.byte = c.index-like.ensures ∙ get_or_default c.args.positions.now.alike.items c.args.byte like 0 (omega (arith, c.requires.positions.alike_count, c.ranges.byte)) in
    let stands = c.requires.known like c.if-like-byte.true in
    let same : (p : ℕ) → TakesAt c.args.positions.now p like ↔ TakesAt c.args.positions.now p c.args.byte = λ p. subst (λ b. TakesAt c.args.positions.now p b ↔ TakesAt c.args.positions.now p c.args.byte) (sym is) (c.requires.positions.same c.args.byte p (omega (arith, c.ranges.byte))) in
    numbers_alike c.args.positions.now c.args.sets.now c.args.sets.now (NextOf c.args.positions.now words like) (NextOf c.args.positions.now words c.args.byte) _
    (next_alike c.args.positions.now words like c.args.byte same)
    (numbers_of_stands c.args.positions.now c.args.sets.now (NextOf c.args.positions.now words like) (slice_index c.args.moves.now (256 * c.args.s + like)) stands)

pub returns-then-is_as_before-clause-number : goal.returns-then-is_as_before-clause-number
returns-then-is_as_before-clause-number c =
    let words = get_or c.args.sets.now c.args.s [] in
    let before = c.args.byte - 1 in
    let (some, same) = c.is_as_before.ensures c.if-is_as_before.true in
    let stands = c.requires.known before (omega arith) in
    numbers_alike c.args.positions.now c.args.sets.now c.args.sets.now (NextOf c.args.positions.now words before) (NextOf c.args.positions.now words c.args.byte) _
    (next_taken c.args.positions.now words before c.args.byte same)
    (numbers_of_stands c.args.positions.now c.args.sets.now (NextOf c.args.positions.now words before) (slice_index c.args.moves.now (256 * c.args.s + before)) stands)
