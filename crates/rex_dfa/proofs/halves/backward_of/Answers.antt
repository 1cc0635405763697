use Rattle.std.proofs.Common.{◌≡◌, ℕ, ◌+◌, ◌<◌, ◌↔◌, arith}
use Rattle.ck_base.specs.BitSet.{Has}
use Rattle.rex_model.specs.Meaning.{meaning}
use Rattle.rex_model.specs.Positions.{position_count, Takes}
use Rattle.rex_model.specs.Sets.{marked, FirstBackwards, FollowBackwards}
use Rattle.rex_dfa.specs.within.Positions.{TakesAt, FollowsAt}
use Rattle.rex_dfa.proofs.PositionsOfRows.{row_at, row_below, backwards_bound, takes_marked_at}
use Rattle.rex_dfa.proofs.PartAlike.{half_alike}
use Rattle.rex_dfa.proofs.halves.backward_of.Goals as goal

pub returns : goal.returns
returns c =
    let r = meaning c.args.r.now in
    let positions = c.in_ok-table.table in
    let size = c.positions-mark.result + 1 in
    let mark_is : c.positions-mark.result ≡ position_count r = omega (arith, c.positions-mark.ensures, c.requires) in
    let t : (p b : ℕ) → b < 256 → TakesAt positions p b ↔ Takes r 0 p b = λ p b below.
    let x = row_at size 256 (λ byte p. Takes (marked r) 0 p byte) c.in_ok-own.own.rows.takers.items c.in_ok-own.ensures.takers b p below in
    let y = takes_marked_at r 0 p b in
    rw c.in_ok-table.ensures.takers (λ h. y.1 (x.0 h), λ h. x.1 (y.0 h)) in
    let f : (p q : ℕ) → FollowsAt positions p q ↔ FollowBackwards r p q = λ p q.
    rw c.in_ok-table.ensures.follows (row_below size size (FollowBackwards r) c.in_ok-befores.befores.items c.in_ok-befores.ensures (λ i k h. let below = backwards_bound r i k h in omega (arith, below, mark_is)) p q) in
    half_alike (TakesAt positions) (FollowsAt positions) (Has c.in_ok-lasts.lasts) (Takes r 0) (FollowBackwards r) (FirstBackwards r) (position_count r) c.part_of.result t f c.in_ok-lasts.ensures.has
    (rw (← mark_is) c.part_of.ensures)
