use Rattle.std.proofs.Common.{◌≡◌, ℕ, ◌+◌, ◌<◌, ◌↔◌, arith}
use Rattle.ck_base.specs.BitSet.{Has}
use Rattle.rex_model.specs.Meaning.{meaning}
use Rattle.rex_model.specs.Positions.{position_count, Takes, First, Follow}
use Rattle.rex_model.specs.Sets.{marked}
use Rattle.rex_dfa.specs.within.Positions.{TakesAt, FollowsAt}
use Rattle.rex_dfa.proofs.PositionsOfRows.{row_at, row_below, marked_bound}
use Rattle.rex_dfa.proofs.PartAlike.{half_alike}
use Rattle.rex_dfa.proofs.halves.forward_of.Goals as goal

pub returns : goal.returns
returns c =
    let r = meaning c.args.r.now in
    let positions = c.in_ok-table.table in
    let size = c.positions-mark.result + 1 in
    let mark_is : c.positions-mark.result ≡ position_count r = omega (arith, c.positions-mark.ensures, c.requires) in
    let t : (p b : ℕ) → b < 256 → TakesAt positions p b ↔ Takes (marked r) 0 p b = λ p b below.
    rw c.in_ok-table.ensures.takers (row_at size 256 (λ byte p. Takes (marked r) 0 p byte) c.in_ok-own.own.rows.takers.items c.in_ok-own.ensures.takers b p below) in
    let f : (p q : ℕ) → FollowsAt positions p q ↔ Follow (marked r) 0 p q = λ p q.
    rw c.in_ok-table.ensures.follows (row_below size size (Follow (marked r) 0) c.in_ok-own.own.rows.follows.items c.in_ok-own.ensures.follows (λ i k h. let below = marked_bound r i k h in omega (arith, below, mark_is)) p q) in
    half_alike (TakesAt positions) (FollowsAt positions) (Has c.in_ok-own.own.first) (Takes (marked r) 0) (Follow (marked r) 0) (First (marked r) 0) (position_count r) c.part_of.result t f c.in_ok-own.ensures.first
    (rw (← mark_is) c.part_of.ensures)
