use Rattle.std.proofs.Common.{ℕ, ◌<◌, ◌≤◌, ◌+◌, ◌↔◌, List, arith, sym, subst, Contains}
use Rattle.lalr_look.proofs.Flowing.{one_lower}
use Rattle.lalr_look.proofs.flow.all_below.Goals as goal

pub loop-turn-preserved : goal.loop-turn-preserved
loop-turn-preserved c =
    subst (λ (l : List ℕ). (k : ℕ) → Contains l k ↔ ((c.args.count ≤ k + (c.loop-turn.turn + 1)) × (k < c.args.count)))
    (sym c.in_ok-push.ensures.items)
    (one_lower c.loop-turn.work.items c.args.count c.loop-turn.turn (omega (arith, c.loop-turn-test.true)) c.loop-turn.invariant)

pub returns : goal.returns
returns c = λ k.
    let past = c.loop-turn-test.false in
    (λ h. ((c.loop-turn.invariant k).0 h).1, λ low. (c.loop-turn.invariant k).1 (omega (arith, past), low))
