-- One position more, and the end mark at the end.
use Rattle.std.proofs.Common.{◌≡◌, ℕ, ◌+◌, [], ◌∷◌, ◌++◌, arith, subst}
use Rattle.rex_model.specs.Meaning.{meaning}
use Rattle.rex_model.specs.Positions.{position_count}
use Rattle.rex_model.specs.Sets.{FollowBackwards}
use Rattle.rex_dfa.specs.within.Rows.{AreRows}
use Rattle.rex_dfa.proofs.MoreRows.{rows_more, rows_with}
use Rattle.rex_dfa.proofs.RowsSoFar.{adds_nothing}
use Rattle.rex_dfa.proofs.WalkOfRules.{turned_before, none_behind}
use Rattle.rex_dfa.proofs.part_rows.befores_of.Goals as goal

pub loop-p-preserved : goal.loop-p-preserved
loop-p-preserved c =
    let r = meaning c.args.r.now in
    let below = c.loop-p-test.true in
    rw c.in_ok-push.ensures.items (rows_with c.args.size c.loop-p.p (FollowBackwards r) c.loop-p.sets.items c.in_ok-set.set c.loop-p.invariant c.in_ok-set.ensures.size
    (λ q. let alike = turned_before r c.loop-p.p q (omega (arith, below, c.positions-p-end.ensures)) in
    (λ h. alike.0 ((c.in_ok-set.ensures.has q).0 h), λ h. (c.in_ok-set.ensures.has q).1 (alike.1 h))))

pub returns : goal.returns
returns c =
    let r = meaning c.args.r.now in
    let size_is : c.loop-p.p + 1 ≡ c.args.size = omega (arith, c.requires.room, c.positions-p-end.ensures) in
    let count_is : c.loop-p.p ≡ position_count r = omega (arith, c.requires.room, c.positions-p-end.ensures) in
    rw c.in_ok-push-2.ensures.items (subst (λ n. AreRows c.args.size n (FollowBackwards r) (c.loop-p.sets.items ++ c.in_ok-none.none ∷ [])) size_is
    (rows_more c.args.size c.loop-p.p (FollowBackwards r) c.loop-p.sets.items c.in_ok-none.none c.in_ok-none.none c.loop-p.invariant c.in_ok-none.ensures.size c.in_ok-none.ensures.empty
    (adds_nothing c.in_ok-none.none (FollowBackwards r c.loop-p.p) (λ q h. none_behind r q (subst (λ (n : ℕ). FollowBackwards r n q) count_is h)))))
