-- One part more, from the last one on.
use Rattle.std.proofs.Common.{◌≡◌, ℕ, ◌+◌, ◌-◌, ◌<◌, length, map, drop, arith, sym, subst}
use Rattle.ck_base.specs.BitSet.{Has}
use Rattle.rex_model.specs.Meaning.{meaning, sequence_of, alternative_of}
use Rattle.rex_model.proofs.Meanings.{meaning-Seq, meaning-Alt, meaning-Star, meaning-Plus, meaning-Opt}
use Rattle.rex_model.proofs.MeaningsOfParts.{meanings_at}
use Rattle.rex_dfa.specs.within.Walked.{HasRoom, IsPassed}
use Rattle.rex_dfa.proofs.WalkOfParts.{parts_none, walked_nothing, passed_nothing, walked_sequence, passed_sequence, walked_alternative, part_fits, alternative_fits, room_kept}
use Rattle.rex_dfa.proofs.Weights.{weight_at, weight_among}
use Rattle.rex_dfa.proofs.walk.+walk.Goals as goal

pub walk_sequence-loop-i-init : goal.walk_sequence-loop-i-init
walk_sequence-loop-i-init t c = record {
  walked = rw (parts_none c.args.parts.now) (walked_nothing _ c.args.end (Has c.args.after.now) c.args.rows.now (omega arith));
  passed = rw (parts_none c.args.parts.now) (passed_nothing c.args.end (Has c.args.after.now) c.args.after.now.size c.in_ok-next.next c.in_ok-next.ensures.size c.in_ok-next.ensures.has);
}

pub walk_sequence-walk_part-requires : goal.walk_sequence-walk_part-requires
walk_sequence-walk_part-requires t c =
    let within : c.loop-i.i - 1 < length c.args.parts.now = (let w = c.loop-i.auto.i in let some = c.loop-i-test.true in omega (arith, w, some)) in
    let before = c.loop-i.invariant in
    let fits = part_fits c.args.parts.now c.loop-i.i c.index-parts-i.result c.loop-i.at c.args.end c.loop-i-test.true within c.index-parts-i.is before.walked.count c.requires.fits in
    let less = weight_at c.args.parts.now (c.loop-i.i - 1) c.index-parts-i.result within c.index-parts-i.is in (
      (let d = c.decreases in omega (arith, d, less)),
      (
        fits.0,
        (
          (let same = before.passed.same in let low = fits.1 in omega (arith, same, low, c.requires.inside)),
          (
            (let same = before.passed.same in omega (arith, same, c.requires.small)),
            subst (λ (n : ℕ). HasRoom n c.loop-i.rows) (sym before.passed.same) (room_kept c.args.after.now.size _ _ _ _ _ _ c.requires.room before.walked),
          ),
        ),
      ),
    )

pub walk_sequence-loop-i-preserved : goal.walk_sequence-loop-i-preserved
walk_sequence-loop-i-preserved t c =
    let some = c.loop-i-test.true in
    let within : c.loop-i.i - 1 < length c.args.parts.now = (let w = c.loop-i.auto.i in omega (arith, w, some)) in
    let next : (c.loop-i.i - 1) + 1 ≡ c.loop-i.i = omega (arith, some) in
    let e = meanings_at c.args.parts.now (c.loop-i.i - 1) c.index-parts-i.result within c.index-parts-i.is in
    let before = c.loop-i.invariant in
    record {
      walked = rw (e, next) (walked_sequence (meaning c.index-parts-i.result) (sequence_of (map meaning (drop c.loop-i.i c.args.parts.now))) c.args.end c.in_ok-at.at (Has c.args.after.now) (Has c.loop-i.next) c.loop-i.at _ _ _
          before.walked c.in_ok-at.ensures.walked before.passed.has);
      passed = rw (e, next) (passed_sequence (meaning c.index-parts-i.result) (sequence_of (map meaning (drop c.loop-i.i c.args.parts.now))) c.args.end c.in_ok-at.at (Has c.args.after.now) (Has c.loop-i.next) c.loop-i.at c.args.after.now.size _
          c.in_ok-at.ensures.walked.count (subst (λ (n : ℕ). IsPassed (meaning c.index-parts-i.result) c.in_ok-at.at (Has c.loop-i.next) n c.walk_part.new.next) before.passed.same c.in_ok-at.ensures.passed) before.passed.has);
    }

pub walk_alternatives-loop-i-init : goal.walk_alternatives-loop-i-init
walk_alternatives-loop-i-init t c = rw (parts_none c.args.parts.now) (walked_nothing _ c.args.end (Has c.args.after.now) c.args.rows.now (omega arith))

pub walk_alternatives-walk-requires : goal.walk_alternatives-walk-requires
walk_alternatives-walk-requires t c =
    let within : c.loop-i.i - 1 < length c.args.parts.now = (let w = c.loop-i.auto.i in let some = c.loop-i-test.true in omega (arith, w, some)) in
    let before = c.loop-i.invariant in
    let fits = alternative_fits c.args.parts.now c.loop-i.i c.index-parts-i.result c.loop-i.at c.args.end c.loop-i-test.true within c.index-parts-i.is before.count c.requires.fits in
    let less = weight_among c.args.parts.now (c.loop-i.i - 1) c.index-parts-i.result within c.index-parts-i.is in (
      (let d = c.decreases in omega (arith, d, less)),
      (fits.0, ((let low = fits.1 in omega (arith, low, c.requires.inside)), (c.requires.small, room_kept c.args.after.now.size _ _ _ _ _ _ c.requires.room before))),
    )

pub walk_alternatives-loop-i-preserved : goal.walk_alternatives-loop-i-preserved
walk_alternatives-loop-i-preserved t c =
    let some = c.loop-i-test.true in
    let within : c.loop-i.i - 1 < length c.args.parts.now = (let w = c.loop-i.auto.i in omega (arith, w, some)) in
    let next : (c.loop-i.i - 1) + 1 ≡ c.loop-i.i = omega (arith, some) in
    let e = meanings_at c.args.parts.now (c.loop-i.i - 1) c.index-parts-i.result within c.index-parts-i.is in
    rw (e, next) (walked_alternative (meaning c.index-parts-i.result) (alternative_of (map meaning (drop c.loop-i.i c.args.parts.now))) c.args.end c.loop-i.at c.in_ok-at.at (Has c.args.after.now) _ _ _
    c.loop-i.invariant c.in_ok-at.ensures)

pub walk-walk_sequence-requires : goal.walk-walk_sequence-requires
walk-walk_sequence-requires t c =
    ((let d = rw (c.in-Seq.is, meaning-Seq) at c.decreases in omega (arith, d)), (rw (c.in-Seq.is, meaning-Seq) at c.requires.fits, (c.requires.inside, (c.requires.small, c.requires.room))))

pub walk-walk_alternatives-requires : goal.walk-walk_alternatives-requires
walk-walk_alternatives-requires t c =
    ((let d = rw (c.in-Alt.is, meaning-Alt) at c.decreases in omega (arith, d)), (rw (c.in-Alt.is, meaning-Alt) at c.requires.fits, (c.requires.inside, (c.requires.small, c.requires.room))))

pub walk-walk_round-requires : goal.walk-walk_round-requires
walk-walk_round-requires t c =
    ((let d = rw (c.in-Star.is, meaning-Star) at c.decreases in omega (arith, d)), (rw (c.in-Star.is, meaning-Star) at c.requires.fits, (c.requires.inside, (c.requires.small, c.requires.room))))

pub walk-walk_round-requires-in-Plus : goal.walk-walk_round-requires-in-Plus
walk-walk_round-requires-in-Plus t c =
    ((let d = rw (c.in-Plus.is, meaning-Plus) at c.decreases in omega (arith, d)), (rw (c.in-Plus.is, meaning-Plus) at c.requires.fits, (c.requires.inside, (c.requires.small, c.requires.room))))

pub walk-walk-requires : goal.walk-walk-requires
walk-walk-requires t c =
    ((let d = rw (c.in-Opt.is, meaning-Opt) at c.decreases in omega (arith, d)), (rw (c.in-Opt.is, meaning-Opt) at c.requires.fits, (c.requires.inside, (c.requires.small, c.requires.room))))
