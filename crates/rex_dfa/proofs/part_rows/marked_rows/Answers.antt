-- The rows of the expression before its end mark.
use Rattle.std.proofs.Common.{◌≡◌, ◌↔◌, arith, subst}
use Rattle.ck_base.specs.BitSet.{Has}
use Rattle.rex_model.specs.Meaning.{meaning}
use Rattle.rex_model.specs.Positions.{position_count, First}
use Rattle.rex_model.specs.Sets.{marked}
use Rattle.rex_dfa.specs.within.Walked.{IsPut}
use Rattle.rex_dfa.proofs.RowsSoFar.{rows_filled, blank_room}
use Rattle.rex_dfa.proofs.WalkOfRules.{put_marked, first_marked, one_number}
use Rattle.rex_dfa.proofs.part_rows.marked_rows.Goals as goal

pub walk_part-requires-clause-room : goal.walk_part-requires-clause-room
walk_part-requires-clause-room c = rw (c.add.ensures.size, c.in_ok-first.ensures.size) (blank_room c.args.size c.in_ok-rows.rows c.in_ok-rows.ensures.takers c.in_ok-rows.ensures.follows)

pub returns-clause-takers : goal.returns-clause-takers
returns-clause-takers c =
    let r = meaning c.args.r.now in
    let mark_is : c.positions-mark.result ≡ position_count r = omega (arith, c.positions-mark.ensures, c.requires, c.ranges.size) in
    let walked = c.in_ok-walk_part.ensures.walked in
    let start : c.in_ok-walk_part.field-0 ≡ 0 = omega (arith, walked.count, mark_is) in
    let put = put_marked r _ c.positions-mark.result (Has c.add.new.self) (one_number _ _ _ c.in_ok-first.ensures.empty c.add.ensures) walked.count _ _ walked in
    rows_filled c.args.size 256 _ _ _ c.in_ok-rows.ensures.takers (subst (λ k. IsPut (marked r) k c.in_ok-rows.rows c.walk_part.new.rows) start put).takers

pub returns-clause-follows : goal.returns-clause-follows
returns-clause-follows c =
    let r = meaning c.args.r.now in
    let mark_is : c.positions-mark.result ≡ position_count r = omega (arith, c.positions-mark.ensures, c.requires, c.ranges.size) in
    let walked = c.in_ok-walk_part.ensures.walked in
    let start : c.in_ok-walk_part.field-0 ≡ 0 = omega (arith, walked.count, mark_is) in
    let put = put_marked r _ c.positions-mark.result (Has c.add.new.self) (one_number _ _ _ c.in_ok-first.ensures.empty c.add.ensures) walked.count _ _ walked in
    rows_filled c.args.size c.args.size _ _ _ c.in_ok-rows.ensures.follows (subst (λ k. IsPut (marked r) k c.in_ok-rows.rows c.walk_part.new.rows) start put).follows

pub returns-clause-first : goal.returns-clause-first
returns-clause-first c = λ q.
    let r = meaning c.args.r.now in
    let mark_is : c.positions-mark.result ≡ position_count r = omega (arith, c.positions-mark.ensures, c.requires, c.ranges.size) in
    let walked = c.in_ok-walk_part.ensures.walked in
    let start : c.in_ok-walk_part.field-0 ≡ 0 = omega (arith, walked.count, mark_is) in
    subst (λ k. Has c.walk_part.new.next q ↔ First (marked r) k q) start (first_marked r _ c.positions-mark.result (Has c.add.new.self)
    (one_number _ _ _ c.in_ok-first.ensures.empty c.add.ensures) walked.count _ _ c.in_ok-walk_part.ensures.passed q)
