-- Each turn looks at one line.
use Rattle.std.proofs.Common.{◌≡◌, map, refl, arith, length}
use Rattle.std.proofs.lemmas.List.{length-map}
use Rattle.section_frame.specs.Passes.{numbered}
use Rattle.section_frame.proofs.Passing.{row_at, begin, is_first, one_more, all_passed, all_kept}
use Rattle.section_frame.proofs.pass.first_line.Goals as goal

pub loop-line-init : goal.loop-line-init
loop-line-init g c =
    begin g.C.LineTest.finds g.C.LineTest.keeps (map numbered c.args.list.now) _ c.requires.keeps

pub test-requires : goal.test-requires
test-requires g c =
    let at = row_at c.args.list.now c.loop-line.line-index _ _ c.line-item.is c.loop-line-test.true in
    let few = c.requires.few in
    let size = length-map c.args.list.now numbered in
    (_, c.loop-line.line-index, _, c.loop-line.invariant.keeps, at, refl, omega (arith, few, size))

pub returns-then-branch : goal.returns-then-branch
returns-then-branch g c =
    let at = row_at c.args.list.now c.loop-line.line-index _ _ c.line-item.is c.loop-line-test.true in
    record {
      first = is_first g.C.LineTest.finds g.C.LineTest.keeps (map numbered c.args.list.now) _ _ c.test.new.self
          c.loop-line.line-index _ c.loop-line.invariant at c.in_ok-test.field-0
          (c.in_ok-test.ensures.found _ c.loop-line.line-index _ c.loop-line.invariant.keeps at refl) c.requires.grow c.if-branch.true;
      kept = λ none. cc;
    }

pub loop-line-preserved : goal.loop-line-preserved
loop-line-preserved g c =
    let at = row_at c.args.list.now c.loop-line.line-index _ _ c.line-item.is c.loop-line-test.true in
    one_more g.C.LineTest.finds g.C.LineTest.keeps (map numbered c.args.list.now) _ _ c.test.new.self
    c.loop-line.line-index _ c.loop-line.invariant at c.in_ok-test.field-0
    (c.in_ok-test.ensures.found _ c.loop-line.line-index _ c.loop-line.invariant.keeps at refl) c.if-branch.false
    (c.in_ok-test.ensures.kept _ c.loop-line.line-index _ c.loop-line.invariant.keeps at refl c.if-branch.false)
    c.in_ok-test.ensures.same

pub returns : goal.returns
returns g c =
    let size = length-map c.args.list.now numbered in
    let end : c.loop-line.line-index ≡ length (map numbered c.args.list.now) = omega (arith, c.loop-line-test.false, c.loop-line.auto.line-index-end, size) in
    record {
      first = all_passed g.C.LineTest.finds g.C.LineTest.keeps (map numbered c.args.list.now) _ _ _ c.loop-line.invariant end;
      kept = λ none. all_kept g.C.LineTest.finds g.C.LineTest.keeps (map numbered c.args.list.now) _ _ _ c.loop-line.invariant end;
    }
