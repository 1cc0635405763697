-- Each turn looks at one line.
use Rattle.std.proofs.Common.{refl, ap, map, ◌∙◌, ◌∷◌, [], rules, arith}
use Rattle.std.proofs.lemmas.List.{map-append}
use Rattle.section_frame.specs.Declares.{no_lines}
use Rattle.section_frame.proofs.Frame.{declare_more, shape_fault}
use Rattle.spec_text.proofs.Lists.{get_at, take_all}
use Rattle.spec_text.proofs.PassedOn.{passed_on}
use Rattle.spec_text.proofs.Views.{line_at, as_many}
use Rattle.section_frame.specs.Passes.{judged_by}
use Rattle.section_frame.proofs.shapes.declared_lines.Goals as goal

pub loop-line-init : goal.loop-line-init
loop-line-init g c = rw c.new-list.ensures.items (λ are is. no_lines, refl)

pub line_in-requires : goal.line_in-requires
line_in-requires g c κs =
    let here = line_at _ _ c.requires.0 c.loop-line.line-index _ c.requires.1
    (rw c.line-item.is (get_at c.args.lines.now c.loop-line.line-index _ c.loop-line-test.true)) in
    ((refl, tt), (here.there, here.is))

pub returns-in_err-line_in-clause-fault : goal.returns-in_err-line_in-clause-fault
returns-in_err-line_in-clause-fault g c = passed_on _ _ _ c.from_residual.ensures.1 (λ are is grow.
    let here = line_at _ _ are c.loop-line.line-index _ is
    (rw c.line-item.is (get_at c.args.lines.now c.loop-line.line-index _ c.loop-line-test.true)) in
    shape_fault g.R.Shapes.shape are c.loop-line.line-index here.there _ _ grow here.at
    (c.loop-line.invariant.0 are is) (c.in_err-line_in.ensures.fault here.there here.is))

pub loop-line-preserved : goal.loop-line-preserved
loop-line-preserved g c = (
  λ are is.
      let here = line_at _ _ are c.loop-line.line-index _ is
      (rw c.line-item.is (get_at c.args.lines.now c.loop-line.line-index _ c.loop-line-test.true)) in
      declare_more g.R.Shapes.shape are c.loop-line.line-index here.there _ _ (judged_by g.R.Shapes.seen c.in_ok-line_in.field-0)
      here.at (c.loop-line.invariant.0 are is) (c.in_ok-line_in.ensures.says here.there here.is)
      (ap (λ l. map (judged_by g.R.Shapes.seen) l) c.in_ok-push.ensures.items
      ∙ map-append (judged_by g.R.Shapes.seen) c.loop-line.list.items (c.in_ok-line_in.field-0 ∷ [])),
  (search rules),
)

pub returns-clause-declared : goal.returns-clause-declared
returns-clause-declared g c = λ are is.
    let end = omega (arith, c.loop-line-test.false, c.loop-line.auto.line-index-end) ∙ as_many _ _ are is in
    rw (take_all are c.loop-line.line-index end) at (c.loop-line.invariant.0 are is)
