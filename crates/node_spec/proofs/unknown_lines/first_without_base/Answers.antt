-- Each turn looks at one line.
use Rattle.std.proofs.Common.{◌∙◌, ap, arith, map, refl}
use Rattle.ck_base.specs.Numbered.{met}
use Rattle.section_frame.proofs.Frame.{none_in_all}
use Rattle.node_spec.specs.within.AstSeen.{declared_by}
use Rattle.node_spec.specs.within.AstUnknown.{BaseFault}
use Rattle.node_spec.proofs.AstGathered.{line_at, at_end}
use Rattle.node_spec.proofs.AstUnknown.{no_bases_yet, base_found, base_more}
use Rattle.node_spec.proofs.unknown_lines.first_without_base.Goals as goal

pub loop-line-init : goal.loop-line-init
loop-line-init c = no_bases_yet (map declared_by c.args.list.now) _ c.new-known.ensures

pub returns-then-has_no_base : goal.returns-then-has_no_base
returns-then-has_no_base c =
    let at = line_at c.args.list.now c.loop-line.line-index _ _ refl c.loop-line-test.true in
    base_found _ _ _ _ at c.loop-line.invariant c.requires.grow (c.has_no_base.ensures.0 c.if-has_no_base.true)

pub note-requires : goal.note-requires
note-requires c =
    let few = c.loop-line.invariant.gathered.few in
    let less = c.loop-line-test.true in
    let all = c.requires.few in omega (arith, few, less, all)

pub loop-line-preserved : goal.loop-line-preserved
loop-line-preserved c =
    let at = line_at c.args.list.now c.loop-line.line-index _ _ refl c.loop-line-test.true in
    base_more _ _ _ _ at c.loop-line.invariant _
    (λ has. let is = c.has_no_base.ensures.1 has in let e = c.if-has_no_base.false in cc)
    (c.in_ok-note.ensures ∙ ap (met c.loop-line.known) c.declared_name.ensures)

pub returns : goal.returns
returns c =
    let end = at_end _ c.args.list.now c.loop-line.auto.line-index-end c.loop-line-test.false in
    none_in_all _ (BaseFault (map declared_by c.args.list.now)) _ end c.loop-line.invariant.none
