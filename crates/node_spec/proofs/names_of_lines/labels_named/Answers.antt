-- Each turn notes what one line names.
use Rattle.std.proofs.Common.{◌∙◌, ap, map, refl}
use Rattle.ck_base.specs.Numbered.{met}
use Rattle.node_spec.specs.AstFaults.{labels_in}
use Rattle.node_spec.specs.within.AstSeen.{declared_by}
use Rattle.node_spec.proofs.AstGathered.{label_of, labels_gather, none_met, met_more, met_all, line_at, at_end}
use Rattle.node_spec.proofs.names_of_lines.labels_named.Goals as goal

pub loop-line-init : goal.loop-line-init
loop-line-init c = none_met labels_in label_of labels_gather (map declared_by c.args.list.now) _ c.new-names.ensures

pub loop-line-preserved : goal.loop-line-preserved
loop-line-preserved c =
    let at = line_at c.args.list.now c.loop-line.line-index _ _ refl c.loop-line-test.true in
    met_more labels_in label_of labels_gather _ _ _ _ _ at c.loop-line.invariant
    (c.in_ok-note.ensures ∙ ap (met c.loop-line.names) c.build_label.ensures)

pub returns : goal.returns
returns c =
    let end = at_end _ c.args.list.now c.loop-line.auto.line-index-end c.loop-line-test.false in
    met_all labels_in label_of labels_gather _ _ _ end c.loop-line.invariant
