-- The labels are least at each pair.
use Rattle.beg_model.proofs.CheckedLabels.{checked_labels}
use Rattle.beg_model.proofs.laws.consistent_labels_are_least.Goals as goal

pub returns : goal.returns
returns c = checked_labels c.args.texts.now c.args.rules.now c.args.types.now c.args.tree.now c.len-types.ensures.sound c.len-nodes.ensures.forest c.requires
