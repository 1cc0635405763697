-- Word for word.
use Rattle.spec_text.proofs.ClassSets.{negated_set}
use Rattle.spec_text.proofs.class.negated.Goals as goal

pub returns : goal.returns
returns c = negated_set c.args.set _ _ _ _ c.flipped.ensures c.flipped-2.ensures c.flipped-3.ensures c.flipped-4.ensures
