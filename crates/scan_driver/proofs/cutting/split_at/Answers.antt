-- The first split of the rule's number.
use Rattle.scan_driver.proofs.SplitsLeft.{split_here, is_split_here}
use Rattle.scan_driver.proofs.cutting.split_at.Goals as goal

pub returns-then-split-rule : goal.returns-then-split-rule
returns-then-split-rule c =
    let splits = c.args.splits.now in
    let i = c.loop-split.split-index in
    let within = c.loop-split-test.true in (
      split_here splits i c.split-item.result within c.split-item.is c.args.rule c.if-split-rule.true c.loop-split.invariant,
      is_split_here splits i c.split-item.result within c.split-item.is c.requires,
    )
