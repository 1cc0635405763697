-- Each turn takes a comma and an item.
use Rattle.std.proofs.Common.{[]}
use Rattle.node_spec.proofs.Items.{first_item, more_items, no_more_items}
use Rattle.node_spec.proofs.line_items.listed_items.Goals as goal

pub loop-behind-init : goal.loop-behind-init
loop-behind-init c = first_item _ [] [] _ _ _ _ c.new-items.ensures.items c.in_ok-push.ensures.items c.in-Some.ensures

pub returns-in_default-item_in : goal.returns-in_default-item_in
returns-in_default-item_in c = no_more_items _ _ _ _ c.loop-behind.invariant c.in-Some-after_sign.ensures
    c.in_default-item_in.ensures

pub loop-behind-preserved : goal.loop-behind-preserved
loop-behind-preserved c = more_items _ _ _ _ _ _ _ c.loop-behind.invariant c.in-Some-after_sign.ensures
    c.in-Some-item_in.ensures c.in_ok-push-2.ensures.items
