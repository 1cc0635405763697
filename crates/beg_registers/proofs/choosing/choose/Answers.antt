-- The root has a cover where it has a label.
use Rattle.std.proofs.Common.{◌≡◌, ℕ, ◌≤◌, subst, Option, Some, None, true, is_some, ◌∙◌}
use Rattle.beg_registers.proofs.Choices.{cover_of_label, some_list}
use Rattle.beg_registers.proofs.choosing.choose.Goals as goal

not_none : (o : Option ℕ) → is_some o ≡ true → o ≡ None → ⊥
not_none None some e = cc
not_none (Some n) some e = cc

pub list_cover-requires-clause-stands : goal.list_cover-requires-clause-stands
list_cover-requires-clause-stands c =
    let (cost, some) = cover_of_label c.args.texts.now c.args.rules.now c.args.types.now c.args.tree.now c.args.labels.now c.requires.labels
    c.root-root.result c.args.rules.now.goal (λ e. not_none c.least.result c.if-is_none.ensures (c.least.ensures ∙ e)) in
    some_list c.args.texts.now c.args.rules.now c.args.types.now c.args.tree.now c.requires.accepted c.len-types.ensures.sound c.len-nodes.ensures.forest
    (subst (λ z. z ≤ 1048576) c.len-nodes.ensures.count c.len-nodes.ensures.few) c.root-root.result c.args.rules.now.goal cost some
