-- Each operand has a place of use.
use Rattle.std.proofs.Common.{ℕ, length, get_or, sym, subst, ap, ◌∙◌, arith}
use Rattle.std.proofs.lemmas.List.{length-replicate}
use Rattle.beg_model.specs.Items.{items}
use Rattle.beg_model.specs.Registers.{UsedAt}
use Rattle.beg_registers.proofs.ClassesDone.{class_uses, text_used, written_back}
use Rattle.beg_registers.proofs.ItemsRead.{length_items}
use Rattle.beg_registers.proofs.assigning.uses_of.Goals as goal

pub fill_uses-requires-clause-texts : goal.fill_uses-requires-clause-texts
fill_uses-requires-clause-texts c = text_used (items c.args.rules.now c.args.list.now) c.requires.tree

pub returns : goal.returns
returns c = λ class.
    (let same = written_back c.in_ok-uses.uses.len c.fill_uses.new.uses c.in_ok-uses.uses.items
    (c.fill_uses.ensures.size ∙ ap length c.as_mut_slice.ensures.value) c.in_ok-uses.uses.ok.0 in
    class_uses (items c.args.rules.now c.args.list.now) _ class c.requires.tree
    (ap length same ∙ (let size = c.fill_uses.ensures.size in let value = ap length c.as_mut_slice.ensures.value in
    let made = ap length (c.in_ok-uses.ensures.items_if_clones_equal (λ y is. is)) in let count = length-replicate {A = ℕ} (length c.args.list.now) 0 in
    let e = length_items c.args.rules.now c.args.list.now in omega (arith, size, value, made, count, e)))
    (λ w p o. subst (λ z. UsedAt (items c.args.rules.now c.args.list.now) w (get_or z w 0)) (sym same) (c.fill_uses.ensures.used w p o)))
