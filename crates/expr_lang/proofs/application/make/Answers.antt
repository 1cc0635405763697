use Rattle.std.proofs.Common.{arith}
use Rattle.expr_lang.proofs.Applies.{made_of, cells_long, others_long, all_long, cells_made}
use Rattle.expr_lang.proofs.application.make.Goals as goal

pub pick_children-child_count-requires : goal.pick_children-child_count-requires
pick_children-child_count-requires c = let long = cells_long _ c.args.values.now c.requires in let few = c.requires.few_children in omega (arith, long, few)

pub pick_fields-field_count-requires : goal.pick_fields-field_count-requires
pick_fields-field_count-requires c = let long = others_long _ c.args.values.now c.requires in let few = c.requires.few_fields in omega (arith, long, few)

pub make_node-requires-clause-made : goal.make_node-requires-clause-made
make_node-requires-clause-made c = rw c.pick_children-child_count.ensures.are (cells_made _ c.args.values.now c.requires)

pub returns-in_err-make_node-clause-room : goal.returns-in_err-make_node-clause-room
returns-in_err-make_node-clause-room c = λ enough.
    (let a = cells_long _ c.args.values.now c.requires in let b = others_long _ c.args.values.now c.requires in let all = all_long _ c.args.values.now c.requires in
    let p = c.pick_children-child_count.ensures.are in let q = c.pick_fields-field_count.ensures.are in
    let ok = c.make_node.ensures.room (rw (p, q) (omega (arith, a, b, all, enough))) in absurd (let no = rw c.in_err-make_node.was at ok in cc))

pub returns-clause-ok : goal.returns-clause-ok
returns-clause-ok c = made_of _ _ c.args.ty c.args.values.now _ _ _ c.requires c.pick_children-child_count.ensures.are c.pick_fields-field_count.ensures.are c.in_ok-make_node.ensures.ok

pub returns-clause-spare : goal.returns-clause-spare
returns-clause-spare c =
    let a = cells_long _ c.args.values.now c.requires in let b = others_long _ c.args.values.now c.requires in let all = all_long _ c.args.values.now c.requires in
    let spare = rw (c.pick_children-child_count.ensures.are, c.pick_fields-field_count.ensures.are) at c.in_ok-make_node.ensures.spare in
    omega (arith, a, b, all, spare)
