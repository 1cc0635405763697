-- The list is a tree, and its classes have few registers.
use Rattle.std.proofs.Common.{sym, subst, arith}
use Rattle.beg_model.specs.Items.{items}
use Rattle.beg_registers.specs.within.OnePass.{AreUses}
use Rattle.beg_registers.proofs.ListFacts.{known, short, is_tree, few_registers, class_there}
use Rattle.beg_registers.proofs.ClassesDone.{all_assigned, of_none}
use Rattle.beg_registers.proofs.assigning.assign.Goals as goal

pub uses_of-requires-clause-known : goal.uses_of-requires-clause-known
uses_of-requires-clause-known c = let (texts, table, nodes, is) = c.requires in known texts c.args.rules.now table nodes c.args.list.now is

pub uses_of-requires-clause-few : goal.uses_of-requires-clause-few
uses_of-requires-clause-few c =
    let (texts, table, nodes, is) = c.requires in
    let le = short texts c.args.rules.now table nodes c.args.list.now is in omega (arith, le)

pub first_lack-requires-clause-known : goal.first_lack-requires-clause-known
first_lack-requires-clause-known c = let (texts, table, nodes, is) = c.requires in known texts c.args.rules.now table nodes c.args.list.now is

pub first_lack-requires-clause-few : goal.first_lack-requires-clause-few
first_lack-requires-clause-few c =
    let (texts, table, nodes, is) = c.requires in
    let le = short texts c.args.rules.now table nodes c.args.list.now is in omega (arith, le)

pub assign_all-requires-clause-known : goal.assign_all-requires-clause-known
assign_all-requires-clause-known c = let (texts, table, nodes, is) = c.requires in known texts c.args.rules.now table nodes c.args.list.now is

pub assign_all-requires-clause-few : goal.assign_all-requires-clause-few
assign_all-requires-clause-few c =
    let (texts, table, nodes, is) = c.requires in
    let le = short texts c.args.rules.now table nodes c.args.list.now is in omega (arith, le)

pub uses_of-requires-clause-tree : goal.uses_of-requires-clause-tree
uses_of-requires-clause-tree c = let (texts, table, nodes, is) = c.requires in is_tree texts c.args.rules.now table nodes c.args.list.now is

pub assign_all-requires-clause-tree : goal.assign_all-requires-clause-tree
assign_all-requires-clause-tree c = let (texts, table, nodes, is) = c.requires in is_tree texts c.args.rules.now table nodes c.args.list.now is

pub first_lack-requires-clause-uses : goal.first_lack-requires-clause-uses
first_lack-requires-clause-uses c = λ class. subst (λ z. AreUses (items c.args.rules.now c.args.list.now) z class) (sym c.as_slice.ensures.value) (c.in-Ok.ensures class)

pub first_lack-requires-clause-registers : goal.first_lack-requires-clause-registers
first_lack-requires-clause-registers c =
    let (texts, table, nodes, is) = c.requires in few_registers texts c.args.rules.now table nodes c.args.list.now is

pub assign_all-requires-clause-uses : goal.assign_all-requires-clause-uses
assign_all-requires-clause-uses c = λ class. subst (λ z. AreUses (items c.args.rules.now c.args.list.now) z class) (sym c.as_slice-in-Ok-None.ensures.value) (c.in-Ok.ensures class)

pub assign_all-requires-clause-registers : goal.assign_all-requires-clause-registers
assign_all-requires-clause-registers c =
    let (texts, table, nodes, is) = c.requires in few_registers texts c.args.rules.now table nodes c.args.list.now is

pub returns-in-Ok-assign_all-clause-registers : goal.returns-in-Ok-assign_all-clause-registers
returns-in-Ok-assign_all-clause-registers c =
    let (texts, table, nodes, is) = c.requires in
    all_assigned c.args.rules.now c.args.list.now c.in-Ok-assign_all.registers.items c.in-Ok-assign_all.ensures
    (of_none _ c.in-Ok-None.field-0 c.in-Ok-None.field-0-is c.in-Ok-None.ensures)
    (class_there texts c.args.rules.now table nodes c.args.list.now is)
