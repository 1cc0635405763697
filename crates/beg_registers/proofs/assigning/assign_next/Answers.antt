-- The values of the class have their registers, those of the classes before as they had them.
use Rattle.std.proofs.Common.{◌≡◌, ℕ, ◌+◌, length, sym, subst, ap, ◌∙◌, arith}
use Rattle.std.specs.Prelude.{slice_get}
use Rattle.std.proofs.lemmas.List.{length-replicate}
use Rattle.beg_model.specs.Items.{items}
use Rattle.beg_registers.specs.within.OnePass.{IsRoomy}
use Rattle.beg_registers.specs.within.Fitting.{AssignedBelow}
use Rattle.beg_registers.proofs.ClassesDone.{assigned_more, room, written_back}
use Rattle.beg_registers.proofs.assigning.assign_next.Goals as goal

pub assign_class-requires-clause-room : goal.assign_class-requires-clause-room
assign_class-requires-clause-room c =
    let value = ap length c.as_mut_slice.ensures.value in
    let made = ap length (c.in_ok-until.ensures.items_if_clones_equal (λ y is. is)) in
    let count = length-replicate {A = ℕ} c.register_count-have.result 0 in
    subst (λ z. IsRoomy (items c.args.rules.now c.args.list.now) c.args.class z) (omega (arith, value, made, count))
    (room c.args.rules.now c.args.list.now c.requires.tree c.args.class (length c.args.rules.now.classes.items) c.register_count-have.result
    c.requires.fit c.requires.there c.register_count-have.ensures)

pub returns : goal.returns
returns c =
    let value = ap length c.as_mut_slice.ensures.value in
    let made = ap length (c.in_ok-until.ensures.items_if_clones_equal (λ y is. is)) in
    let count = length-replicate {A = ℕ} c.register_count-have.result 0 in
    let have : length c.as_mut_slice.result.now ≡ c.register_count-have.result = omega (arith, value, made, count) in
    let old = c.as_mut_slice-2.ensures.value in
    let same = written_back c.args.registers.now.len c.assign_class.new.registers c.args.registers.now.items
    (c.assign_class.ensures.size ∙ ap length old) c.args.registers.now.ok.0 in
    subst (λ z. AssignedBelow c.args.rules.now c.args.list.now z (c.args.class + 1)) (sym same)
    (assigned_more c.args.rules.now c.args.list.now c.args.registers.now.items c.assign_class.new.registers c.args.class c.register_count-have.result
    c.requires.so_far c.register_count-have.ensures (c.assign_class.ensures.size ∙ ap length old)
    (λ p h. (let (k, is, least, within) = c.assign_class.ensures.values p h in (k, is, least, omega (arith, within, have))))
    (λ p none. c.assign_class.ensures.others p none ∙ ap (λ z. slice_get z p) old))
