-- One item more, from the last down.
use Rattle.beg_model.specs.Items.{item_of, items}
use Rattle.beg_registers.proofs.ItemsRead.{item_is, known_at}
use Rattle.std.proofs.Common.{◌-◌, ◌<◌, length, refl, sym, subst, ◌∙◌, arith}
use Rattle.std.specs.Prelude.{Contains}
use Rattle.std.proofs.lemmas.Option.{slice_get_read}
use Rattle.beg_registers.proofs.Marks.{uses_more}
use Rattle.beg_registers.proofs.uses.fill_uses.Goals as goal

pub mark-requires : goal.mark-requires
mark-requires c = λ w has.
    (let test = c.loop-i-test.true in let le = c.loop-i.auto.i in
    let within : c.loop-i.i - 1 < length c.args.list.now = omega (arith, test, le) in
    let is = item_is c.args.rules.now c.args.list.now (c.loop-i.i - 1) c.index-list-i.result (slice_get_read c.args.list.now _ (c.loop-i.i - 1) c.index-list-i.result refl within c.index-list-i.is) in
    let own = subst (λ z. Contains z w) c.operands_of.ensures has in
    let before = c.requires.below w (c.loop-i.i - 1) (record { item = (item_of c.args.rules.now c.index-list-i.result); is_item = is; operand = own }) in
    omega (arith, before, within, c.requires.size, c.loop-i.auto.uses))

pub loop-i-preserved : goal.loop-i-preserved
loop-i-preserved c =
    let test = c.loop-i-test.true in let le = c.loop-i.auto.i in
    let within : c.loop-i.i - 1 < length c.args.list.now = omega (arith, test, le) in
    let is = item_is c.args.rules.now c.args.list.now (c.loop-i.i - 1) c.index-list-i.result (slice_get_read c.args.list.now _ (c.loop-i.i - 1) c.index-list-i.result refl within c.index-list-i.is) in
    let (size, so_far) = c.loop-i.invariant in
    let value = c.operands_of.ensures in (
      c.mark.ensures.size ∙ size,
      uses_more (items c.args.rules.now c.args.list.now) c.loop-i.uses c.mark.new.uses (c.loop-i.i - 1) c.user-place.result (item_of c.args.rules.now c.index-list-i.result)
          c.requires.below c.requires.one c.requires.texts is c.user-place.ensures
          (λ w has. c.mark.ensures.marked w (subst (λ z. Contains z w) (sym value) has))
          (λ w none. c.mark.ensures.others w (λ has. none (subst (λ z. Contains z w) value has)))
          (λ w p operand ge. so_far w p operand (omega (arith, ge, test))),
    )

pub returns-clause-used : goal.returns-clause-used
returns-clause-used c = λ w p operand. (let (size, so_far) = c.loop-i.invariant in let test = c.loop-i-test.false in so_far w p operand (omega (arith, test)))

pub user-place-requires : goal.user-place-requires
user-place-requires c =
    let test = c.loop-i-test.true in let le = c.loop-i.auto.i in
    known_at c.args.rules.now c.args.list.now (c.loop-i.i - 1) c.index-list-i.result c.requires.known (omega (arith, test, le)) c.index-list-i.is
