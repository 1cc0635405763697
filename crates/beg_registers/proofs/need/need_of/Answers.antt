-- One place more.
use Rattle.beg_model.specs.Items.{item_of, items}
use Rattle.beg_registers.proofs.ItemsRead.{item_is, length_items, known_at}
use Rattle.std.proofs.Common.{get_or, refl, sym, ◌∙◌, arith}
use Rattle.std.proofs.lemmas.Option.{slice_get_read}
use Rattle.beg_registers.proofs.PassSoFar.{has_of_test, none_of_test}
use Rattle.beg_registers.proofs.NeedSoFar.{begin, finish, ending_at_most, live_at_most, ends_at_most, turn_value, turn_other, held_at_most}
use Rattle.beg_registers.proofs.need.need_of.Goals as goal
use Rattle.beg_registers.proofs.need.need_of.Goals.{then-holds, else-holds}

pub loop-p-init : goal.loop-p-init
loop-p-init c = begin (items c.args.rules.now c.args.list.now) c.args.uses.now c.args.ends.now c.args.class (c.requires.size ∙ sym (length_items c.args.rules.now c.args.list.now)) c.requires.fresh

pub held_of-held-requires-clause-ending : goal.held_of-held-requires-clause-ending
held_of-held-requires-clause-ending c = ending_at_most (items c.args.rules.now c.args.list.now) c.args.uses.now c.loop-p.ends c.args.class c.loop-p.live c.loop-p.need c.loop-p.p c.requires.uses c.loop-p.invariant

pub overflow_sub-live : goal.overflow_sub-live
overflow_sub-live c = ending_at_most (items c.args.rules.now c.args.list.now) c.args.uses.now c.loop-p.ends c.args.class c.loop-p.live c.loop-p.need c.loop-p.p c.requires.uses c.loop-p.invariant

pub returns-clause-need : goal.returns-clause-need
returns-clause-need c = finish (items c.args.rules.now c.args.list.now) c.args.uses.now c.loop-p.ends c.args.class c.loop-p.live c.loop-p.need c.loop-p.p c.loop-p.invariant
    (let e = length_items c.args.rules.now c.args.list.now in let past = c.loop-p-test.false in omega (arith, e, past))

pub loop-p-preserved : goal.loop-p-preserved
loop-p-preserved c =
    let is = item_is c.args.rules.now c.args.list.now c.loop-p.p c.index-list-p.result (slice_get_read c.args.list.now _ c.loop-p.p c.index-list-p.result refl c.loop-p-test.true c.index-list-p.is) in
    elim c.if-holds.branch [
      | then-holds w ↦ rw (w.live-is, w.need-is, w.ends-is) (turn_value (items c.args.rules.now c.args.list.now) c.args.uses.now c.loop-p.ends c.args.class c.loop-p.live c.loop-p.need c.loop-p.p
          c.requires.uses c.loop-p.invariant (item_of c.args.rules.now c.index-list-p.result) c.held_of-held.result w.greater-need.result w.greater-need.ensures is
          (has_of_test (items c.args.rules.now c.args.list.now) c.loop-p.p c.args.class (item_of c.args.rules.now c.index-list-p.result) is (sym w.if-holds.ensures)) c.held_of-held.ensures)
      | else-holds w ↦ rw (w.live-is, w.need-is, w.ends-is) (turn_other (items c.args.rules.now c.args.list.now) c.args.uses.now c.loop-p.ends c.args.class c.loop-p.live c.loop-p.need c.loop-p.p
          c.requires.uses c.loop-p.invariant (none_of_test (items c.args.rules.now c.args.list.now) c.loop-p.p c.args.class (item_of c.args.rules.now c.index-list-p.result) is (sym w.if-holds.ensures)))
    ]

pub bounds-ends-at : goal.bounds-ends-at
bounds-ends-at c =
    let is = item_is c.args.rules.now c.args.list.now c.loop-p.p c.index-list-p.result (slice_get_read c.args.list.now _ c.loop-p.p c.index-list-p.result refl c.loop-p-test.true c.index-list-p.is) in
    let has = has_of_test (items c.args.rules.now c.args.list.now) c.loop-p.p c.args.class (item_of c.args.rules.now c.index-list-p.result) is (sym c.if-holds.ensures) in
    let (used, later, within) = c.requires.uses.used c.loop-p.p has in
    let size = c.loop-p.invariant.size in
    omega (arith, within, size)

pub bounds-ends-at-then-holds : goal.bounds-ends-at-then-holds
bounds-ends-at-then-holds c =
    let is = item_is c.args.rules.now c.args.list.now c.loop-p.p c.index-list-p.result (slice_get_read c.args.list.now _ c.loop-p.p c.index-list-p.result refl c.loop-p-test.true c.index-list-p.is) in
    let has = has_of_test (items c.args.rules.now c.args.list.now) c.loop-p.p c.args.class (item_of c.args.rules.now c.index-list-p.result) is (sym c.if-holds.ensures) in
    let (used, later, within) = c.requires.uses.used c.loop-p.p has in
    let size = c.loop-p.invariant.size in
    omega (arith, within, size)

pub overflow_add-ends : goal.overflow_add-ends
overflow_add-ends c =
    let le = ends_at_most c.loop-p.invariant (get_or c.args.uses.now c.loop-p.p 0) in
    let test = c.loop-p-test.true in let few = c.requires.few in omega (arith, le, test, few)

pub overflow_add-live : goal.overflow_add-live
overflow_add-live c =
    let le = live_at_most c.loop-p.invariant in
    let test = c.loop-p-test.true in let few = c.requires.few in omega (arith, le, test, few)

pub overflow_add-held : goal.overflow_add-held
overflow_add-held c =
    let is = item_is c.args.rules.now c.args.list.now c.loop-p.p c.index-list-p.result (slice_get_read c.args.list.now _ c.loop-p.p c.index-list-p.result refl c.loop-p-test.true c.index-list-p.is) in
    let le = held_at_most (items c.args.rules.now c.args.list.now) c.args.uses.now c.loop-p.ends c.args.class c.loop-p.live c.loop-p.need c.loop-p.p c.requires.uses c.loop-p.invariant
    (item_of c.args.rules.now c.index-list-p.result) c.held_of-held.result is c.held_of-held.ensures in
    let test = c.loop-p-test.true in let few = c.requires.few in omega (arith, le, test, few)

pub held_of-held-requires-clause-known : goal.held_of-held-requires-clause-known
held_of-held-requires-clause-known c = known_at c.args.rules.now c.args.list.now c.loop-p.p c.index-list-p.result c.requires.known c.loop-p-test.true c.index-list-p.is

pub holds-requires : goal.holds-requires
holds-requires c = known_at c.args.rules.now c.args.list.now c.loop-p.p c.index-list-p.result c.requires.known c.loop-p-test.true c.index-list-p.is
