-- A value takes the first register that isn't busy; another place changes nothing.
use Rattle.beg_model.specs.Items.{item_of, items}
use Rattle.beg_registers.proofs.ItemsRead.{item_is, length_items, known_at}
use Rattle.std.proofs.Common.{refl, sym, arith}
use Rattle.std.proofs.lemmas.Option.{slice_get_read, slice_get_within}
use Rattle.beg_registers.proofs.PassSoFar.{has_of_test, none_of_test, found_within, turn_value, turn_other}
use Rattle.beg_registers.proofs.assigning.assign_class.Goals as goal
use Rattle.beg_registers.proofs.assigning.assign_class.Goals.{then-holds, else-holds}

pub overflow_add-until : goal.overflow_add-until
overflow_add-until c =
    let is = item_is c.args.rules.now c.args.list.now c.loop-p.p c.index-list-p.result (slice_get_read c.args.list.now _ c.loop-p.p c.index-list-p.result refl c.loop-p-test.true c.index-list-p.is) in
    let has = has_of_test (items c.args.rules.now c.args.list.now) c.loop-p.p c.args.class (item_of c.args.rules.now c.index-list-p.result) is (sym c.if-holds.ensures) in
    let (used, later, within) = c.requires.uses.used c.loop-p.p has in
    omega (arith, within, c.requires.few, length_items c.args.rules.now c.args.list.now)

pub bounds-until-k : goal.bounds-until-k
bounds-until-k c =
    let is = item_is c.args.rules.now c.args.list.now c.loop-p.p c.index-list-p.result (slice_get_read c.args.list.now _ c.loop-p.p c.index-list-p.result refl c.loop-p-test.true c.index-list-p.is) in
    let has = has_of_test (items c.args.rules.now c.args.list.now) c.loop-p.p c.args.class (item_of c.args.rules.now c.index-list-p.result) is (sym c.if-holds.ensures) in
    let k = c.idle_register-k.ensures in
    found_within (items c.args.rules.now c.args.list.now) c.args.uses.now c.args.class c.args.until.now c.args.registers.now c.requires.uses
    c.loop-p.until c.loop-p.registers c.loop-p.p c.loop-p.invariant (item_of c.args.rules.now c.index-list-p.result) is c.idle_register-k.result k.before k.idle has c.requires.room

pub overflow_cast-registers : goal.overflow_cast-registers
overflow_cast-registers c =
    let le = c.idle_register-k.ensures.within in
    let have = c.loop-p.invariant.have in
    let few = c.requires.registers in
    omega (arith, le, have, few)

pub loop-p-preserved : goal.loop-p-preserved
loop-p-preserved c =
    let is = item_is c.args.rules.now c.args.list.now c.loop-p.p c.index-list-p.result (slice_get_read c.args.list.now _ c.loop-p.p c.index-list-p.result refl c.loop-p-test.true c.index-list-p.is) in
    elim c.if-holds.branch [
      | then-holds w ↦ (let has = has_of_test (items c.args.rules.now c.args.list.now) c.loop-p.p c.args.class (item_of c.args.rules.now c.index-list-p.result) is (sym w.if-holds.ensures) in
          let k = w.idle_register-k.ensures in
          let size = c.loop-p.invariant.size in
          let same = c.requires.size in
          let test = c.loop-p-test.true in
          rw (w.until-is, w.registers-is) (turn_value (items c.args.rules.now c.args.list.now) c.args.uses.now c.args.class c.args.until.now c.args.registers.now c.requires.uses
          c.loop-p.until c.loop-p.registers c.loop-p.p c.loop-p.invariant (item_of c.args.rules.now c.index-list-p.result) is w.idle_register-k.result k.before k.idle has c.requires.room
          (omega (arith, size, same, test))))
      | else-holds w ↦ rw (w.until-is, w.registers-is) (turn_other (items c.args.rules.now c.args.list.now) c.args.uses.now c.args.class c.args.until.now c.args.registers.now c.requires.uses
          c.loop-p.until c.loop-p.registers c.loop-p.p c.loop-p.invariant
          (none_of_test (items c.args.rules.now c.args.list.now) c.loop-p.p c.args.class (item_of c.args.rules.now c.index-list-p.result) is (sym w.if-holds.ensures)))
    ]

pub returns-clause-values : goal.returns-clause-values
returns-clause-values c = λ p h.
    (let within = slice_get_within (items c.args.rules.now c.args.list.now) p h.item h.is_item in
    let test = c.loop-p-test.false in
    c.loop-p.invariant.values p (omega (arith, within, test, length_items c.args.rules.now c.args.list.now)) h)

pub holds-requires : goal.holds-requires
holds-requires c = known_at c.args.rules.now c.args.list.now c.loop-p.p c.index-list-p.result c.requires.known c.loop-p-test.true c.index-list-p.is

pub idle_register-k-requires : goal.idle_register-k-requires
idle_register-k-requires c = known_at c.args.rules.now c.args.list.now c.loop-p.p c.index-list-p.result c.requires.known c.loop-p-test.true c.index-list-p.is
