-- One part more.
use Rattle.std.proofs.lemmas.Option.{slice_get-get_or}
use Rattle.cfg_model.specs.declared.symbol.Sym.TheVariants.{T}
use Rattle.cfg_model.specs.declared.parts.Part.{Part}
use Rattle.cfg_model.proofs.FirstLoops.{base_more, base_same, base_all}
use Rattle.cfg_model.proofs.first_sets.first_base.Goals as goal
use Rattle.cfg_model.proofs.first_sets.first_base.Goals.{in-T, in_default}

pub add_at-requires-clause-row : goal.add_at-requires-clause-row
add_at-requires-clause-row c =
    let zero_part : Part = record { left = 0; symbol = T 0 } in
    let parts = c.args.parts.now in
    let is = slice_get-get_or parts c.loop-part.part-index zero_part c.loop-part-test.true in
    (c.requires _ (c.loop-part.part-index, is)).0

pub add_at-requires-clause-number : goal.add_at-requires-clause-number
add_at-requires-clause-number c =
    let zero_part : Part = record { left = 0; symbol = T 0 } in
    let parts = c.args.parts.now in
    let is = slice_get-get_or parts c.loop-part.part-index zero_part c.loop-part-test.true in
    rw c.in-T.is at (c.requires _ (c.loop-part.part-index, is)).1

pub loop-part-preserved : goal.loop-part-preserved
loop-part-preserved c =
    let zero_part : Part = record { left = 0; symbol = T 0 } in
    let parts = c.args.parts.now in
    let i = c.loop-part.part-index in
    let is = slice_get-get_or parts i zero_part c.loop-part-test.true in
    elim c.match-part.branch [
      | in-T w ↦ rw w.rows-is (base_more parts i _ is c.args.count c.args.width w.in-T.t c.loop-part.rows.items w.add_at.new.rows.items w.in-T.is w.add_at.ensures.rows w.add_at.ensures.added c.loop-part.invariant)
      | in_default w ↦ rw w.rows-is (base_same parts i _ is c.args.count c.args.width c.loop-part.rows.items w.in_default.not-T c.loop-part.invariant)
    ]

pub returns : goal.returns
returns c = base_all c.args.parts.now c.args.count c.args.width c.loop-part.part-index c.loop-part.rows.items c.loop-part.invariant c.loop-part-test.false
