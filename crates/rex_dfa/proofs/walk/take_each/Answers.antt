-- One byte more.
use Rattle.std.proofs.Common.{◌≡◌, ◌<◌, ◌≤◌, ◌+◌, [], ◌∙◌, sym, subst, inr, arith}
use Rattle.std.proofs.lemmas.List.{get_or_default}
use Rattle.ck_base.specs.BitSet.{BitSet}
use Rattle.rex_model.specs.Meaning.{meaning}
use Rattle.rex_model.specs.Positions.{position_count, Takes}
use Rattle.rex_dfa.specs.within.Walked.{row}
use Rattle.rex_dfa.proofs.RowsFilled.{filled_begin, filled_more, filled_all}
use Rattle.rex_dfa.proofs.walk.take_each.Goals as goal

pub loop-byte-init : goal.loop-byte-init
loop-byte-init c = filled_begin 0 _ _

pub add_takers-requires-clause-room : goal.add_takers-requires-clause-room
add_takers-requires-clause-room c =
    let before = c.loop-byte.invariant in
    let below = c.loop-byte-test.true in
    let given : c.index_mut.result.now ≡ row c.loop-byte.takers.items c.loop-byte.byte = c.index_mut.ensures.value ∙ get_or_default c.loop-byte.takers.items c.loop-byte.byte _ (record { size = 0; words = [] }) (omega (arith, below, before.long, c.requires.bytes)) in
    let is = given ∙ before.rest c.loop-byte.byte (inr (omega arith)) in
    subst (λ (s : BitSet). c.args.k + position_count (meaning c.args.r.now) ≤ s.size) (sym is) (c.requires.room c.loop-byte.byte (omega (arith, below)))

pub add_takers-requires-clause-fits : goal.add_takers-requires-clause-fits
add_takers-requires-clause-fits c =
    let before = c.loop-byte.invariant in
    let below = c.loop-byte-test.true in
    let given : c.index_mut.result.now ≡ row c.loop-byte.takers.items c.loop-byte.byte = c.index_mut.ensures.value ∙ get_or_default c.loop-byte.takers.items c.loop-byte.byte _ (record { size = 0; words = [] }) (omega (arith, below, before.long, c.requires.bytes)) in
    let is = given ∙ before.rest c.loop-byte.byte (inr (omega arith)) in
    subst (λ (s : BitSet). s.size < 4294967296) (sym is) (c.requires.small c.loop-byte.byte (omega (arith, below)))

pub loop-byte-preserved : goal.loop-byte-preserved
loop-byte-preserved c =
    let before = c.loop-byte.invariant in
    let below = c.loop-byte-test.true in
    let given : c.index_mut.result.now ≡ row c.loop-byte.takers.items c.loop-byte.byte = c.index_mut.ensures.value ∙ get_or_default c.loop-byte.takers.items c.loop-byte.byte _ (record { size = 0; words = [] }) (omega (arith, below, before.long, c.requires.bytes)) in
    filled_more 0 c.loop-byte.byte (λ byte p. Takes (meaning c.args.r.now) c.args.k p byte) c.args.takers.now.items c.loop-byte.takers.items c.index_mut.result.now c.add_takers.new.to
    before (omega arith) (omega (arith, below, c.requires.bytes)) given c.add_takers.ensures

pub returns : goal.returns
returns c =
    let ended = c.loop-byte-test.false in
    filled_all 0 c.loop-byte.byte (λ byte p. Takes (meaning c.args.r.now) c.args.k p byte) c.args.takers.now.items c.loop-byte.takers.items c.loop-byte.invariant
    (λ i p inside h. (omega arith, omega (arith, inside, ended, c.requires.bytes)))
