use Rattle.std.proofs.Common.{◌<◌, length, refl, arith, subst}
use Rattle.std.proofs.lemmas.Option.{slice_get_read}
use Rattle.ck_base.specs.BitSet.{Has}
use Rattle.rex_dfa.specs.within.Subset.{Numbers}
use Rattle.rex_dfa.proofs.MoreStarts.{starts_more, starts_full}
use Rattle.rex_dfa.proofs.subset.starts_of.Goals as goal

pub returns-in-None : goal.returns-in-None
returns-in-None c =
    let within : c.loop-first.first-index < length c.args.firsts.now = omega arith in
    let there = slice_get_read c.args.firsts.now (length c.args.firsts.now) c.loop-first.first-index c.first-item.result refl within c.first-item.is in
    starts_full c.args.positions.now c.args.firsts.now c.loop-first.sets c.number_of.new.sets c.loop-first.first-index within c.first-item.result there
    c.loop-first.starts.items c.in_ok-number.field-0 c.in-None.is c.loop-first.invariant c.in_ok-number.ensures

pub loop-first-preserved : goal.loop-first-preserved
loop-first-preserved c =
    let within : c.loop-first.first-index < length c.args.firsts.now = omega arith in
    let there = slice_get_read c.args.firsts.now (length c.args.firsts.now) c.loop-first.first-index c.first-item.result refl within c.first-item.is in
    rw c.in_ok-push-in-Some.ensures.items (starts_more c.args.positions.now c.args.firsts.now c.loop-first.sets c.number_of.new.sets c.loop-first.first-index within c.first-item.result there
    c.loop-first.starts.items c.in-Some.number c.loop-first.invariant
    (subst (Numbers c.args.positions.now c.loop-first.sets c.number_of.new.sets (Has c.first-item.result)) c.in-Some.is c.in_ok-number.ensures))
