use Rattle.std.proofs.Common.{◌≡◌, length, arith, refl, subst}
use Rattle.std.proofs.lemmas.Option.{slice_get_read}
use Rattle.rex_dfa.proofs.PositionsOfRows.{BeforesUpTo, befores_more, befores_done}
use Rattle.rex_dfa.proofs.part_rows.add_befores.Goals as goal

pub loop-q-preserved : goal.loop-q-preserved
loop-q-preserved c =
    let there = slice_get_read c.args.follows.now (length c.args.follows.now) c.loop-q.q c.index-follows-q.result refl c.loop-q-test.true c.index-follows-q.is in
    befores_more c.args.follows.now c.args.p c.loop-q.q c.args.to.now c.loop-q.to c.add_if.new.to c.index-follows-q.result c.has.result there c.loop-q.invariant c.has.ensures c.add_if.ensures

pub returns : goal.returns
returns c =
    let at_end : c.loop-q.q ≡ length c.args.follows.now = omega arith in
    befores_done c.args.follows.now c.args.p c.args.to.now c.loop-q.to (subst (λ n. BeforesUpTo c.args.follows.now c.args.p n c.args.to.now c.loop-q.to) at_end c.loop-q.invariant)
