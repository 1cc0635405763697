-- One byte more, or no state.
use Rattle.std.proofs.Common.{◌+◌, ◌*◌, ◌<◌, get_or, length, refl, arith}
use Rattle.rex_model.specs.TableMeaning.{automaton_of}
use Rattle.scan_driver.proofs.FurthestRuns.{goes_on, stops}
use Rattle.scan_driver.proofs.running.furthest.Goals as goal

pub returns-then-next : goal.returns-then-next
returns-then-next c = stops (automaton_of c.args.dfa.now) c.args.start c.args.text.now c.loop-i.i c.loop-i.state _ c.loop-i-test.true c.loop-i.invariant refl
    (rw c.as_slice-moves.ensures.value at c.if-next.true)

pub loop-i-preserved : goal.loop-i-preserved
loop-i-preserved c =
    let dfa = automaton_of c.args.dfa.now in
    let byte : get_or c.args.text.now c.loop-i.i 0 < 256 = (c.type_inv.text c.loop-i.i).fits in
    let inside : 256 * c.loop-i.state + get_or c.args.text.now c.loop-i.i 0 < length dfa.moves
    = let below = c.loop-i.invariant.state_of in omega (arith, c.requires.dfa.count) in
    let some = rw c.as_slice-moves.ensures.value at c.if-next.false in
    rw c.as_slice-moves.ensures.value (goes_on dfa c.args.start c.args.text.now c.loop-i.i c.loop-i.state _ c.loop-i-test.true c.loop-i.invariant refl
    (c.requires.dfa.inside _ 0 inside) some)
