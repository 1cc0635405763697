use Rattle.std.proofs.Common.{◌+◌, ◌*◌, ◌/◌, ◌%◌, ◌<◌, [], length, refl, arith, subst, get_or, Some}
use Rattle.rex_dfa.specs.within.Positions.{NextOf}
use Rattle.rex_dfa.specs.within.Subset.{Numbers}
use Rattle.rex_dfa.proofs.MoreMoves.{moves_more, too_many_reached, numbered_of, reach_next, grown_on, grown_same, no_moves}
use Rattle.rex_dfa.proofs.subset.fill.Goals as goal

pub loop-moves-preserved : goal.loop-moves-preserved
loop-moves-preserved c =
    let done = c.len-done.result in
    let numbers : Numbers c.args.positions.now c.loop-moves.sets c.next_move.new.sets (NextOf c.args.positions.now (get_or c.loop-moves.sets (done / 256) []) (done % 256)) (Some c.in-Some.number)
    = subst (Numbers c.args.positions.now c.loop-moves.sets c.next_move.new.sets (NextOf c.args.positions.now (get_or c.loop-moves.sets (done / 256) []) (done % 256))) c.in-Some.is c.in_ok-number.ensures.number in
    let more = moves_more c.args.positions.now c.args.firsts.now.items c.loop-moves.sets c.next_move.new.sets (done / 256) (done % 256) (omega arith) (omega arith) c.loop-moves.invariant.building.sets_reached c.loop-moves.moves.items c.in-Some.number
    (omega arith) (omega arith) c.loop-moves.invariant.building numbers in
    let grown = (numbered_of c.args.positions.now c.args.firsts.now.items c.loop-moves.sets c.next_move.new.sets (NextOf c.args.positions.now (get_or c.loop-moves.sets (done / 256) []) (done % 256))
    (reach_next c.args.positions.now c.args.firsts.now.items c.loop-moves.sets c.next_move.new.sets (done / 256) (done % 256) (omega arith) (omega arith) c.loop-moves.invariant.building.sets_reached) (Some c.in-Some.number) c.in-Some.number refl
    c.loop-moves.invariant.building.few c.loop-moves.invariant.building.sets_reached numbers).grown in
    let longer = grown.longer in
    record {
      size = c.next_move.ensures.size;
      building = rw c.in_ok-push-in-Some.ensures.items more;
      grown = grown_on c.args.sets.now c.loop-moves.sets c.next_move.new.sets c.loop-moves.invariant.grown grown;
      within = omega (arith, c.in_ok-push-in-Some.ensures.len);
    }

pub returns-in-None : goal.returns-in-None
returns-in-None c = too_many_reached c.args.positions.now c.args.firsts.now.items c.loop-moves.sets c.next_move.new.sets (NextOf c.args.positions.now (get_or c.loop-moves.sets (c.len-done.result / 256) []) (c.len-done.result % 256))
    (reach_next c.args.positions.now c.args.firsts.now.items c.loop-moves.sets c.next_move.new.sets (c.len-done.result / 256) (c.len-done.result % 256) (omega arith) (omega arith) c.loop-moves.invariant.building.sets_reached)
    c.in_ok-number.field-0 c.in-None.is c.loop-moves.invariant.building.sets_reached c.in_ok-number.ensures.number

pub returns : goal.returns
returns c = (c.loop-moves.invariant.building, omega arith, c.loop-moves.invariant.grown)

pub loop-moves-init : goal.loop-moves-init
loop-moves-init c = record {
  size = c.in_ok-to.ensures.size;
  building = rw c.new-moves.ensures.items (no_moves c.args.positions.now c.args.firsts.now.items c.args.sets.now c.requires.reached c.requires.few);
  grown = grown_same c.args.sets.now c.args.sets.now refl;
  within = rw c.new-moves.ensures.items (omega arith);
}

pub next_move-requires-clause-known : goal.next_move-requires-clause-known
next_move-requires-clause-known c = λ b below.
    let done = c.len-done.result in
    let inner : 256 * (done / 256) + b < length c.loop-moves.moves.items = omega arith in
    rw c.deref.ensures.value (c.loop-moves.invariant.building.goes (done / 256) b (omega arith) inner)
