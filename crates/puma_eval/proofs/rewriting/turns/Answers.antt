-- Each turn is one call.
use Rattle.std.proofs.Common.{arith, refl, subst, ◌∙◌}
use Rattle.value_store.specs.Cells.{cells_of}
use Rattle.expr_lang.proofs.Evaluates.{keeps-none, keeps-both}
use Rattle.puma_eval.specs.within.Frames.{Leads, Settles}
use Rattle.puma_eval.proofs.Starting.{stands_kept}
use Rattle.puma_eval.proofs.Turns.{turn_begin, turn_none, frame_ready, turn_call, turn_done, turn_spent}
use Rattle.puma_eval.proofs.rewriting.turns.Goals as goal

pub loop-turn-init : goal.loop-turn-init
loop-turn-init g c = record {
  kept = keeps-none (cells_of c.args.cells.now.units);
  size = refl;
  turning = λ setting stands. turn_begin c.args.world.now c.args.routines.now (cells_of c.args.cells.now.units) setting c.args.main c.new-waiting.result.items c.new-waiting.ensures.items c.requires.args;
}

pub start-started-requires-clause-ready : goal.start-started-requires-clause-ready
start-started-requires-clause-ready g c = (c.requires.ready.0, (stands_kept c.args.world.now c.args.routines.now (cells_of c.args.cells.now.units) (cells_of c.loop-turn.cells.units) c.requires.ready.0 c.loop-turn.invariant.kept c.requires.ready.1))

pub returns-in-NoRule-clause-answers : goal.returns-in-NoRule-clause-answers
returns-in-NoRule-clause-answers g c = λ setting stands. rw c.done.ensures
    (turn_none c.args.world.now c.args.routines.now (cells_of c.loop-turn.cells.units) setting c.args.main.routine _ c.loop-turn.waiting.items c.loop-turn.call c.loop-turn.turn (c.loop-turn.invariant.turning setting stands) c.in-NoRule.q (subst (Leads c.args.world.now c.args.routines.now (cells_of c.start-started.new.cells.units) setting _ c.loop-turn.call.routine) c.in-NoRule.is (c.in-Ok.ensures.ok setting (stands_kept c.args.world.now c.args.routines.now (cells_of c.args.cells.now.units) (cells_of c.loop-turn.cells.units) setting c.loop-turn.invariant.kept stands))), (let test = c.loop-turn-test.true in omega (arith, test)))

pub settle-settled-requires-clause-ready : goal.settle-settled-requires-clause-ready
settle-settled-requires-clause-ready g c = (c.requires.ready.0, c.args.main.routine, (stands_kept c.args.world.now c.args.routines.now (cells_of c.loop-turn.cells.units) (cells_of c.start-started.new.cells.units) c.requires.ready.0 c.in-Ok.ensures.kept (stands_kept c.args.world.now c.args.routines.now (cells_of c.args.cells.now.units) (cells_of c.loop-turn.cells.units) c.requires.ready.0 c.loop-turn.invariant.kept c.requires.ready.1)), (frame_ready c.args.world.now c.args.routines.now (cells_of c.loop-turn.cells.units) c.requires.ready.0 c.args.main.routine _ c.loop-turn.waiting.items c.loop-turn.call c.loop-turn.turn (c.loop-turn.invariant.turning c.requires.ready.0 c.requires.ready.1) (cells_of c.start-started.new.cells.units) c.in-Ok.ensures.kept c.in-On.frame (subst (Leads c.args.world.now c.args.routines.now (cells_of c.start-started.new.cells.units) c.requires.ready.0 _ c.loop-turn.call.routine) c.in-On.is (c.in-Ok.ensures.ok c.requires.ready.0 (stands_kept c.args.world.now c.args.routines.now (cells_of c.args.cells.now.units) (cells_of c.loop-turn.cells.units) c.requires.ready.0 c.loop-turn.invariant.kept c.requires.ready.1)))).0, (frame_ready c.args.world.now c.args.routines.now (cells_of c.loop-turn.cells.units) c.requires.ready.0 c.args.main.routine _ c.loop-turn.waiting.items c.loop-turn.call c.loop-turn.turn (c.loop-turn.invariant.turning c.requires.ready.0 c.requires.ready.1) (cells_of c.start-started.new.cells.units) c.in-Ok.ensures.kept c.in-On.frame (subst (Leads c.args.world.now c.args.routines.now (cells_of c.start-started.new.cells.units) c.requires.ready.0 _ c.loop-turn.call.routine) c.in-On.is (c.in-Ok.ensures.ok c.requires.ready.0 (stands_kept c.args.world.now c.args.routines.now (cells_of c.args.cells.now.units) (cells_of c.loop-turn.cells.units) c.requires.ready.0 c.loop-turn.invariant.kept c.requires.ready.1)))).1)

pub returns-in-Done-clause-answers : goal.returns-in-Done-clause-answers
returns-in-Done-clause-answers g c = λ setting stands. rw c.done-in-Done.ensures
    (turn_done c.args.world.now c.args.routines.now (cells_of c.loop-turn.cells.units) setting c.args.main.routine _ c.loop-turn.waiting.items c.loop-turn.call c.loop-turn.turn (c.loop-turn.invariant.turning setting stands) (cells_of c.start-started.new.cells.units) c.in-Ok.ensures.kept c.in-On.frame (subst (Leads c.args.world.now c.args.routines.now (cells_of c.start-started.new.cells.units) setting _ c.loop-turn.call.routine) c.in-On.is (c.in-Ok.ensures.ok setting (stands_kept c.args.world.now c.args.routines.now (cells_of c.args.cells.now.units) (cells_of c.loop-turn.cells.units) setting c.loop-turn.invariant.kept stands))) (cells_of c.settle-settled.new.cells.units) c.settle-settled.new.waiting.items c.in-Done.outcome c.args.budget (let test = c.loop-turn-test.true in omega (arith, test)) _ refl (subst (Settles c.args.world.now c.args.routines.now (cells_of c.settle-settled.new.cells.units) setting c.args.main.routine _ c.settle-settled.new.waiting.items) c.in-Done.is (c.in-Ok-settled.ensures.ok setting c.args.main.routine (stands_kept c.args.world.now c.args.routines.now (cells_of c.loop-turn.cells.units) (cells_of c.start-started.new.cells.units) setting c.in-Ok.ensures.kept (stands_kept c.args.world.now c.args.routines.now (cells_of c.args.cells.now.units) (cells_of c.loop-turn.cells.units) setting c.loop-turn.invariant.kept stands)) (frame_ready c.args.world.now c.args.routines.now (cells_of c.loop-turn.cells.units) setting c.args.main.routine _ c.loop-turn.waiting.items c.loop-turn.call c.loop-turn.turn (c.loop-turn.invariant.turning setting stands) (cells_of c.start-started.new.cells.units) c.in-Ok.ensures.kept c.in-On.frame (subst (Leads c.args.world.now c.args.routines.now (cells_of c.start-started.new.cells.units) setting _ c.loop-turn.call.routine) c.in-On.is (c.in-Ok.ensures.ok setting (stands_kept c.args.world.now c.args.routines.now (cells_of c.args.cells.now.units) (cells_of c.loop-turn.cells.units) setting c.loop-turn.invariant.kept stands)))).0 (frame_ready c.args.world.now c.args.routines.now (cells_of c.loop-turn.cells.units) setting c.args.main.routine _ c.loop-turn.waiting.items c.loop-turn.call c.loop-turn.turn (c.loop-turn.invariant.turning setting stands) (cells_of c.start-started.new.cells.units) c.in-Ok.ensures.kept c.in-On.frame (subst (Leads c.args.world.now c.args.routines.now (cells_of c.start-started.new.cells.units) setting _ c.loop-turn.call.routine) c.in-On.is (c.in-Ok.ensures.ok setting (stands_kept c.args.world.now c.args.routines.now (cells_of c.args.cells.now.units) (cells_of c.loop-turn.cells.units) setting c.loop-turn.invariant.kept stands)))).1))).0

pub returns-in-Done-clause-gives : goal.returns-in-Done-clause-gives
returns-in-Done-clause-gives g c = rw c.done-in-Done.ensures
    (turn_done c.args.world.now c.args.routines.now (cells_of c.loop-turn.cells.units) c.requires.ready.0 c.args.main.routine _ c.loop-turn.waiting.items c.loop-turn.call c.loop-turn.turn (c.loop-turn.invariant.turning c.requires.ready.0 c.requires.ready.1) (cells_of c.start-started.new.cells.units) c.in-Ok.ensures.kept c.in-On.frame (subst (Leads c.args.world.now c.args.routines.now (cells_of c.start-started.new.cells.units) c.requires.ready.0 _ c.loop-turn.call.routine) c.in-On.is (c.in-Ok.ensures.ok c.requires.ready.0 (stands_kept c.args.world.now c.args.routines.now (cells_of c.args.cells.now.units) (cells_of c.loop-turn.cells.units) c.requires.ready.0 c.loop-turn.invariant.kept c.requires.ready.1))) (cells_of c.settle-settled.new.cells.units) c.settle-settled.new.waiting.items c.in-Done.outcome c.args.budget (let test = c.loop-turn-test.true in omega (arith, test)) _ refl (subst (Settles c.args.world.now c.args.routines.now (cells_of c.settle-settled.new.cells.units) c.requires.ready.0 c.args.main.routine _ c.settle-settled.new.waiting.items) c.in-Done.is (c.in-Ok-settled.ensures.ok c.requires.ready.0 c.args.main.routine (stands_kept c.args.world.now c.args.routines.now (cells_of c.loop-turn.cells.units) (cells_of c.start-started.new.cells.units) c.requires.ready.0 c.in-Ok.ensures.kept (stands_kept c.args.world.now c.args.routines.now (cells_of c.args.cells.now.units) (cells_of c.loop-turn.cells.units) c.requires.ready.0 c.loop-turn.invariant.kept c.requires.ready.1)) (frame_ready c.args.world.now c.args.routines.now (cells_of c.loop-turn.cells.units) c.requires.ready.0 c.args.main.routine _ c.loop-turn.waiting.items c.loop-turn.call c.loop-turn.turn (c.loop-turn.invariant.turning c.requires.ready.0 c.requires.ready.1) (cells_of c.start-started.new.cells.units) c.in-Ok.ensures.kept c.in-On.frame (subst (Leads c.args.world.now c.args.routines.now (cells_of c.start-started.new.cells.units) c.requires.ready.0 _ c.loop-turn.call.routine) c.in-On.is (c.in-Ok.ensures.ok c.requires.ready.0 (stands_kept c.args.world.now c.args.routines.now (cells_of c.args.cells.now.units) (cells_of c.loop-turn.cells.units) c.requires.ready.0 c.loop-turn.invariant.kept c.requires.ready.1)))).0 (frame_ready c.args.world.now c.args.routines.now (cells_of c.loop-turn.cells.units) c.requires.ready.0 c.args.main.routine _ c.loop-turn.waiting.items c.loop-turn.call c.loop-turn.turn (c.loop-turn.invariant.turning c.requires.ready.0 c.requires.ready.1) (cells_of c.start-started.new.cells.units) c.in-Ok.ensures.kept c.in-On.frame (subst (Leads c.args.world.now c.args.routines.now (cells_of c.start-started.new.cells.units) c.requires.ready.0 _ c.loop-turn.call.routine) c.in-On.is (c.in-Ok.ensures.ok c.requires.ready.0 (stands_kept c.args.world.now c.args.routines.now (cells_of c.args.cells.now.units) (cells_of c.loop-turn.cells.units) c.requires.ready.0 c.loop-turn.invariant.kept c.requires.ready.1)))).1))).1

pub loop-turn-preserved : goal.loop-turn-preserved
loop-turn-preserved g c = record {
  kept = keeps-both (cells_of c.args.cells.now.units) (cells_of c.loop-turn.cells.units) (cells_of c.settle-settled.new.cells.units) c.loop-turn.invariant.kept (keeps-both (cells_of c.loop-turn.cells.units) (cells_of c.start-started.new.cells.units) (cells_of c.settle-settled.new.cells.units) c.in-Ok.ensures.kept c.in-Ok-settled.ensures.kept);
  size = c.in-Ok-settled.ensures.size ∙ c.in-Ok.ensures.size ∙ c.loop-turn.invariant.size;
  turning = λ setting stands. turn_call c.args.world.now c.args.routines.now (cells_of c.loop-turn.cells.units) setting c.args.main.routine _ c.loop-turn.waiting.items c.loop-turn.call c.loop-turn.turn (c.loop-turn.invariant.turning setting stands) (cells_of c.start-started.new.cells.units) c.in-Ok.ensures.kept c.in-On.frame (subst (Leads c.args.world.now c.args.routines.now (cells_of c.start-started.new.cells.units) setting _ c.loop-turn.call.routine) c.in-On.is (c.in-Ok.ensures.ok setting (stands_kept c.args.world.now c.args.routines.now (cells_of c.args.cells.now.units) (cells_of c.loop-turn.cells.units) setting c.loop-turn.invariant.kept stands))) (cells_of c.settle-settled.new.cells.units) c.settle-settled.new.waiting.items c.in-Call.next (subst (Settles c.args.world.now c.args.routines.now (cells_of c.settle-settled.new.cells.units) setting c.args.main.routine _ c.settle-settled.new.waiting.items) c.in-Call.is (c.in-Ok-settled.ensures.ok setting c.args.main.routine (stands_kept c.args.world.now c.args.routines.now (cells_of c.loop-turn.cells.units) (cells_of c.start-started.new.cells.units) setting c.in-Ok.ensures.kept (stands_kept c.args.world.now c.args.routines.now (cells_of c.args.cells.now.units) (cells_of c.loop-turn.cells.units) setting c.loop-turn.invariant.kept stands)) (frame_ready c.args.world.now c.args.routines.now (cells_of c.loop-turn.cells.units) setting c.args.main.routine _ c.loop-turn.waiting.items c.loop-turn.call c.loop-turn.turn (c.loop-turn.invariant.turning setting stands) (cells_of c.start-started.new.cells.units) c.in-Ok.ensures.kept c.in-On.frame (subst (Leads c.args.world.now c.args.routines.now (cells_of c.start-started.new.cells.units) setting _ c.loop-turn.call.routine) c.in-On.is (c.in-Ok.ensures.ok setting (stands_kept c.args.world.now c.args.routines.now (cells_of c.args.cells.now.units) (cells_of c.loop-turn.cells.units) setting c.loop-turn.invariant.kept stands)))).0 (frame_ready c.args.world.now c.args.routines.now (cells_of c.loop-turn.cells.units) setting c.args.main.routine _ c.loop-turn.waiting.items c.loop-turn.call c.loop-turn.turn (c.loop-turn.invariant.turning setting stands) (cells_of c.start-started.new.cells.units) c.in-Ok.ensures.kept c.in-On.frame (subst (Leads c.args.world.now c.args.routines.now (cells_of c.start-started.new.cells.units) setting _ c.loop-turn.call.routine) c.in-On.is (c.in-Ok.ensures.ok setting (stands_kept c.args.world.now c.args.routines.now (cells_of c.args.cells.now.units) (cells_of c.loop-turn.cells.units) setting c.loop-turn.invariant.kept stands)))).1));
}

pub returns-clause-answers : goal.returns-clause-answers
returns-clause-answers g c = λ setting stands. (
  refl,
  λ r k come.
      (let over = turn_spent c.args.world.now c.args.routines.now (cells_of c.loop-turn.cells.units) setting c.args.main.routine _ c.loop-turn.waiting.items c.loop-turn.call c.loop-turn.turn (c.loop-turn.invariant.turning setting stands) r k come in let test = c.loop-turn-test.false in omega (arith, over, test)),
)
