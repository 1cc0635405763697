-- Each turn goes on from what the frames came to before it.
use Rattle.std.proofs.Common.{arith, ◌∙◌, subst}
use Rattle.value_store.specs.Cells.{cells_of}
use Rattle.expr_lang.proofs.Evaluates.{keeps-both}
use Rattle.puma_eval.specs.within.Frames.{Leads}
use Rattle.puma_eval.proofs.Starting.{stands_kept}
use Rattle.puma_eval.proofs.Settling.{call_ready, settle_call, answer_ready, v_answer, settle_value, below_waits, settle_on, settle_stop, none_of_length}
use Rattle.puma_eval.proofs.frames.settle.Goals as goal

pub rule_in-it-requires : goal.rule_in-it-requires
rule_in-it-requires g c = (
  c.args.world.now.texts.source.now,
  c.args.world.now.texts.literals.now,
  (c.loop-top.invariant.settling c.requires.ready.0 c.requires.ready.1 c.requires.ready.2 c.requires.ready.3 c.requires.ready.4).frame.rule_there,
)

pub call_of-requires : goal.call_of-requires
call_of-requires g c = call_ready c.args.world.now c.args.routines.now (cells_of c.loop-top.cells.units) c.requires.ready.0 c.requires.ready.1 _ c.loop-top.waiting.items c.loop-top.top c.rule_in-it.result (stands_kept c.args.world.now c.args.routines.now (cells_of c.args.cells.now.units) (cells_of c.loop-top.cells.units) c.requires.ready.0 c.loop-top.invariant.kept c.requires.ready.2) (c.loop-top.invariant.settling c.requires.ready.0 c.requires.ready.1 c.requires.ready.2 c.requires.ready.3 c.requires.ready.4) (c.rule_in-it.ensures c.args.world.now.texts.source.now c.args.world.now.texts.literals.now) c.clause_at-clause.result c.clause_at-clause.ensures.is c.deref.result.now c.deref.ensures.value

pub returns-then-top-it-clause-ok : goal.returns-then-top-it-clause-ok
returns-then-top-it-clause-ok g c = λ setting main stands frame wait.
    settle_call c.args.world.now c.args.routines.now (cells_of c.loop-top.cells.units) setting main _ c.loop-top.waiting.items c.loop-top.top c.rule_in-it.result (stands_kept c.args.world.now c.args.routines.now (cells_of c.args.cells.now.units) (cells_of c.loop-top.cells.units) setting c.loop-top.invariant.kept stands) (c.loop-top.invariant.settling setting main stands frame wait) (c.rule_in-it.ensures c.args.world.now.texts.source.now c.args.world.now.texts.literals.now) c.clause_at-clause.result c.clause_at-clause.ensures.is (cells_of c.call_of.new.cells.units) c.deref.result.now c.in_ok-call.call c.push.new.self.items c.deref.ensures.value c.in_ok-call.ensures.kept
    c.in_ok-call.ensures.ok.0 c.in_ok-call.ensures.ok.1 c.in_ok-push.ensures.items

pub evaluate-requires : goal.evaluate-requires
evaluate-requires g c = answer_ready c.args.world.now c.args.routines.now (cells_of c.loop-top.cells.units) c.requires.ready.0 c.requires.ready.1 _ c.loop-top.waiting.items c.loop-top.top c.rule_in-it.result (stands_kept c.args.world.now c.args.routines.now (cells_of c.args.cells.now.units) (cells_of c.loop-top.cells.units) c.requires.ready.0 c.loop-top.invariant.kept c.requires.ready.2) (c.loop-top.invariant.settling c.requires.ready.0 c.requires.ready.1 c.requires.ready.2 c.requires.ready.3 c.requires.ready.4) (c.rule_in-it.ensures c.args.world.now.texts.source.now c.args.world.now.texts.literals.now) c.if-top-it.false c.deref-in-loop-top.result.now c.deref-in-loop-top.ensures.value

pub returns-in_default-clause-ok : goal.returns-in_default-clause-ok
returns-in_default-clause-ok g c = λ setting main stands frame wait.
    settle_value c.args.world.now c.args.routines.now (cells_of c.loop-top.cells.units) setting main _ c.loop-top.waiting.items c.loop-top.top c.rule_in-it.result (stands_kept c.args.world.now c.args.routines.now (cells_of c.args.cells.now.units) (cells_of c.loop-top.cells.units) setting c.loop-top.invariant.kept stands) (c.loop-top.invariant.settling setting main stands frame wait) (c.rule_in-it.ensures c.args.world.now.texts.source.now c.args.world.now.texts.literals.now) c.if-top-it.false (cells_of c.evaluate.new.cells.units) c.deref-in-loop-top.result.now c.in_ok-v.v c.deref-in-loop-top.ensures.value c.in_ok-v.ensures.kept c.in_ok-v.ensures.ok (none_of_length c.loop-top.waiting.items (omega (arith, c.in_default.ensures.cases.0, c.loop-top.waiting.ok)))

pub resume-requires-clause-ready : goal.resume-requires-clause-ready
resume-requires-clause-ready g c = (c.requires.ready.0, c.loop-top.top.routine, (stands_kept c.args.world.now c.args.routines.now (cells_of c.loop-top.cells.units) (cells_of c.evaluate.new.cells.units) c.requires.ready.0 c.in_ok-v.ensures.kept (stands_kept c.args.world.now c.args.routines.now (cells_of c.args.cells.now.units) (cells_of c.loop-top.cells.units) c.requires.ready.0 c.loop-top.invariant.kept c.requires.ready.2)), below_waits c.args.world.now c.args.routines.now (cells_of c.loop-top.cells.units) c.requires.ready.0 c.requires.ready.1 _ c.loop-top.waiting.items c.loop-top.top c.rule_in-it.result (stands_kept c.args.world.now c.args.routines.now (cells_of c.args.cells.now.units) (cells_of c.loop-top.cells.units) c.requires.ready.0 c.loop-top.invariant.kept c.requires.ready.2) (c.loop-top.invariant.settling c.requires.ready.0 c.requires.ready.1 c.requires.ready.2 c.requires.ready.3 c.requires.ready.4) (c.rule_in-it.ensures c.args.world.now.texts.source.now c.args.world.now.texts.literals.now) c.if-top-it.false (cells_of c.evaluate.new.cells.units) c.deref-in-loop-top.result.now c.in_ok-v.v c.deref-in-loop-top.ensures.value c.in_ok-v.ensures.kept c.in_ok-v.ensures.ok c.pop.new.self.items c.in-Some.below c.in-Some.ensures.items, v_answer c.args.world.now c.args.routines.now (cells_of c.loop-top.cells.units) c.requires.ready.0 c.requires.ready.1 _ c.loop-top.waiting.items c.loop-top.top c.rule_in-it.result (stands_kept c.args.world.now c.args.routines.now (cells_of c.args.cells.now.units) (cells_of c.loop-top.cells.units) c.requires.ready.0 c.loop-top.invariant.kept c.requires.ready.2) (c.loop-top.invariant.settling c.requires.ready.0 c.requires.ready.1 c.requires.ready.2 c.requires.ready.3 c.requires.ready.4) (c.rule_in-it.ensures c.args.world.now.texts.source.now c.args.world.now.texts.literals.now) c.if-top-it.false (cells_of c.evaluate.new.cells.units) c.deref-in-loop-top.result.now c.in_ok-v.v c.deref-in-loop-top.ensures.value c.in_ok-v.ensures.kept c.in_ok-v.ensures.ok)

pub loop-top-preserved : goal.loop-top-preserved
loop-top-preserved g c = record {
  kept = keeps-both (cells_of c.args.cells.now.units) (cells_of c.loop-top.cells.units) (cells_of c.resume.new.cells.units) c.loop-top.invariant.kept (keeps-both (cells_of c.loop-top.cells.units) (cells_of c.evaluate.new.cells.units) (cells_of c.resume.new.cells.units) c.in_ok-v.ensures.kept c.in_ok-next.ensures.kept);
  size = c.in_ok-next.ensures.size ∙ c.loop-top.invariant.size;
  settling = λ setting main stands frame wait.
      settle_on c.args.world.now c.args.routines.now (cells_of c.loop-top.cells.units) setting main _ c.loop-top.waiting.items c.loop-top.top c.rule_in-it.result (stands_kept c.args.world.now c.args.routines.now (cells_of c.args.cells.now.units) (cells_of c.loop-top.cells.units) setting c.loop-top.invariant.kept stands) (c.loop-top.invariant.settling setting main stands frame wait) (c.rule_in-it.ensures c.args.world.now.texts.source.now c.args.world.now.texts.literals.now) c.if-top-it.false (cells_of c.evaluate.new.cells.units) c.deref-in-loop-top.result.now c.in_ok-v.v c.deref-in-loop-top.ensures.value c.in_ok-v.ensures.kept c.in_ok-v.ensures.ok c.pop.new.self.items c.in-Some.below c.in-Some.ensures.items (cells_of c.resume.new.cells.units) c.in-On.next c.in_ok-next.ensures.kept
      (subst (Leads c.args.world.now c.args.routines.now (cells_of c.resume.new.cells.units) setting _ c.in-Some.below.routine) c.in-On.is (c.in_ok-next.ensures.ok setting c.loop-top.top.routine (stands_kept c.args.world.now c.args.routines.now (cells_of c.loop-top.cells.units) (cells_of c.evaluate.new.cells.units) setting c.in_ok-v.ensures.kept (stands_kept c.args.world.now c.args.routines.now (cells_of c.args.cells.now.units) (cells_of c.loop-top.cells.units) setting c.loop-top.invariant.kept stands)) (below_waits c.args.world.now c.args.routines.now (cells_of c.loop-top.cells.units) setting main _ c.loop-top.waiting.items c.loop-top.top c.rule_in-it.result (stands_kept c.args.world.now c.args.routines.now (cells_of c.args.cells.now.units) (cells_of c.loop-top.cells.units) setting c.loop-top.invariant.kept stands) (c.loop-top.invariant.settling setting main stands frame wait) (c.rule_in-it.ensures c.args.world.now.texts.source.now c.args.world.now.texts.literals.now) c.if-top-it.false (cells_of c.evaluate.new.cells.units) c.deref-in-loop-top.result.now c.in_ok-v.v c.deref-in-loop-top.ensures.value c.in_ok-v.ensures.kept c.in_ok-v.ensures.ok c.pop.new.self.items c.in-Some.below c.in-Some.ensures.items) (v_answer c.args.world.now c.args.routines.now (cells_of c.loop-top.cells.units) setting main _ c.loop-top.waiting.items c.loop-top.top c.rule_in-it.result (stands_kept c.args.world.now c.args.routines.now (cells_of c.args.cells.now.units) (cells_of c.loop-top.cells.units) setting c.loop-top.invariant.kept stands) (c.loop-top.invariant.settling setting main stands frame wait) (c.rule_in-it.ensures c.args.world.now.texts.source.now c.args.world.now.texts.literals.now) c.if-top-it.false (cells_of c.evaluate.new.cells.units) c.deref-in-loop-top.result.now c.in_ok-v.v c.deref-in-loop-top.ensures.value c.in_ok-v.ensures.kept c.in_ok-v.ensures.ok)))
      (keeps-both (cells_of c.loop-top.cells.units) (cells_of c.evaluate.new.cells.units) (cells_of c.resume.new.cells.units) c.in_ok-v.ensures.kept c.in_ok-next.ensures.kept);
}

pub returns-in-NoRule-clause-ok : goal.returns-in-NoRule-clause-ok
returns-in-NoRule-clause-ok g c = λ setting main stands frame wait.
    settle_stop c.args.world.now c.args.routines.now (cells_of c.loop-top.cells.units) setting main _ c.loop-top.waiting.items c.loop-top.top c.rule_in-it.result (stands_kept c.args.world.now c.args.routines.now (cells_of c.args.cells.now.units) (cells_of c.loop-top.cells.units) setting c.loop-top.invariant.kept stands) (c.loop-top.invariant.settling setting main stands frame wait) (c.rule_in-it.ensures c.args.world.now.texts.source.now c.args.world.now.texts.literals.now) c.if-top-it.false (cells_of c.evaluate.new.cells.units) c.deref-in-loop-top.result.now c.in_ok-v.v c.deref-in-loop-top.ensures.value c.in_ok-v.ensures.kept c.in_ok-v.ensures.ok c.pop.new.self.items c.in-Some.below c.in-Some.ensures.items (cells_of c.resume.new.cells.units) c.in-NoRule.q
    (subst (Leads c.args.world.now c.args.routines.now (cells_of c.resume.new.cells.units) setting _ c.in-Some.below.routine) c.in-NoRule.is (c.in_ok-next.ensures.ok setting c.loop-top.top.routine (stands_kept c.args.world.now c.args.routines.now (cells_of c.loop-top.cells.units) (cells_of c.evaluate.new.cells.units) setting c.in_ok-v.ensures.kept (stands_kept c.args.world.now c.args.routines.now (cells_of c.args.cells.now.units) (cells_of c.loop-top.cells.units) setting c.loop-top.invariant.kept stands)) (below_waits c.args.world.now c.args.routines.now (cells_of c.loop-top.cells.units) setting main _ c.loop-top.waiting.items c.loop-top.top c.rule_in-it.result (stands_kept c.args.world.now c.args.routines.now (cells_of c.args.cells.now.units) (cells_of c.loop-top.cells.units) setting c.loop-top.invariant.kept stands) (c.loop-top.invariant.settling setting main stands frame wait) (c.rule_in-it.ensures c.args.world.now.texts.source.now c.args.world.now.texts.literals.now) c.if-top-it.false (cells_of c.evaluate.new.cells.units) c.deref-in-loop-top.result.now c.in_ok-v.v c.deref-in-loop-top.ensures.value c.in_ok-v.ensures.kept c.in_ok-v.ensures.ok c.pop.new.self.items c.in-Some.below c.in-Some.ensures.items) (v_answer c.args.world.now c.args.routines.now (cells_of c.loop-top.cells.units) setting main _ c.loop-top.waiting.items c.loop-top.top c.rule_in-it.result (stands_kept c.args.world.now c.args.routines.now (cells_of c.args.cells.now.units) (cells_of c.loop-top.cells.units) setting c.loop-top.invariant.kept stands) (c.loop-top.invariant.settling setting main stands frame wait) (c.rule_in-it.ensures c.args.world.now.texts.source.now c.args.world.now.texts.literals.now) c.if-top-it.false (cells_of c.evaluate.new.cells.units) c.deref-in-loop-top.result.now c.in_ok-v.v c.deref-in-loop-top.ensures.value c.in_ok-v.ensures.kept c.in_ok-v.ensures.ok)))
