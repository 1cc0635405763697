use Rattle.std.proofs.Common.{◌≡◌, ◌<◌, ◌-◌, length, map, drop, take, length-set, length-take, arith, ◌∙◌, sym, subst}
use Rattle.value_store.specs.Cells.{cells_of}
use Rattle.expr_lang.specs.Meaning.{meaning, expressions_of, tokens_of}
use Rattle.expr_lang.specs.Evaluated.{EvaluatedAll}
use Rattle.expr_lang.proofs.Meanings.{meaning-Int, meaning-Bool, meaning-Text, meaning-Var, meaning-Neg, meaning-Not, meaning-Binary, meaning-If, meaning-Call, meaning-Make}
use Rattle.expr_lang.proofs.Evaluates.{evaluated_number, evaluated_truth, evaluated_string, evaluated_var, evaluated_negative, evaluated_negated, on_ok, ready_negated, ready_make, make_values, evaluated_make_result, count-exs, evaluated_binary, evaluated_if, evaluated_if_not, ready_call, evaluated_call_result, call_values, args_more, args_ready, depth_at, units_at, units_drop, drop_all, take_none, evaluated_all_none, var_within, ready_negative, ready_left, ready_test, ready_right, ready_then, ready_else}
use Rattle.expr_lang.proofs.evaluation.+eval.Goals as goal

pub eval-returns-in-Int-clause-ok : goal.eval-returns-in-Int-clause-ok
eval-returns-in-Int-clause-ok t c = rw (c.in-Int.is, meaning-Int, c.int_value.ensures) (evaluated_number _ _ _ _ _ _)

pub eval-returns-in-Bool-clause-ok : goal.eval-returns-in-Bool-clause-ok
eval-returns-in-Bool-clause-ok t c = rw (c.in-Bool.is, meaning-Bool) (evaluated_truth _ _ _ _ _ _)

pub eval-returns-in-Text-clause-ok : goal.eval-returns-in-Text-clause-ok
eval-returns-in-Text-clause-ok t c = rw (c.in-Text.is, meaning-Text) (evaluated_string _ _ _ _ _ _)

pub eval-returns-in-Var-clause-ok : goal.eval-returns-in-Var-clause-ok
eval-returns-in-Var-clause-ok t c = rw (c.in-Var.is, meaning-Var) (evaluated_var _ _ _ _ _ _ _ c.value_at.ensures)

pub eval-value_at-requires : goal.eval-value_at-requires
eval-value_at-requires t c = var_within c.in-Var.i (rw (c.in-Var.is, meaning-Var) at c.requires)

pub eval-eval-requires : goal.eval-eval-requires
eval-eval-requires t c = ((let d = rw (c.in-Neg.is, meaning-Neg) at c.decreases in omega (arith, d)), ready_negative _ (rw (c.in-Neg.is, meaning-Neg) at c.requires))

pub eval-eval-requires-in-Binary : goal.eval-eval-requires-in-Binary
eval-eval-requires-in-Binary t c = ((let d = rw (c.in-Binary.is, meaning-Binary) at c.decreases in omega (arith, d)), ready_left c.in-Binary.op _ (meaning c.args.texts.now.source.now c.args.texts.now.literals.now c.in-Binary.b.now) (rw (c.in-Binary.is, meaning-Binary) at c.requires))

pub eval-eval-requires-in-If : goal.eval-eval-requires-in-If
eval-eval-requires-in-If t c = ((let d = rw (c.in-If.is, meaning-If) at c.decreases in omega (arith, d)), ready_test _ (meaning c.args.texts.now.source.now c.args.texts.now.literals.now c.in-If.a.now) (meaning c.args.texts.now.source.now c.args.texts.now.literals.now c.in-If.b.now) (rw (c.in-If.is, meaning-If) at c.requires))

pub eval-eval-requires-in-Binary-2 : goal.eval-eval-requires-in-Binary-2
eval-eval-requires-in-Binary-2 t c = ((let d = rw (c.in-Binary.is, meaning-Binary) at c.decreases in omega (arith, d)), ready_right c.in-Binary.op (meaning c.args.texts.now.source.now c.args.texts.now.literals.now c.in-Binary.a.now) _ (rw (c.in-Binary.is, meaning-Binary) at c.requires) c.in_ok-left-in-Binary.ensures.kept)

pub eval-eval-requires-then-bool_of : goal.eval-eval-requires-then-bool_of
eval-eval-requires-then-bool_of t c = ((let d = rw (c.in-If.is, meaning-If) at c.decreases in omega (arith, d)), ready_then (meaning c.args.texts.now.source.now c.args.texts.now.literals.now c.in-If.c.now) _ (meaning c.args.texts.now.source.now c.args.texts.now.literals.now c.in-If.b.now) (rw (c.in-If.is, meaning-If) at c.requires) c.in_ok-test-in-If.ensures.kept)

pub eval-eval-requires-else-bool_of : goal.eval-eval-requires-else-bool_of
eval-eval-requires-else-bool_of t c = ((let d = rw (c.in-If.is, meaning-If) at c.decreases in omega (arith, d)), ready_else (meaning c.args.texts.now.source.now c.args.texts.now.literals.now c.in-If.c.now) (meaning c.args.texts.now.source.now c.args.texts.now.literals.now c.in-If.a.now) _ (rw (c.in-If.is, meaning-If) at c.requires) c.in_ok-test-in-If.ensures.kept)

pub eval-returns-in_ok-inner-in-Neg-clause-ok : goal.eval-returns-in_ok-inner-in-Neg-clause-ok
eval-returns-in_ok-inner-in-Neg-clause-ok t c = rw (c.in-Neg.is, meaning-Neg, c.negate.ensures) (evaluated_negative _ _ _ _ _ _ _ _ c.in_ok-inner-in-Neg.ensures.ok)

pub eval-returns-in_ok-right-in-Binary-clause-ok : goal.eval-returns-in_ok-right-in-Binary-clause-ok
eval-returns-in_ok-right-in-Binary-clause-ok t c = rw (c.in-Binary.is, meaning-Binary, c.join.ensures) (evaluated_binary _ _ _ _ _ _ _ _ _ _ _ _ (rw (c.in-Binary.is, meaning-Binary) at c.requires) c.in_ok-left-in-Binary.ensures.ok c.in_ok-right-in-Binary.ensures.ok)

pub eval-returns-then-bool_of-clause-ok : goal.eval-returns-then-bool_of-clause-ok
eval-returns-then-bool_of-clause-ok t c = rw (c.in-If.is, meaning-If)
    (evaluated_if _ c.args.texts.now.source.now c.args.texts.now.literals.now _ _ _ _ _ _ _ _ c.eval-then-bool_of.result (rw (c.in-If.is, meaning-If) at c.requires) c.in_ok-test-in-If.ensures.ok (sym c.bool_of.ensures ∙ c.if-bool_of.true) c.eval-then-bool_of.ensures.ok)

pub eval-returns-else-bool_of-clause-ok : goal.eval-returns-else-bool_of-clause-ok
eval-returns-else-bool_of-clause-ok t c = rw (c.in-If.is, meaning-If)
    (evaluated_if_not _ c.args.texts.now.source.now c.args.texts.now.literals.now _ _ _ _ _ _ _ _ c.eval-else-bool_of.result (rw (c.in-If.is, meaning-If) at c.requires) c.in_ok-test-in-If.ensures.ok (sym c.bool_of.ensures ∙ c.if-bool_of.false) c.eval-else-bool_of.ensures.ok)

pub eval_call-eval_all-requires : goal.eval_call-eval_all-requires
eval_call-eval_all-requires t c =
    let ready = ready_call c.args.texts.now.source.now c.args.texts.now.literals.now c.args.function c.args.args.now c.requires in
    ((let d = c.decreases in omega (arith, d)), (ready.0, omega (arith, ready.1)))

pub eval_all-eval-requires : goal.eval_all-eval-requires
eval_all-eval-requires t c =
    let within : c.loop-i.i - 1 < length c.args.args.now = (let w = c.loop-i.invariant.within in let some = c.loop-i-test.true in omega (arith, w, some)) in (
      (let d = c.decreases in let low = depth_at c.args.texts.now.source.now c.args.texts.now.literals.now c.args.args.now (c.loop-i.i - 1) c.index-args-i.result within c.index-args-i.is in omega (arith, d, low)),
      args_ready c.args.texts.now.source.now c.args.texts.now.literals.now c.args.args.now (c.loop-i.i - 1) c.index-args-i.result c.requires.0 within c.index-args-i.is c.loop-i.invariant.done.kept,
    )

pub eval_all-returns-clause-ok : goal.eval_all-returns-clause-ok
eval_all-returns-clause-ok t c =
    let zero_now : c.loop-i.i ≡ 0 = omega (arith, c.loop-i-test.false) in
    let done = subst (λ i. EvaluatedAll (tokens_of c.args.texts.now.source.now c.args.texts.now.literals.now c.args.spans.now c.args.places.now) c.args.texts.now.source.now c.args.texts.now.literals.now (cells_of c.args.cells.now.units) (cells_of c.loop-i.cells.units) c.args.env.now
    (expressions_of (map (meaning c.args.texts.now.source.now c.args.texts.now.literals.now) (drop i c.args.args.now))) (take (length c.args.args.now - i) (drop i c.loop-i.into))) zero_now c.loop-i.invariant.done in
    let whole : length c.args.args.now - 0 ≡ length c.args.args.now = omega arith in
    subst (λ n. EvaluatedAll (tokens_of c.args.texts.now.source.now c.args.texts.now.literals.now c.args.spans.now c.args.places.now) c.args.texts.now.source.now c.args.texts.now.literals.now (cells_of c.args.cells.now.units) (cells_of c.loop-i.cells.units) c.args.env.now
    (expressions_of (map (meaning c.args.texts.now.source.now c.args.texts.now.literals.now) c.args.args.now)) (take n c.loop-i.into)) whole done

pub eval_all-loop-i-init : goal.eval_all-loop-i-init
eval_all-loop-i-init t c = record {
  within = omega arith;
  eight = c.told-into;
  spare = omega arith;
  done = (let all = drop_all c.args.args.now in let none = take_none c.args.args.now (drop (length c.args.args.now) c.args.into.now) in rw (all, none) (evaluated_all_none _ _ _ _ _));
}

pub eval_all-loop-i-preserved : goal.eval_all-loop-i-preserved
eval_all-loop-i-preserved t c = record {
  within = (let w = c.loop-i.invariant.within in omega (arith, w));
  eight = (let e = c.loop-i.invariant.eight in length-set c.loop-i.into _ _ ∙ e);
  spare = (let a = c.loop-i.invariant.spare in let b = c.in_ok-value.ensures.spare in let some = c.loop-i-test.true in let w = c.loop-i.invariant.within in
      let u = units_at c.args.texts.now.source.now c.args.texts.now.literals.now c.args.args.now c.loop-i.i (c.loop-i.i - 1) c.index-args-i.result (omega (arith, some)) (omega (arith, some, w)) c.index-args-i.is in omega (arith, a, b, u));
  done = args_more _ c.args.texts.now.source.now c.args.texts.now.literals.now _ _ _ c.args.env.now c.args.args.now c.loop-i.i (c.loop-i.i - 1) c.index-args-i.result c.loop-i.into c.in_ok-value.value c.requires.0
      (let some = c.loop-i-test.true in omega (arith, some)) c.loop-i.invariant.within c.requires.1 c.loop-i.invariant.eight c.index-args-i.is c.loop-i.invariant.done c.in_ok-value.ensures.ok;
}

pub eval_call-slice_bounds-values-end : goal.eval_call-slice_bounds-values-end
eval_call-slice_bounds-values-end t c =
    let ready = ready_call c.args.texts.now.source.now c.args.texts.now.literals.now c.args.function c.args.args.now c.requires in
    omega (arith, ready.1, c.type_inv.values)

pub eval_call-slice_bounds-apply-end : goal.eval_call-slice_bounds-apply-end
eval_call-slice_bounds-apply-end t c =
    let ready = ready_call c.args.texts.now.source.now c.args.texts.now.literals.now c.args.function c.args.args.now c.requires in
    let long = c.eval_all.array_long in omega (arith, ready.1, long, length-take (length c.args.args.now) c.eval_all.new.into)

pub eval_call-apply-requires : goal.eval_call-apply-requires
eval_call-apply-requires t c = call_values _ c.args.texts.now.source.now c.args.texts.now.literals.now c.args.function _ _ c.requires c.in_ok-eval_all.ensures.ok

pub eval_call-returns-clause-ok : goal.eval_call-returns-clause-ok
eval_call-returns-clause-ok t c =
    (evaluated_call_result _ c.args.texts.now.source.now c.args.texts.now.literals.now _ _ _ _ _ _ _ c.apply.result c.in_ok-eval_all.ensures.ok c.apply.ensures.ok)

pub eval_all-returns-in_err-value-clause-room : goal.eval_all-returns-in_err-value-clause-room
eval_all-returns-in_err-value-clause-room t c = λ enough.
    (let some = c.loop-i-test.true in let w = c.loop-i.invariant.within in let a = c.loop-i.invariant.spare in
    let u = units_at c.args.texts.now.source.now c.args.texts.now.literals.now c.args.args.now c.loop-i.i (c.loop-i.i - 1) c.index-args-i.result (omega (arith, some)) (omega (arith, some, w)) c.index-args-i.is in
    let d = units_drop c.args.texts.now.source.now c.args.texts.now.literals.now c.args.args.now (c.loop-i.i - 1) in
    let ok = c.eval.ensures.room (omega (arith, enough, a, u, d)) in absurd (let no = rw c.in_err-value.was at ok in cc))

pub eval-eval-requires-in-Not : goal.eval-eval-requires-in-Not
eval-eval-requires-in-Not t c = ((let d = rw (c.in-Not.is, meaning-Not) at c.decreases in omega (arith, d)), ready_negated _ (rw (c.in-Not.is, meaning-Not) at c.requires))

pub eval-returns-in_ok-inner-in-Not-clause-ok : goal.eval-returns-in_ok-inner-in-Not-clause-ok
eval-returns-in_ok-inner-in-Not-clause-ok t c = rw (c.in-Not.is, meaning-Not, c.negated.ensures) (evaluated_negated _ _ _ _ _ _ _ _ c.in_ok-inner-in-Not.ensures.ok)

pub eval_make-eval_all-requires : goal.eval_make-eval_all-requires
eval_make-eval_all-requires t c =
    let ready = ready_make c.args.texts.now.source.now c.args.texts.now.literals.now c.args.ty c.args.args.now c.requires in
    ((let d = c.decreases in omega (arith, d)), (ready.0, ready.1))

pub eval_make-make-requires : goal.eval_make-make-requires
eval_make-make-requires t c = make_values _ c.args.texts.now.source.now c.args.texts.now.literals.now c.args.ty _ _ c.requires c.in_ok-eval_all.ensures.ok

pub eval_make-returns-clause-ok : goal.eval_make-returns-clause-ok
eval_make-returns-clause-ok t c =
    (evaluated_make_result _ c.args.texts.now.source.now c.args.texts.now.literals.now _ _ _ _ _ _ _ c.make.result c.in_ok-eval_all.ensures.ok c.make.ensures.ok)

pub eval_make-slice_bounds-values-end : goal.eval_make-slice_bounds-values-end
eval_make-slice_bounds-values-end t c =
    let ready = ready_make c.args.texts.now.source.now c.args.texts.now.literals.now c.args.ty c.args.args.now c.requires in
    omega (arith, ready.1, c.type_inv.values)

pub eval_make-slice_bounds-make-end : goal.eval_make-slice_bounds-make-end
eval_make-slice_bounds-make-end t c =
    let ready = ready_make c.args.texts.now.source.now c.args.texts.now.literals.now c.args.ty c.args.args.now c.requires in
    let long = c.eval_all.array_long in omega (arith, ready.1, long, length-take (length c.args.args.now) c.eval_all.new.into)

pub eval_make-returns-clause-spare : goal.eval_make-returns-clause-spare
eval_make-returns-clause-spare t c =
    (let ready = ready_make c.args.texts.now.source.now c.args.texts.now.literals.now c.args.ty c.args.args.now c.requires in
    let long = c.eval_all.array_long in let taken = length-take (length c.args.args.now) c.eval_all.new.into in
    let count = count-exs c.args.texts.now.source.now c.args.texts.now.literals.now c.args.args.now in let before = c.in_ok-eval_all.ensures.spare in on_ok c.make.result c.make.ensures.spare (λ spare. omega (arith, ready.1, long, taken, count, before, spare)))

pub eval_make-returns-clause-room : goal.eval_make-returns-clause-room
eval_make-returns-clause-room t c =
    (let ready = ready_make c.args.texts.now.source.now c.args.texts.now.literals.now c.args.ty c.args.args.now c.requires in
    let long = c.eval_all.array_long in let taken = length-take (length c.args.args.now) c.eval_all.new.into in
    let count = count-exs c.args.texts.now.source.now c.args.texts.now.literals.now c.args.args.now in let before = c.in_ok-eval_all.ensures.spare in λ enough. c.make.ensures.room (omega (arith, ready.1, long, taken, count, before, enough)))

pub eval-eval_call-requires : goal.eval-eval_call-requires
eval-eval_call-requires t c = ((let d = rw (c.in-Call.is, meaning-Call) at c.decreases in omega (arith, d)), rw (c.in-Call.is, meaning-Call) at c.requires)

pub eval-eval_make-requires : goal.eval-eval_make-requires
eval-eval_make-requires t c = ((let d = rw (c.in-Make.is, meaning-Make) at c.decreases in omega (arith, d)), rw (c.in-Make.is, meaning-Make) at c.requires)

pub eval-returns-in-Call : goal.eval-returns-in-Call
eval-returns-in-Call t c = rw (c.in-Call.is, meaning-Call) c.eval_call.ensures

pub eval-returns-in-Make : goal.eval-returns-in-Make
eval-returns-in-Make t c = rw (c.in-Make.is, meaning-Make) c.eval_make.ensures
