use Rattle.std.proofs.Common.{rules, arith, inl, inr, sym, ap, ◌∙◌, subst, refl, ◌≡◌}
use Rattle.expr_lang.specs.Typing.{a_number, a_truth, a_string, a_negative, a_negated, a_make, an_if, a_call, HasType}
use Rattle.expr_lang.specs.Meaning.{meaning, context_of}
use Rattle.expr_lang.proofs.Meanings.{meaning-Int, meaning-Bool, meaning-Text, meaning-Var, meaning-Neg, meaning-Not, meaning-Binary, meaning-If, meaning-Call, meaning-Make}
use Rattle.expr_lang.proofs.Evaluates.{length-exs}
use Rattle.std.proofs.lemmas.Option.{slice_get_read, slice_get_within}
use Rattle.std.specs.Prelude.{slice_get}
use Rattle.std.proofs.lemmas.Bool.Decides.{eqb_tells}
use Rattle.expr_lang.proofs.OneType.{same_type, same_Some_of, pick_type, all_types, one_type, neg_inv, not_inv, binary_result, make_inv, bin_inv, if_inv, call_inv, var_result}
use Rattle.expr_lang.proofs.typing.+typed.Goals as goal

pub typed-returns-in-Int : goal.typed-returns-in-Int
typed-returns-in-Int t c = λ s l k. rw (c.in-Int.is, meaning-Int) (a_number _)

pub typed-returns-in-Bool : goal.typed-returns-in-Bool
typed-returns-in-Bool t c = λ s l k. rw (c.in-Bool.is, meaning-Bool) (a_truth _)

pub typed-returns-in-Text : goal.typed-returns-in-Text
typed-returns-in-Text t c = λ s l k. rw (c.in-Text.is, meaning-Text) (a_string _)

pub typed-returns-in-Var : goal.typed-returns-in-Var
typed-returns-in-Var t c = λ s l k. rw (c.in-Var.is, meaning-Var) (var_result (context_of c.args.scope.now k) c.in-Var.i c.type_at.result c.type_at.ensures)

pub typed-returns-then-is_typed : goal.typed-returns-then-is_typed
typed-returns-then-is_typed t c = λ s l k. rw (c.in-Neg.is, meaning-Neg) (a_negative _ ((c.is_typed.ensures s l k).0 c.if-is_typed.true))

pub typed-returns-else-is_typed : goal.typed-returns-else-is_typed
typed-returns-else-is_typed t c = λ s l k u typed. (let yes = (c.is_typed.ensures s l k).1 (neg_inv _ _ _ (rw (c.in-Neg.is, meaning-Neg) at typed)) in let no = c.if-is_typed.false in cc)

pub typed-returns-then-is_typed-2 : goal.typed-returns-then-is_typed-2
typed-returns-then-is_typed-2 t c = λ s l k. rw (c.in-Not.is, meaning-Not) (a_negated _ ((c.is_typed-in-Not.ensures s l k).0 c.if-is_typed-2.true))

pub typed-returns-else-is_typed-2 : goal.typed-returns-else-is_typed-2
typed-returns-else-is_typed-2 t c = λ s l k u typed. (let yes = (c.is_typed-in-Not.ensures s l k).1 (not_inv _ _ _ (rw (c.in-Not.is, meaning-Not) at typed)) in let no = c.if-is_typed-2.false in cc)

pub typed-returns-then-is_typed-3 : goal.typed-returns-then-is_typed-3
typed-returns-then-is_typed-3 t c = λ s l k. rw (c.in-Binary.is, meaning-Binary)
    (binary_result _ _ _ _ _ c.gives_with.result (c.in-Some.ensures s l k) ((c.is_typed-in-Some.ensures s l k).0 c.if-is_typed-3.true) c.gives_with.ensures)

pub typed-returns-else-is_typed-3 : goal.typed-returns-else-is_typed-3
typed-returns-else-is_typed-3 t c = λ s l k u typed.
    (let inv = bin_inv _ _ _ _ _ (rw (c.in-Binary.is, meaning-Binary) at typed) in
    let same = one_type _ _ _ _ inv.left (c.in-Some.ensures s l k) in
    let yes = (c.is_typed-in-Some.ensures s l k).1 (rw (sym same) inv.right) in let no = c.if-is_typed-3.false in cc)

pub typed-returns-in-None : goal.typed-returns-in-None
typed-returns-in-None t c = λ s l k u typed. c.in-None.ensures s l k _ (bin_inv _ _ _ _ _ (rw (c.in-Binary.is, meaning-Binary) at typed)).left

pub typed-returns-then-not-is_typed : goal.typed-returns-then-not-is_typed
typed-returns-then-not-is_typed t c = λ s l k u typed. (let yes = (c.is_typed-in-If.ensures s l k).1 (if_inv _ _ _ _ _ (rw (c.in-If.is, meaning-If) at typed)).0 in let no = c.if-not-is_typed.true in cc)

pub typed-returns-then-is_typed-4 : goal.typed-returns-then-is_typed-4
typed-returns-then-is_typed-4 t c = λ s l k. rw (c.in-If.is, meaning-If) (an_if _ _ _ _ ((c.is_typed-in-If.ensures s l k).0 c.if-not-is_typed.false) (c.in-Some-typed.ensures s l k) ((c.is_typed-in-Some-typed.ensures s l k).0 c.if-is_typed-4.true))

pub typed-returns-else-is_typed-4 : goal.typed-returns-else-is_typed-4
typed-returns-else-is_typed-4 t c = λ s l k u typed.
    (let parts = if_inv _ _ _ _ _ (rw (c.in-If.is, meaning-If) at typed) in
    let same = one_type _ _ _ _ parts.1 (c.in-Some-typed.ensures s l k) in
    let yes = (c.is_typed-in-Some-typed.ensures s l k).1 (rw (sym same) parts.2) in let no = c.if-is_typed-4.false in cc)

pub typed-returns-in-None-typed : goal.typed-returns-in-None-typed
typed-returns-in-None-typed t c = λ s l k u typed. c.in-None-typed.ensures s l k u (if_inv _ _ _ _ _ (rw (c.in-If.is, meaning-If) at typed)).1

pub typed-returns-then-are_typed : goal.typed-returns-then-are_typed
typed-returns-then-are_typed t c = λ s l k. rw (c.in-Call.is, meaning-Call) (a_call _ _ _ _ c.taken-count.ensures.are c.gives_of.ensures ((c.are_typed.ensures s l k).0 c.if-are_typed.true))

pub typed-returns-else-are_typed : goal.typed-returns-else-are_typed
typed-returns-else-are_typed t c = λ s l k u typed. (let yes = (c.are_typed.ensures s l k).1 (rw c.taken-count.ensures.are (call_inv _ _ _ _ (rw (c.in-Call.is, meaning-Call) at typed))) in let no = c.if-are_typed.false in cc)

pub typed-returns-then-are_typed-2 : goal.typed-returns-then-are_typed-2
typed-returns-then-are_typed-2 t c = λ s l k. rw (c.in-Make.is, meaning-Make) (a_make _ _ _ _ _ c.in-Some-maker_for.ensures refl refl (rw c.as_slice.ensures.value at (c.are_typed-in-Some-maker_for.ensures s l k).0 c.if-are_typed-2.true))

pub typed-returns-else-are_typed-2 : goal.typed-returns-else-are_typed-2
typed-returns-else-are_typed-2 t c = λ s l k u typed.
    (let inv = make_inv (context_of c.args.scope.now k) c.in-Make.ty _ u c.in-Some-maker_for.maker.now c.in-Some-maker_for.ensures (rw (c.in-Make.is, meaning-Make) at typed) in
    let yes = (c.are_typed-in-Some-maker_for.ensures s l k).1 (rw c.as_slice.ensures.value inv) in let no = c.if-are_typed-2.false in cc)

pub is_typed-returns-in-Some : goal.is_typed-returns-in-Some
is_typed-returns-in-Some t c = λ s l k. (
  (λ yes. (let same : c.in-Some.t ≡ c.args.wanted = search rules in subst (HasType (context_of c.args.scope.now k) (meaning s l c.args.e.now)) same (c.in-Some.ensures s l k))),
  λ typed. (let same = one_type _ _ _ _ (c.in-Some.ensures s l k) typed in search rules),
)

pub is_typed-returns-in-None : goal.is_typed-returns-in-None
is_typed-returns-in-None t c = λ s l k. ((λ no. cc), λ typed. absurd (c.in-None.ensures s l k _ typed))

pub are_typed-returns-then-args-wanted : goal.are_typed-returns-then-args-wanted
are_typed-returns-then-args-wanted t c = λ s l k. ((λ no. cc), λ typed. (let long = length-exs (context_of c.args.scope.now k) _ s l c.args.args.now typed in absurd (c.if-args-wanted.true long)))

pub are_typed-returns-then-not-is_typed : goal.are_typed-returns-then-not-is_typed
are_typed-returns-then-not-is_typed t c = λ s l k. (
  (λ no. cc),
  λ typed.
      (let at = slice_get_read c.args.args.now _ c.loop-i.i c.index-args-i.result refl c.loop-i-test.true c.index-args-i.is in
      let yes = (c.is_typed.ensures s l k).1 (pick_type s l _ _ _ c.loop-i.i c.index-args-i.result c.wanted_at.result typed at c.wanted_at.ensures) in let no = c.if-not-is_typed.true in cc),
)

pub are_typed-loop-i-preserved : goal.are_typed-loop-i-preserved
are_typed-loop-i-preserved t c = λ s b f k x u low is at. elim (eqb_tells k c.loop-i.i) [
  | inl e ↦ (let here = slice_get_read c.args.args.now _ c.loop-i.i c.index-args-i.result refl c.loop-i-test.true c.index-args-i.is in
      let which : c.index-args-i.result ≡ x = same_Some_of (sym here ∙ ap (λ n. slice_get c.args.args.now n) (sym e.1) ∙ is) in
      let same : c.wanted_at.result ≡ u = same_type (sym c.wanted_at.ensures ∙ ap (λ n. slice_get c.args.wanted.now n) (sym e.1) ∙ at) in
      subst (λ y. HasType (context_of c.args.scope.now f) (meaning s b y) u) which (subst (HasType (context_of c.args.scope.now f) (meaning s b c.index-args-i.result)) same ((c.is_typed.ensures s b f).0 c.if-not-is_typed.false)))
  | inr e ↦ c.loop-i.invariant s b f k x u (let no = e.1 in omega (arith, low, no)) is at
]

pub are_typed-returns : goal.are_typed-returns
are_typed-returns t c = λ s l k. ((λ yes. all_types s l _ _ _ c.if-args-wanted.false (λ j x u is at. c.loop-i.invariant s l k j x u (let w = slice_get_within _ j x is in let end = c.loop-i-test.false in omega (arith, w, end)) is at)), λ typed. refl)
