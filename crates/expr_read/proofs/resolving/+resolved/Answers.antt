-- The parts of an expression, and what it means by them.
use Rattle.expr_read.proofs.ResolvedParts.{number_made, negative_made, negated_made, binary_made, if_made, list_first, list_more, list_none, list_end, grew_on}
use Rattle.expr_read.proofs.resolving.+resolved.Goals as goal

pub resolved_expr-returns-in-Number-clause-is : goal.resolved_expr-returns-in-Number-clause-is
resolved_expr-returns-in-Number-clause-is t c = number_made _ _ _ _ _ c.in-Number.is c.number_expr.ensures

pub resolved_expr-returns-in_ok-resolved_expr-in-Negative-clause-is : goal.resolved_expr-returns-in_ok-resolved_expr-in-Negative-clause-is
resolved_expr-returns-in_ok-resolved_expr-in-Negative-clause-is t c =
    negative_made c.args.words.now c.resolved_expr.new.literals _ _ c.in_ok-resolved_expr-in-Negative.field-0 _ c.in-Negative.is c.in_ok-resolved_expr-in-Negative.ensures.is c.negative_expr.ensures

pub resolved_expr-returns-in_ok-resolved_expr-in-Negated-clause-is : goal.resolved_expr-returns-in_ok-resolved_expr-in-Negated-clause-is
resolved_expr-returns-in_ok-resolved_expr-in-Negated-clause-is t c =
    negated_made c.args.words.now c.resolved_expr-in-Negated.new.literals _ _ c.in_ok-resolved_expr-in-Negated.field-0 _ c.in-Negated.is c.in_ok-resolved_expr-in-Negated.ensures.is
    c.negated_expr.ensures

pub resolved_expr-returns-in_ok-right-in-Binary-clause-is : goal.resolved_expr-returns-in_ok-right-in-Binary-clause-is
resolved_expr-returns-in_ok-right-in-Binary-clause-is t c =
    binary_made c.args.words.now c.resolved_expr-in-Binary.new.literals c.resolved_expr-in-Binary-2.new.literals _ _ _ _ c.in_ok-left-in-Binary.left c.in_ok-right-in-Binary.right _
    c.in-Binary.is c.in_ok-left-in-Binary.ensures.is c.resolved_expr-in-Binary-2.ensures.grew c.in_ok-right-in-Binary.ensures.is c.binary_expr.ensures

pub resolved_expr-returns-in_ok-right-in-Binary-clause-grew : goal.resolved_expr-returns-in_ok-right-in-Binary-clause-grew
resolved_expr-returns-in_ok-right-in-Binary-clause-grew t c =
    grew_on c.args.literals.now c.resolved_expr-in-Binary.new.literals c.resolved_expr-in-Binary-2.new.literals c.resolved_expr-in-Binary.ensures.grew c.resolved_expr-in-Binary-2.ensures.grew

pub resolved_expr-returns-in_err-right-in-Binary-clause-grew : goal.resolved_expr-returns-in_err-right-in-Binary-clause-grew
resolved_expr-returns-in_err-right-in-Binary-clause-grew t c =
    grew_on c.args.literals.now c.resolved_expr-in-Binary.new.literals c.resolved_expr-in-Binary-2.new.literals c.resolved_expr-in-Binary.ensures.grew c.resolved_expr-in-Binary-2.ensures.grew

pub resolved_expr-returns-in_ok-right-in-If-clause-is : goal.resolved_expr-returns-in_ok-right-in-If-clause-is
resolved_expr-returns-in_ok-right-in-If-clause-is t c =
    if_made c.args.words.now c.resolved_expr-in-If.new.literals c.resolved_expr-in-If-2.new.literals c.resolved_expr-in-If-3.new.literals _ _ _ _
    c.in_ok-condition-in-If.condition c.in_ok-left-in-If.left c.in_ok-right-in-If.right _ c.in-If.is c.in_ok-condition-in-If.ensures.is c.resolved_expr-in-If-2.ensures.grew
    c.in_ok-left-in-If.ensures.is c.resolved_expr-in-If-3.ensures.grew c.in_ok-right-in-If.ensures.is c.if_expr.ensures

pub resolved_expr-returns-in_ok-right-in-If-clause-grew : goal.resolved_expr-returns-in_ok-right-in-If-clause-grew
resolved_expr-returns-in_ok-right-in-If-clause-grew t c =
    grew_on c.args.literals.now c.resolved_expr-in-If-2.new.literals c.resolved_expr-in-If-3.new.literals
    (grew_on c.args.literals.now c.resolved_expr-in-If.new.literals c.resolved_expr-in-If-2.new.literals c.resolved_expr-in-If.ensures.grew c.resolved_expr-in-If-2.ensures.grew)
    c.resolved_expr-in-If-3.ensures.grew

pub resolved_expr-returns-in_err-left-in-If-clause-grew : goal.resolved_expr-returns-in_err-left-in-If-clause-grew
resolved_expr-returns-in_err-left-in-If-clause-grew t c =
    grew_on c.args.literals.now c.resolved_expr-in-If.new.literals c.resolved_expr-in-If-2.new.literals c.resolved_expr-in-If.ensures.grew c.resolved_expr-in-If-2.ensures.grew

pub resolved_expr-returns-in_err-right-in-If-clause-grew : goal.resolved_expr-returns-in_err-right-in-If-clause-grew
resolved_expr-returns-in_err-right-in-If-clause-grew t c =
    grew_on c.args.literals.now c.resolved_expr-in-If-2.new.literals c.resolved_expr-in-If-3.new.literals
    (grew_on c.args.literals.now c.resolved_expr-in-If.new.literals c.resolved_expr-in-If-2.new.literals c.resolved_expr-in-If.ensures.grew c.resolved_expr-in-If-2.ensures.grew)
    c.resolved_expr-in-If-3.ensures.grew

pub resolved_list-loop-part-init : goal.resolved_list-loop-part-init
resolved_list-loop-part-init t c = list_first _ _ _ _ c.new-parts.ensures.items

pub resolved_list-loop-part-preserved : goal.resolved_list-loop-part-preserved
resolved_list-loop-part-preserved t c =
    list_more _ _ c.loop-part.literals c.loop-part.parts.items _ c.loop-part.part-index c.part-item.result c.loop-part.invariant c.loop-part-test.true c.part-item.is
    c.resolved_expr.new.literals c.resolved_expr.ensures.grew c.in-Some.meant _ c.in_ok-push.ensures.items (rw c.in-Some.is at c.in_ok-meant.ensures.is)
    c.resolved_expr.ensures.few

pub resolved_list-returns-in_err-meant-clause-grew : goal.resolved_list-returns-in_err-meant-clause-grew
resolved_list-returns-in_err-meant-clause-grew t c =
    grew_on c.args.literals.now c.loop-part.literals c.resolved_expr.new.literals c.loop-part.invariant.grew c.resolved_expr.ensures.grew

pub resolved_list-returns-in_default-clause-are : goal.resolved_list-returns-in_default-clause-are
resolved_list-returns-in_default-clause-are t c =
    list_none c.args.words.now c.args.literals.now c.loop-part.literals c.loop-part.parts.items c.args.list.now c.loop-part.part-index c.part-item.result c.loop-part.invariant
    c.loop-part-test.true c.part-item.is c.resolved_expr.new.literals c.resolved_expr.ensures.grew (rw c.in_default.is at c.in_ok-meant.ensures.is)

pub resolved_list-returns-in_default-clause-grew : goal.resolved_list-returns-in_default-clause-grew
resolved_list-returns-in_default-clause-grew t c =
    grew_on c.args.literals.now c.loop-part.literals c.resolved_expr.new.literals c.loop-part.invariant.grew c.resolved_expr.ensures.grew

pub resolved_list-returns-in_err-push-clause-grew : goal.resolved_list-returns-in_err-push-clause-grew
resolved_list-returns-in_err-push-clause-grew t c =
    grew_on c.args.literals.now c.loop-part.literals c.resolved_expr.new.literals c.loop-part.invariant.grew c.resolved_expr.ensures.grew

pub resolved_list-returns-clause-are : goal.resolved_list-returns-clause-are
resolved_list-returns-clause-are t c =
    list_end c.args.words.now c.args.literals.now c.loop-part.literals c.loop-part.parts.items c.args.list.now c.loop-part.part-index c.into_bump_slice.result c.loop-part.invariant
    c.loop-part-test.false c.into_bump_slice.ensures

pub resolved_list-returns-clause-grew : goal.resolved_list-returns-clause-grew
resolved_list-returns-clause-grew t c = c.loop-part.invariant.grew
