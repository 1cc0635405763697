-- A turn ends a rule, takes a rule, or finds that no rule is for the terminal.
use Rattle.std.proofs.Common.{◌≡◌, ℕ, ◌∷◌, sym, subst, Option, Some, None, ◌∙◌}
use Rattle.cfg_model.specs.declared.symbol.Sym.TheVariants.{N}
use Rattle.cfg_model.specs.LlTables.{IsPrediction}
use Rattle.cfg_model.proofs.InRange.{reachable_in, number_of_rule}
use Rattle.parse_driver.specs.within.LlStack.{entries}
use Rattle.parse_driver.specs.declared.ll.Entry.TheVariants.{Find, Done}
use Rattle.parse_driver.proofs.Turned.{turn_end, turn_rule, turn_stuck, reachable_top}
use Rattle.parse_driver.proofs.ll.one_turn.Goals as goal

pub predict-requires-clause-nonterminal : goal.predict-requires-clause-nonterminal
predict-requires-clause-nonterminal g c =
    let cfg = g.T.LlTable.grammar c.args.table.now in
    let old = entries c.args.stack.now in
    let (rest, top) = c.in-Some.ensures in
    let is : old ≡ Find (N c.in-N.n) ∷ rest = rw (c.in-Find.is, c.in-N.is) at top in
    reachable_in cfg c.requires.table.accepted.grammar c.in-N.n (reachable_top cfg c.args.t old rest c.args.steps.now.items c.in-N.n is c.requires.reached)

pub returns-in_default-predict : goal.returns-in_default-predict
returns-in_default-predict g c =
    let cfg = g.T.LlTable.grammar c.args.table.now in
    let old = entries c.args.stack.now in
    let steps = c.args.steps.now.items in
    let (rest, top) = c.in-Some.ensures in
    let is : old ≡ Find (N c.in-N.n) ∷ rest = rw (c.in-Find.is, c.in-N.is) at top in
    let reachable = reachable_top cfg c.args.t old rest steps c.in-N.n is c.requires.reached in
    let none_answer : IsPrediction cfg c.in-N.n c.args.t None = subst (λ (o : Option ℕ). IsPrediction cfg c.in-N.n c.args.t o) (sym c.predict.ensures ∙ c.in_default-predict.is) (c.requires.table.predicts c.in-N.n c.args.t reachable c.requires.terminal) in
    turn_stuck cfg c.args.t old rest steps c.in-N.n is (none_answer)

pub right-requires-clause-in_range : goal.right-requires-clause-in_range
right-requires-clause-in_range g c =
    let cfg = g.T.LlTable.grammar c.args.table.now in
    let old = entries c.args.stack.now in
    let steps = c.args.steps.now.items in
    let (rest, top) = c.in-Some.ensures in
    let is : old ≡ Find (N c.in-N.n) ∷ rest = rw (c.in-Find.is, c.in-N.is) at top in
    let reachable = reachable_top cfg c.args.t old rest steps c.in-N.n is c.requires.reached in
    let some_answer : IsPrediction cfg c.in-N.n c.args.t (Some c.in-Some-predict.rule) = subst (λ (o : Option ℕ). IsPrediction cfg c.in-N.n c.args.t o) (sym c.predict.ensures ∙ c.in-Some-predict.is) (c.requires.table.predicts c.in-N.n c.args.t reachable c.requires.terminal) in
    let predicted = some_answer.0 in
    (number_of_rule cfg c.in-Some-predict.rule c.in-N.n predicted.right predicted.is_rule).1

pub returns-in_ok-push-in-Done : goal.returns-in_ok-push-in-Done
returns-in_ok-push-in-Done g c =
    let cfg = g.T.LlTable.grammar c.args.table.now in
    let old = entries c.args.stack.now in
    let (rest, top) = c.in-Some.ensures in
    let is : old ≡ Done c.in-Done.rule ∷ rest = rw c.in-Done.is at top in
    let new : entries c.drop_top.new.stack ≡ rest = c.drop_top.ensures (Done c.in-Done.rule) rest is in
    rw (new, c.in_ok-push-in-Done.ensures.items) (turn_end cfg c.args.t old rest c.args.steps.now.items c.in-Done.rule is c.requires.reached)

pub returns-in_ok-push_rule-in-N : goal.returns-in_ok-push_rule-in-N
returns-in_ok-push_rule-in-N g c =
    let cfg = g.T.LlTable.grammar c.args.table.now in
    let old = entries c.args.stack.now in
    let steps = c.args.steps.now.items in
    let (rest, top) = c.in-Some.ensures in
    let is : old ≡ Find (N c.in-N.n) ∷ rest = rw (c.in-Find.is, c.in-N.is) at top in
    let reachable = reachable_top cfg c.args.t old rest steps c.in-N.n is c.requires.reached in
    let some_answer : IsPrediction cfg c.in-N.n c.args.t (Some c.in-Some-predict.rule) = subst (λ (o : Option ℕ). IsPrediction cfg c.in-N.n c.args.t o) (sym c.predict.ensures ∙ c.in-Some-predict.is) (c.requires.table.predicts c.in-N.n c.args.t reachable c.requires.terminal) in
    let predicted = some_answer.0 in
    let gone : entries c.drop_top-in-N.new.stack ≡ rest = c.drop_top-in-N.ensures (Find (N c.in-N.n)) rest is in
    let right = c.right.ensures c.in-N.n predicted.right predicted.is_rule in
    let new = rw (gone, right) at c.in_ok-push_rule-in-N.ensures in
    turn_rule cfg c.args.t old rest steps c.in-N.n c.in-Some-predict.rule predicted.right (entries c.push_rule.new.stack) is c.requires.reached c.requires.table.accepted
    (some_answer) predicted.is_rule new
