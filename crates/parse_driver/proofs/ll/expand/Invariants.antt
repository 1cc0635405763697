-- The turns so far keep the state of the parse, and open no rule twice.
use Rattle.parse_driver.specs.within.LlStack.{entries, load_since, open_rules, Goes, OpenedSince}
use Rattle.parse_driver.proofs.ll.expand.Given as goal

abbrev pub invariant-turns : goal.invariant-turns
invariant-turns g l =
    Goes (g.T.LlTable.grammar l.fn.table) l.fn.t (entries l.fn.stack) l.fn.steps.items (entries l.stack) l.steps.items
    × OpenedSince (g.T.LlTable.grammar l.fn.table) (open_rules (entries l.fn.stack)) (entries l.stack)

abbrev pub decreases-turns : goal.decreases-turns
decreases-turns g l = load_since (g.T.LlTable.grammar l.fn.table) (open_rules (entries l.fn.stack)) (entries l.stack)
