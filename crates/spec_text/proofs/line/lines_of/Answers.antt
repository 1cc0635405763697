-- Each turn takes one line.
use Rattle.std.proofs.Common.{sym, ◌∙◌}
use Rattle.spec_text.proofs.LinesSoFar.{one_line, all_lines, is_empty}
use Rattle.spec_text.proofs.line.lines_of.Goals as goal

pub loop-rest-preserved : goal.loop-rest-preserved
loop-rest-preserved c =
    one_line _ _ _ _ _ _ c.loop-rest.invariant c.first_line.ensures.begins c.first_line.ensures.shorter _ _ c.in_ok-line_of.ensures
    c.in_ok-push_some.ensures

pub returns-clause-lines : goal.returns-clause-lines
returns-clause-lines c = all_lines _ _ _ _ c.loop-rest.invariant (is_empty _ (sym c.is_empty.ensures ∙ c.loop-rest-test.false))
