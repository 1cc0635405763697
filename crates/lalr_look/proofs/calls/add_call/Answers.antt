use Rattle.std.proofs.Common.{sym, ap, ◌∙◌, subst, Some}
use Rattle.lalr_look.specs.within.Rows.{rows_of, Pushes}
use Rattle.lalr_look.proofs.CallGraph.{one_call, edge_pushed}
use Rattle.lalr_look.proofs.calls.add_call.Goals as goal

pub returns-clause-edge : goal.returns-clause-edge
returns-clause-edge c =
    one_call c.args.g.now c.args.i c.in-N.k c.rule-one.result.now (rows_of c.args.edges.now.items) (rows_of c.push_at.new.rows.items) c.rule-one.ensures
    (sym c.symbol.ensures ∙ (c.in-Some.is ∙ ap (λ x. Some x) c.in-N.is))
    (edge_pushed _ _ _ _ (subst (λ l. Pushes (rows_of c.args.edges.now.items) (rows_of c.push_at.new.rows.items) c.in-N.k l) (ap (λ r. r.left) c.one.view_is) c.in_ok-push_at.ensures))
