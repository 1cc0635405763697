use Rattle.lalr_look.specs.within.Rows.{rows_of}
use Rattle.lalr_look.proofs.Growth.{edges_push, sets_none}
use Rattle.lalr_look.proofs.graph.Graph.lead.Goals as goal

pub returns : goal.returns
returns c =
    record {
      edges = edges_push (rows_of c.args.self.now.edges.items) (rows_of c.push_at.new.rows.items) c.args.from c.args.to c.in_ok-push_at.ensures;
      sets = sets_none c.args.self.now.sets.items;
    }
