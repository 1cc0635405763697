use Rattle.lalr_look.proofs.Flowing.{row_is}
use Rattle.lalr_look.proofs.RowsChanged.{pushed}
use Rattle.lalr_look.proofs.rows.push_at.Goals as goal

pub returns : goal.returns
returns c =
    pushed c.args.rows.now.items c.args.place c.args.n c.index_mut-row.result.now c.push.new.self c.requires
    (row_is c.args.rows.now.items c.args.place c.index_mut-row.result.now c.requires c.index_mut-row.ensures.value) (c.in_ok-push.ensures).items
