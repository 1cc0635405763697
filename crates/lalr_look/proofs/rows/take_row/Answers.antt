use Rattle.std.proofs.Common.{sym, ap, subst, slice_set}
use Rattle.lalr_look.specs.within.Rows.{rows_of, Takes}
use Rattle.lalr_look.proofs.Flowing.{row_is}
use Rattle.lalr_look.proofs.RowsChanged.{taken}
use Rattle.lalr_look.proofs.rows.take_row.Goals as goal

pub returns : goal.returns
returns c =
    let row = c.index_mut-row.result.now in
    subst (λ r. Takes (rows_of c.args.rows.now.items) (rows_of (slice_set c.args.rows.now.items c.args.place c.replace.new.dest)) c.args.place r)
    (ap (λ v. v.items) (sym c.replace.ensures.value))
    (taken c.args.rows.now.items c.args.place row c.replace.new.dest
    (row_is c.args.rows.now.items c.args.place row c.requires c.index_mut-row.ensures.value))
