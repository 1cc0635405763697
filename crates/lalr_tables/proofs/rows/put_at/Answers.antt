-- A rule gives way to a lower one.
use Rattle.std.proofs.Common.{refl, arith}
use Rattle.std.proofs.lemmas.List.{get_or_default}
use Rattle.lalr_tables.specs.within.Rows.{lower, higher}
use Rattle.lalr_tables.proofs.rows.put_at.Goals as goal

pub returns-then-first-rule-2 : goal.returns-then-first-rule-2
returns-then-first-rule-2 c =
    let read = get_or_default c.args.cells.now.items c.args.t c.index-cell.result.now 0 c.requires.inside in
    higher _ (omega (arith, read)) (omega arith) refl c.with_clash-then-first-rule-2.ensures

pub returns : goal.returns
returns c =
    let read = get_or_default c.args.cells.now.items c.args.t c.index-cell.result.now 0 c.requires.inside in
    lower _ (omega (arith, read)) (omega arith) (omega arith) refl c.with_clash-2.ensures
