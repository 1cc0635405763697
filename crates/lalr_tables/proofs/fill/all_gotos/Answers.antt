-- One core more.
use Rattle.std.proofs.Common.{◌<◌, length, ◌++◌, ap, slice_index, subst, ◌∙◌, arith}
use Rattle.lalr_look.proofs.NodesOf.{moves_fit}
use Rattle.lalr_tables.specs.within.Rows.{AreGotos, OverNonterminal}
use Rattle.lalr_tables.proofs.Fitting.{targets_in}
use Rattle.lalr_tables.proofs.Joining.{gotos_more}
use Rattle.lalr_tables.proofs.fill.all_gotos.Goals as goal

pub goto_row-requires-clause-symbols : goal.goto_row-requires-clause-symbols
goto_row-requires-clause-symbols c =
    let low : c.loop-core.core < length c.args.cores.now.items = omega (arith, c.loop-core-test.true, c.len-core-end.ensures) in
    moves_fit c.args.g.now c.requires.grammar c.args.cores.now c.requires.cores c.loop-core.core low c.moves.result.now c.moves.ensures

pub goto_row-requires-clause-cores : goal.goto_row-requires-clause-cores
goto_row-requires-clause-cores c =
    let low : c.loop-core.core < length c.args.cores.now.items = omega (arith, c.loop-core-test.true, c.len-core-end.ensures) in
    targets_in c.args.g.now c.args.cores.now c.requires.cores c.requires.few c.loop-core.core low c.moves.result.now c.moves.ensures

pub loop-core-preserved : goal.loop-core-preserved
loop-core-preserved c =
    let g = c.args.g.now in
    let one = subst (λ m. AreGotos g.nonterminals (OverNonterminal m) (slice_index c.in_ok-row.row.items)) c.moves.ensures c.in_ok-row.ensures.gotos in
    gotos_more g c.args.cores.now c.loop-core.core c.loop-core.cells.items c.in_ok-row.row.items c.extend_from_slice.new.self.items c.in_ok-row.ensures.long one
    ((c.in_ok-extend_from_slice.ensures).items ∙ ap (λ l. c.loop-core.cells.items ++ l) c.deref.ensures.value) c.loop-core.invariant
