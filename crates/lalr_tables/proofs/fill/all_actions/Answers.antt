-- One core more.
use Rattle.std.proofs.Common.{◌<◌, length, ◌++◌, ap, Vec, Global, sym, subst, subst₂, ◌∙◌, arith}
use Rattle.ck_base.specs.BitSet.{BitSet}
use Rattle.cfg_model.specs.Cores.{items_at, moves_at}
use Rattle.lalr_look.proofs.NodesOf.{moves_fit}
use Rattle.lalr_look.specs.Promise.{sets_of}
use Rattle.lalr_tables.specs.within.Rows.{IsRow}
use Rattle.lalr_tables.proofs.Fitting.{rules_in, targets_in, sets_read, sets_count}
use Rattle.lalr_tables.proofs.Joining.{actions_more}
use Rattle.lalr_tables.proofs.fill.all_actions.Goals as goal

pub action_row-requires-clause-rules : goal.action_row-requires-clause-rules
action_row-requires-clause-rules c =
    let low : c.loop-core.core < length c.args.cores.now.items = omega (arith, c.loop-core-test.true, c.len-core-end.ensures) in
    rules_in c.args.g.now c.args.cores.now c.requires.cores c.loop-core.core low c.items.result.now c.items.ensures

pub action_row-requires-clause-symbols : goal.action_row-requires-clause-symbols
action_row-requires-clause-symbols c =
    let low : c.loop-core.core < length c.args.cores.now.items = omega (arith, c.loop-core-test.true, c.len-core-end.ensures) in
    moves_fit c.args.g.now c.requires.grammar c.args.cores.now c.requires.cores c.loop-core.core low c.moves.result.now c.moves.ensures

pub action_row-requires-clause-cores : goal.action_row-requires-clause-cores
action_row-requires-clause-cores c =
    let low : c.loop-core.core < length c.args.cores.now.items = omega (arith, c.loop-core-test.true, c.len-core-end.ensures) in
    targets_in c.args.g.now c.args.cores.now c.requires.cores c.requires.few c.loop-core.core low c.moves.result.now c.moves.ensures

pub loop-core-preserved : goal.loop-core-preserved
loop-core-preserved c =
    let g = c.args.g.now in
    let cores = c.args.cores.now in
    let looks = c.args.looks.now in
    let n = c.loop-core.core in
    let low : n < length looks = omega (arith, c.loop-core-test.true, c.len-core-end.ensures, c.requires.looks.cores_kept, sets_count looks) in
    let read = sets_read looks n c.index-looks-core.result low in
    let sets_are = c.as_slice-sets.ensures.value ∙ (ap (λ (v : Vec BitSet Global). v.items) c.index-looks-core.is ∙ sym read) in
    let cells = c.in_ok-row.row.cells.items in
    let met = c.in_ok-row.row.found in
    let one = subst (λ s. IsRow g (items_at cores n) (moves_at cores n) s (length (items_at cores n)) cells met) sets_are
    (subst₂ (λ i m. IsRow g i m c.as_slice-sets.result.now (length i) cells met) c.items.ensures c.moves.ensures c.in_ok-row.ensures) in
    actions_more g cores (sets_of looks) n c.loop-core.cells.items cells c.extend_from_slice.new.self.items c.loop-core.found
    met c.lesser_of-found.result one
    ((c.in_ok-extend_from_slice.ensures).items ∙ ap (λ l. c.loop-core.cells.items ++ l) c.deref.ensures.value) c.lesser_of-found.ensures c.loop-core.invariant
