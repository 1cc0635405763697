use Rattle.std.proofs.Common.{◌+◌, arith, get_or}
use Rattle.std.proofs.lemmas.Option.{slice_get-get_or}
use Rattle.cfg_model.specs.declared.symbol.Sym.TheVariants.{T}
use Rattle.lalr_look.proofs.NodesOf.{targets_next, targets_all}
use Rattle.lalr_look.proofs.lookahead_sets.targets_of.Goals as goal

pub loop-found-preserved : goal.loop-found-preserved
loop-found-preserved c =
    let low = c.order_of.ensures.inside in
    let long = (c.loop-found.invariant).0 in
    targets_next c.args.g.now c.args.moves.now c.loop-found.targets.items c.loop-found.found-index c.order_of.result (c.args.g.now.terminals + c.args.g.now.nonterminals)
    (get_or c.args.moves.now c.loop-found.found-index (T 0, 0)) (slice_get-get_or c.args.moves.now c.loop-found.found-index (T 0, 0) c.loop-found-test.true)
    c.requires.symbols c.requires.one c.order_of.ensures.place (omega (arith, low, long)) c.loop-found.invariant

pub returns-clause-targets : goal.returns-clause-targets
returns-clause-targets c =
    let past = c.loop-found-test.false in
    targets_all c.args.g.now c.args.moves.now c.loop-found.found-index c.loop-found.targets.items (omega (arith, past)) (c.loop-found.invariant).1
