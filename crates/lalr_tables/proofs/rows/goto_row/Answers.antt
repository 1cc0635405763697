-- One move more.
use Rattle.std.proofs.Common.{◌≡◌, ℕ, ◌<◌, length, get_or, subst, ◌∙◌, arith}
use Rattle.std.proofs.lemmas.Option.{slice_get-get_or}
use Rattle.cfg_model.specs.Cfg.{IsSymbol}
use Rattle.cfg_model.specs.declared.symbol.Sym.{Sym}
use Rattle.cfg_model.specs.declared.symbol.Sym.TheVariants.{T, N}
use Rattle.lalr_tables.proofs.Moving.{goto_more, gotos_all}
use Rattle.lalr_tables.proofs.rows.goto_row.Goals as goal

pub loop-i-preserved : goal.loop-i-preserved
loop-i-preserved c =
    let g = c.args.g.now in
    let moves = c.args.moves.now in
    let i = c.loop-i.i in
    let item = get_or moves i (T 0, 0) in
    let (long, so_far) = c.loop-i.invariant in
    let inside : (s : ℕ) → item.0 ≡ N s → s < length c.loop-i.cells.items = λ s is.
    (let low = subst (λ (x : Sym). IsSymbol g x) is (c.requires.symbols i (T 0, 0) c.loop-i-test.true) in omega (arith, low, long)) in
    let (kept, more) = goto_more moves i (item.0) (item.1) g.nonterminals c.loop-i.cells.items c.put_goto.new.cells.items
    (slice_get-get_or moves i (T 0, 0) c.loop-i-test.true) inside c.put_goto.ensures so_far in
    (kept ∙ long, more)

pub returns-clause-gotos : goal.returns-clause-gotos
returns-clause-gotos c =
    let g = c.args.g.now in
    let past = c.loop-i-test.false in
    let end = c.loop-i.auto.i-end in
    gotos_all c.args.moves.now c.loop-i.i g.nonterminals c.loop-i.cells.items (omega (arith, past, end)) c.loop-i.invariant.1
