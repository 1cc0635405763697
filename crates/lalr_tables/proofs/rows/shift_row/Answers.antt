-- One move more.
use Rattle.std.proofs.Common.{◌≡◌, ℕ, ◌+◌, ◌<◌, length, get_or, subst, ◌∙◌, arith}
use Rattle.std.proofs.lemmas.Option.{slice_get-get_or}
use Rattle.cfg_model.specs.Cfg.{IsSymbol}
use Rattle.cfg_model.specs.declared.symbol.Sym.{Sym}
use Rattle.cfg_model.specs.declared.symbol.Sym.TheVariants.{T}
use Rattle.lalr_tables.proofs.Moving.{shift_more, shifts_all}
use Rattle.lalr_tables.proofs.rows.shift_row.Goals as goal

pub loop-i-preserved : goal.loop-i-preserved
loop-i-preserved c =
    let g = c.args.g.now in
    let moves = c.args.moves.now in
    let i = c.loop-i.i in
    let item = get_or moves i (T 0, 0) in
    let (long, so_far) = c.loop-i.invariant in
    let inside : (s : ℕ) → item.0 ≡ T s → s < length c.loop-i.cells.items = λ s is.
    (let low = subst (λ (x : Sym). IsSymbol g x) is (c.requires.symbols i (T 0, 0) c.loop-i-test.true) in omega (arith, low, long)) in
    let (kept, more) = shift_more moves i (item.0) (item.1) (g.terminals + 1) c.loop-i.cells.items c.put_shift.new.cells.items
    (slice_get-get_or moves i (T 0, 0) c.loop-i-test.true) inside c.put_shift.ensures so_far in
    (kept ∙ long, more)

pub returns-clause-shifts : goal.returns-clause-shifts
returns-clause-shifts c =
    let g = c.args.g.now in
    let past = c.loop-i-test.false in
    let end = c.loop-i.auto.i-end in
    shifts_all c.args.moves.now c.loop-i.i (g.terminals + 1) c.loop-i.cells.items (omega (arith, past, end)) c.loop-i.invariant.1
