-- One terminal more.
use Rattle.std.proofs.Common.{refl, ◌∙◌, arith}
use Rattle.lalr_tables.specs.within.Rows.{none, put, passed}
use Rattle.lalr_tables.proofs.Filling.{puts_length}
use Rattle.lalr_tables.proofs.rows.put_rule.Goals as goal
use Rattle.lalr_tables.proofs.rows.put_rule.Goals.{then-has, else-has}

pub loop-t-init : goal.loop-t-init
loop-t-init c = (refl, none)

pub loop-t-preserved : goal.loop-t-preserved
loop-t-preserved c =
    let (long, so_far) = c.loop-t.invariant in
    let t = c.loop-t.t in
    let row = c.loop-t.cells.items in
    elim c.if-has.branch [
      | then-has w ↦
          rw (w.cells-is, w.best-is) (
            puts_length (λ _ _. ⊥) (λ _ _. ⊥) c.args.width t c.args.rule c.requires.fits row w.put_at-best.new.cells.items c.loop-t.best w.put_at-best.result
                (omega (arith, c.requires.inside, c.loop-t-test.true, long)) w.put_at-best.ensures ∙ long,
            put t row w.put_at-best.new.cells.items c.loop-t.best w.put_at-best.result so_far (c.has.ensures.0 w.if-has.true)
                w.put_at-best.ensures,
          )
      | else-has w ↦
          rw (w.cells-is, w.best-is) (
            long,
            passed t row c.loop-t.best so_far (λ has. (let e = c.has.ensures.1 has in let no_has = w.if-has.false in cc)),
          )
    ]
