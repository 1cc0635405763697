-- One terminal more, and one rule more.
use Rattle.std.proofs.Common.{◌≡◌, ◌<◌, ◌+◌, ◌*◌, length, refl, sym, ap, subst, ◌∙◌, arith}
use Rattle.std.proofs.lemmas.List.{get_or_default}
use Rattle.std.proofs.lemmas.List.Elements.{All-get_or}
use Rattle.std.proofs.lemmas.Option.{slice_get_read}
use Rattle.std.proofs.lemmas.Nat.{mul-add-lt}
use Rattle.ck_base.specs.BitSet.{BitSet, Has}
use Rattle.cfg_model.specs.Cfg.{Rule}
use Rattle.cfg_model.specs.Rows.{no_row, row}
use Rattle.ell_tables.specs.within.Fill.{cell_at}
use Rattle.ell_tables.proofs.Cells.{seen_same, seen_rule, seen_cell}
use Rattle.ell_tables.proofs.fill.fill.Goals as goal
use Rattle.ell_tables.proofs.fill.fill.Goals.{then-has, else-has}

pub loop-t-preserved : goal.loop-t-preserved
loop-t-preserved c =
    let rules = c.args.rules.now in
    let sets = c.args.sets.now in
    let k = c.loop-k.k in
    let t = c.loop-t.t in
    let w = c.args.width in
    let is = slice_get_read rules _ k c.index-rules-k.result refl c.loop-k-test.true c.index-rules-k.is in
    let k_in : k < length sets = (let lt = c.loop-k-test.true in let same = c.requires.sizes.0 in omega arith) in
    let set_is : c.index-sets-k.result ≡ row sets k = c.index-sets-k.is ∙ get_or_default sets k c.index-sets-k.result no_row k_in in
    let left_is : c.rule.inside.left ≡ c.index-rules-k.result.left = ap (λ (r : Rule). r.left) c.rule.view_is in
    elim c.if-has.branch [
      | then-has w ↦
          let has = subst (λ (s : BitSet). Has s t) set_is (c.has.ensures.0 w.if-has.true) in
          let left_in : c.index-rules-k.result.left < c.args.count = rw (← c.index-rules-k.is) at (All-get_or (λ (r : Rule). r.left < c.args.count) rules k c.index-rules-k.result c.loop-k-test.true c.requires.lefts) in
          let left_in2 : c.rule.inside.left < c.args.count = rw left_is left_in in
          let inside : c.rule.inside.left * c.args.width + t < length c.loop-t.cells.items = omega (arith, mul-add-lt c.rule.inside.left c.args.width t c.args.count left_in2 c.loop-t-test.true, c.loop-t.invariant.count) in
          let both = seen_cell rules sets c.args.width k c.index-rules-k.result is t c.loop-t-test.true has c.loop-t.cells.items c.loop-t.found c.loop-t.invariant.filled
          c.rule.inside.left w.fill_cell-found.new.cells.items w.fill_cell-found.result left_is inside w.fill_cell-found.ensures.free w.fill_cell-found.ensures.taken in
          rw (w.cells-is, w.found-is) (record { count = both.0 ∙ c.loop-t.invariant.count; filled = both.1 })
      | else-has w ↦ rw (w.cells-is, w.found-is) (record {
        count = c.loop-t.invariant.count;
        filled = seen_same rules sets c.args.width k c.index-rules-k.result is t (cell_at c.args.width c.loop-t.cells.items) c.loop-t.found
            (λ has. (let e = c.has.ensures.1 (subst (λ (s : BitSet). Has s t) (sym set_is) has) in let no_has = w.if-has.false in cc)) c.loop-t.invariant.filled;
      })
    ]

pub loop-k-preserved : goal.loop-k-preserved
loop-k-preserved c =
    let rules = c.args.rules.now in
    let sets = c.args.sets.now in
    let k = c.loop-k.k in
    let is = slice_get_read rules _ k c.index-rules-k.result refl c.loop-k-test.true c.index-rules-k.is in
    let k_in : k < length sets = (let lt = c.loop-k-test.true in let same = c.requires.sizes.0 in omega arith) in
    let size : (row sets k).size ≡ c.args.width = All-get_or (λ (s : BitSet). s.size ≡ c.args.width) sets k no_row k_in c.requires.widths in
    record {
      count = c.loop-t.invariant.count;
      filled = seen_rule rules sets c.args.width k c.index-rules-k.result is c.loop-t.t (cell_at c.args.width c.loop-t.cells.items) c.loop-t.found c.loop-t-test.false size c.loop-t.invariant.filled;
    }

pub returns : goal.returns
returns c =
    let last : c.loop-k.k ≡ length c.args.rules.now = (let a = c.loop-k.auto.k-end in let b = c.loop-k-test.false in omega arith) in
    (c.loop-k.invariant.count, rw last at c.loop-k.invariant.filled)
