-- One item more.
use Rattle.std.proofs.Common.{◌+◌, ◌<◌, length, get_or, ap, sym, subst, subst₂, ◌∙◌, arith}
use Rattle.std.proofs.lemmas.List.{get_or_default}
use Rattle.std.proofs.lemmas.Option.{slice_get-get_or}
use Rattle.cfg_model.specs.Cfg.{Cfg}
use Rattle.cfg_model.specs.Rows.{no_row}
use Rattle.lalr_tables.specs.within.Rows.{IsRow, PutsAll}
use Rattle.lalr_tables.proofs.Completing.{row_first, row_more, row_passed, none_is, none_not}
use Rattle.lalr_tables.proofs.rows.action_row.Goals as goal
use Rattle.lalr_tables.proofs.rows.action_row.Goals.{then-is_none, else-is_none}

pub loop-i-init : goal.loop-i-init
loop-i-init c =
    row_first c.args.g.now c.args.items.now c.args.moves.now c.args.looks.now c.in_ok-cells.cells.items c.in_ok-cells.ensures.long c.in_ok-cells.ensures.shifts

pub loop-i-preserved : goal.loop-i-preserved
loop-i-preserved c =
    let g = c.args.g.now in
    let items = c.args.items.now in
    let looks = c.args.looks.now in
    let i = c.loop-i.i in
    let item = get_or items i (0, 0) in
    let at = slice_get-get_or items i (0, 0) c.loop-i-test.true in
    let rule_in = c.requires.rules i (0, 0) c.loop-i-test.true in
    let few = c.requires.grammar.few_rules in
    let behind = c.behind.ensures in
    elim c.if-is_none.branch [
      | then-is_none w ↦
          let inside : i < length looks = omega (arith, c.loop-i-test.true, c.requires.sets) in
          let set = w.index-looks-i.is ∙ get_or_default looks i w.index-looks-i.result no_row inside in
          let puts = subst₂ (λ s n. PutsAll s (item.0) c.loop-i.cells.items c.loop-i.found (n + 1) w.put_rule-found.new.cells.items w.put_rule-found.result)
          set (ap (λ (g : Cfg). g.terminals) c.g.view_is) w.put_rule-found.ensures in
          rw (w.cells-is, w.found-is) (row_more g items c.args.moves.now looks i (item.0) (item.1) at c.loop-i.cells.items w.put_rule-found.new.cells.items
          c.loop-i.found w.put_rule-found.result (sym behind ∙ none_is c.behind.result w.if-is_none.ensures) (omega (arith, rule_in, few)) puts c.loop-i.invariant)
      | else-is_none w ↦
          rw (w.cells-is, w.found-is) (row_passed g items c.args.moves.now looks i (item.0) (item.1) at c.loop-i.cells.items c.loop-i.found
          (λ is. none_not c.behind.result w.if-is_none.ensures (behind ∙ is)) c.loop-i.invariant)
    ]

pub returns : goal.returns
returns c =
    let past = c.loop-i-test.false in
    let end = c.loop-i.auto.i-end in
    subst (λ n. IsRow c.args.g.now c.args.items.now c.args.moves.now c.args.looks.now n c.loop-i.cells.items c.loop-i.found)
    (omega (arith, past, end)) c.loop-i.invariant
