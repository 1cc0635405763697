use Rattle.std.proofs.Common.{ap, ◌∙◌, length, length-append, ◌+◌}
use Rattle.lalr_look.proofs.RowsChanged.{empty_rows}
use Rattle.lalr_look.proofs.rows.no_rows.Goals as goal

pub loop-preserved : goal.loop-preserved
loop-preserved c =
    let (long, none) = c.loop.invariant in
    let items = (c.in_ok-push.ensures).items in (
      ap length items ∙ length-append c.loop.rows.items _ ∙ ap (λ l. l + 1) long,
      empty_rows c.loop.rows.items c.push.new.self.items c.new.result none c.new.ensures.items items,
    )
