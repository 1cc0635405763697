-- What spreads from the rules along the left edges.
use Rattle.std.proofs.Common.{◌≡◌, ap}
use Rattle.cfg_model.specs.Cfg.{Cfg}
use Rattle.cfg_model.proofs.HiddenRows.{are_hidden}
use Rattle.cfg_model.proofs.hiding.met_hidden.Goals as goal

pub returns : goal.returns
returns c =
    let g = c.args.g.now in
    let count : c.g.inside.nonterminals ≡ g.nonterminals = ap (λ (g : Cfg). g.nonterminals) c.g.view_is in
    let runs = rw (c.deref.ensures.value, count) at c.in_ok-met.ensures in
    let joins = rw c.deref-2.ensures.value at c.hide_rules.ensures.hidden in
    let spread_are = rw c.deref-3.ensures.value at c.in_ok-spread.ensures.spread in
    are_hidden g c.args.null.now c.requires.null c.in_ok-edges.edges.items c.in_ok-met.met.items c.in_ok-rows.rows.items c.hide_rules.new.rows.items c.spread.new.rows.items
    c.in_ok-edges.ensures runs c.in_ok-rows.ensures.empty joins spread_are (rw count at c.spread.ensures.rows)
