-- The rows run along the edges.
use Rattle.std.proofs.Common.{◌≡◌, ap}
use Rattle.cfg_model.specs.Cfg.{Cfg}
use Rattle.cfg_model.proofs.Running.{are_met}
use Rattle.cfg_model.proofs.met.met_first.Goals as goal

pub run_rows-requires : goal.run_rows-requires
run_rows-requires c =
    let count : c.g.inside.nonterminals ≡ c.args.g.now.nonterminals = ap (λ (g : Cfg). g.nonterminals) c.g.view_is in
    rw (count, c.deref.ensures.value) c.in_ok-edges.ensures.inside

pub returns : goal.returns
returns c =
    let count : c.g.inside.nonterminals ≡ c.args.g.now.nonterminals = ap (λ (g : Cfg). g.nonterminals) c.g.view_is in
    are_met c.args.g.now c.args.null.now c.requires.null c.in_ok-edges.edges.items c.in_ok-rows.rows.items c.in_ok-edges.ensures
    (rw (count, c.deref.ensures.value) at c.in_ok-rows.ensures)
