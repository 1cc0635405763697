-- The edges are those of first parts.
use Rattle.std.proofs.Common.{◌≡◌, ◌+◌, ap}
use Rattle.cfg_model.specs.Cfg.{Cfg}
use Rattle.cfg_model.proofs.FirstLoops.{parts_in_range}
use Rattle.cfg_model.proofs.Running.{left_edges_are}
use Rattle.cfg_model.proofs.met.left_edges.Goals as goal

pub first_edges-requires : goal.first_edges-requires
first_edges-requires c =
    let count : c.g.inside.nonterminals ≡ c.args.g.now.nonterminals = ap (λ (g : Cfg). g.nonterminals) c.g.view_is in
    let range = parts_in_range c.args.g.now c.args.null.now c.in_ok-parts.parts.items c.requires c.in_ok-parts.ensures in
    (c.args.g.now.terminals + 1, rw (count, c.deref.ensures.value) range)

pub returns : goal.returns
returns c =
    let count : c.g.inside.nonterminals ≡ c.args.g.now.nonterminals = ap (λ (g : Cfg). g.nonterminals) c.g.view_is in
    left_edges_are c.args.g.now c.args.null.now c.in_ok-parts.parts.items c.in_ok-edges.edges.items c.in_ok-parts.ensures
    (rw (count, c.deref.ensures.value) at c.in_ok-edges.ensures)
