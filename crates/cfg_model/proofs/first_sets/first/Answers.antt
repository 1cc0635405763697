-- The parts are of the grammar, and the rows that spread are FIRST.
use Rattle.std.proofs.Common.{◌≡◌, ◌+◌, ap}
use Rattle.cfg_model.specs.Cfg.{Cfg}
use Rattle.cfg_model.proofs.FirstLoops.{parts_in_range, first_only, first_all}
use Rattle.cfg_model.proofs.first_sets.first.Goals as goal

pub first_edges-requires : goal.first_edges-requires
first_edges-requires c =
    let count : c.g.inside.nonterminals ≡ c.args.g.now.nonterminals = ap (λ (g : Cfg). g.nonterminals) c.g.view_is in
    let range = parts_in_range c.args.g.now c.in_ok-null.null c.in_ok-parts.parts.items c.requires.grammar c.in_ok-parts.ensures in
    (c.args.g.now.terminals + 1, rw (count, c.deref.ensures.value) range)

pub first_base-requires : goal.first_base-requires
first_base-requires c =
    let count : c.g.inside.nonterminals ≡ c.args.g.now.nonterminals = ap (λ (g : Cfg). g.nonterminals) c.g.view_is in
    let width : c.g.inside.terminals ≡ c.args.g.now.terminals = ap (λ (g : Cfg). g.terminals) c.g.view_is in
    let range = parts_in_range c.args.g.now c.in_ok-null.null c.in_ok-parts.parts.items c.requires.grammar c.in_ok-parts.ensures in
    rw (count, width, c.deref-2.ensures.value) range

pub returns : goal.returns
returns c =
    let count : c.g.inside.nonterminals ≡ c.args.g.now.nonterminals = ap (λ (g : Cfg). g.nonterminals) c.g.view_is in
    let width : c.g.inside.terminals ≡ c.args.g.now.terminals = ap (λ (g : Cfg). g.terminals) c.g.view_is in
    record {
      are = rw (count, width) at c.spread.ensures.rows;
      only = first_only c.args.g.now c.in_ok-null.null c.requires.grammar c.in_ok-null.ensures c.requires.productive c.in_ok-parts.parts.items c.in_ok-edges.edges.items c.in_ok-rows.rows.items c.spread.new.rows.items
          c.g.inside.nonterminals (c.g.inside.terminals + 1) c.in_ok-parts.ensures (rw c.deref-2.ensures.value at c.in_ok-rows.ensures) (rw c.deref.ensures.value at c.in_ok-edges.ensures) (rw c.deref-3.ensures.value at c.in_ok-spread.ensures.spread);
      all = first_all c.args.g.now c.in_ok-null.null c.requires.grammar c.in_ok-null.ensures c.requires.productive c.in_ok-parts.parts.items c.in_ok-edges.edges.items c.in_ok-rows.rows.items c.spread.new.rows.items
          c.g.inside.nonterminals (c.g.inside.terminals + 1) c.in_ok-parts.ensures (rw c.deref-2.ensures.value at c.in_ok-rows.ensures) (rw c.deref.ensures.value at c.in_ok-edges.ensures) (rw c.deref-3.ensures.value at c.in_ok-spread.ensures.spread);
    }
