-- The least number in its own row.
use Rattle.std.proofs.Common.{◌≡◌, ap}
use Rattle.ck_base.specs.BitSet.{Has}
use Rattle.cfg_model.specs.Cfg.{Cfg}
use Rattle.cfg_model.specs.Rows.{In}
use Rattle.cfg_model.specs.Sets.{Reachable}
use Rattle.cfg_model.specs.Searches.{Cyclic}
use Rattle.cfg_model.proofs.Running.{least_same}
use Rattle.cfg_model.proofs.Middling.{middle_inside, cyclic_of_row, row_of_cyclic}
use Rattle.cfg_model.proofs.looping.cyclic.Goals as goal

pub run_rows-requires : goal.run_rows-requires
run_rows-requires c =
    let count : c.g.inside.nonterminals ≡ c.args.g.now.nonterminals = ap (λ (g : Cfg). g.nonterminals) c.g.view_is in
    rw (c.deref.ensures.value, count) (middle_inside c.args.g.now c.in_ok-null.null c.in_ok-edges.edges.items c.requires c.in_ok-edges.ensures)

pub returns : goal.returns
returns c =
    let g = c.args.g.now in
    let count : c.g.inside.nonterminals ≡ g.nonterminals = ap (λ (g : Cfg). g.nonterminals) c.g.view_is in
    let rows = c.in_ok-rows.rows.items in
    let reach = c.in_ok-reach.reach in
    let runs = rw (c.deref.ensures.value, count) at c.in_ok-rows.ensures in
    least_same (λ n. Has reach n × In rows n n) (λ n. Reachable g n × Cyclic g n) c.least_in_own_row-least.result
    (λ n (has, own). (c.in_ok-reach.ensures.only n has, cyclic_of_row g c.in_ok-null.null c.in_ok-null.ensures c.in_ok-edges.edges.items rows c.in_ok-edges.ensures runs n own))
    (λ n (reachable, cycle). (c.in_ok-reach.ensures.all n reachable, row_of_cyclic g c.in_ok-null.null c.in_ok-null.ensures c.in_ok-edges.edges.items rows c.in_ok-edges.ensures runs n cycle))
    (rw c.deref-2.ensures.value at c.least_in_own_row-least.ensures)
