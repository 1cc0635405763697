-- The least number in its own row.
use Rattle.ck_base.specs.BitSet.{Has}
use Rattle.cfg_model.specs.Rows.{In}
use Rattle.cfg_model.specs.Sets.{Reachable}
use Rattle.cfg_model.specs.Searches.{HiddenLeft}
use Rattle.cfg_model.proofs.Running.{least_same}
use Rattle.cfg_model.proofs.hiding.hidden_left.Goals as goal

pub returns : goal.returns
returns c =
    let g = c.args.g.now in
    let rows = c.in_ok-rows.rows.items in
    let reach = c.in_ok-reach.reach in
    least_same (λ n. Has reach n × In rows n n) (λ n. Reachable g n × HiddenLeft g n) c.least_in_own_row-least.result
    (λ n (has, own). (c.in_ok-reach.ensures.only n has, c.in_ok-rows.ensures.recursive n own))
    (λ n (reachable, recursive). (c.in_ok-reach.ensures.all n reachable, c.in_ok-rows.ensures.all n recursive))
    (rw c.deref.ensures.value at c.least_in_own_row-least.ensures)
