use Rattle.worked_parts.proofs.MapPut.{map_put}
use Rattle.worked_parts.proofs.cells.show_map.Goals as goal

pub loop-number-init : goal.loop-number-init
loop-number-init c = map_put _ _ _ _ _ c.in_ok-map.ensures.ok

pub loop-number-preserved : goal.loop-number-preserved
loop-number-preserved c = map_put _ _ _ _ _ c.in_ok-map-2.ensures.ok
