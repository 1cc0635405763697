use Rattle.lalr_look.proofs.Growth.{one_empty}
use Rattle.lalr_look.proofs.graph.empty_sets.Goals as goal

pub loop-preserved : goal.loop-preserved
loop-preserved c =
    let (long, sizes, none) = c.loop.invariant in
    one_empty c.loop.sets.items c.push.new.self.items c.in_ok-set.set c.args.size c.loop.counter long sizes none
    c.in_ok-set.ensures.size c.in_ok-set.ensures.empty (c.in_ok-push.ensures).items
