use Rattle.std.proofs.Common.{◌-◌, arith}
use Rattle.value_store.specs.Cells.{cells_of, tree_at}
use Rattle.value_store.specs.MadeTrees.{children_of}
use Rattle.tree_build.proofs.Visiting.{child_there, visits_none, visits_more}
use Rattle.tree_build.proofs.laying.push_visits.Goals as goal

pub loop-i-init : goal.loop-i-init
loop-i-init c = visits_none (cells_of c.args.cells.now.units) (children_of (tree_at (cells_of c.args.cells.now.units) c.args.cell)) c.args.count _ c.requires.count

pub child-requires-clause-within : goal.child-requires-clause-within
child-requires-clause-within c = child_there (children_of (tree_at (cells_of c.args.cells.now.units) c.args.cell)) (c.loop-i.i - 1) (omega (arith, c.requires.count))

pub loop-i-preserved : goal.loop-i-preserved
loop-i-preserved c =
    visits_more (cells_of c.args.cells.now.units) (children_of (tree_at (cells_of c.args.cells.now.units) c.args.cell)) c.loop-i.i c.child.result _ _ _
    (omega arith) c.child.ensures.made c.child.ensures.is c.in_ok-push.ensures.items c.loop-i.invariant
