use Rattle.std.proofs.Common.{◌∙◌, ap, subst, arith, ◌∷◌, reverse}
use Rattle.value_store.specs.Cells.{cells_of, tree_at}
use Rattle.tree_build.specs.within.Laying.{Laying}
use Rattle.tree_build.specs.declared.laying.Task.TheVariants as task
use Rattle.tree_build.proofs.Showing.{begun, laid_out, none_left}
use Rattle.tree_build.proofs.Visiting.{pushed}
use Rattle.tree_build.proofs.laying.lay_out.Goals as goal

pub loop-task-init : goal.loop-task-init
loop-task-init c =
    begun (cells_of c.args.cells.now.units) c.args.types.now c.args.root _ _ _ c.requires.made c.requires.fits
    (pushed _ _ (task.Visit c.args.root) c.in_ok-push.ensures.items ∙ ap (λ ts. task.Visit c.args.root ∷ reverse ts) c.new-tasks.ensures.items) c.new-done.ensures.items c.new-tree.ensures

pub loop-task-preserved : goal.loop-task-preserved
loop-task-preserved c =
    let cells = cells_of c.args.cells.now.units in
    let next = pushed _ _ c.in-Some.task c.in-Some.ensures.items in
    c.in_ok-take_up.ensures.laying (tree_at cells c.args.root)
    (subst (λ ts. Laying cells c.args.types.now (tree_at cells c.args.root) ts c.loop-task.done.items c.loop-task.tree) next c.loop-task.invariant)

pub returns-clause-shown : goal.returns-clause-shown
returns-clause-shown c =
    laid_out (cells_of c.args.cells.now.units) c.args.types.now (tree_at (cells_of c.args.cells.now.units) c.args.root) _ _ _
    (none_left c.loop-task.tasks.items (let none = c.in_default.ensures.cases.0 in omega (arith, none))) c.loop-task.invariant
