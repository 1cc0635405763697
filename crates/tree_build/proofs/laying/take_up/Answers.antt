use Rattle.std.proofs.Common.{◌<◌, sym, subst, ◌∙◌, ◌∷◌, reverse}
use Rattle.value_store.specs.Cells.{cells_of, tree_at}
use Rattle.tree_build.specs.within.Laying.{Laying, Visits, Due, load}
use Rattle.value_store.specs.MadeTrees.{children_of}
use Rattle.tree_build.proofs.Visiting.{parts_of, as_many_trees, pushed, visited, less_to_do, visit_is}
use Rattle.tree_build.proofs.laying.take_up.Goals as goal

pub child_count-children-requires : goal.child_count-children-requires
child_count-children-requires c =
    let cells = cells_of c.args.cells.now.units in
    let laying = c.requires.laying.1 in
    let due = subst (λ t. Due cells c.args.types.now c.requires.laying.0 (t ∷ reverse c.args.tasks.now.items) laying.trees) c.in-Visit.is laying.due in
    let fits = (visit_is cells c.args.types.now _ c.in-Visit.cell _ laying.trees due).1 in
    let e = c.type_of.ensures in
    rw e (parts_of c.args.types.now (tree_at cells c.in-Visit.cell) fits).there

pub push_visits-requires-clause-count : goal.push_visits-requires-clause-count
push_visits-requires-clause-count c =
    let cells = cells_of c.args.cells.now.units in
    let laying = c.requires.laying.1 in
    let due = subst (λ t. Due cells c.args.types.now c.requires.laying.0 (t ∷ reverse c.args.tasks.now.items) laying.trees) c.in-Visit.is laying.due in
    let fits = (visit_is cells c.args.types.now _ c.in-Visit.cell _ laying.trees due).1 in
    let e = c.type_of.ensures in
    let f = rw e at c.child_count-children.ensures in
    f ∙ sym (as_many_trees c.args.types.now _ _ (parts_of c.args.types.now (tree_at cells c.in-Visit.cell) fits).children)

pub returns-in_ok-push_visits-in-Visit-clause-laying : goal.returns-in_ok-push_visits-in-Visit-clause-laying
returns-in_ok-push_visits-in-Visit-clause-laying c = λ whole laying.
    let cells = cells_of c.args.cells.now.units in
    let before = pushed _ _ _ c.in_ok-push-in-Visit.ensures.items in
    let visits = subst (λ ts. Visits cells (children_of (tree_at cells c.in-Visit.cell)) ts (reverse c.push_visits.new.tasks.items)) before c.in_ok-push_visits-in-Visit.ensures in
    let start = subst (λ t. Laying cells c.args.types.now whole (t ∷ reverse c.args.tasks.now.items) c.args.done.now.items c.args.tree.now) c.in-Visit.is laying in
    visited cells c.args.types.now whole c.in-Visit.cell _ _ _ _ visits start

pub returns-in_ok-push_visits-in-Visit-clause-less : goal.returns-in_ok-push_visits-in-Visit-clause-less
returns-in_ok-push_visits-in-Visit-clause-less c =
    let cells = cells_of c.args.cells.now.units in
    let before = pushed _ _ _ c.in_ok-push-in-Visit.ensures.items in
    let visits = subst (λ ts. Visits cells (children_of (tree_at cells c.in-Visit.cell)) ts (reverse c.push_visits.new.tasks.items)) before c.in_ok-push_visits-in-Visit.ensures in
    subst (λ t. load cells (reverse c.push_visits.new.tasks.items) < load cells (t ∷ reverse c.args.tasks.now.items)) (sym c.in-Visit.is)
    (less_to_do cells c.in-Visit.cell (reverse c.args.tasks.now.items) (reverse c.push_visits.new.tasks.items) visits)
