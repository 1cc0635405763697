use Rattle.std.proofs.Common.{arith}
use Rattle.tree_store.proofs.LabelsRead.{rows_long}
use Rattle.tree_store.proofs.NodeAdded.{is_forest}
use Rattle.tree_store.proofs.LinksAgree.{tied_now}
use Rattle.tree_store.proofs.tree.Tree.len.Goals as goal

pub returns-clause-forest : goal.returns-clause-forest
returns-clause-forest c = is_forest _ c.self.inside.parents.items c.self.inside.numbers.items _ _ c.args.self.now c.self.invariant.linked c.self.view_is

pub returns-clause-count : goal.returns-clause-count
returns-clause-count c =
    let long = rows_long _ _ _ _ _ _ _ c.self.invariant c.self.view_is in
    let n = c.len.ensures in
    omega (arith, n, long, c.self.inside.labels.ok)

pub returns-clause-few : goal.returns-clause-few
returns-clause-few c =
    let long = rows_long _ _ _ _ _ _ _ c.self.invariant c.self.view_is in
    let few = (tied_now _ _ _ _ _ _ _ c.self.invariant c.self.view_is).few in
    let n = c.len.ensures in
    omega (arith, n, long, few, c.self.inside.labels.ok)
