use Rattle.std.proofs.Common.{arith}
use Rattle.tree_store.proofs.LastIsRoot.{only_last}
use Rattle.tree_store.proofs.tree.Tree.root.Goals as goal

pub returns-clause-only : goal.returns-clause-only
returns-clause-only c =
    only_last c.args.self.now _ c.len.ensures.forest
    (let n = c.len.ensures.count in let within = c.requires.1.root.within in omega (arith, n, within)) c.requires
