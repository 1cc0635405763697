use Rattle.std.proofs.Common.{[], ◌∷◌}
use Rattle.tree_store.proofs.SomeOrder.{some_preorder, one_preorder, some_postorder, one_postorder}
use Rattle.tree_store.proofs.laws.one_order.Goals as goal

pub returns : goal.returns
returns c = record {
  preorder = λ root. some_preorder c.args.tree.now root c.len-count.ensures.forest;
  one_preorder = λ root a b p q. one_preorder c.args.tree.now (root ∷ []) a b p q;
  postorder = λ root. some_postorder c.args.tree.now root c.len-count.ensures.forest;
  one_postorder = λ root a b p q. one_postorder c.args.tree.now (root ∷ []) a b p q;
}
