use Rattle.std.proofs.Common.{arith, sym, ap, length}
use Rattle.tree_store.proofs.LabelsRead.{rows_long, row_read}
use Rattle.tree_store.proofs.tree.Tree.type_of.Goals as goal

pub label_at-requires : goal.label_at-requires
label_at-requires c =
    let long = rows_long _ _ _ _ _ _ _ c.self.invariant c.self.view_is in
    omega (arith, long, ap (λ x. length x) c.as_slice.ensures.value, c.requires)

pub returns : goal.returns
returns c = sym (ap (λ x. x.ty) (row_read _ _ _ _ _ _ _ _ _ _ c.self.invariant c.self.view_is c.as_slice.ensures.value c.label_at.ensures))
