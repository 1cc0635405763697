use Rattle.std.proofs.Common.{ap, arith, length}
use Rattle.ast_types.specs.Items.{child_families}
use Rattle.ast_types.proofs.Counts.{child_or_field}
use Rattle.ast_types.proofs.TypeAdded.{type_added}
use Rattle.ast_types.proofs.types.Types.add_type.Goals as goal

pub overflow_sub-fields : goal.overflow_sub-fields
overflow_sub-fields c =
    let children = ap (λ is. child_families is) c.as_slice.ensures.value in
    omega (arith, child_or_field c.in_ok-items.items.items, ap length children, c.in_ok-items.items.ok)

pub invariant_of-row-clause-fields_counted : goal.invariant_of-row-clause-fields_counted
invariant_of-row-clause-fields_counted c =
    let children = ap (λ is. child_families is) c.as_slice.ensures.value in
    omega (arith, child_or_field c.in_ok-items.items.items, ap length children, c.in_ok-items.items.ok)

pub invariant_of-self-2 : goal.invariant_of-self-2
invariant_of-self-2 c =
    type_added c.self.inside.families.items c.self.inside.types.items c.push.new.self.items _ _ _ c.args.own.items c.self.invariant c.requires.few
    (ap (λ k. k.types) c.self.view_is) (ap (λ k. k.families) c.self.view_is) c.requires.family c.requires.base c.in_ok-items.ensures c.in_ok-push.ensures.items
