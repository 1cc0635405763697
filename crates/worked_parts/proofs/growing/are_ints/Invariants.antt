use Rattle.std.proofs.Common.{◌≡◌, ◌<◌, ℕ, slice_get, Some}
use Rattle.value_store.specs.declared.value.Value.{Value}
use Rattle.value_store.specs.declared.value.ValType.TheVariants as ty
use Rattle.tree_store.specs.Conforms.{IsOfKind}
use Rattle.worked_parts.proofs.growing.are_ints.Given as goal

-- the values so far are ints
abbrev pub invariant-loop-value : goal.invariant-loop-value
invariant-loop-value l = (k : ℕ) (v : Value) → k < l.value-index → slice_get l.values k ≡ Some v → IsOfKind v ty.Int
