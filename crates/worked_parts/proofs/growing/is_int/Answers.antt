use Rattle.std.proofs.Common.{sym, subst}
use Rattle.value_store.specs.declared.value.Value.{Value}
use Rattle.value_store.specs.declared.value.ValType.TheVariants as ty
use Rattle.tree_store.specs.Conforms.{IsOfKind, is_int}
use Rattle.worked_parts.proofs.growing.is_int.Goals as goal

pub returns-in-Int : goal.returns-in-Int
returns-in-Int c = λ _. subst (λ (v : Value). IsOfKind v ty.Int) (sym c.in-Int.is) (is_int c.in-Int.field-0)
