-- What makes the types that were looked at. Only contracts within the crate cite this.
use Rattle.std.specs.Prelude.{◌≡◌, ℕ, ◌++◌, Bool, All, map, drop}
use Rattle.ast_types.specs.TypeTable.{TypeTable}
use Rattle.node_model.specs.Makers.{IsMakerOf, names_of_types, types_from, types_of_side}
use Rattle.node_model.specs.declared.makers.TypeMakers.{TypeMakers}

-- what makes the types of the side below this one
pub record MakersSoFar (table : TypeTable) (target : Bool) (t : ℕ) (made : TypeMakers) : Type 0 where
  pub names : made.names.items ≡ names_of_types table made.types.items
  pub types : made.types.items ++ types_from table target t (drop t table.types) ≡ types_of_side table target
  pub kinds : map (λ m. m.ty) made.makers.items ≡ made.types.items
  pub each : All (λ m. IsMakerOf table m.ty m) made.makers.items
