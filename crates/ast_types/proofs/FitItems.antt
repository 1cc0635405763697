-- Types of nodes within the limits, type by type.
use Rattle.std.specs.Prelude.{ℕ, ◌<◌, length, None, slice_get, All}
use Rattle.std.proofs.Common.{sym, ap, subst}
use Rattle.std.proofs.lemmas.List.Elements.{All-get_or}
use Rattle.std.proofs.lemmas.Option.{slice_get-get_or}
use Rattle.ast_types.specs.FitTypes.{HasFitItems}
use Rattle.ast_types.specs.TypeTable.{NodeType, TypeTable, type_in, type_at}

-- where the items of each type fit, those of a type that is there do
pub fit_items : (table : TypeTable) (t : ℕ) → All (HasFitItems table) table.types → t < length table.types → HasFitItems table (type_at table.types t)
fit_items table t all within =
    let d : NodeType = type_in None in
    let is = slice_get-get_or table.types t d within in
    subst (HasFitItems table) (sym (ap type_in is)) (All-get_or (HasFitItems table) table.types t d within all)
