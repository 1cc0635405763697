-- The rows of the table as contracts see them. Only the view of `Types` cites it.
use Rattle.ast_types.specs.TypeTable.{Family, NodeType}
use Rattle.ast_types.specs.declared.types.TypeRow.{TypeRow}
use Rattle.ast_types.specs.declared.types.FamilyRow.{FamilyRow}

-- the family that a stored row stands for
abbrev pub family_of_row : FamilyRow → Family
family_of_row row = record { name = row.name; target = row.target }

-- the type that a stored row stands for
abbrev pub type_of_row : TypeRow → NodeType
type_of_row row = record { name = row.name; family = row.family; base = row.base; items = row.items.items }
