-- The names of families and types.
use Rattle.std.specs.Prelude.{ℕ, List, map}
use Rattle.ast_types.specs.TypeTable.{TypeTable}

-- the names of the families, in their order
abbrev pub names_of_families : TypeTable → List (List ℕ)
names_of_families table = map (λ family. family.name) table.families

-- the names of all types, in their order
abbrev pub names_of_all : TypeTable → List (List ℕ)
names_of_all table = map (λ t. t.name) table.types
