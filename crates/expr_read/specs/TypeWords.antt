-- The words that name types of values.
use Rattle.std.specs.Prelude.{ℕ, List, Option, Some, None, codes, if◌then◌else◌}
use Rattle.std.specs.Str.{bytes_eq}
use Rattle.value_store.specs.declared.value.ValType.{ValType}
use Rattle.value_store.specs.declared.value.ValType.TheVariants as ty

-- the type that the word names, if it names one
abbrev pub type_of_word : List ℕ → Option ValType
type_of_word w =
    if bytes_eq w (codes "int") then Some ty.Int else
    if bytes_eq w (codes "bool") then Some ty.Bool else
    if bytes_eq w (codes "text") then Some ty.Text else
    if bytes_eq w (codes "map") then Some ty.Map else
    None
