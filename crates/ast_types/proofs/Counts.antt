-- Children and fields among items, and the rows of a table.
use Rattle.std.proofs.Common.{◌≡◌, ℕ, ◌<◌, ◌≤◌, ◌+◌, List, [], ◌∷◌, length, map, Some, None, refl, sym, ap, ◌∙◌, arith, zero, suc, drop}
use Rattle.std.specs.Prelude.{slice_get, option_map}
use Rattle.std.proofs.lemmas.Option.{slice_get-map}
use Rattle.value_store.specs.declared.value.ValType.{ValType}
use Rattle.value_store.specs.declared.value.ValType.TheVariants as ty
use Rattle.ast_types.specs.Items.{child_families, field_types, child_then, field_then}
use Rattle.ast_types.specs.TypeTable.{NodeType, type_in, type_at}
use Rattle.ast_types.specs.Rows.{type_of_row}
use Rattle.ast_types.specs.declared.item.Item.{Item}
use Rattle.ast_types.specs.declared.types.TypeRow.{TypeRow}

one_more : (of : ValType) (fs : List ℕ) (ts : List ValType) (n : ℕ) → length fs + length ts ≡ n → length (child_then of fs) + length (field_then of ts) ≡ n + 1
one_more (ty.Int) fs ts n e = omega (arith, e)
one_more (ty.Bool) fs ts n e = omega (arith, e)
one_more (ty.Text) fs ts n e = omega (arith, e)
one_more (ty.Map) fs ts n e = omega (arith, e)
one_more (ty.Token) fs ts n e = omega (arith, e)
one_more (ty.Node f) fs ts n e = omega (arith, e)

-- each item is a child or a field
pub child_or_field : (items : List Item) → length (child_families items) + length (field_types items) ≡ length items
child_or_field [] = refl
child_or_field (i ∷ is) = omega (arith, one_more i.of (child_families is) (field_types is) (length is) (child_or_field is))

pub drop_end : {A : Type 0} (xs : List A) (i : ℕ) → length xs ≤ i → drop i xs ≡ []
drop_end [] zero end = refl
drop_end [] (suc i) end = refl
drop_end (x ∷ xs) zero end = absurd (omega (arith, end))
drop_end (x ∷ xs) (suc i) end = drop_end xs i (omega (arith, end))

pub past_end : {A : Type 0} (xs : List A) (i : ℕ) → slice_get xs i ≡ None → i < length xs → ⊥
past_end [] i none within = omega (arith, within)
past_end (x ∷ xs) zero none within = (cc)
past_end (x ∷ xs) (suc i) none within = past_end xs i none (omega (arith, within))

-- a row that was read is the type with its number
pub type_read : (rows seen : List TypeRow) (types : List NodeType) (t : ℕ) (row : TypeRow) → map type_of_row rows ≡ types → seen ≡ rows
    → slice_get seen t ≡ Some row → type_at types t ≡ type_of_row row
type_read rows seen types t row view same at =
    sym (ap (λ ts. type_at ts t) view)
    ∙ ap type_in (slice_get-map type_of_row rows t ∙ ap (option_map type_of_row) (sym (ap (λ r. slice_get r t) same) ∙ at))
