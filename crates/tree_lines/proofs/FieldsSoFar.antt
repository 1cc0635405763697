-- The fields of a node, printed one after the other.
use Rattle.std.proofs.Common.{◌≡◌, ℕ, ◌+◌, ◌<◌, List, [], ◌∷◌, ◌++◌, length, drop, Some, slice_get, zero, suc, refl, ◌∙◌, arith, append_assoc}
use Rattle.std.proofs.Math.ListN.{get_or}
use Rattle.std.proofs.Math.Seq.{drop-cons}
use Rattle.value_store.specs.declared.value.Value.{Value}
use Rattle.value_store.specs.declared.value.ValType.{ValType}
use Rattle.value_store.specs.declared.value.ValType.TheVariants as ty
use Rattle.ast_types.specs.Items.{field_types, field_then}
use Rattle.ast_types.specs.declared.item.Item.{Item}
use Rattle.expr_lang.specs.PureOf.{pure_field, pure_fields}
use Rattle.tree_lines.specs.TreeText.{name_then, field_names, value_text, fields_text}

-- up to item k the first i fields were printed, of `count` ones
pub record FieldsSoFar (sources literals : List ℕ) (items : List Item) (fields : List Value)
    (k i count : ℕ) (old new : List ℕ) : Type 0 where
  pub whole : new ++ fields_text (field_names (drop k items)) (pure_fields sources literals (drop i fields))
      ≡ old ++ fields_text (field_names items) (pure_fields sources literals fields)
  pub left : i + length (field_types (drop k items)) ≡ count

-- an item that is no child is a field
named : (of : ValType) (name : List ℕ) (names : List (List ℕ)) → ((f : ℕ) → of ≡ ty.Node f → ⊥)
    → name_then of name names ≡ name ∷ names
named (ty.Int) name names plain = refl
named (ty.Bool) name names plain = refl
named (ty.Text) name names plain = refl
named (ty.Map) name names plain = refl
named (ty.Token) name names plain = refl
named (ty.Node f) name names plain = absurd (plain f refl)

counted : (of : ValType) (ts : List ValType) → ((f : ℕ) → of ≡ ty.Node f → ⊥) → length (field_then of ts) ≡ length ts + 1
counted (ty.Int) ts plain = omega arith
counted (ty.Bool) ts plain = omega arith
counted (ty.Text) ts plain = omega arith
counted (ty.Map) ts plain = omega arith
counted (ty.Token) ts plain = omega arith
counted (ty.Node f) ts plain = absurd (plain f refl)

drop_at : {A : Type 0} (xs : List A) (i : ℕ) (x : A) → slice_get xs i ≡ Some x → drop i xs ≡ x ∷ drop (suc i) xs
drop_at [] zero x is = (cc)
drop_at [] (suc i) x is = (cc)
drop_at (y ∷ ys) zero x is = let e : y ≡ x = cc in rw e refl
drop_at (y ∷ ys) (suc i) x is = drop_at ys i x is

-- one field more
pub field_turn : (sources literals : List ℕ) (items : List Item) (fields : List Value) (k i count : ℕ)
    (old new : List ℕ) (item : Item) (v : Value)
    → k < length items → item ≡ get_or items k item → ((f : ℕ) → item.of ≡ ty.Node f → ⊥) → slice_get fields i ≡ Some v
    → FieldsSoFar sources literals items fields k i count old new
    → FieldsSoFar sources literals items fields (k + 1) (i + 1) count old
    (new ++ 32 ∷ (item.name ++ (61 ∷ value_text (pure_field sources literals v))))
field_turn sources literals items fields k i count old new item v within is plain at so =
    let next : k + 1 ≡ suc k = omega arith in
    let next_field : i + 1 ≡ suc i = omega arith in
    let here : drop k items ≡ item ∷ drop (suc k) items = rw (← is) at (drop-cons items k item within) in
    let whole = rw (here, drop_at fields i v at, named item.of item.name (field_names (drop (suc k) items)) plain) at so.whole in
    let left = rw here at so.left in
    let more = counted item.of (field_types (drop (suc k) items)) plain in
    record {
      whole = rw (next, next_field) (append_assoc new _ _ ∙ whole);
      left = rw next (omega (arith, left, more));
    }
