-- A type added to a sound table, at its end, leaves a sound table.
use Rattle.std.proofs.Common.{◌≡◌, ℕ, ◌+◌, ◌^◌, ◌<◌, ◌++◌, List, [], ◌∷◌, length, map, Some, None, refl, sym, ap, ◌∙◌, subst, arith, zero, suc, length-append}
use Rattle.std.specs.Prelude.{slice_get}
use Rattle.std.proofs.lemmas.Option.{slice_get_past}
use Rattle.ast_types.specs.TypeTable.{Family, NodeType, type_in, type_at, base_items, BaseFits, IsSound, IsNumbered}
use Rattle.ast_types.specs.Rows.{family_of_row, type_of_row}
use Rattle.ast_types.specs.declared.item.Item.{Item}
use Rattle.ast_types.specs.declared.types.FamilyRow.{FamilyRow}
use Rattle.ast_types.specs.declared.types.TypeRow.{TypeRow}

map-append : {A B : Type 0} (f : A → B) (xs ys : List A) → map f (xs ++ ys) ≡ map f xs ++ map f ys
map-append f [] ys = refl
map-append f (x ∷ xs) ys = ap (λ zs. f x ∷ zs) (map-append f xs ys)

slice_get-more : {A : Type 0} (xs more : List A) (i : ℕ) → i < length xs → slice_get (xs ++ more) i ≡ slice_get xs i
slice_get-more [] more i within = absurd (omega (arith, within))
slice_get-more (x ∷ xs) more zero within = refl
slice_get-more (x ∷ xs) more (suc i) within = slice_get-more xs more i (omega (arith, within))

slice_get-end : {A : Type 0} (xs : List A) (x : A) → slice_get (xs ++ x ∷ []) (length xs) ≡ Some x
slice_get-end [] x = refl
slice_get-end (y ∷ xs) x = slice_get-end xs x

-- a number is below n, is n, or is past it
data Where (n t : ℕ) : Type 0 where
  below : t < n → Where n t
  at_end : t ≡ n → Where n t
  past : n < t → Where n t

more_where : (n t : ℕ) → Where n t → Where (suc n) (suc t)
more_where n t (below lt) = below (omega (arith, lt))
more_where n t (at_end e) = at_end (ap suc e)
more_where n t (past lt) = past (omega (arith, lt))

where_is : (n t : ℕ) → Where n t
where_is zero zero = at_end refl
where_is zero (suc t) = past (omega arith)
where_is (suc n) zero = below (omega arith)
where_is (suc n) (suc t) = more_where n t (where_is n t)

type_at-more : (types : List NodeType) (new : NodeType) (t : ℕ) → t < length types → type_at (types ++ new ∷ []) t ≡ type_at types t
type_at-more types new t within = ap type_in (slice_get-more types (new ∷ []) t within)

type_at-end : (types : List NodeType) (new : NodeType) (t : ℕ) → t ≡ length types → type_at (types ++ new ∷ []) t ≡ new
type_at-end types new t e = ap (type_at (types ++ new ∷ [])) e ∙ ap type_in (slice_get-end types new)

no_base : (types : List NodeType) (new : NodeType) (t b : ℕ) → length types < t → (type_at (types ++ new ∷ []) t).base ≡ Some b → ⊥
no_base types new t b far base =
    let none = ap (λ o. (type_in o).base) (slice_get_past (types ++ new ∷ []) t (omega (arith, far, length-append types (new ∷ [])))) in
    let e : None ≡ Some b = sym none ∙ base in cc

-- one more type
more_types : (families : List Family) (types : List NodeType) (new : NodeType) (own : List Item) → IsSound (record { families = families; types = types })
    → new.family < length families → BaseFits types new.family new.base → new.items ≡ base_items types new.base ++ own
    → IsSound (record { families = families; types = types ++ new ∷ [] })
more_types families types new own sound family fits items = record {
  base_before = λ t b base. (the_base t b base (where_is (length types) t)).0;
  base_family = λ t b base. (the_base t b base (where_is (length types) t)).1;
  base_first = λ t b base. (the_base t b base (where_is (length types) t)).2;
  family_there = λ t within. family_it t within (where_is (length types) t);
}
  where
    -- the new type's base is there
    found : (b : ℕ) → new.base ≡ Some b → (b < length types) × ((type_at types b).family ≡ new.family)
    found b is = subst (BaseFits types new.family) is fits

    -- what an old type has of its base
    the_base : (t b : ℕ) → (type_at (types ++ new ∷ []) t).base ≡ Some b → Where (length types) t
        → (b < t) × ((type_at (types ++ new ∷ []) b).family ≡ (type_at (types ++ new ∷ []) t).family)
        × ((own : List Item) × ((type_at (types ++ new ∷ []) t).items ≡ (type_at (types ++ new ∷ []) b).items ++ own))
    the_base t b base (below lt) =
        let same = type_at-more types new t lt in
        let base_was = sym (ap (λ r. r.base) same) ∙ base in
        let low = sound.base_before t b base_was in
        let same_base = type_at-more types new b (omega (arith, low, lt)) in
        let first = sound.base_first t b base_was in (
          low,
          ap (λ r. r.family) same_base ∙ sound.base_family t b base_was ∙ sym (ap (λ r. r.family) same),
          (first.0, ap (λ r. r.items) same ∙ first.1 ∙ sym (ap (λ r. r.items ++ first.0) same_base)),
        )
    the_base t b base (at_end e) =
        let same = type_at-end types new t e in
        let base_is = sym (ap (λ r. r.base) same) ∙ base in
        let there = found b base_is in
        let same_base = type_at-more types new b there.0 in (
          omega (arith, there.0, e),
          ap (λ r. r.family) same_base ∙ there.1 ∙ sym (ap (λ r. r.family) same),
          (own, ap (λ r. r.items) same ∙ items ∙ ap (λ x. base_items types x ++ own) base_is ∙ sym (ap (λ r. r.items ++ own) same_base)),
        )
    the_base t b base (past lt) = absurd (no_base types new t b lt base)

    family_it : (t : ℕ) → t < length (types ++ new ∷ []) → Where (length types) t → (type_at (types ++ new ∷ []) t).family < length families
    family_it t within (below lt) = rw (type_at-more types new t lt) (sound.family_there t lt)
    family_it t within (at_end e) = rw (type_at-end types new t e) family
    family_it t within (past lt) = absurd (omega (arith, within, lt, length-append types (new ∷ [])))

added_sound : (fams : List FamilyRow) (rows new : List TypeRow) (row : TypeRow) (families : List Family) (types : List NodeType) (own : List Item)
    → IsSound (record { families = map family_of_row fams; types = map type_of_row rows })
    → map type_of_row rows ≡ types → map family_of_row fams ≡ families → row.family < length families → BaseFits types row.family row.base
    → row.items.items ≡ base_items types row.base ++ own → new ≡ rows ++ row ∷ []
    → IsSound (record { families = map family_of_row fams; types = map type_of_row new })
added_sound fams rows new row families types own sound ts fs family fits items is =
    rw (is, map-append type_of_row rows (row ∷ []))
    (more_types (map family_of_row fams) (map type_of_row rows) (type_of_row row) own sound (rw fs family) (rw ts fits) (rw ts items))

-- one more row
pub type_added : (fams : List FamilyRow) (rows new : List TypeRow) (row : TypeRow) (families : List Family) (types : List NodeType) (own : List Item)
    → IsNumbered (record { families = map family_of_row fams; types = map type_of_row rows }) → length types + 1 < 2 ^ 32
    → map type_of_row rows ≡ types → map family_of_row fams ≡ families → row.family < length families → BaseFits types row.family row.base
    → row.items.items ≡ base_items types row.base ++ own → new ≡ rows ++ row ∷ []
    → IsNumbered (record { families = map family_of_row fams; types = map type_of_row new })
type_added fams rows new row families types own numbered few ts fs family fits items is = record {
  sound = added_sound fams rows new row families types own numbered.sound ts fs family fits items is;
  few_families = numbered.few_families;
  few_types = (let long = ap (λ x. length x) ts in let all = ap (λ x. length (map type_of_row x)) is in
      let one = length-append (map type_of_row rows) (type_of_row row ∷ []) in
      let more = ap (λ x. length x) (map-append type_of_row rows (row ∷ [])) in
      omega (arith, few, long, all, more, one));
}
