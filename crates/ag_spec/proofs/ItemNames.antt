-- The items of types, called as attributes are, one after the other.
use Rattle.std.proofs.Common.{◌≡◌, ℕ, zero, suc, ◌+◌, ◌*◌, ◌<◌, ◌≤◌, ◌^◌, List, [], ◌∷◌, ◌++◌, length, map, take, refl, sym, ap, ◌∙◌, Some, subst, arith, append_assoc, append-nil}
use Rattle.std.specs.List.{slice_get}
use Rattle.std.proofs.lemmas.List.{length-map, map-append}
use Rattle.std.proofs.lemmas.List.Elements.{All-get_or}
use Rattle.std.proofs.lemmas.Option.{slice_get_within, get_or_from_slice_get}
use Rattle.ast_types.specs.FitTypes.{AreTypes, HasFitItems}
use Rattle.ast_types.specs.TypeTable.{NodeType, TypeTable, family_at, type_at}
use Rattle.ast_types.proofs.Counts.{child_or_field}
use Rattle.ck_base.specs.Numbered.{met}
use Rattle.ck_base.proofs.NamesMet.{length-met, met-append}
use Rattle.spec_text.proofs.Lists.{take_all, take_step}
use Rattle.ag_spec.specs.AgShapes.{pointed}
use Rattle.ag_spec.specs.AgFaults.{all_items_called, item_names, items_called}

-- one name more is met, of so many
pub next_met : {X : Type 0} (f : X → List ℕ) (xs : List X) (k : ℕ) (x : X) (init old new : List (List ℕ)) → slice_get xs k ≡ Some x
    → old ≡ met init (map f (take k xs)) → new ≡ met old (f x ∷ []) → new ≡ met init (map f (take (k + 1) xs))
next_met f xs k x init old new at so is =
    is ∙ ap (λ l. met l (f x ∷ [])) so ∙ sym (met-append init (map f (take k xs)) (f x ∷ []))
    ∙ sym (ap (met init) (ap (map f) (take_step xs k x at) ∙ map-append f (take k xs) (x ∷ [])))

take_fits : {X : Type 0} (xs : List X) (k : ℕ) → length (take k xs) ≤ k
take_fits [] zero = omega arith
take_fits [] (suc k) = omega arith
take_fits (x ∷ xs) zero = omega arith
take_fits (x ∷ xs) (suc k) = let more = take_fits xs k in omega (arith, more)

pub few_met : {X : Type 0} (f : X → List ℕ) (xs : List X) (k : ℕ) (init now : List (List ℕ)) → now ≡ met init (map f (take k xs))
    → length now ≤ length init + k
few_met f xs k init now so =
    let long = length-met init (map f (take k xs)) in
    let size = length-map (take k xs) f in
    let fits = take_fits xs k in
    let e = ap length so in omega (arith, long, size, fits, e)

module _ (table : TypeTable) where
  all_append : (ts us : List NodeType) → all_items_called table (ts ++ us) ≡ all_items_called table ts ++ all_items_called table us
  all_append [] us = refl
  all_append (t ∷ ts) us =
      ap (λ l. items_called table t ++ l) (all_append ts us)
      ∙ sym (append_assoc (items_called table t) (all_items_called table ts) (all_items_called table us))

  type_there : (ts : List NodeType) (t : ℕ) → t < length ts → slice_get ts t ≡ Some (type_at ts t)
  type_there [] t less = absurd (omega (arith, less))
  type_there (x ∷ ts) zero less = refl
  type_there (x ∷ ts) (suc t) less = type_there ts t (omega (arith, less))

  few_items : AreTypes table → (t : ℕ) → t < length table.types → length (type_at table.types t).items ≤ 16
  few_items are t less =
      let at = type_there table.types t less in
      let fit : HasFitItems table (type_at table.types t) =
      subst (HasFitItems table) (get_or_from_slice_get table.types t (type_at table.types t) (type_at table.types t) at)
      (All-get_or (HasFitItems table) table.types t (type_at table.types t) (slice_get_within table.types t (type_at table.types t) at) are.items) in
      let children = fit.few_children in
      let fields = fit.few_fields in
      let both = child_or_field (type_at table.types t).items in
      omega (arith, children, fields, both)

  module _ (are : AreTypes table) (t : ℕ) (names : List (List ℕ))
      (so : (names ≡ met [] (all_items_called table (take t table.types))) × (length names ≤ 16 * t)) where
    module _ (less : t < length table.types) where
      pub room : length names + length (type_at table.types t).items < 2 ^ 32
      room =
          let few = so.1 in
          let items = few_items are t less in
          let types = are.few_types in
          omega (arith, few, items, types, less)

      pub next_items : (new : List (List ℕ)) → new ≡ met names (items_called table (type_at table.types t))
          → (new ≡ met [] (all_items_called table (take (t + 1) table.types))) × (length new ≤ 16 * (t + 1))
      next_items new is = (all, few)
        where
          all : new ≡ met [] (all_items_called table (take (t + 1) table.types))
          all =
              is ∙ ap (λ l. met l (items_called table (type_at table.types t))) so.0
              ∙ sym (met-append [] (all_items_called table (take t table.types)) (items_called table (type_at table.types t)))
              ∙ sym (ap (met []) (ap (all_items_called table) (take_step table.types t (type_at table.types t) (type_there table.types t less))
              ∙ all_append (take t table.types) (type_at table.types t ∷ [])
              ∙ ap (λ l. all_items_called table (take t table.types) ++ l) (append-nil (items_called table (type_at table.types t)))))

          few : length new ≤ 16 * (t + 1)
          few =
              let long = length-met names (items_called table (type_at table.types t)) in
              let size = length-map (type_at table.types t).items (λ item. pointed (family_at table.families (type_at table.types t).family).name item.name) in
              let items = few_items are t less in
              let before = so.1 in
              let e = ap length is in omega (arith, long, size, items, before, e)

    pub all_met : t ≡ length table.types → names ≡ item_names table
    all_met end = so.0 ∙ ap (λ l. met [] (all_items_called table l)) (take_all table.types t end)
