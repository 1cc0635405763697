-- The table of types from the rows: each row's base is there, of its family, and gives its first items.
use Rattle.std.proofs.Common.{◌≡◌, ℕ, zero, suc, ◌+◌, ◌^◌, ◌<◌, ◌≤◌, ◌⊎◌, inl, inr, true, false, cond, List, [], ◌∷◌, ◌++◌, length, take, drop, map, get_or, refl, sym, ap, subst, ◌∙◌, Option, Some, None, All, Contains, arith, length-append}
use Rattle.std.specs.List.{slice_get, position_from}
use Rattle.std.specs.Str.{bytes_eq}
use Rattle.std.proofs.lemmas.List.{length-map, append-nil, map-append, take-append-le, drop-map}
use Rattle.std.proofs.lemmas.Slice.Eq.{bytes_eq-Decides}
use Rattle.std.proofs.lemmas.Iterator.Adapters.{position_from-zero}
use Rattle.ast_types.specs.TypeTable.{Family, NodeType, TypeTable, type_at, type_in, base_items}
use Rattle.ast_types.specs.declared.item.Item.{Item}
use Rattle.ck_base.specs.Numbered.{number_of}
use Rattle.ck_base.proofs.NameFound.{place_of}
use Rattle.ck_base.proofs.NamesMet.{name_at_number}
use Rattle.section_frame.specs.Declares.{Declared}
use Rattle.spec_text.proofs.Lists.{all_at, order, map_get, get_at, get_fits, take_all, take_step}
use Rattle.node_spec.specs.AstShapes.{AstSaying, SaidItem, family, target, a_type, node, build}
use Rattle.node_spec.specs.AstTables.{Row, families_in, family_names, family_number, family_then, item_of, row_after, row_in, row_names, row_of, row_over, rows_from, rows_in, type_of_row}
use Rattle.node_spec.specs.within.AstSeen.{item_seen, row_seen}
use Rattle.node_spec.specs.within.AstWalks.{FitsOver, FitsRow, families_said, with_family}
use Rattle.node_spec.specs.declared.ast_line.ItemText.{ItemText}
use Rattle.node_spec.specs.declared.rows.TypeRow.{TypeRow}
use Rattle.node_spec.proofs.AstLists.{get_at_end}
use Rattle.node_spec.proofs.AstRowLists.{next_families, next_family_count}

-- a name that stands somewhere is found
found_from : (names : List (List ℕ)) (name : List ℕ) (j k : ℕ) → slice_get names k ≡ Some name
    → (n : ℕ) × (position_from (bytes_eq name) j names ≡ Some n)
found_from [] name j k at = cc
found_from (x ∷ names) name j zero at =
    let it : x ≡ name = cc in
    (j, ap (λ b. cond b (Some j) (position_from (bytes_eq name) (j + 1) names)) (subst (λ y. bytes_eq name y ≡ true) (sym it) ((bytes_eq-Decides name name).1 refl)))
found_from (x ∷ names) name j (suc k) at =
    elim (bytes_eq name x) as (λ b. (n : ℕ) × (cond b (Some j) (position_from (bytes_eq name) (j + 1) names) ≡ Some n)) [
      | true ↦ (j, refl)
      | false ↦ found_from names name (j + 1) k at
    ]

pub found_there : (names : List (List ℕ)) (name : List ℕ) → Contains names name → (n : ℕ) × (number_of names name ≡ Some n)
found_there names name there =
    let at = place_of names name there in let found = found_from names name 0 at.0 at.1 in
    (found.0, position_from-zero (bytes_eq name) names ∙ found.1)

-- the number of a family that is there is one of a family
pub number_fits : (names : List (List ℕ)) (name : List ℕ) → Contains names name → family_number names name < length names
number_fits names name there =
    let found = found_there names name there in
    let fits = get_fits names found.0 name (name_at_number names name found.0 found.1) in
    rw found.1 fits

-- the base of a row, if it has one, stands before it, has its family, and gives its first items
pub record StandsOn (rows : List Row) (row : Row) (b : ℕ) : Type 0 where
  pub before : b < length rows
  pub family_is : row.family ≡ (row_in (slice_get rows b)).family
  pub own : List SaidItem
  pub items_are : row.items ≡ (row_in (slice_get rows b)).items ++ own

abbrev pub EachStands : List Row → Type 0
EachStands rows = (k b : ℕ) (row : Row) → slice_get rows k ≡ Some row → row.base ≡ Some b → StandsOn (take k rows) row b

pub base_before : (rows : List Row) (base : List ℕ) (b : ℕ) → number_of (row_names rows) base ≡ Some b → b < length rows
base_before rows base b found =
    let fits = get_fits (row_names rows) b base (name_at_number (row_names rows) base b found) in
    omega (arith, fits, length-map rows (λ row. row.name))

new_stands : (rows : List Row) (name base : List ℕ) (items : List SaidItem) (o : Option ℕ) (b : ℕ)
    → number_of (row_names rows) base ≡ o → (row_over rows name base items o).base ≡ Some b
    → StandsOn rows (row_over rows name base items o) b
new_stands rows name base items None b found is = cc
new_stands rows name base items (Some n) b found is =
    let same : n ≡ b = cc in
    rw (← same) (record { before = base_before rows base n found; family_is = refl; own = items; items_are = refl })

one_more : (rows : List Row) (new : Row) → EachStands rows → ((b : ℕ) → new.base ≡ Some b → StandsOn rows new b)
    → EachStands (rows ++ new ∷ [])
one_more rows new each its k b row at base = by (order k (length rows))
  where
    by : (k < length rows) ⊎ ((length rows < k) ⊎ (k ≡ length rows)) → StandsOn (take k (rows ++ new ∷ [])) row b
    by (inl less) = rw (take-append-le k rows (new ∷ []) (omega (arith, less))) (each k b row (in_front rows k less at) base)
      where
        in_front : (rows : List Row) (k : ℕ) → k < length rows → slice_get (rows ++ new ∷ []) k ≡ Some row → slice_get rows k ≡ Some row
        in_front [] k less at = absurd (omega (arith, less))
        in_front (r ∷ rows) zero less at = at
        in_front (r ∷ rows) (suc k) less at = in_front rows k (omega (arith, less)) at
    by (inr (inl more)) =
        let fits = get_fits (rows ++ new ∷ []) k row at in absurd (omega (arith, fits, more, length-append rows (new ∷ [])))
    by (inr (inr same)) =
        let here = get_at_end rows [] (length rows) new refl in
        let it : new ≡ row = (let a = rw same at at in let b = sym here ∙ a in cc) in
        let all : take (length rows) (rows ++ new ∷ []) ≡ rows = take-append-le (length rows) rows (new ∷ []) (omega arith) ∙ take_all rows (length rows) refl in
        rw (same, all) (subst (λ r. StandsOn rows r b) it (its b (subst (λ r. r.base ≡ Some b) (sym it) base)))

stands_after : (rows : List Row) (said : AstSaying) → EachStands rows → EachStands (row_after rows said)
stands_after rows (family name) each = each
stands_after rows (target name) each = each
stands_after rows (a_type name base items) each =
    one_more rows (row_of rows name base items) each
    (λ b is. new_stands rows name base items (number_of (row_names rows) base) b refl is)
stands_after rows (node nonterminal name) each = each
stands_after rows (build label e) each = each

stands_from : (rows : List Row) (ds : List (Declared AstSaying)) → EachStands rows → EachStands (rows_from rows ds)
stands_from rows [] each = each
stands_from rows (d ∷ ds) each = stands_from (row_after rows d.said) ds (stands_after rows d.said each)

pub rows_stand : (ds : List (Declared AstSaying)) → EachStands (rows_in ds)
rows_stand ds = stands_from [] ds (λ k b row at base. cc)

-- so it fits the types of the rows before it
type_at_row : (fs : List (List ℕ)) (rows : List Row) (b : ℕ) (row : Row) → slice_get rows b ≡ Some row
    → type_at (map (type_of_row fs) rows) b ≡ type_of_row fs row
type_at_row fs rows b row at = ap type_in (map_get (type_of_row fs) rows b row at)

pub some_row : (rows : List Row) (b : ℕ) → b < length rows → (row : Row) × (slice_get rows b ≡ Some row)
some_row [] b less = absurd (omega (arith, less))
some_row (row ∷ rows) zero less = (row, refl)
some_row (row ∷ rows) (suc b) less = some_row rows b (omega (arith, less))

fits_on : (fs : List (List ℕ)) (rows : List Row) (row : Row) (b : ℕ) → StandsOn rows row b
    → FitsOver fs (map (type_of_row fs) rows) row (Some b)
fits_on fs rows row b on =
    let base = some_row rows b on.before in
    let its = type_at_row fs rows b base.0 base.1 in
    let is : row_in (slice_get rows b) ≡ base.0 = ap row_in base.1 in (
      (let less = on.before in omega (arith, less, length-map rows (type_of_row fs))),
      ap (λ t. t.family) its ∙ ap (family_number fs) (sym (on.family_is ∙ ap (λ r. r.family) is)),
      (
        map (item_of fs) on.own,
        ap (map (item_of fs)) (on.items_are ∙ ap (λ r. r.items ++ on.own) is) ∙ map-append (item_of fs) base.0.items on.own
            ∙ ap (λ t. t.items ++ map (item_of fs) on.own) (sym its),
      ),
    )

fits_with : (fs : List (List ℕ)) (rows : List Row) (row : Row) (o : Option ℕ) → ((b : ℕ) → o ≡ Some b → StandsOn rows row b)
    → FitsOver fs (map (type_of_row fs) rows) row o
fits_with fs rows row None on = tt
fits_with fs rows row (Some b) on = fits_on fs rows row b (on b refl)

pub fits_row : (ds : List (Declared AstSaying)) (fs : List (List ℕ)) (i : ℕ) (row : Row) → slice_get (rows_in ds) i ≡ Some row
    → FitsRow fs (map (type_of_row fs) (take i (rows_in ds))) row
fits_row ds fs i row at = fits_with fs (take i (rows_in ds)) row row.base (λ b is. rows_stand ds i b row at is)

begins : (fs : List (List ℕ)) (types : List NodeType) (row : Row) (o : Option ℕ) → FitsOver fs types row o
    → (own : List Item) × (map (item_of fs) row.items ≡ base_items types o ++ own)
begins fs types row None fits = (map (item_of fs) row.items, refl)
begins fs types row (Some b) fits = fits.2

behind : {X : Type 0} (first own : List X) → drop (length first) (first ++ own) ≡ own
behind [] own = refl
behind (x ∷ first) own = behind first own

-- the items of the base, and then those behind as many
pub items_again : (fs : List (List ℕ)) (types : List NodeType) (row : Row) (o : Option ℕ) → FitsOver fs types row o
    → base_items types o ++ map (item_of fs) (drop (length (base_items types o)) row.items) ≡ map (item_of fs) row.items
items_again fs types row o fits =
    let own = begins fs types row o fits in
    let rest : map (item_of fs) (drop (length (base_items types o)) row.items) ≡ own.0 =
    sym (drop-map (item_of fs) (length (base_items types o)) row.items) ∙ ap (drop (length (base_items types o))) own.1
    ∙ behind (base_items types o) own.0 in
    ap (λ l. base_items types o ++ l) rest ∙ sym own.1

-- the families of the lines so far, and no types
pub record FamiliesSoFar (ds : List (Declared AstSaying)) (i : ℕ) (table : TypeTable) : Type 0 where
  pub are : table ≡ record { families = families_in (take i ds); types = [] }
  pub few : length table.families ≤ i

pub no_families_yet : (ds : List (Declared AstSaying)) (table : TypeTable) → table ≡ record { families = []; types = [] }
    → FamiliesSoFar ds 0 table
no_families_yet ds table is = record { are = is; few = rw is (omega arith) }

with_one : (families : List Family) (types : List NodeType) (said : AstSaying)
    → with_family (record { families = families; types = types }) said
    ≡ record { families = families ++ family_then said []; types = types }
with_one families types (family name) = refl
with_one families types (target name) = refl
with_one families types (a_type name base items) = ap (λ l. record { families = l; types = types }) (sym (append-nil families))
with_one families types (node nonterminal name) = ap (λ l. record { families = l; types = types }) (sym (append-nil families))
with_one families types (build label e) = ap (λ l. record { families = l; types = types }) (sym (append-nil families))

one_family : (said : AstSaying) → families_said said ≤ 1
one_family (family name) = omega arith
one_family (target name) = omega arith
one_family (a_type name base items) = omega arith
one_family (node nonterminal name) = omega arith
one_family (build label e) = omega arith

pub one_family_more : (ds : List (Declared AstSaying)) (i : ℕ) (old new : TypeTable) (d : Declared AstSaying) → slice_get ds i ≡ Some d
    → FamiliesSoFar ds i old → new ≡ with_family old d.said → FamiliesSoFar ds (i + 1) new
one_family_more ds i old new d at so is =
    record {
      are = are;
      few = (let count = next_family_count ds i d at in let e = ap (λ t. length t.families) are in
          let before = ap (λ t. length t.families) so.are in let few = so.few in let one = one_family d.said in omega (arith, count, e, before, few, one));
    }
  where
    are : new ≡ record { families = families_in (take (i + 1) ds); types = [] }
    are =
        is ∙ ap (λ t. with_family t d.said) so.are ∙ with_one (families_in (take i ds)) [] d.said
        ∙ ap (λ l. record { families = l; types = [] }) (sym (next_families ds i d at))

pub all_families : (ds : List (Declared AstSaying)) (i : ℕ) (table : TypeTable) → i ≡ length ds → FamiliesSoFar ds i table
    → table ≡ record { families = families_in ds; types = [] }
all_families ds i table end so = so.are ∙ ap (λ l. record { families = families_in l; types = [] }) (take_all ds i end)

-- one row more
pub one_type_more : (fs : List (List ℕ)) (families : List Family) (rows : List Row) (i : ℕ) (row : Row) (old new : TypeTable)
    → slice_get rows i ≡ Some row → old ≡ record { families = families; types = map (type_of_row fs) (take i rows) }
    → new ≡ record { families = old.families; types = old.types ++ type_of_row fs row ∷ [] }
    → new ≡ record { families = families; types = map (type_of_row fs) (take (i + 1) rows) }
one_type_more fs families rows i row old new at was is =
    is ∙ ap (λ t. record { families = t.families; types = t.types ++ type_of_row fs row ∷ [] }) was
    ∙ ap (λ l. record { families = families; types = l })
    (sym (ap (map (type_of_row fs)) (take_step rows i row at) ∙ map-append (type_of_row fs) (take i rows) (row ∷ [])))

-- a row is added as it is meant
abbrev node_type : List ℕ → ℕ → Option ℕ → List Item → NodeType
node_type name number base items = record { name = name; family = number; base = base; items = items }

pub row_added : (fs : List (List ℕ)) (old new : TypeTable) (row : TypeRow) (number from : ℕ) (rest : List ItemText) (own : List Item)
    → FitsRow fs old.types (row_seen row) → number ≡ family_number fs row.family.now
    → from ≡ length (base_items old.types row.base) → rest ≡ drop from row.items.items
    → own ≡ map (item_of fs) (map item_seen rest)
    → new ≡ record {
      families = old.families;
      types = old.types
          ++ node_type row.name.now number row.base (base_items old.types row.base ++ own) ∷ [];
    }
    → new ≡ record { families = old.families; types = old.types ++ type_of_row fs (row_seen row) ∷ [] }
row_added fs old new row number from rest own fits number_is from_is rest_is own_is is =
    is ∙ ap (λ t. record { families = old.families; types = old.types ++ t ∷ [] })
    (ap (λ n. node_type row.name.now n row.base (base_items old.types row.base ++ own)) number_is
    ∙ ap (λ l. node_type row.name.now (family_number fs row.family.now) row.base l) items)
  where
    again : own ≡ map (item_of fs) (drop (length (base_items old.types row.base)) (map item_seen row.items.items))
    again =
        own_is ∙ ap (λ l. map (item_of fs) (map item_seen l)) (rest_is ∙ ap (λ n. drop n row.items.items) from_is)
        ∙ ap (map (item_of fs)) (sym (drop-map item_seen (length (base_items old.types row.base)) row.items.items))

    items : base_items old.types row.base ++ own ≡ map (item_of fs) (map item_seen row.items.items)
    items = ap (λ l. base_items old.types row.base ++ l) again ∙ items_again fs old.types (row_seen row) row.base fits

pub one_item : (fs : List (List ℕ)) (items : List ItemText) (i : ℕ) (p : ItemText) (made : Item) (old new : List Item) → i < length items
    → old ≡ map (item_of fs) (map item_seen (take i items)) → made ≡ item_of fs (item_seen (get_or items i p))
    → new ≡ old ++ made ∷ [] → new ≡ map (item_of fs) (map item_seen (take (i + 1) items))
one_item fs items i p made old new less was its is =
    is ∙ ap (λ l. l ++ made ∷ []) was ∙ ap (λ x. map (item_of fs) (map item_seen (take i items)) ++ x ∷ []) its
    ∙ sym (ap (λ l. map (item_of fs) (map item_seen l)) (take_step items i (get_or items i p) (get_at items i p less))
    ∙ ap (map (item_of fs)) (map-append item_seen (take i items) (get_or items i p ∷ []))
    ∙ map-append (item_of fs) (map item_seen (take i items)) (item_seen (get_or items i p) ∷ []))

pub all_items : (fs : List (List ℕ)) (items : List ItemText) (i : ℕ) (own : List Item) → i ≤ length items → length items ≤ i
    → own ≡ map (item_of fs) (map item_seen (take i items)) → own ≡ map (item_of fs) (map item_seen items)
all_items fs items i own less more is =
    is ∙ ap (λ l. map (item_of fs) (map item_seen l)) (take_all items i (omega (arith, less, more)))

few_taken : {X : Type 0} (i : ℕ) (xs : List X) → length (take i xs) ≤ i
few_taken zero xs = omega arith
few_taken (suc i) [] = omega arith
few_taken (suc i) (x ∷ xs) = let few = few_taken i xs in omega (arith, few)

few_after : (rows : List Row) (said : AstSaying) → length (row_after rows said) ≤ length rows + 1
few_after rows (family name) = omega arith
few_after rows (target name) = omega arith
few_after rows (a_type name base items) = omega (arith, length-append rows (row_of rows name base items ∷ []))
few_after rows (node nonterminal name) = omega arith
few_after rows (build label e) = omega arith

few_rows : (rows : List Row) (ds : List (Declared AstSaying)) → length (rows_from rows ds) ≤ length rows + length ds
few_rows rows [] = omega arith
few_rows rows (d ∷ ds) = let later = few_rows (row_after rows d.said) ds in let one = few_after rows d.said in omega (arith, later, one)

-- the families, and the types of the rows so far
abbrev pub table_so_far : List (Declared AstSaying) → ℕ → TypeTable
table_so_far ds i = record { families = families_in ds; types = map (type_of_row (family_names ds)) (take i (rows_in ds)) }

module _ (ds : List (Declared AstSaying)) (rows : List TypeRow) (i : ℕ) (item p : TypeRow) (names : List (List ℕ)) (old : TypeTable)
    (rows_are : map row_seen rows ≡ rows_in ds) (is : item ≡ get_or rows i p) (less : i < length rows)
    (names_are : names ≡ family_names ds) (so : old ≡ table_so_far ds i) where
  at : slice_get (rows_in ds) i ≡ Some (row_seen item)
  at =
      ap (λ l. slice_get l i) (sym rows_are)
      ∙ map_get row_seen rows i item (get_at rows i p less ∙ ap (λ x. Some x) (sym is))

  pub few_types : (n : ℕ) → length ds ≡ n → n + 1 < 2 ^ 32 → length old.types + 1 < 2 ^ 32
  few_types n long few =
      let a = ap (λ t. length t.types) so in let b = length-map (take i (rows_in ds)) (type_of_row (family_names ds)) in
      let c = few_taken i (rows_in ds) in let d = ap length rows_are in let e = length-map rows row_seen in let f = few_rows [] ds in
      omega (arith, few, less, a, b, c, d, e, f, long)

  pub family_fits : All (λ row. Contains (family_names ds) row.family) (rows_in ds)
      → family_number names item.family.now < length old.families
  family_fits known =
      let there = all_at (λ row. Contains (family_names ds) row.family) (rows_in ds) i (row_seen item) known at in
      let fits = number_fits (family_names ds) item.family.now there in
      let a = ap (λ t. length t.families) so in let b = length-map (families_in ds) (λ f. f.name) in
      let less : family_number (family_names ds) item.family.now < length old.families = omega (arith, fits, a, b) in
      subst (λ l. family_number l item.family.now < length old.families) (sym names_are) less

  pub row_stands : FitsRow names old.types (row_seen item)
  row_stands =
      subst (λ fs. FitsRow fs old.types (row_seen item)) (sym names_are)
      (subst (λ t. FitsRow (family_names ds) t.types (row_seen item)) (sym so) (fits_row ds (family_names ds) i (row_seen item) at))

  pub table_more : (new : TypeTable)
      → new ≡ record { families = old.families; types = old.types ++ type_of_row names (row_seen item) ∷ [] }
      → new ≡ table_so_far ds (i + 1)
  table_more new e =
      one_type_more (family_names ds) (families_in ds) (rows_in ds) i (row_seen item) old new at so
      (subst (λ fs. new ≡ record { families = old.families; types = old.types ++ type_of_row fs (row_seen item) ∷ [] }) names_are e)
