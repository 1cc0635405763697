-- The first line past a limit: families and types so far, and the items of a line's type.
use Rattle.std.proofs.Common.{◌≡◌, ℕ, zero, suc, ◌+◌, ◌-◌, ◌<◌, ◌≤◌, ◌⊎◌, inl, inr, Bool, true, false, if◌then◌else◌, List, [], ◌∷◌, length, take, map, get_or, refl, sym, ap, subst, ◌∙◌, Some, IsTrue, ◌↔◌, arith, codes}
use Rattle.std.specs.List.{slice_get}
use Rattle.std.specs.Option.{is_some}
use Rattle.std.specs.Prelude.{unwrap_or}
use Rattle.std.specs.Str.{bytes_eq}
use Rattle.std.proofs.lemmas.List.{length-map}
use Rattle.value_store.specs.declared.value.ValType.{ValType}
use Rattle.value_store.specs.declared.value.ValType.TheVariants as ty
use Rattle.ast_types.specs.Items.{child_families, child_then, field_then, field_types}
use Rattle.ck_base.specs.declared.fault.Kind.TheVariants.{Limit}
use Rattle.cfg_model.specs.declared.named.NamedGrammar.{NamedGrammar}
use Rattle.section_frame.specs.Declares.{Declared, HasAt, Grow}
use Rattle.spec_text.specs.Least.{Least}
use Rattle.section_frame.proofs.Frame.{NoneBefore, none_at_first, none_more, first_here}
use Rattle.spec_text.proofs.Lists.{map_get, get_at, take_all}
use Rattle.node_spec.specs.AstShapes.{AstSaying, SaidItem, family, target, a_type, node, build}
use Rattle.node_spec.specs.AstTables.{Row, families_in, family_names, family_number, item_of, rows_in}
use Rattle.node_spec.specs.AstFaults.{AstFault, row_at, too_many_families, too_many_types, too_many_children, too_many_fields}
use Rattle.node_spec.specs.within.AstSeen.{AstLine, declared_by, item_seen}
use Rattle.node_spec.specs.within.AstWalks.{HasTooMany, IsPastLimit, child_said, families_said, item_word, row_number, types_said}
use Rattle.node_spec.specs.declared.ast_line.ItemText.{ItemText}
use Rattle.node_spec.proofs.ItemWords.{word_by}
use Rattle.node_spec.proofs.AstRowLists.{next_family_count, next_type_count, row_here}

pub line_at : (list : List AstLine) (i : ℕ) (p : AstLine) → i < length list
    → slice_get (map declared_by list) i ≡ Some (declared_by (get_or list i p))
line_at list i p less = map_get declared_by list i (get_or list i p) (get_at list i p less)

pub line_end : (i : ℕ) (list : List AstLine) → i ≤ length list → length list ≤ i → i ≡ length (map declared_by list)
line_end i list less more = omega (arith, less, more, length-map list declared_by)

-- the type of an item by four tests
abbrev picked : Bool → Bool → Bool → Bool → ℕ → ValType
picked a b c d n = unwrap_or (word_by a b c d) (ty.Node n)

same_children : (a b c d : Bool) (n m : ℕ) (l k : List ℕ) → length l ≡ length k
    → length (child_then (picked a b c d n) l) ≡ length (child_then (picked a b c d m) k)
same_children true b c d n m l k same = same
same_children false true c d n m l k same = same
same_children false false true d n m l k same = same
same_children false false false true n m l k same = same
same_children false false false false n m l k same = ap suc same

same_fields : (a b c d : Bool) (n m : ℕ) (l k : List ValType) → length l ≡ length k
    → length (field_then (picked a b c d n) l) ≡ length (field_then (picked a b c d m) k)
same_fields true b c d n m l k same = ap suc same
same_fields false true c d n m l k same = ap suc same
same_fields false false true d n m l k same = ap suc same
same_fields false false false true n m l k same = ap suc same
same_fields false false false false n m l k same = same

-- how many items are children, and how many fields, doesn't hang on which families there are
any_children : (fs : List (List ℕ)) (items : List SaidItem)
    → length (child_families (map (item_of fs) items)) ≡ length (child_families (map (item_of []) items))
any_children fs [] = refl
any_children fs (item ∷ items) =
    same_children (bytes_eq item.of (codes "int")) (bytes_eq item.of (codes "bool")) (bytes_eq item.of (codes "text"))
    (bytes_eq item.of (codes "map")) (family_number fs item.of) (family_number [] item.of)
    (child_families (map (item_of fs) items)) (child_families (map (item_of []) items)) (any_children fs items)

any_fields : (fs : List (List ℕ)) (items : List SaidItem)
    → length (field_types (map (item_of fs) items)) ≡ length (field_types (map (item_of []) items))
any_fields fs [] = refl
any_fields fs (item ∷ items) =
    same_fields (bytes_eq item.of (codes "int")) (bytes_eq item.of (codes "bool")) (bytes_eq item.of (codes "text"))
    (bytes_eq item.of (codes "map")) (family_number fs item.of) (family_number [] item.of)
    (field_types (map (item_of fs) items)) (field_types (map (item_of []) items)) (any_fields fs items)

-- each item is one or the other
one_or_other : (a b c d : Bool) (n : ℕ) (l : List ℕ) (k : List ValType)
    → length (child_then (picked a b c d n) l) + length (field_then (picked a b c d n) k) ≡ suc (length l + length k)
one_or_other true b c d n l k = omega arith
one_or_other false true c d n l k = omega arith
one_or_other false false true d n l k = omega arith
one_or_other false false false true n l k = omega arith
one_or_other false false false false n l k = omega arith

pub both_counts : (items : List SaidItem)
    → length (child_families (map (item_of []) items)) + length (field_types (map (item_of []) items)) ≡ length items
both_counts [] = refl
both_counts (item ∷ items) =
    one_or_other (bytes_eq item.of (codes "int")) (bytes_eq item.of (codes "bool")) (bytes_eq item.of (codes "text"))
    (bytes_eq item.of (codes "map")) (family_number [] item.of) (child_families (map (item_of []) items))
    (field_types (map (item_of []) items)) ∙ ap suc (both_counts items)

-- the count of children with one item more
count_then : (a b c d : Bool) (n : ℕ) (l : List ℕ)
    → length (child_then (picked a b c d n) l) ≡ (if is_some (word_by a b c d) then 0 else 1) + length l
count_then true b c d n l = omega arith
count_then false true c d n l = omega arith
count_then false false true d n l = omega arith
count_then false false false true n l = omega arith
count_then false false false false n l = omega arith

count_front : (item : SaidItem) (items : List SaidItem)
    → length (child_families (map (item_of []) (item ∷ items)))
    ≡ (if item_word item.of then 0 else 1) + length (child_families (map (item_of []) items))
count_front item items =
    count_then (bytes_eq item.of (codes "int")) (bytes_eq item.of (codes "bool")) (bytes_eq item.of (codes "text"))
    (bytes_eq item.of (codes "map")) (family_number [] item.of) (child_families (map (item_of []) items))

pub children_next : (items : List SaidItem) (i : ℕ) (item : SaidItem) → slice_get items i ≡ Some item
    → length (child_families (map (item_of []) (take (i + 1) items)))
    ≡ length (child_families (map (item_of []) (take i items))) + (if item_word item.of then 0 else 1)
children_next items i item at = let one : i + 1 ≡ suc i = omega arith in rw one (by items i at)
  where
    counted : List SaidItem → ℕ
    counted items = length (child_families (map (item_of []) items))

    word : ℕ
    word = if item_word item.of then 0 else 1

    by : (items : List SaidItem) (i : ℕ) → slice_get items i ≡ Some item → counted (take (suc i) items) ≡ counted (take i items) + word
    by [] i at = cc
    by (x ∷ items) zero at = let it : x ≡ item = cc in
        rw it (count_front item [] ∙ omega arith)
    by (x ∷ items) (suc i) at =
        let a = count_front x (take (suc i) items) in let b = count_front x (take i items) in let c = by items i at in
        omega (arith, a, b, c)

pub one_child : (items : List ItemText) (i count more next : ℕ) (p : ItemText) → i < length items
    → (count ≡ length (child_families (map (item_of []) (take i (map item_seen items))))) × (count ≤ i)
    → more ≡ child_said (get_or items i p).of.now → next ≡ count + more
    → (next ≡ length (child_families (map (item_of []) (take (i + 1) (map item_seen items))))) × (next ≤ i + 1)
one_child items i count more next p less so is sum =
    let at = map_get item_seen items i (get_or items i p) (get_at items i p less) in
    let step = children_next (map item_seen items) i (item_seen (get_or items i p)) at in
    let few = at_most_one (item_word (get_or items i p).of.now) in (
      sum ∙ ap (λ n. n + more) so.0 ∙ ap (λ n. length (child_families (map (item_of []) (take i (map item_seen items)))) + n) is ∙ sym step,
      let a = so.1 in omega (arith, a, is, sum, few),
    )
  where
    at_most_one : (b : Bool) → (if b then 0 else 1) ≤ 1
    at_most_one true = omega arith
    at_most_one false = omega arith

pub all_children : (items : List ItemText) (i count : ℕ) → i ≤ length items → length items ≤ i
    → count ≡ length (child_families (map (item_of []) (take i (map item_seen items))))
    → count ≡ length (child_families (map (item_of []) (map item_seen items)))
all_children items i count less more is =
    is ∙ ap (λ l. length (child_families (map (item_of []) l)))
    (take_all (map item_seen items) i (omega (arith, less, more, length-map items item_seen)))

pub children_fit : (items : List ItemText) (children : ℕ)
    → children ≡ length (child_families (map (item_of []) (map item_seen items))) → children ≤ length items
children_fit items children is = omega (arith, is, both_counts (map item_seen items), length-map items item_seen)

pub too_many : (items : List ItemText) (children : ℕ) (found : Bool)
    → children ≡ length (child_families (map (item_of []) (map item_seen items)))
    → IsTrue found ↔ ((8 < children) ⊎ (8 < length items - children)) → IsTrue found ↔ HasTooMany (map item_seen items)
too_many items children found is means =
    let fields : length items - children ≡ length (field_types (map (item_of []) (map item_seen items))) =
    omega (arith, is, both_counts (map item_seen items), length-map items item_seen) in
    rw (← is, ← fields) means

-- nothing is past a limit so far
pub record LimitSoFar (ds : List (Declared AstSaying)) (i families types : ℕ) : Type 0 where
  pub families_are : families ≡ length (families_in (take i ds))
  pub types_are : types ≡ length (rows_in (take i ds))
  pub few_families : families ≤ 128
  pub few_types : types ≤ 512
  pub none : (g : NamedGrammar) → NoneBefore ds (AstFault g ds Limit) i

pub no_limit_yet : (ds : List (Declared AstSaying)) → LimitSoFar ds 0 0 0
no_limit_yet ds = record {
  families_are = refl;
  types_are = refl;
  few_families = omega arith;
  few_types = omega arith;
  none = λ g. none_at_first ds (AstFault g ds Limit);
}

past_families : (families types : ℕ) (row : Row) (said : AstSaying) → families ≤ 128 → 128 < families + families_said said
    → IsPastLimit families types row said
past_families families types row (family name) few more = omega (arith, few, more)
past_families families types row (target name) few more = omega (arith, few, more)
past_families families types row (a_type name base items) few more = absurd (omega (arith, few, more))
past_families families types row (node nonterminal name) few more = absurd (omega (arith, few, more))
past_families families types row (build label e) few more = absurd (omega (arith, few, more))

past_types : (families types : ℕ) (row : Row) (said : AstSaying) → types ≤ 512 → 512 < types + types_said said
    → IsPastLimit families types row said
past_types families types row (family name) few more = absurd (omega (arith, few, more))
past_types families types row (target name) few more = absurd (omega (arith, few, more))
past_types families types row (a_type name base items) few more = inl (omega (arith, few, more))
past_types families types row (node nonterminal name) few more = absurd (omega (arith, few, more))
past_types families types row (build label e) few more = absurd (omega (arith, few, more))

at_most : (n most : ℕ) → (most < n → ⊥) → n ≤ most
at_most n most none = omega (arith, none)

module _ (ds : List (Declared AstSaying)) (i families types : ℕ) (d : Declared AstSaying) (rows : List Row)
    (at : slice_get ds i ≡ Some d) (so : LimitSoFar ds i families types) (rows_are : rows ≡ rows_in ds) where
  abbrev Past : AstSaying → Type 0
  Past said = IsPastLimit families types (row_number rows types) said

  families_next : length (families_in (take (i + 1) ds)) ≡ families + families_said d.said
  families_next = next_family_count ds i d at ∙ ap (λ n. n + families_said d.said) (sym so.families_are)

  types_next : length (rows_in (take (i + 1) ds)) ≡ types + types_said d.said
  types_next = next_type_count ds i d at ∙ ap (λ n. n + types_said d.said) (sym so.types_are)

  row_is : (name base : List ℕ) (items : List SaidItem) → d.said ≡ a_type name base items
      → row_number rows types ≡ row_at ds i name base items
  row_is name base items is = rw (rows_are, so.types_are) (row_here ds i d name base items at is)

  within : (g : NamedGrammar) → (Past d.said → ⊥) → (said : AstSaying) → said ≡ d.said → AstFault g ds Limit i said → ⊥
  within g fits _ is (too_many_families _ said more) =
      fits (past_families families types (row_number rows types) d.said so.few_families (let e = families_next in omega (arith, more, e)))
  within g fits _ is (too_many_types _ said more) =
      fits (past_types families types (row_number rows types) d.said so.few_types (let e = types_next in omega (arith, more, e)))
  within g fits _ is (too_many_children _ name base items more) =
      fits (subst (λ said. Past said) is (inr (inl (rw (row_is name base items (sym is))
      (let e = any_children (family_names ds) (row_at ds i name base items).items in omega (arith, more, e))))))
  within g fits _ is (too_many_fields _ name base items more) =
      fits (subst (λ said. Past said) is (inr (inr (rw (row_is name base items (sym is))
      (let e = any_fields (family_names ds) (row_at ds i name base items).items in omega (arith, more, e))))))

  pub step_limit : (next more : ℕ) → next ≡ families + families_said d.said → more ≡ types + types_said d.said
      → (Past d.said → ⊥) → LimitSoFar ds (i + 1) next more
  step_limit next more next_is more_is fits = record {
    families_are = next_is ∙ sym families_next;
    types_are = more_is ∙ sym types_next;
    few_families = at_most next 128 (λ over. fits (past_families families types (row_number rows types) d.said so.few_families (omega (arith, over, next_is))));
    few_types = at_most more 512 (λ over. fits (past_types families types (row_number rows types) d.said so.few_types (omega (arith, over, more_is))));
    none = λ g. none_more ds (AstFault g ds Limit) i d (so.none g) at (within g fits d.said refl);
  }

  past_at : (g : NamedGrammar) (said : AstSaying) → said ≡ d.said → Past said → AstFault g ds Limit i said
  past_at g (family name) is past =
      too_many_families i (family name) (let e = families_next ∙ ap (λ s. families + families_said s) (sym is) in omega (arith, past, e))
  past_at g (target name) is past =
      too_many_families i (target name) (let e = families_next ∙ ap (λ s. families + families_said s) (sym is) in omega (arith, past, e))
  past_at g (a_type name base items) is (inl past) =
      too_many_types i (a_type name base items) (let e = types_next ∙ ap (λ s. types + types_said s) (sym is) in omega (arith, past, e))
  past_at g (a_type name base items) is (inr (inl many)) =
      too_many_children i name base items
      (let m = rw (row_is name base items (sym is)) at many in
      let e = any_children (family_names ds) (row_at ds i name base items).items in omega (arith, m, e))
  past_at g (a_type name base items) is (inr (inr many)) =
      too_many_fields i name base items
      (let m = rw (row_is name base items (sym is)) at many in
      let e = any_fields (family_names ds) (row_at ds i name base items).items in omega (arith, m, e))
  past_at g (node nonterminal name) is past = absurd past
  past_at g (build label e) is past = absurd past

  pub found_limit : Past d.said → Grow ds → (g : NamedGrammar) → Least (HasAt ds (AstFault g ds Limit)) d.number
  found_limit past grow g = first_here ds (AstFault g ds Limit) i d grow (so.none g) at (past_at g d.said refl past)
