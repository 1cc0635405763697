-- Places in lists; the first type of each name.
use Rattle.std.proofs.Common.{◌≡◌, ℕ, zero, suc, ◌+◌, ◌<◌, ◌≤◌, Bool, true, false, cond, if◌then◌else◌, List, [], ◌∷◌, ◌++◌, length, take, map, get_or, refl, sym, ap, ◌∙◌, Option, Some, None, is_some, arith, length-append}
use Rattle.std.specs.List.{slice_get, position_from}
use Rattle.std.specs.Str.{bytes_eq}
use Rattle.std.proofs.lemmas.Iterator.Adapters.{position_from-zero}
use Rattle.std.proofs.lemmas.List.{length-map, map-append}
use Rattle.std.proofs.lemmas.Slice.Eq.{bytes_eq-Decides}
use Rattle.ck_base.specs.Numbered.{met, number_of}
use Rattle.ck_base.proofs.NamesMet.{met_known, met_new, name_at_number, length-met}
use Rattle.section_frame.specs.Declares.{Declared}
use Rattle.spec_text.proofs.Lists.{take_all, get_at, get_fits, map_get}
use Rattle.node_spec.specs.AstShapes.{AstSaying, SaidItem, family, target, a_type, node, build}
use Rattle.node_spec.specs.AstTables.{Row, row_after, row_names, row_of, row_over, rows_in}
use Rattle.node_spec.specs.declared.ast_line.ItemText.{ItemText}
use Rattle.node_spec.specs.declared.rows.FirstRows.{FirstRows}
use Rattle.node_spec.specs.declared.rows.TypeRow.{TypeRow}
use Rattle.node_spec.specs.within.AstSeen.{AstLine, declared_by, item_seen, row_seen}
use Rattle.node_spec.specs.within.AstTwice.{AreFirstRows, first_row, row_numbered, rows_after}
use Rattle.node_spec.proofs.AstLists.{get_in_front, get_at_end, rows_in-step}

-- what stands among the first ones stands there in the whole
pub from_take : {X : Type 0} (xs : List X) (i n : ℕ) (x : X) → slice_get (take i xs) n ≡ Some x
    → (n < i) × (slice_get xs n ≡ Some x)
from_take xs zero n x at = cc
from_take [] (suc i) n x at = cc
from_take (y ∷ xs) (suc i) zero x at = (omega arith, at)
from_take (y ∷ xs) (suc i) (suc n) x at = let rest = from_take xs i n x at in let less = rest.0 in (omega (arith, less), rest.1)

-- what a line of the program declares
pub line_at : (list : List AstLine) (i : ℕ) (default : AstLine) → i < length list
    → slice_get (map declared_by list) i ≡ Some (declared_by (get_or list i default))
line_at list i default less = map_get declared_by list i (get_or list i default) (get_at list i default less)

pub at_end : (i : ℕ) (list : List AstLine) → i ≤ length list → length list ≤ i → i ≡ length (map declared_by list)
at_end i list less more = omega (arith, less, more, length-map list declared_by)

-- the number of a name among names with one more at the end
abbrev or_last : Option ℕ → Bool → ℕ → Option ℕ
or_last (Some n) b k = Some n
or_last None b k = cond b (Some k) None

last_from : (test : List ℕ → Bool) (names : List (List ℕ)) (name : List ℕ) (k : ℕ)
    → position_from test k (names ++ name ∷ []) ≡ or_last (position_from test k names) (test name) (k + length names)
last_from test [] name k = ap (λ j. cond (test name) (Some j) None) (omega arith)
last_from test (first ∷ names) name k =
    elim (test first) as (λ b. cond b (Some k) (position_from test (k + 1) (names ++ name ∷ []))
    ≡ or_last (cond b (Some k) (position_from test (k + 1) names)) (test name) (k + length (first ∷ names))) [
      | true ↦ refl
      | false ↦ last_from test names name (k + 1) ∙ ap (or_last (position_from test (k + 1) names) (test name)) (omega arith)
    ]

number_with_last : (names : List (List ℕ)) (name wanted : List ℕ)
    → number_of (names ++ name ∷ []) wanted ≡ or_last (number_of names wanted) (bytes_eq wanted name) (length names)
number_with_last names name wanted =
    position_from-zero (bytes_eq wanted) (names ++ name ∷ []) ∙ last_from (bytes_eq wanted) names name 0
    ∙ ap (λ o. or_last o (bytes_eq wanted name) (0 + length names)) (sym (position_from-zero (bytes_eq wanted) names))
    ∙ ap (or_last (number_of names wanted) (bytes_eq wanted name)) (omega arith)

found_before : (o : Option ℕ) (b : Bool) (k : ℕ) → (b ≡ true → is_some o ≡ true) → or_last o b k ≡ o
found_before (Some n) b k known = refl
found_before None false k known = refl
found_before None true k known = let e : false ≡ true = known refl in cc

row_at_last : (rows : List ℕ) (row : ℕ) (o : Option ℕ) (b : Bool) (n : ℕ) → ((m : ℕ) → o ≡ Some m → m < length rows)
    → n ≡ length rows → row_numbered (rows ++ row ∷ []) (or_last o b n) ≡ or_last (row_numbered rows o) b row
row_at_last rows row (Some m) b n fits is =
    let at = get_at rows m 0 (fits m refl) in
    get_in_front rows (row ∷ []) m (get_or rows m 0) at ∙ ap (λ o. or_last o b row) (sym at)
row_at_last rows row None true n fits is = get_at_end rows [] n row is
row_at_last rows row None false n fits is = refl

-- the first rows with one row more
module _ (old new : FirstRows) (names : List (List ℕ)) (name : List ℕ) (row : ℕ) (so : AreFirstRows old names)
    (met_one : new.names ≡ met old.names (name ∷ []))
    (rows : new.rows.items ≡ rows_after old.names old.rows.items name row) (last : row ≡ length names) where
  first_of : (names2 : List (List ℕ)) (rows2 : List ℕ) (wanted : List ℕ) → new.names ≡ names2 → new.rows.items ≡ rows2
      → first_row new.names new.rows.items wanted ≡ row_numbered rows2 (number_of names2 wanted)
  first_of names2 rows2 wanted is are =
      ap (λ l. row_numbered new.rows.items (number_of l wanted)) is ∙ ap (λ l. row_numbered l (number_of names2 wanted)) are

  met_few : length new.names ≤ length (names ++ name ∷ [])
  met_few =
      let long = length-met old.names (name ∷ []) in let before = so.few in let after = length-append names (name ∷ []) in
      rw met_one (omega (arith, long, before, after))

  of_known : (n : ℕ) → number_of old.names name ≡ Some n → AreFirstRows new (names ++ name ∷ [])
  of_known n known = record {
    few = met_few;
    as_many = ap length same_rows ∙ so.as_many ∙ sym (ap length same_names);
    each = λ wanted.
        first_of old.names old.rows.items wanted same_names same_rows ∙ so.each wanted
        ∙ sym (number_with_last names name wanted
        ∙ found_before (number_of names wanted) (bytes_eq wanted name) (length names) (found wanted));
  }
    where
      same_names : new.names ≡ old.names
      same_names = met_one ∙ met_known old.names name n known

      same_rows : new.rows.items ≡ old.rows.items
      same_rows = rows ∙ ap (λ o. if is_some o then old.rows.items else old.rows.items ++ row ∷ []) known

      there : is_some (number_of names name) ≡ true
      there =
          let within = get_fits old.names n name (name_at_number old.names name n known) in
          let long = so.as_many in
          let at = get_at old.rows.items n 0 (omega (arith, within, long)) in
          ap (λ o. is_some o) (sym (so.each name) ∙ ap (row_numbered old.rows.items) known ∙ at)

      found : (wanted : List ℕ) → bytes_eq wanted name ≡ true → is_some (number_of names wanted) ≡ true
      found wanted same = rw ((bytes_eq-Decides wanted name).0 same) there

  of_new : number_of old.names name ≡ None → AreFirstRows new (names ++ name ∷ [])
  of_new unknown = record {
    few = met_few;
    as_many =
        ap length more_rows ∙ length-append old.rows.items (row ∷ []) ∙ ap (λ n. n + 1) so.as_many
        ∙ sym (ap length more_names ∙ length-append old.names (name ∷ []));
    each = λ wanted.
        first_of (old.names ++ name ∷ []) (old.rows.items ++ row ∷ []) wanted more_names more_rows
        ∙ ap (row_numbered (old.rows.items ++ row ∷ [])) (number_with_last old.names name wanted)
        ∙ row_at_last old.rows.items row (number_of old.names wanted) (bytes_eq wanted name) (length old.names) (fits wanted)
        (sym so.as_many)
        ∙ ap (λ o. or_last o (bytes_eq wanted name) row) (so.each wanted)
        ∙ ap (or_last (number_of names wanted) (bytes_eq wanted name)) last
        ∙ sym (number_with_last names name wanted);
  }
    where
      more_names : new.names ≡ old.names ++ name ∷ []
      more_names = met_one ∙ met_new old.names name unknown

      more_rows : new.rows.items ≡ old.rows.items ++ row ∷ []
      more_rows = rows ∙ ap (λ o. if is_some o then old.rows.items else old.rows.items ++ row ∷ []) unknown

      fits : (wanted : List ℕ) (m : ℕ) → number_of old.names wanted ≡ Some m → m < length old.rows.items
      fits wanted m is =
          let within = get_fits old.names m wanted (name_at_number old.names wanted m is) in
          let long = so.as_many in omega (arith, within, long)

  pub one_first_more : AreFirstRows new (names ++ name ∷ [])
  one_first_more = by (number_of old.names name) (λ o is. is)
    where
      by : (o : Option ℕ) → ((p : Option ℕ) → o ≡ p → number_of old.names name ≡ p) → AreFirstRows new (names ++ name ∷ [])
      by None is = of_new (is None refl)
      by (Some n) is = of_known n (is (Some n) refl)

-- the row of the program with one more
pub first_rows_with : (old new : FirstRows) (list longer : List TypeRow) (item : TypeRow) (name : List ℕ)
    → AreFirstRows old (row_names (map row_seen list)) → new.names ≡ met old.names (name ∷ [])
    → new.rows.items ≡ rows_after old.names old.rows.items name (length list) → longer ≡ list ++ item ∷ []
    → item.name.now ≡ name → AreFirstRows new (row_names (map row_seen longer))
first_rows_with old new list longer item name so met_one rows are is =
    rw names (one_first_more old new (row_names (map row_seen list)) name (length list) so met_one rows count)
  where
    count : length list ≡ length (row_names (map row_seen list))
    count = sym (length-map (map row_seen list) (λ row. row.name) ∙ length-map list row_seen)

    names : row_names (map row_seen longer) ≡ row_names (map row_seen list) ++ name ∷ []
    names =
        ap (λ l. row_names (map row_seen l)) are ∙ ap row_names (map-append row_seen list (item ∷ []))
        ∙ map-append (λ row. row.name) (map row_seen list) (row_seen item ∷ [])
        ∙ ap (λ n. row_names (map row_seen list) ++ n ∷ []) is

-- a row of these parts
abbrev pub row_made : List ℕ → List ℕ → Option ℕ → List SaidItem → Row
row_made name above base items = record { name = name; family = above; base = base; items = items }

pub row_extends : (rows : List TypeRow) (above : TypeRow) (number : ℕ) (name base : List ℕ) (items own : List ItemText)
    (extended : Option ℕ) → extended ≡ Some number → above ≡ get_or rows number above → number < length rows
    → items ≡ above.items.items ++ own
    → row_made name above.family.now (Some number) (map item_seen items)
    ≡ row_over (map row_seen rows) name base (map item_seen own) extended
row_extends rows above number name base items own extended is at less are =
    let got : slice_get (map row_seen rows) number ≡ Some (row_seen above) =
    map_get row_seen rows number above (rw (← at) at (get_at rows number above less)) in
    rw (is, got, are, map-append item_seen above.items.items own) refl

pub row_is_called : (rows : List Row) (row : TypeRow) (name base : List ℕ) (own : List SaidItem) (extended : Option ℕ)
    → row_seen row ≡ row_over rows name base own extended → row.name.now ≡ name
row_is_called rows row name base own None is = ap (λ r. r.name) is
row_is_called rows row name base own (Some b) is = ap (λ r. r.name) is

-- the rows of the first i lines
pub record RowsSoFar (ds : List (Declared AstSaying)) (i : ℕ) (firsts : FirstRows) (rows : List TypeRow) : Type 0 where
  pub are : map row_seen rows ≡ rows_in (take i ds)
  pub few : length rows ≤ i
  pub firsts_are : AreFirstRows firsts (row_names (map row_seen rows))

one_row_at_most : (rows : List Row) (said : AstSaying) → length (row_after rows said) ≤ length rows + 1
one_row_at_most rows (family name) = omega arith
one_row_at_most rows (target name) = omega arith
one_row_at_most rows (a_type name base own) =
    let long = length-append rows (row_of rows name base own ∷ []) in omega (arith, long)
one_row_at_most rows (node nonterminal name) = omega arith
one_row_at_most rows (build label e) = omega arith

pub one_line_more : (ds : List (Declared AstSaying)) (i : ℕ) (old new : FirstRows) (rows longer : List TypeRow)
    (d : Declared AstSaying) → slice_get ds i ≡ Some d → RowsSoFar ds i old rows
    → map row_seen longer ≡ row_after (map row_seen rows) d.said → AreFirstRows new (row_names (map row_seen longer))
    → RowsSoFar ds (i + 1) new longer
one_line_more ds i old new rows longer d at so are firsts = record {
  are = are ∙ ap (λ l. row_after l d.said) so.are ∙ sym (rows_in-step ds i d at);
  few = few;
  firsts_are = firsts;
}
  where
    few : length longer ≤ i + 1
    few =
        let a = length-map longer row_seen in let b = ap length are in
        let most = one_row_at_most (map row_seen rows) d.said in
        let c = length-map rows row_seen in let before = so.few in omega (arith, a, b, most, c, before)

pub all_rows : (ds : List (Declared AstSaying)) (i : ℕ) (firsts : FirstRows) (rows : List TypeRow) → i ≡ length ds
    → RowsSoFar ds i firsts rows → map row_seen rows ≡ rows_in ds
all_rows ds i firsts rows end so = so.are ∙ ap rows_in (take_all ds i end)
