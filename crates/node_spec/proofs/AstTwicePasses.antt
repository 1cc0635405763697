-- A pass over the lines of AST finds the first one with a fault of kind twice.
use Rattle.std.proofs.Common.{◌≡◌, ℕ, ◌+◌, ◌<◌, ◌≤◌, ◌⊎◌, inl, inr, ◌↔◌, IsTrue, Bool, true, false, List, [], ◌∷◌, ◌++◌, length, take, map, refl, sym, ap, ◌∙◌, subst, Option, Some, None, IsNone, is_some, Contains, arith, length-append, append-nil}
use Rattle.std.specs.List.{slice_get}
use Rattle.std.proofs.lemmas.List.{length-map}
use Rattle.ck_base.specs.Numbered.{AreApart, met}
use Rattle.ck_base.proofs.NameFound.{place_of}
use Rattle.ck_base.proofs.NamesMet.{met_apart, met_new, none_where_absent}
use Rattle.section_frame.specs.Declares.{Declared, HasAt, Grow}
use Rattle.spec_text.specs.Least.{Least}
use Rattle.section_frame.proofs.Frame.{NoneBefore, none_more, none_in_all, first_here}
use Rattle.spec_text.proofs.Lists.{order, take_step, take_all, get_at, map_get}
use Rattle.spec_text.proofs.Parting.{contains_at}
use Rattle.node_spec.specs.AstShapes.{AstSaying, SaidItem, family, target, a_type}
use Rattle.node_spec.specs.AstFaults.{of_family, of_target, of_type, reserved_words, row_at}
use Rattle.node_spec.specs.AstTables.{Row, row_after, rows_in}
use Rattle.node_spec.specs.declared.declared_again.Sort.{Sort}
use Rattle.node_spec.specs.declared.rows.TypeRow.{TypeRow}
use Rattle.node_spec.specs.within.AstSeen.{item_seen, row_seen}
use Rattle.node_spec.specs.within.AstTwice.{IsAgain, IsMet, again, fresh, Meets, name_before, name_said, names_said, HasDouble, HasReserved, IsReserved, of_name, of_item, HasItemTwice, item_again, RepeatsItem, repeats}
use Rattle.node_spec.proofs.AstLists.{rows_in-step, row_of_line}
use Rattle.node_spec.proofs.AstTwiceLists.{from_take}

-- elements of a list, one after the other
module _ {X : Type 0} (P : X → Type 0) (xs : List X) where
  -- none of the first i has P
  abbrev pub NoneYet : ℕ → Type 0
  NoneYet i = (j : ℕ) (x : X) → j < i → slice_get xs j ≡ Some x → P x → ⊥

  pub one_without : (i : ℕ) (x : X) → NoneYet i → slice_get xs i ≡ Some x → (P x → ⊥) → NoneYet (i + 1)
  one_without i x none at clean j y less at_j has = by (order j i)
    where
      by : (j < i) ⊎ ((i < j) ⊎ (j ≡ i)) → ⊥
      by (inl below) = none j y below at_j has
      by (inr (inl above)) = omega (arith, above, less)
      by (inr (inr same)) =
          let it : y ≡ x = (let a = rw same at at_j in let b = sym a ∙ at in cc) in clean (subst P it has)

  pub none_among : (i : ℕ) → i ≡ length xs → NoneYet i → (x : X) → Contains xs x → P x → ⊥
  none_among i end none x among has =
      let less = among.1 in
      none among.0 x (omega (arith, less, end)) (get_at xs among.0 x less ∙ ap Some among.2) has

-- the names of a sort, one line more
before_append : (o : Option (List ℕ)) (a b : List (List ℕ)) → name_before o (a ++ b) ≡ name_before o a ++ b
before_append None a b = refl
before_append (Some name) a b = refl

names_said-append : (s : Sort) (xs ys : List (Declared AstSaying))
    → names_said s (xs ++ ys) ≡ names_said s xs ++ names_said s ys
names_said-append s [] ys = refl
names_said-append s (d ∷ xs) ys =
    ap (name_before (name_said s d.said)) (names_said-append s xs ys)
    ∙ before_append (name_said s d.said) (names_said s xs) (names_said s ys)

next_names : (s : Sort) (ds : List (Declared AstSaying)) (i : ℕ) (d : Declared AstSaying) → slice_get ds i ≡ Some d
    → names_said s (take (i + 1) ds) ≡ names_said s (take i ds) ++ name_before (name_said s d.said) []
next_names s ds i d at = ap (names_said s) (take_step ds i d at) ∙ names_said-append s (take i ds) (d ∷ [])

-- no name comes to be there twice
apart_with : (names : List (List ℕ)) (name : List ℕ) → AreApart names → (Contains names name → ⊥)
    → AreApart (names ++ name ∷ [])
apart_with names name apart absent =
    subst AreApart (met_new names name (none_where_absent names name absent)) (met_apart names (name ∷ []) apart)

-- whether a name is there
pub is_there : (names : List (List ℕ)) (name : List ℕ) (found : Option ℕ)
    → ((n : ℕ) → (found ≡ Some n) ↔ (slice_get names n ≡ Some name))
    → (IsNone found ↔ (Contains names name → ⊥)) → IsTrue (is_some found) ↔ Contains names name
is_there names name None at absent = (λ is. cc, λ there. absurd (absent.0 refl there))
is_there names name (Some n) at absent = (λ is. contains_at names n name ((at n).0 refl), λ there. refl)

pub is_fresh : (old new : List (List ℕ)) (name : List ℕ) (known : Bool) → IsTrue known ↔ Contains old name
    → known ≡ false → new ≡ met old (name ∷ []) → IsMet old new name false
is_fresh old new name known means unknown are =
    fresh absent (are ∙ met_new old name (none_where_absent old name absent))
  where
    absent : Contains old name → ⊥
    absent there = let e = means.1 there in cc

-- the lines so far declare nothing again
pub record AgainSoFar (s : Sort) (ds : List (Declared AstSaying)) (i : ℕ) (names : List (List ℕ)) : Type 0 where
  pub are : names ≡ names_said s (take i ds)
  pub few : length names ≤ i
  pub apart : AreApart names
  pub none : NoneBefore ds (IsAgain s ds) i

module _ (s : Sort) (ds : List (Declared AstSaying)) (i : ℕ) (old new : List (List ℕ)) (d : Declared AstSaying)
    (at : slice_get ds i ≡ Some d) (so : AgainSoFar s ds i old) where
  same_name : (name : List ℕ) → name_said s d.said ≡ Some name → (f : IsAgain s ds i d.said) → Contains old name
  same_name name is f =
      let same : f.name ≡ name = (let a = sym f.is ∙ is in cc) in
      subst (λ l. Contains l name) (sym so.are) (subst (Contains (names_said s (take i ds))) same f.before)

  by_step : (o : Option (List ℕ)) → name_said s d.said ≡ o → (found : Bool) → found ≡ false → Meets old new o found
      → AgainSoFar s ds (i + 1) new
  by_step None is found not_found meets = record {
    are = meets.1 ∙ so.are
        ∙ sym (next_names s ds i d at ∙ ap (λ o. names_said s (take i ds) ++ name_before o []) is
        ∙ append-nil (names_said s (take i ds)));
    few = rw meets.1 (let few = so.few in omega (arith, few));
    apart = subst AreApart (sym meets.1) so.apart;
    none = none_more ds (IsAgain s ds) i d so.none at (λ f. let no = sym f.is ∙ is in cc);
  }
  by_step (Some name) is _ not_found (again there) = cc
  by_step (Some name) is _ not_found (fresh absent are) = record {
    are = are ∙ ap (λ l. l ++ name ∷ []) so.are
        ∙ sym (next_names s ds i d at ∙ ap (λ o. names_said s (take i ds) ++ name_before o []) is);
    few = rw are (let long = length-append old (name ∷ []) in let few = so.few in omega (arith, long, few));
    apart = subst AreApart (sym are) (apart_with old name so.apart absent);
    none = none_more ds (IsAgain s ds) i d so.none at (λ f. absent (same_name name is f));
  }

  pub step_again : (found : Bool) → found ≡ false → Meets old new (name_said s d.said) found → AgainSoFar s ds (i + 1) new
  step_again found not_found meets = by_step (name_said s d.said) refl found not_found meets

  by_found : (o : Option (List ℕ)) → name_said s d.said ≡ o → (found : Bool) → found ≡ true → Meets old new o found
      → IsAgain s ds i d.said
  by_found None is found is_found meets = let no = sym meets.0 ∙ is_found in cc
  by_found (Some name) is _ is_found (again there) =
      record { name = name; is = is; before = subst (λ l. Contains l name) so.are there }
  by_found (Some name) is _ is_found (fresh absent are) = cc

  pub found_again : (found : Bool) → found ≡ true → Grow ds → Meets old new (name_said s d.said) found
      → Least (HasAt ds (IsAgain s ds)) d.number
  found_again found is_found grow meets =
      first_here ds (IsAgain s ds) i d grow so.none at (by_found (name_said s d.said) refl found is_found meets)

pub nothing_again : (s : Sort) (ds : List (Declared AstSaying)) (i : ℕ) (names : List (List ℕ)) → i ≡ length ds
    → AgainSoFar s ds i names → ((line : ℕ) → HasAt ds (IsAgain s ds) line → ⊥) × AreApart (names_said s ds)
nothing_again s ds i names end so =
    (none_in_all ds (IsAgain s ds) i end so.none, subst AreApart (so.are ∙ ap (names_said s) (take_all ds i end)) so.apart)

-- a list's names so far are apart
pub record ApartSoFar (all : List (List ℕ)) (i : ℕ) (names : List (List ℕ)) : Type 0 where
  pub are : names ≡ take i all
  pub few : length names ≤ i
  pub apart : AreApart names

pub one_apart : (all : List (List ℕ)) (i : ℕ) (old new : List (List ℕ)) (name : List ℕ) → slice_get all i ≡ Some name
    → ApartSoFar all i old → (found : Bool) → found ≡ false → IsMet old new name found → ApartSoFar all (i + 1) new
one_apart all i old new name at so _ not_found (again there) = cc
one_apart all i old new name at so _ not_found (fresh absent are) = record {
  are = are ∙ ap (λ l. l ++ name ∷ []) so.are ∙ sym (take_step all i name at);
  few = rw are (let long = length-append old (name ∷ []) in let few = so.few in omega (arith, long, few));
  apart = subst AreApart (sym are) (apart_with old name so.apart absent);
}

pub is_double : (all : List (List ℕ)) (i : ℕ) (old new : List (List ℕ)) (name : List ℕ) → slice_get all i ≡ Some name
    → ApartSoFar all i old → (found : Bool) → found ≡ true → IsMet old new name found → HasDouble all
is_double all i old new name at so _ is_found (again there) =
    let place = place_of (take i all) name (subst (λ l. Contains l name) so.are there) in
    let before = from_take all i place.0 name place.1 in
    record {
      name = name;
      twice = record { first = place.0; second = i; order = before.0; at_first = before.1; at_second = at };
    }
is_double all i old new name at so _ is_found (fresh absent are) = cc

-- the end of a list that is seen
pub map_end : {X Y : Type 0} (f : X → Y) (xs : List X) (i : ℕ) → i ≤ length xs → length xs ≤ i → i ≡ length (map f xs)
map_end f xs i less more = let long = length-map xs f in omega (arith, less, more, long)

-- a word is among words
pub among_here : (words : List (List ℕ)) (i : ℕ) (known word : List ℕ) (is : Bool) → slice_get words i ≡ Some known
    → IsTrue is ↔ (known ≡ word) → is ≡ true → IsTrue true ↔ Contains words word
among_here words i known word is at means holds =
    (λ it. contains_at words i word (at ∙ ap Some (means.0 holds)), λ there. refl)

pub word_without : (words : List (List ℕ)) (i : ℕ) (known word : List ℕ) (is : Bool) → slice_get words i ≡ Some known
    → IsTrue is ↔ (known ≡ word) → is ≡ false → NoneYet (λ known. known ≡ word) words i
    → NoneYet (λ known. known ≡ word) words (i + 1)
word_without words i known word is at means fails none =
    one_without (λ known. known ≡ word) words i known none at (λ same. let yes = means.1 same in cc)

pub not_among : (words : List (List ℕ)) (i : ℕ) (word : List ℕ) → i ≡ length words
    → NoneYet (λ known. known ≡ word) words i → IsTrue false ↔ Contains words word
not_among words i word end none =
    (λ is. cc, λ there. absurd (none_among (λ known. known ≡ word) words i end none word there refl))

-- an item is called by a reserved word
pub reserved_here : (items : List SaidItem) (i : ℕ) (item : SaidItem) (is : Bool) → slice_get items i ≡ Some item
    → IsTrue is ↔ Contains reserved_words item.name → is ≡ true → IsTrue true ↔ HasReserved items
reserved_here items i item is at means holds =
    (λ it. record { item = item; among = contains_at items i item at; word = means.0 holds }, λ has. refl)

pub item_without : (items : List SaidItem) (i : ℕ) (item : SaidItem) (is : Bool) → slice_get items i ≡ Some item
    → IsTrue is ↔ Contains reserved_words item.name → is ≡ false
    → NoneYet (λ item. Contains reserved_words item.name) items i
    → NoneYet (λ item. Contains reserved_words item.name) items (i + 1)
item_without items i item is at means fails none =
    one_without (λ item. Contains reserved_words item.name) items i item none at (λ there. let yes = means.1 there in cc)

pub none_reserved : (items : List SaidItem) (i : ℕ) → i ≡ length items
    → NoneYet (λ item. Contains reserved_words item.name) items i → IsTrue false ↔ HasReserved items
none_reserved items i end none =
    (λ is. cc, λ has. absurd (none_among (λ item. Contains reserved_words item.name) items i end none has.item has.among has.word))

-- a line names by a reserved word
pub reserved_family : (i : ℕ) (name : List ℕ) (is : Bool) → IsTrue is ↔ Contains reserved_words name
    → IsTrue is ↔ IsReserved i (family name)
reserved_family i name is means = (λ yes. of_name i (family name) name (of_family name) (means.0 yes), λ has. means.1 (by has))
  where
    by : IsReserved i (family name) → Contains reserved_words name
    by (of_name _ _ _ (of_family _) there) = there

pub reserved_target : (i : ℕ) (name : List ℕ) (is : Bool) → IsTrue is ↔ Contains reserved_words name
    → IsTrue is ↔ IsReserved i (target name)
reserved_target i name is means = (λ yes. of_name i (target name) name (of_target name) (means.0 yes), λ has. means.1 (by has))
  where
    by : IsReserved i (target name) → Contains reserved_words name
    by (of_name _ _ _ (of_target _) there) = there

pub reserved_type : (i : ℕ) (name base : List ℕ) (items : List SaidItem) (is : Bool)
    → IsTrue is ↔ (Contains reserved_words name ⊎ HasReserved items) → IsTrue is ↔ IsReserved i (a_type name base items)
reserved_type i name base items is means = (λ yes. to (means.0 yes), λ has. means.1 (by has))
  where
    to : Contains reserved_words name ⊎ HasReserved items → IsReserved i (a_type name base items)
    to (inl there) = of_name i (a_type name base items) name (of_type name base items) there
    to (inr has) = of_item i name base items has

    by : IsReserved i (a_type name base items) → Contains reserved_words name ⊎ HasReserved items
    by (of_name _ _ _ (of_type _ _ _) there) = inl there
    by (of_item _ _ _ _ has) = inr has

-- the type of a line has an item twice
pub item_twice_of : (ds : List (Declared AstSaying)) (i types : ℕ) (d : Declared AstSaying) → slice_get ds i ≡ Some d
    → types ≡ length (rows_in (take i ds)) → RepeatsItem (rows_in ds) types d.said ↔ HasItemTwice ds i d.said
item_twice_of ds i types d at count = (λ has. to d.said refl has, λ has. by d.said refl has)
  where
    row_is : (name base : List ℕ) (items : List SaidItem) (row : Row) → d.said ≡ a_type name base items
        → slice_get (rows_in ds) types ≡ Some row → row ≡ row_at ds i name base items
    row_is name base items row is got =
        let there = row_of_line ds i d name base items at is in
        let here = sym (ap (slice_get (rows_in ds)) count) ∙ got in
        let one = sym here ∙ there in cc

    to : (said : AstSaying) → d.said ≡ said → RepeatsItem (rows_in ds) types said → HasItemTwice ds i said
    to _ is (repeats name base items row got has) =
        item_again i name base items (subst (λ r. HasDouble (map (λ x. x.name) r.items)) (row_is name base items row is got) has)

    by : (said : AstSaying) → d.said ≡ said → HasItemTwice ds i said → RepeatsItem (rows_in ds) types said
    by _ is (item_again _ name base items has) =
        repeats name base items (row_at ds i name base items)
        (ap (slice_get (rows_in ds)) count ∙ row_of_line ds i d name base items at is) has

pub record ItemsSoFar (ds : List (Declared AstSaying)) (i types : ℕ) : Type 0 where
  pub count : types ≡ length (rows_in (take i ds))
  pub few : types ≤ i
  pub none : NoneBefore ds (HasItemTwice ds) i

module _ (ds : List (Declared AstSaying)) (i types : ℕ) (d : Declared AstSaying) (at : slice_get ds i ≡ Some d)
    (so : ItemsSoFar ds i types) (found : Bool) (means : IsTrue found ↔ RepeatsItem (rows_in ds) types d.said) where
  pub step_item : (next more : ℕ) → found ≡ false → next ≡ types + more → more < 2
      → ((rows : List Row) → length (row_after rows d.said) ≡ length rows + more) → ItemsSoFar ds (i + 1) next
  step_item next more not_found next_is most counted = record {
    count =
        let before = so.count in let all = counted (rows_in (take i ds)) in let new = ap length (rows_in-step ds i d at) in
        omega (arith, next_is, before, all, new);
    few = let few = so.few in omega (arith, few, next_is, most);
    none =
        none_more ds (HasItemTwice ds) i d so.none at
        (λ has. let yes = means.1 ((item_twice_of ds i types d at so.count).1 has) in cc);
  }

  pub found_item : found ≡ true → Grow ds → Least (HasAt ds (HasItemTwice ds)) d.number
  found_item is_found grow =
      first_here ds (HasItemTwice ds) i d grow so.none at ((item_twice_of ds i types d at so.count).0 (means.0 is_found))

-- a row of the program repeats an item
pub repeats_of : (rows : List TypeRow) (number : ℕ) (row : TypeRow) (name base : List ℕ) (items : List SaidItem)
    (found : Bool) → slice_get rows number ≡ Some row
    → IsTrue found ↔ HasDouble (map (λ x. x.name) (map item_seen row.items.items))
    → IsTrue found ↔ RepeatsItem (map row_seen rows) number (a_type name base items)
repeats_of rows number row name base items found at means =
    (λ yes. repeats name base items (row_seen row) here (means.0 yes), λ has. means.1 (by has))
  where
    here : slice_get (map row_seen rows) number ≡ Some (row_seen row)
    here = map_get row_seen rows number row at

    by : RepeatsItem (map row_seen rows) number (a_type name base items)
        → HasDouble (map (λ x. x.name) (map item_seen row.items.items))
    by (repeats _ _ _ other there has) =
        let same : other ≡ row_seen row = (let a = sym there ∙ here in cc) in
        subst (λ r. HasDouble (map (λ x. x.name) r.items)) same has
