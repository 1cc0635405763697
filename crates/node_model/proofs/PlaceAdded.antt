-- The first places of names, where a name more is met.
use Rattle.std.proofs.Common.{◌≡◌, ℕ, zero, suc, ◌+◌, ◌<◌, ◌≤◌, Bool, true, false, cond, refl, sym, ap, ◌∙◌, subst, arith, List, [], ◌∷◌, ◌++◌, length, length-append, Option, Some, None, IfSome, map, take, slice_get, slice_index}
use Rattle.std.specs.List.{position_from}
use Rattle.std.specs.Option.{option_map}
use Rattle.std.specs.Str.{bytes_eq}
use Rattle.std.proofs.lemmas.Iterator.Adapters.{position_from-zero}
use Rattle.std.proofs.lemmas.List.{get_or_append_left}
use Rattle.std.proofs.Math.Seq.{get_or-append_seam}
use Rattle.std.proofs.lemmas.List.{length-map, length-take-le}
use Rattle.std.proofs.lemmas.Option.{none-some, slice_get-get_or, slice_get_within}
use Rattle.std.proofs.lemmas.Slice.Eq.{bytes_eq-Decides}
use Rattle.ck_base.specs.Numbered.{number_of, met}
use Rattle.ck_base.proofs.NamesMet.{met_known, met_new, name_at_number, number_of-new}
use Rattle.ast_types.specs.TypeTable.{Family, NodeType, TypeTable, family_at, family_in, type_at, type_in}
use Rattle.node_model.specs.TypeNames.{names_of_all, names_of_families}
use Rattle.node_model.specs.declared.first_places.FirstPlaces.{FirstPlaces}
use Rattle.node_model.specs.within.FirstPlaces.{AreFirst}

-- what is found, else this place where the last one passes
abbrev else_last : Option ℕ → Bool → ℕ → Option ℕ
else_last (Some n) last place = Some n
else_last None last place = cond last (Some place) None

from_front : (test : List ℕ → Bool) (names : List (List ℕ)) (x : List ℕ) (k : ℕ)
    → position_from test k (names ++ x ∷ []) ≡ else_last (position_from test k names) (test x) (k + length names)
from_front test [] x k = ap (λ n. cond (test x) (Some n) None) (omega arith)
from_front test (name ∷ names) x k =
    elim (test name) as (λ b. cond b (Some k) (position_from test (k + 1) (names ++ x ∷ []))
    ≡ else_last (cond b (Some k) (position_from test (k + 1) names)) (test x) (k + length (name ∷ names))) [
      | true ↦ refl
      | false ↦ from_front test names x (k + 1)
          ∙ ap (else_last (position_from test (k + 1) names) (test x)) (omega arith)
    ]

-- the number of a name among one name more
one_more : (names : List (List ℕ)) (x name : List ℕ)
    → number_of (names ++ x ∷ []) name ≡ else_last (number_of names name) (bytes_eq name x) (length names)
one_more names x name =
    let none : 0 + length names ≡ length names = omega arith in
    position_from-zero (bytes_eq name) (names ++ x ∷ []) ∙ from_front (bytes_eq name) names x 0
    ∙ ap (else_last (position_from (bytes_eq name) 0 names) (bytes_eq name x)) none
    ∙ ap (λ o. else_last o (bytes_eq name x) (length names)) (sym (position_from-zero (bytes_eq name) names))

-- a name that has no number isn't the one that has one
other_name : (names : List (List ℕ)) (x name : List ℕ) (n : ℕ) → number_of names x ≡ Some n
    → number_of names name ≡ None → bytes_eq name x ≡ false
other_name names x name n found none = by (bytes_eq name x) refl
  where
    by : (b : Bool) → bytes_eq name x ≡ b → b ≡ false
    by false is = refl
    by true is =
        let same : name ≡ x = (bytes_eq-Decides name x).0 is in
        absurd (none-some n (sym none ∙ ap (number_of names) same ∙ found))

module _ (all : List (List ℕ)) (x : List ℕ) (old new : FirstPlaces) (so : AreFirst all old) where
  -- of a name that is known the first place stays
  known : (n : ℕ) → number_of old.names x ≡ Some n → new.names ≡ met old.names (x ∷ [])
      → new.places.items ≡ old.places.items → AreFirst (all ++ x ∷ []) new
  known n found names places = record {
    each = ap length places ∙ so.each ∙ ap length (sym same);
    few = (let more = length-append all (x ∷ []) in let few = so.few in let here = ap length same in
        omega (arith, more, few, here));
    first = λ name. ap (λ l. option_map (slice_index l) (number_of new.names name)) places
        ∙ ap (λ l. option_map (slice_index old.places.items) (number_of l name)) same
        ∙ by name (number_of old.names name) refl ∙ sym (one_more all x name);
  }
    where
      same : new.names ≡ old.names
      same = names ∙ met_known old.names x n found

      by : (name : List ℕ) (o : Option ℕ) → number_of old.names name ≡ o
          → option_map (slice_index old.places.items) (number_of old.names name)
          ≡ else_last (number_of all name) (bytes_eq name x) (length all)
      by name None is =
          ap (option_map (slice_index old.places.items)) is
          ∙ ap (λ b. cond b (Some (length all)) None) (sym (other_name old.names x name n found is))
          ∙ ap (λ o. else_last o (bytes_eq name x) (length all))
          (ap (option_map (slice_index old.places.items)) (sym is) ∙ so.first name)
      by name (Some m) is =
          ap (option_map (slice_index old.places.items)) is
          ∙ ap (λ o. else_last o (bytes_eq name x) (length all))
          (ap (option_map (slice_index old.places.items)) (sym is) ∙ so.first name)

  -- the first place of a new name is the last one
  added : number_of old.names x ≡ None → new.names ≡ met old.names (x ∷ [])
      → new.places.items ≡ old.places.items ++ length all ∷ [] → AreFirst (all ++ x ∷ []) new
  added none names places = record {
    each = ap length places ∙ length-append old.places.items (length all ∷ []) ∙ ap (λ n. n + 1) so.each
        ∙ sym (length-append old.names (x ∷ [])) ∙ ap length (sym longer);
    few = (let more = length-append all (x ∷ []) in let here = ap length longer ∙ length-append old.names (x ∷ []) in
        let few = so.few in omega (arith, more, few, here));
    first = λ name. ap (λ l. option_map (slice_index l) (number_of new.names name)) places
        ∙ ap (λ l. option_map (slice_index (old.places.items ++ length all ∷ [])) (number_of l name)) longer
        ∙ ap (option_map (slice_index (old.places.items ++ length all ∷ []))) (one_more old.names x name)
        ∙ by name (number_of old.names name) refl (bytes_eq name x) ∙ sym (one_more all x name);
  }
    where
      longer : new.names ≡ old.names ++ x ∷ []
      longer = names ∙ met_new old.names x none

      last_place : slice_index (old.places.items ++ length all ∷ []) (length old.names) ≡ length all
      last_place =
          ap (slice_index (old.places.items ++ length all ∷ [])) (sym so.each)
          ∙ get_or-append_seam old.places.items (length all) [] 0

      by : (name : List ℕ) (o : Option ℕ) → number_of old.names name ≡ o → (b : Bool)
          → option_map (slice_index (old.places.items ++ length all ∷ []))
          (else_last (number_of old.names name) b (length old.names))
          ≡ else_last (number_of all name) b (length all)
      by name None is true =
          ap (λ o. option_map (slice_index (old.places.items ++ length all ∷ [])) (else_last o true (length old.names))) is
          ∙ ap Some last_place
          ∙ ap (λ o. else_last o true (length all))
          (ap (option_map (slice_index old.places.items)) (sym is) ∙ so.first name)
      by name None is false =
          ap (λ o. option_map (slice_index (old.places.items ++ length all ∷ [])) (else_last o false (length old.names))) is
          ∙ ap (λ o. else_last o false (length all))
          (ap (option_map (slice_index old.places.items)) (sym is) ∙ so.first name)
      by name (Some m) is b =
          let within : m < length old.places.items =
          (let less = slice_get_within old.names m name (name_at_number old.names name m is) in
          let each = so.each in omega (arith, less, each)) in
          ap (λ o. option_map (slice_index (old.places.items ++ length all ∷ [])) (else_last o b (length old.names))) is
          ∙ ap Some (get_or_append_left old.places.items (length all ∷ []) 0 m within)
          ∙ ap (λ o. else_last o b (length all))
          (ap (option_map (slice_index old.places.items)) (sym is) ∙ so.first name)

  -- the name's number is the next one
  pub place_added : (n : ℕ) → new.names ≡ met old.names (x ∷ []) → number_of new.names x ≡ Some n
      → n ≡ length old.places.items → new.places.items ≡ old.places.items ++ length all ∷ []
      → AreFirst (all ++ x ∷ []) new
  place_added n names number next places = by (number_of old.names x) refl
    where
      by : (o : Option ℕ) → number_of old.names x ≡ o → AreFirst (all ++ x ∷ []) new
      by None none = added none names places
      by (Some m) found =
          let less = slice_get_within old.names m x (name_at_number old.names x m found) in
          let same : Some m ≡ Some n = sym found
          ∙ ap (λ l. number_of l x) (sym (met_known old.names x m found) ∙ sym names) ∙ number in
          let one : m ≡ n = cc in
          absurd (omega (arith, less, one, next, so.each))

  -- the name's number isn't the next one
  pub place_kept : (n : ℕ) → new.names ≡ met old.names (x ∷ []) → number_of new.names x ≡ Some n
      → (n ≡ length old.places.items → ⊥) → new.places.items ≡ old.places.items → AreFirst (all ++ x ∷ []) new
  place_kept n names number other places = by (number_of old.names x) refl
    where
      by : (o : Option ℕ) → number_of old.names x ≡ o → AreFirst (all ++ x ∷ []) new
      by (Some m) found = known m found names places
      by None none =
          let same : Some (length old.names) ≡ Some n = sym (number_of-new old.names x none)
          ∙ ap (λ l. number_of l x) (sym (met_new old.names x none) ∙ sym names) ∙ number in
          let one : length old.names ≡ n = cc in
          absurd (other (omega (arith, one, so.each)))

-- the names of a row more
next_row : {X : Type 0} (name_of : X → List ℕ) (rows : List X) (i : ℕ) (row : X) → slice_get rows i ≡ Some row
    → take (i + 1) (map name_of rows) ≡ take i (map name_of rows) ++ name_of row ∷ []
next_row name_of rows i row at = let one : i + 1 ≡ suc i = omega arith in rw one (by rows i at)
  where
    by : (rows : List _) (i : ℕ) → slice_get rows i ≡ Some row
        → take (suc i) (map name_of rows) ≡ take i (map name_of rows) ++ name_of row ∷ []
    by [] i at = cc
    by (x ∷ rows) zero at = let it : x ≡ row = cc in rw it refl
    by (x ∷ rows) (suc i) at = ap (λ l. name_of x ∷ l) (by rows i at)

-- the names of all rows
all_rows : (names : List (List ℕ)) (n : ℕ) → n ≡ length names → take n names ≡ names
all_rows [] zero is = refl
all_rows [] (suc n) is = refl
all_rows (x ∷ names) zero is = absurd (omega (arith, is))
all_rows (x ∷ names) (suc n) is = ap (λ l. x ∷ l) (all_rows names n (omega (arith, is)))

pub next_family : (table : TypeTable) (f : ℕ) (name : List ℕ) (kept : FirstPlaces) → f < length table.families
    → name ≡ (family_at table.families f).name → AreFirst (take f (names_of_families table) ++ name ∷ []) kept
    → AreFirst (take (f + 1) (names_of_families table)) kept
next_family table f name kept less is so =
    let row : Family = family_at table.families f in
    let at : slice_get table.families f ≡ Some row = (let d = slice_get-get_or table.families f row less in d
    ∙ ap (λ x. Some x) (sym (ap family_in d))) in
    subst (λ l. AreFirst l kept) (ap (λ n. take f (names_of_families table) ++ n ∷ []) is
    ∙ sym (next_row (λ x. x.name) table.families f row at)) so

pub next_type : (table : TypeTable) (t : ℕ) (name : List ℕ) (kept : FirstPlaces) → t < length table.types
    → name ≡ (type_at table.types t).name → AreFirst (take t (names_of_all table) ++ name ∷ []) kept
    → AreFirst (take (t + 1) (names_of_all table)) kept
next_type table t name kept less is so =
    let row : NodeType = type_at table.types t in
    let at : slice_get table.types t ≡ Some row = (let d = slice_get-get_or table.types t row less in d
    ∙ ap (λ x. Some x) (sym (ap type_in d))) in
    subst (λ l. AreFirst l kept) (ap (λ n. take t (names_of_all table) ++ n ∷ []) is
    ∙ sym (next_row (λ x. x.name) table.types t row at)) so

pub front_length : {X : Type 0} (name_of : X → List ℕ) (rows : List X) (n : ℕ) → n ≤ length rows
    → n ≡ length (take n (map name_of rows))
front_length name_of rows n less =
    sym (length-take-le n (map name_of rows) (let same = length-map rows name_of in omega (arith, same, less)))

pub all_named : {X : Type 0} (name_of : X → List ℕ) (rows : List X) (n : ℕ) (kept : FirstPlaces) → n ≡ length rows
    → AreFirst (take n (map name_of rows)) kept → AreFirst (map name_of rows) kept
all_named name_of rows n kept is so =
    subst (λ l. AreFirst l kept) (all_rows (map name_of rows) n (is ∙ sym (length-map rows name_of))) so

-- a number is below the length
pub number_within : {X : Type 0} (name_of : X → List ℕ) (rows : List X) (name : List ℕ) (found : Option ℕ)
    → found ≡ number_of (map name_of rows) name → IfSome found (λ n. n < length rows)
number_within name_of rows name None is = tt
number_within name_of rows name (Some n) is =
    let less = slice_get_within (map name_of rows) n name (name_at_number (map name_of rows) name n (sym is)) in
    let same = length-map rows name_of in omega (arith, less, same)
