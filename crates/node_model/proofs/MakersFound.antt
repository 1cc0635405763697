-- What makes the nodes of one side, a type more at a time.
use Rattle.std.proofs.Common.{◌≡◌, ℕ, zero, suc, ◌+◌, ◌<◌, Bool, true, false, if◌then◌else◌, List, [], ◌∷◌, ◌++◌, length, drop, map, All, refl, sym, ap, ◌∙◌, subst, Some, Contains, arith, append_assoc}
use Rattle.std.specs.List.{slice_get}
use Rattle.std.proofs.lemmas.List.{append-nil, map-append}
use Rattle.std.proofs.lemmas.List.Elements.{All-append, All-cons, All-head, All-nil, All-tail}
use Rattle.std.proofs.lemmas.Option.{get_or_from_slice_get, slice_get-get_or, slice_get_within}
use Rattle.ck_base.proofs.Counting.{element_of_map}
use Rattle.ck_base.proofs.Representing.{element_to_map}
use Rattle.ast_types.specs.TypeTable.{NodeType, TypeTable, IsSound, family_at, type_in, type_at}
use Rattle.expr_lang.specs.declared.expr.Maker.{Maker}
use Rattle.node_model.specs.Makers.{AreMakersOf, IsMakerOf, IsTypeOf, is_side, names_of_types, types_from, types_of_side}
use Rattle.node_model.specs.declared.makers.TypeMakers.{TypeMakers}
use Rattle.node_model.specs.within.MakersSoFar.{MakersSoFar}

-- a side is the other where the test says so
side_is : (side target : Bool) → is_side side target ≡ true → side ≡ target
side_is side true is = is
side_is true false is = cc
side_is false false is = refl

side_same : (side target : Bool) → side ≡ target → is_side side target ≡ true
side_same side true is = is
side_same true false is = cc
side_same false false is = refl

-- the rest of a table begins with the type of its number
drop_at : (types : List NodeType) (t : ℕ) → t < length types → drop t types ≡ type_at types t ∷ drop (suc t) types
drop_at [] t less = absurd (omega (arith, less))
drop_at (row ∷ types) zero less = refl
drop_at (row ∷ types) (suc t) less = drop_at types t (omega (arith, less))

drop_all : (types : List NodeType) (t : ℕ) → t ≡ length types → drop t types ≡ []
drop_all [] zero is = refl
drop_all [] (suc t) is = refl
drop_all (row ∷ types) zero is = absurd (omega (arith, is))
drop_all (row ∷ types) (suc t) is = drop_all types t (omega (arith, is))

abbrev rest_from : TypeTable → Bool → ℕ → List ℕ
rest_from table target t = types_from table target t (drop t table.types)

from_here : (table : TypeTable) (target : Bool) (t : ℕ) → t < length table.types
    → rest_from table target t ≡ (if is_side (family_at table.families (type_at table.types t).family).target target
    then (t ∷ rest_from table target (t + 1)) else rest_from table target (t + 1))
from_here table target t less =
    let one : suc t ≡ t + 1 = omega arith in
    ap (types_from table target t) (drop_at table.types t less
    ∙ ap (λ n. type_at table.types t ∷ drop n table.types) one)

pub other_passed : (table : TypeTable) (target : Bool) (t : ℕ) (made : TypeMakers) → t < length table.types
    → is_side (family_at table.families (type_at table.types t).family).target target ≡ false
    → MakersSoFar table target t made → MakersSoFar table target (t + 1) made
other_passed table target t made less is so = record {
  names = so.names;
  types = sym (ap (λ l. made.types.items ++ l) (from_here table target t less
      ∙ ap (λ b. if b then (t ∷ rest_from table target (t + 1)) else rest_from table target (t + 1)) is)) ∙ so.types;
  kinds = so.kinds;
  each = so.each;
}

pub one_made : (table : TypeTable) (target : Bool) (t : ℕ) (old new : TypeMakers) (name : List ℕ) (maker : Maker)
    → t < length table.types
    → is_side (family_at table.families (type_at table.types t).family).target target ≡ true
    → name ≡ (type_at table.types t).name → maker.ty ≡ t → IsMakerOf table t maker
    → new.names.items ≡ old.names.items ++ name ∷ [] → new.types.items ≡ old.types.items ++ t ∷ []
    → new.makers.items ≡ old.makers.items ++ maker ∷ [] → MakersSoFar table target t old
    → MakersSoFar table target (t + 1) new
one_made table target t old new name maker less is called kind made names types makers so = record {
  names = names ∙ ap (λ l. l ++ name ∷ []) so.names ∙ ap (λ n. names_of_types table old.types.items ++ n ∷ []) called
      ∙ sym (map-append (λ n. (type_at table.types n).name) old.types.items (t ∷ []))
      ∙ ap (names_of_types table) (sym types);
  types = ap (λ l. l ++ rest_from table target (t + 1)) types ∙ append_assoc old.types.items (t ∷ [])
      (rest_from table target (t + 1))
      ∙ sym (ap (λ l. old.types.items ++ l) (from_here table target t less
      ∙ ap (λ b. if b then (t ∷ rest_from table target (t + 1)) else rest_from table target (t + 1)) is)) ∙ so.types;
  kinds = ap (map (λ m. m.ty)) makers ∙ map-append (λ m. m.ty) old.makers.items (maker ∷ [])
      ∙ ap (λ l. l ++ maker.ty ∷ []) so.kinds
      ∙ ap (λ k. old.types.items ++ k ∷ []) kind ∙ sym types;
  each = subst (All (λ m. IsMakerOf table m.ty m)) (sym makers)
      (All-append (λ m. IsMakerOf table m.ty m) old.makers.items (maker ∷ []) so.each
      (All-cons (λ m. IsMakerOf table m.ty m) maker [] (subst (λ k. IsMakerOf table k maker) (sym kind) made)
      (All-nil (λ m. IsMakerOf table m.ty m))));
}

-- the numbers of the types of a side
record IsRow (table : TypeTable) (target : Bool) (first : ℕ) (rows : List NodeType) (t : ℕ) : Type 0 where
  pub place : ℕ
  pub row : NodeType
  pub number : t ≡ first + place
  pub is : slice_get rows place ≡ Some row
  pub side : is_side (family_at table.families row.family).target target ≡ true

row_later : (table : TypeTable) (target : Bool) (first : ℕ) (row : NodeType) (rows : List NodeType) (t : ℕ)
    → IsRow table target (first + 1) rows t → IsRow table target first (row ∷ rows) t
row_later table target first row rows t it =
    record {
      place = suc it.place;
      row = it.row;
      number = (let n = it.number in omega (arith, n));
      is = it.is;
      side = it.side;
    }

row_of_number : (table : TypeTable) (target : Bool) (first : ℕ) (rows : List NodeType) (j t : ℕ)
    → slice_get (types_from table target first rows) j ≡ Some t
    → IsRow table target first rows t
row_of_number table target first [] j t at = cc
row_of_number table target first (row ∷ rows) j t at =
    by (λ i found. row_of_number table target (first + 1) rows i t found)
    (is_side (family_at table.families row.family).target target) refl j at
  where
    by : ((i : ℕ) → slice_get (types_from table target (first + 1) rows) i ≡ Some t
        → IsRow table target (first + 1) rows t)
        → (b : Bool) → is_side (family_at table.families row.family).target target ≡ b → (j : ℕ)
        → slice_get (if b then (first ∷ types_from table target (first + 1) rows) else
        types_from table target (first + 1) rows) j ≡ Some t
        → IsRow table target first (row ∷ rows) t
    by later false e j at = row_later table target first row rows t (later j at)
    by later true e zero at =
        let same : first ≡ t = cc in record {
          place = 0;
          row = row;
          number = omega (arith, same);
          is = refl;
          side = e;
        }
    by later true e (suc j) at = row_later table target first row rows t (later j at)

number_of_row : (table : TypeTable) (target : Bool) (first : ℕ) (rows : List NodeType) (k : ℕ) (row : NodeType)
    → slice_get rows k ≡ Some row
    → is_side (family_at table.families row.family).target target ≡ true
    → (j : ℕ) × (slice_get (types_from table target first rows) j ≡ Some (first + k))
number_of_row table target first [] k row at side = cc
number_of_row table target first (x ∷ rows) zero row at side =
    let same : x ≡ row = cc in
    let here : is_side (family_at table.families x.family).target target ≡ true = subst
    (λ y. is_side (family_at table.families y.family).target target ≡ true) (sym same) side in
    let none : first ≡ first + 0 = omega arith in (
      0,
      ap (λ b. slice_get (if b then (first ∷ types_from table target (first + 1) rows) else
          types_from table target (first + 1) rows) 0) here ∙ ap (λ n. Some n) none,
    )
number_of_row table target first (x ∷ rows) (suc k) row at side =
    by (number_of_row table target (first + 1) rows k row at side)
    (is_side (family_at table.families x.family).target target)
  where
    by : ((j : ℕ) × (slice_get (types_from table target (first + 1) rows) j ≡ Some (first + 1 + k))) → (b : Bool)
        → (j : ℕ) × (slice_get (if b then (first ∷ types_from table target (first + 1) rows) else
        types_from table target (first + 1) rows) j ≡ Some (first + suc k))
    by it false = let one : first + 1 + k ≡ first + suc k = omega arith in (it.0, it.1 ∙ ap (λ n. Some n) one)
    by it true = let one : first + 1 + k ≡ first + suc k = omega arith in (suc it.0, it.1 ∙ ap (λ n. Some n) one)

side_at : (table : TypeTable) (target : Bool) (j t : ℕ) → IsSound table
    → slice_get (types_of_side table target) j ≡ Some t → IsTypeOf table target t
side_at table target j t sound at =
    let it = row_of_number table target 0 table.types j t at in
    let place : t ≡ it.place = (let n = it.number in omega (arith, n)) in
    let within : t < length table.types = (let less = slice_get_within table.types it.place it.row it.is in omega
    (arith, less, place)) in
    let here : type_at table.types t ≡ it.row = ap (type_at table.types) place ∙ ap type_in it.is in (
      within,
      (
        sound.family_there t within,
        ap (λ row. (family_at table.families row.family).target) here
            ∙ side_is _ target it.side,
      ),
    )

-- what holds of all elements holds of the one at the place
made_at : (table : TypeTable) (makers : List Maker) (k : ℕ) (m : Maker) → All (λ x. IsMakerOf table x.ty x) makers
    → slice_get makers k ≡ Some m → IsMakerOf table m.ty m
made_at table [] k m all at = cc
made_at table (x ∷ makers) zero m all at =
    let it : x ≡ m = cc in subst (λ y. IsMakerOf table y.ty y) it (All-head (λ y. IsMakerOf table y.ty y) x makers all)
made_at table (x ∷ makers) (suc k) m all at =
    made_at table makers k m (All-tail (λ y. IsMakerOf table y.ty y) x makers all) at

pub all_makers : (table : TypeTable) (target : Bool) (t : ℕ) (made : TypeMakers) → IsSound table
    → t ≡ length table.types → MakersSoFar table target t made
    → (made.types.items ≡ types_of_side table target) × AreMakersOf table target made.makers.items
all_makers table target t made sound end so = (types, record { each = each; all = all })
  where
    types : made.types.items ≡ types_of_side table target
    types = sym (append-nil made.types.items) ∙ sym (ap (λ l. made.types.items ++ types_from table target t l)
        (drop_all table.types t end)) ∙ so.types

    kinds : map (λ m. m.ty) made.makers.items ≡ types_of_side table target
    kinds = so.kinds ∙ types

    each : (m : Maker) → Contains made.makers.items m → (t : ℕ) × IsTypeOf table target t × IsMakerOf table t m
    each m (k, within, is) =
        let at : slice_get made.makers.items k ≡ Some m = slice_get-get_or made.makers.items k m within
        ∙ ap (λ x. Some x) is in
        let kind : slice_get (types_of_side table target) k ≡ Some m.ty = ap (λ l. slice_get l k) (sym kinds)
        ∙ element_to_map (λ x. x.ty) made.makers.items k m at in
        (m.ty, side_at table target k m.ty sound kind, made_at table made.makers.items k m so.each at)

    all : (t : ℕ) → IsTypeOf table target t → (m : Maker) × Contains made.makers.items m × IsMakerOf table t m
    all t side =
        let row : NodeType = type_at table.types t in
        let at : slice_get table.types t ≡ Some row = (let d = slice_get-get_or table.types t row side.0 in d
        ∙ ap (λ x. Some x) (sym (ap type_in d))) in
        let number = number_of_row table target 0 table.types t row at (side_same _ target side.1.1) in
        let none : 0 + t ≡ t = omega arith in
        let kind : slice_get (map (λ x. x.ty) made.makers.items) number.0 ≡ Some t = ap (λ l. slice_get l number.0)
        kinds ∙ number.1 ∙ ap (λ n. Some n) none in
        let (m, there, is) = element_of_map (λ x. x.ty) made.makers.items number.0 t kind in (
          m,
          (
            number.0,
            slice_get_within made.makers.items number.0 m there,
            get_or_from_slice_get made.makers.items number.0 m m there,
          ),
          subst (λ n. IsMakerOf table n m) is (made_at table made.makers.items number.0 m so.each there),
        )
