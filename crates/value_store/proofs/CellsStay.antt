-- Adding a unit changes no cell, and what the units say stays true.
use Rattle.std.proofs.Common.{◌≡◌, ℕ, ◌+◌, ◌<◌, List, [], ◌∷◌, ◌++◌, length, map, Some, refl, sym, ap, ◌∙◌, append_assoc, arith, length-append, ◌⊎◌, inl, inr, suc, zero, Option, append-nil}
use Rattle.std.specs.Prelude.{slice_get}
use Rattle.value_store.specs.Cells.{Cell, a_map, a_part, pairs_at, tree_at, pairs_in, tree_in, cell_of, cells_from, cells_of, IsMap, IsMade, AreMade, trees_at}
use Rattle.value_store.specs.UnitFacts.{Says}
use Rattle.value_store.specs.declared.unit.StoreUnit.{StoreUnit}
use Rattle.value_store.specs.declared.unit.StoreUnit.TheVariants as unit
use Rattle.value_store.specs.declared.value.Value.{Value}
use Rattle.value_store.specs.declared.value.Value.TheVariants as value

pub from-append : (done : List Cell) (us vs : List StoreUnit) → cells_from done (us ++ vs) ≡ cells_from (cells_from done us) vs
from-append done [] vs = refl
from-append done (u ∷ us) vs = from-append (done ++ cell_of done u ∷ []) us vs

pub length-from : (done : List Cell) (us : List StoreUnit) → length (cells_from done us) ≡ length done + length us
length-from done [] = omega arith
length-from done (u ∷ us) = omega (arith, length-from (done ++ cell_of done u ∷ []) us, length-append done (cell_of done u ∷ []))

pub from-begins : (done : List Cell) (us : List StoreUnit) → (more : List Cell) × (cells_from done us ≡ done ++ more)
from-begins done [] = ([], sym (append-nil done))
from-begins done (u ∷ us) =
    let rest = from-begins (done ++ cell_of done u ∷ []) us in
    (cell_of done u ∷ rest.0, rest.1 ∙ append_assoc done (cell_of done u ∷ []) rest.0)

-- one more unit makes one more cell
pub cells_of-push : (us : List StoreUnit) (u : StoreUnit) → cells_of (us ++ u ∷ []) ≡ cells_of us ++ cell_of (cells_of us) u ∷ []
cells_of-push us u = from-append (a_map [] ∷ []) us (u ∷ [])

pub length-cells_of : (us : List StoreUnit) → length (cells_of us) ≡ length us + 1
length-cells_of us = omega (arith, length-from (a_map [] ∷ []) us)

pub first_cell : (us : List StoreUnit) → slice_get (cells_of us) 0 ≡ Some (a_map [])
first_cell us = ap (λ ts. slice_get ts 0) (from-begins (a_map [] ∷ []) us).1

-- an element of a list is one of a longer list
pub slice_get-more : {A : Type 0} (xs more : List A) (i : ℕ) (x : A) → slice_get xs i ≡ Some x → slice_get (xs ++ more) i ≡ Some x
slice_get-more [] more i x is = (cc)
slice_get-more (y ∷ xs) more zero x is = is
slice_get-more (y ∷ xs) more (suc i) x is = slice_get-more xs more i x is

pub slice_get-end : {A : Type 0} (xs : List A) (x : A) → slice_get (xs ++ x ∷ []) (length xs) ≡ Some x
slice_get-end [] x = refl
slice_get-end (y ∷ xs) x = slice_get-end xs x

-- an element of a list with one more is the new one, or one of before
pub slice_get-pushed : {A : Type 0} (xs : List A) (x : A) (i : ℕ) (y : A) → slice_get (xs ++ x ∷ []) i ≡ Some y
    → ((i ≡ length xs) × (y ≡ x)) ⊎ (slice_get xs i ≡ Some y)
slice_get-pushed [] x zero y is = inl (refl, cc)
slice_get-pushed [] x (suc i) y is = (cc)
slice_get-pushed (z ∷ xs) x zero y is = inr is
slice_get-pushed (z ∷ xs) x (suc i) y is = elim (slice_get-pushed xs x i y is) [ inl e ↦ inl (ap (λ n. suc n) e.0, e.1) | inr e ↦ inr e ]

pub map-kept : (ts more : List Cell) (m : ℕ) → IsMap ts m → IsMap (ts ++ more) m
map-kept ts more m is = record { pairs = is.pairs; is = slice_get-more ts more m _ is.is }

pub pairs-kept : (ts more : List Cell) (m : ℕ) → IsMap ts m → pairs_at (ts ++ more) m ≡ pairs_at ts m
pairs-kept ts more m is = ap pairs_in (slice_get-more ts more m _ is.is) ∙ ap pairs_in (sym is.is)

pub made-kept : (ts more : List Cell) (c : ℕ) → IsMade ts c → IsMade (ts ++ more) c
made-kept ts more c is = record { tree = is.tree; is = slice_get-more ts more c _ is.is }

pub tree-kept : (ts more : List Cell) (c : ℕ) → IsMade ts c → tree_at (ts ++ more) c ≡ tree_at ts c
tree-kept ts more c is = ap tree_in (slice_get-more ts more c _ is.is) ∙ ap tree_in (sym is.is)

pub all-made-kept : (ts more : List Cell) (cs : List ℕ) → AreMade ts cs → AreMade (ts ++ more) cs
all-made-kept ts more [] all = tt
all-made-kept ts more (c ∷ cs) all = (made-kept ts more c all.0, all-made-kept ts more cs all.1)

pub trees-kept : (ts more : List Cell) (cs : List ℕ) → AreMade ts cs → trees_at (ts ++ more) cs ≡ trees_at ts cs
trees-kept ts more [] all = refl
trees-kept ts more (c ∷ cs) all = rw (tree-kept ts more c all.0, trees-kept ts more cs all.1) refl

-- parts stay as they are
pub part-there : (children : List ℕ) (fields : List Value) (k : ℕ) → k < length children + length fields
    → (v : Value) × (slice_get (map a_part (map (λ c. value.Made c) children ++ fields)) k ≡ Some (a_part v))
part-there [] [] k within = absurd (omega (arith, within))
part-there [] (v ∷ fields) zero within = (v, refl)
part-there [] (v ∷ fields) (suc k) within = part-there [] fields k (omega (arith, within))
part-there (c ∷ children) fields zero within = (value.Made c, refl)
part-there (c ∷ children) fields (suc k) within = part-there children fields k (omega (arith, within))

pub part-kept : (ts more : List Cell) (at : ℕ) (what : Option Cell) → slice_get ts at ≡ what
    → (v : Value) × (what ≡ Some (a_part v)) → slice_get (ts ++ more) at ≡ what
part-kept ts more at what is there = slice_get-more ts more at _ (is ∙ there.1) ∙ sym there.1

-- what a unit says stays true when children are added
pub says-kept : (ts more : List Cell) (cell : ℕ) (u : StoreUnit) → Says ts cell u → Says (ts ++ more) cell u
says-kept ts more cell (unit.Entry u) says = record {
  before = says.before;
  map = map-kept ts more u.older says.map;
  is = rw (pairs-kept ts more u.older says.map) (slice_get-more ts more cell _ says.is);
  counted = rw (pairs-kept ts more u.older says.map) says.counted;
  few = says.few;
}
says-kept ts more cell (unit.Node u) says = record {
  children = says.children;
  fields = says.fields;
  before = says.before;
  as_many_children = says.as_many_children;
  as_many_fields = says.as_many_fields;
  part = λ k within. part-kept ts more _ _ (says.part k within) (part-there says.children says.fields k (omega (arith, within, says.as_many_children, says.as_many_fields)));
  made_before = all-made-kept ts more says.children says.made_before;
  is = rw (trees-kept ts more says.children says.made_before) (slice_get-more ts more cell _ says.is);
  counted = rw (trees-kept ts more says.children says.made_before) says.counted;
}
says-kept ts more cell (unit.Part v) says = slice_get-more ts more cell _ says

-- what all units say
abbrev pub AllSay : List StoreUnit → Type 0
AllSay us = (i : ℕ) (u : StoreUnit) → slice_get us i ≡ Some u → Says (cells_of us) (i + 1) u

pub all-say-more : (us : List StoreUnit) (new : StoreUnit) → AllSay us → Says (cells_of us ++ cell_of (cells_of us) new ∷ []) (length us + 1) new → AllSay (us ++ new ∷ [])
all-say-more us new all says i u is =
    rw cells_of-push elim (slice_get-pushed us new i u is) [
      | inl e ↦ rw (e.0, e.1) says
      | inr e ↦ says-kept (cells_of us) (cell_of (cells_of us) new ∷ []) (i + 1) u (all i u e)
    ]
