-- Parts of a node read one after the other.
use Rattle.std.proofs.Common.{◌≡◌, ℕ, ◌<◌, ◌≤◌, ◌+◌, zero, suc, Bool, true, false, not, List, [], ◌∷◌, ◌++◌, length, map, drop, take, set, Some, refl, sym, ap, ◌∙◌, subst, arith, append-nil, append_assoc, add-one, drop_of_length-le}
use Rattle.std.specs.Prelude.{slice_get}
use Rattle.std.proofs.lemmas.List.{take_more_set}
use Rattle.value_store.specs.Cells.{Cell}
use Rattle.value_store.specs.declared.value.Value.{Value}
use Rattle.value_store.specs.declared.value.ValType.{ValType}
use Rattle.expr_lang.specs.PureValues.{PureValue, PureValues}
use Rattle.ast_types.specs.TypeTable.{IsA, TypeTable, type_at}
use Rattle.ast_types.specs.declared.item.Item.{Item}
use Rattle.puma_model.specs.Found.{IsScene}
use Rattle.puma_model.specs.Scene.{Scene, Seen, parts_of, item_types}
use Rattle.puma_model.specs.Typed.{ItemsTyped, AreIn, IsIn, pures}
use Rattle.puma_model.specs.within.Gathering.{drop_pure, sees, ReadsAs, AreParts, HasNext, is_node_type, plus_if}
use Rattle.puma_model.proofs.NodeParts.{NextPart, next_part, Moves, drop_next, node_typed, base_first}
use Rattle.puma_model.proofs.TypedValues.{pures-append, in_append, in_one, in_none}

the_same : {a b : Seen} → Some a ≡ Some b → a ≡ b
the_same e = cc

pub drop_at : {A : Type 0} (xs : List A) (i : ℕ) (x : A) → slice_get xs i ≡ Some x → drop i xs ≡ x ∷ drop (i + 1) xs
drop_at [] i x is = cc
drop_at (y ∷ xs) zero x is = let e : y ≡ x = cc in ap (λ z. z ∷ xs) e
drop_at (y ∷ xs) (suc i) x is = let e = drop_at xs i x is in rw add-one (rw add-one at e)

pub take_at : {A : Type 0} (xs : List A) (i : ℕ) (x : A) → slice_get xs i ≡ Some x → take (i + 1) xs ≡ take i xs ++ x ∷ []
take_at [] i x is = cc
take_at (y ∷ xs) zero x is = let e : y ≡ x = cc in ap (λ z. z ∷ []) e
take_at (y ∷ xs) (suc i) x is = let e = take_at xs i x is in rw add-one (rw add-one at (ap (λ z. y ∷ z) e))

-- the parts before item i are read
pub record Gathered (scene : Scene) (cells : List Cell) (node : Seen) (ts : List ValType) (into : List Value) (children fields i : ℕ) : Type 0 where
  pub count : children + fields ≡ i
  pub means : pures scene cells (take i into) ++ parts_of (drop i ts) (drop_pure children node.children) (drop_pure fields node.fields)
      ≡ parts_of ts node.children node.fields
  pub are : AreIn scene cells (take i into) (take i ts)
  pub more : List ValType
  pub items : ItemsTyped scene (drop_pure children node.children) (drop_pure fields node.fields) (drop i ts ++ more)

pub gathered_none : (scene : Scene) (cells : List Cell) (node : Seen) (ts more : List ValType) (into : List Value)
    → ItemsTyped scene node.children node.fields (ts ++ more) → Gathered scene cells node ts into 0 0 0
gathered_none scene cells node ts more into items = record { count = refl; means = refl; are = in_none scene cells; more = more; items = items }

module _ (scene : Scene) (cells : List Cell) (node : Seen) (ts : List ValType) (into : List Value) (children fields i : ℕ) (t : ValType)
    (to : Gathered scene cells node ts into children fields i) (at : slice_get ts i ≡ Some t) where
  next : NextPart scene t (drop (i + 1) ts ++ to.more) (drop_pure children node.children) (drop_pure fields node.fields)
  next = next_part scene t (drop (i + 1) ts ++ to.more) _ _
      (subst (λ z. ItemsTyped scene (drop_pure children node.children) (drop_pure fields node.fields) (z ++ to.more)) (drop_at ts i t at) to.items)

  has_of : (b : Bool) (c : PureValue) (cs fs : PureValues) → Moves b (drop_pure children node.children) (drop_pure fields node.fields) c cs fs
      → HasNext b children fields node c
  has_of true c cs fs (e, f) = (cs, e)
  has_of false c cs fs (e, f) = (fs, e)

  pub has_next : (b : Bool) → b ≡ is_node_type t → (c : PureValue) × HasNext b children fields node c
  has_next b e = (
    next.part,
    has_of b next.part next.children next.fields
        (subst (λ z. Moves z (drop_pure children node.children) (drop_pure fields node.fields) next.part next.children next.fields) (sym e) next.moves),
  )

  moved : (b : Bool) (c : PureValue) (cs fs : PureValues) → Moves b (drop_pure children node.children) (drop_pure fields node.fields) c cs fs
      → (drop_pure (plus_if b children) node.children ≡ cs) × (drop_pure (plus_if (not b) fields) node.fields ≡ fs)
      × (plus_if b children + plus_if (not b) fields ≡ children + fields + 1)
  moved true c cs fs (e, f) = (drop_next children node.children c cs e, f, omega arith)
  moved false c cs fs (e, f) = (f, drop_next fields node.fields c fs e, omega arith)

  pub gathered_next : (x : Value) (b : Bool) → b ≡ is_node_type t → i < length into
      → ((c : PureValue) → HasNext b children fields node c → ReadsAs scene cells x c)
      → Gathered scene cells node ts (set into i x) (plus_if b children) (plus_if (not b) fields) (i + 1)
  gathered_next x b e within reads =
      let moves = subst (λ z. Moves z (drop_pure children node.children) (drop_pure fields node.fields) next.part next.children next.fields) (sym e) next.moves in
      let (cs, fs, sum) = moved b next.part next.children next.fields moves in
      let read = reads next.part (has_of b next.part next.children next.fields moves) in
      let front = take_more_set into i x within in
      let before = to.count in
      let pure_front : pures scene cells (take (i + 1) (set into i x)) ≡ pures scene cells (take i into) ++ next.part ∷ [] =
      ap (pures scene cells) front ∙ pures-append scene cells (take i into) (x ∷ []) ∙ ap (λ z. pures scene cells (take i into) ++ z ∷ []) read.means in
      let tail = next.parts (drop (i + 1) ts) in
      record {
        count = omega (arith, sum, before);
        means = ap (λ z. pures scene cells (take (i + 1) (set into i x)) ++ parts_of (drop (i + 1) ts) z (drop_pure (plus_if (not b) fields) node.fields)) cs
            ∙ ap (λ z. pures scene cells (take (i + 1) (set into i x)) ++ parts_of (drop (i + 1) ts) next.children z) fs
            ∙ ap (λ z. z ++ parts_of (drop (i + 1) ts) next.children next.fields) pure_front
            ∙ append_assoc (pures scene cells (take i into)) (next.part ∷ []) (parts_of (drop (i + 1) ts) next.children next.fields)
            ∙ ap (λ z. pures scene cells (take i into) ++ z) (sym tail)
            ∙ ap (λ z. pures scene cells (take i into) ++ parts_of z (drop_pure children node.children) (drop_pure fields node.fields)) (sym (drop_at ts i t at))
            ∙ to.means;
        are = subst (λ z. AreIn scene cells z (take (i + 1) ts)) (sym front) (subst (λ z. AreIn scene cells (take i into ++ x ∷ []) z) (sym (take_at ts i t at))
            (in_append scene cells (take i into) (x ∷ []) (take i ts) (t ∷ []) to.are (in_one scene cells x t (read.typed t next.is))));
        more = to.more;
        items = subst (λ z. ItemsTyped scene z (drop_pure (plus_if (not b) fields) node.fields) (drop (i + 1) ts ++ to.more)) (sym cs)
            (subst (λ z. ItemsTyped scene next.children z (drop (i + 1) ts ++ to.more)) (sym fs) next.items);
      }

take_whole : {A : Type 0} (xs : List A) (n : ℕ) → length xs ≤ n → take n xs ≡ xs
take_whole [] zero le = refl
take_whole [] (suc n) le = refl
take_whole (x ∷ xs) zero le = absurd (omega (arith, le))
take_whole (x ∷ xs) (suc n) le = ap (λ z. x ∷ z) (take_whole xs n (omega (arith, le)))

pub gathered_all : (scene : Scene) (cells : List Cell) (node : Seen) (ts : List ValType) (into : List Value) (children fields i : ℕ)
    → Gathered scene cells node ts into children fields i → length ts ≤ i
    → (pures scene cells (take i into) ≡ parts_of ts node.children node.fields) × AreIn scene cells (take i into) ts
gathered_all scene cells node ts into children fields i to past = (
  sym (append-nil (pures scene cells (take i into)))
      ∙ ap (λ z. pures scene cells (take i into) ++ parts_of z (drop_pure children node.children) (drop_pure fields node.fields)) (sym (drop_of_length-le ts past))
      ∙ to.means,
  subst (λ z. AreIn scene cells (take i into) z) (take_whole ts i past) to.are,
)

-- ------------------------------------------------------------------ from the code

pub gather_begin : (scene : Scene) (cells : List Cell) (v : Value) (t : ℕ) (into : List Value) → IsScene scene → (u : ValType) × IsIn scene cells v u
    → (it : Seen) × (sees scene cells v ≡ Some it) × IsA scene.table.types it.ty t
    → (it : Seen) → sees scene cells v ≡ Some it → Gathered scene cells it (item_types scene.table t) into 0 0 0
gather_begin scene cells v t into is (u, typed) (first, at, kind) it at_it =
    let same = the_same (sym at ∙ at_it) in
    let n = node_typed scene _ u it is typed.typed at_it in
    let (more, e) = base_first scene.table it.ty t is.types.sound (subst (λ z. IsA scene.table.types z.ty t) same kind) in
    gathered_none scene cells it (item_types scene.table t) more into (subst (λ z. ItemsTyped scene it.children it.fields z) e n.items)

pub gather_has : (scene : Scene) (cells : List Cell) (v : Value) (t : ℕ) (into : List Value) (children fields i : ℕ) (of : ValType) (b : Bool)
    → (it : Seen) × (sees scene cells v ≡ Some it) × IsA scene.table.types it.ty t
    → ((it : Seen) → sees scene cells v ≡ Some it → Gathered scene cells it (item_types scene.table t) into children fields i)
    → slice_get (item_types scene.table t) i ≡ Some of → b ≡ is_node_type of
    → (it : Seen) × (sees scene cells v ≡ Some it) × (c : PureValue) × HasNext b children fields it c
gather_has scene cells v t into children fields i of b (it, at, kind) to get e =
    let (c, next) = has_next scene cells it (item_types scene.table t) into children fields i of (to it at) get b e in (it, at, c, next)

pub gather_on : (scene : Scene) (cells : List Cell) (v : Value) (t : ℕ) (into : List Value) (children fields i : ℕ) (of : ValType) (b : Bool) (x : Value)
    → ((it : Seen) → sees scene cells v ≡ Some it → Gathered scene cells it (item_types scene.table t) into children fields i)
    → slice_get (item_types scene.table t) i ≡ Some of → b ≡ is_node_type of → i < length into
    → ((it : Seen) (c : PureValue) → sees scene cells v ≡ Some it → HasNext b children fields it c → ReadsAs scene cells x c)
    → (it : Seen) → sees scene cells v ≡ Some it
    → Gathered scene cells it (item_types scene.table t) (set into i x) (plus_if b children) (plus_if (not b) fields) (i + 1)
gather_on scene cells v t into children fields i of b x to get e within reads it at =
    gathered_next scene cells it (item_types scene.table t) into children fields i of (to it at) get x b e within (λ c next. reads it c at next)

pub gather_end : (scene : Scene) (cells : List Cell) (v : Value) (t : ℕ) (into : List Value) (children fields i : ℕ)
    → (it : Seen) × (sees scene cells v ≡ Some it) × IsA scene.table.types it.ty t
    → ((it : Seen) → sees scene cells v ≡ Some it → Gathered scene cells it (item_types scene.table t) into children fields i)
    → length (item_types scene.table t) ≤ i → AreParts scene cells v t (take i into)
gather_end scene cells v t into children fields i (it, at, kind) to past = record {
  means = λ other at_other. (gathered_all scene cells other (item_types scene.table t) into children fields i (to other at_other) past).0;
  are = (gathered_all scene cells it (item_types scene.table t) into children fields i (to it at) past).1;
}

pub gather_few : (scene : Scene) (cells : List Cell) (v : Value) (t : ℕ) (into : List Value) (children fields i : ℕ)
    → (it : Seen) × (sees scene cells v ≡ Some it) × IsA scene.table.types it.ty t
    → ((it : Seen) → sees scene cells v ≡ Some it → Gathered scene cells it (item_types scene.table t) into children fields i)
    → children + fields ≡ i
gather_few scene cells v t into children fields i (it, at, kind) to = (to it at).count

pub gather_item : (table : TypeTable) (t i : ℕ) (of : ValType) (items : List Item) → items ≡ (type_at table.types t).items
    → slice_get (map (λ item. item.of) items) i ≡ Some of → slice_get (item_types table t) i ≡ Some of
gather_item table t i of items same get = subst (λ z. slice_get (map (λ item. item.of) z) i ≡ Some of) same get

map_length : (items : List Item) → length (map (λ item. item.of) items) ≡ length items
map_length [] = refl
map_length (x ∷ items) = let e = map_length items in omega (arith, e)

pub gather_length : (table : TypeTable) (t : ℕ) (items : List Item) → items ≡ (type_at table.types t).items → length (item_types table t) ≡ length items
gather_length table t items same = map_length (type_at table.types t).items ∙ ap (λ z. length z) (sym same)
