-- A made tree conforms where its pure value is of a family, by makers of types of either side.
use Rattle.std.proofs.Common.{◌≡◌, ℕ, ℤ, pos, ◌<◌, List, [], ◌∷◌, length, map, Some, Bool, true, false, Contains, refl, sym, ◌∙◌, subst, arith, suc, if◌then◌else◌, nat_eq}
use Rattle.std.proofs.lemmas.Bool.{eqb-true}
use Rattle.value_store.specs.MadeTrees.{MadeTree, MadeTrees, made, no_trees, and_trees, type_of}
use Rattle.value_store.specs.PlainTypes.{IsPlain, plain_int, plain_bool, plain_text}
use Rattle.value_store.specs.declared.value.Value.{Value}
use Rattle.value_store.specs.declared.value.Value.TheVariants as value
use Rattle.value_store.specs.declared.value.ValType.{ValType}
use Rattle.value_store.specs.declared.value.ValType.TheVariants as ty
use Rattle.ast_types.specs.declared.item.Item.{Item}
use Rattle.ast_types.specs.Items.{child_then, field_then, child_families, field_types}
use Rattle.ast_types.specs.TypeTable.{TypeTable, type_at}
use Rattle.expr_lang.specs.declared.expr.Maker.{Maker}
use Rattle.expr_lang.specs.PureOf.{pure_field, pure_fields, pure_trees, pure_tree}
use Rattle.expr_lang.specs.PureTypes.{PureIsOf, pure_int, pure_bool, pure_text, pure_map, pure_token, pure_source, pure_node, ItemsFit, none_fit, child_fits, field_fits}
use Rattle.expr_lang.specs.PureValues.{PureValue, PureValues, int, bool, text, node}
use Rattle.expr_lang.specs.Typing.{maker_of}
use Rattle.node_model.specs.Makers.{IsMakerOf}
use Rattle.tree_store.specs.Conforms.{IsOfKind, is_int, is_bool, is_text}
use Rattle.tree_store.specs.Fitting.{as_field, FieldsFit, no_field_fits, and_field_fits, TreeFits, tree_fits, TreesFit, no_tree_fits, and_tree_fits}
use Rattle.node_model.specs.Makers.{AreMakers}

-- the first maker of a type
pub record IsFirst (ms : List Maker) (n : ℕ) (m : Maker) : Type 0 where
  pub among : Contains ms m
  pub kind : m.ty ≡ n

pub first_of : (ms : List Maker) (n : ℕ) (m : Maker) → maker_of ms n ≡ Some m → IsFirst ms n m
first_of [] n m is = (cc)
first_of (x ∷ ms) n m is = by_test (λ found. first_of ms n m found) (nat_eq x.ty n) refl is
  where
    by_test : (maker_of ms n ≡ Some m → IsFirst ms n m) → (b : Bool) → nat_eq x.ty n ≡ b → (if b then Some x else maker_of ms n) ≡ Some m → IsFirst (x ∷ ms) n m
    by_test later true e found = (let same : x ≡ m = cc in record { among = (0, omega arith, same); kind = (let k : x.ty ≡ n = eqb-true x.ty n e in subst (λ y. y.ty ≡ n) same k) })
    by_test later false e found = (let rest = later found in let c = rest.among in record { among = (suc c.0, (let low = c.1 in omega (arith, low)), c.2); kind = rest.kind })

-- the maker of a type is what the table says
record IsTyped (table : TypeTable) (n : ℕ) (m : Maker) : Type 0 where
  pub there : n < length table.types
  pub is : IsMakerOf table n m

typed_by : (table : TypeTable) (makers : List Maker) (n : ℕ) (m : Maker) → AreMakers table makers → maker_of makers n ≡ Some m → IsTyped table n m
typed_by table makers n m are found =
    let first = first_of makers n m found in
    let (t, within, is) = are m first.among in
    let same : t ≡ n = sym is.type_is ∙ first.kind in
    record { there = subst (λ k. k < length table.types) same within; is = subst (λ k. IsMakerOf table k m) same is }

-- a field's kind from the type of its pure value
kind_int : (s l : List ℕ) (v : Value) (z : ℤ) → int z ≡ pure_field s l v → IsOfKind (as_field v) ty.Int
kind_int s l (value.Int y) z e = is_int y
kind_int s l (value.Bool b) z e = (cc)
kind_int s l (value.Text t) z e = (cc)
kind_int s l (value.Map m) z e = is_int (pos 0)
kind_int s l (value.Token k) z e = is_int (pos 0)
kind_int s l (value.Src n) z e = is_int (pos 0)
kind_int s l (value.Made n) z e = is_int (pos 0)

kind_bool : (s l : List ℕ) (v : Value) (b : Bool) → bool b ≡ pure_field s l v → IsOfKind (as_field v) ty.Bool
kind_bool s l (value.Int y) b e = (cc)
kind_bool s l (value.Bool c) b e = is_bool c
kind_bool s l (value.Text t) b e = (cc)
kind_bool s l (value.Map m) b e = (cc)
kind_bool s l (value.Token k) b e = (cc)
kind_bool s l (value.Src n) b e = (cc)
kind_bool s l (value.Made n) b e = (cc)

kind_text : (s l : List ℕ) (v : Value) (bytes : List ℕ) → text bytes ≡ pure_field s l v → IsOfKind (as_field v) ty.Text
kind_text s l (value.Int y) b e = (cc)
kind_text s l (value.Bool c) b e = (cc)
kind_text s l (value.Text t) b e = is_text t
kind_text s l (value.Map m) b e = (cc)
kind_text s l (value.Token k) b e = (cc)
kind_text s l (value.Src n) b e = (cc)
kind_text s l (value.Made n) b e = (cc)

kind_of : (makers : List Maker) (sources : ℕ → ℕ → Bool) (s l : List ℕ) (w : Value) (v : PureValue) (t : ValType) → v ≡ pure_field s l w → IsPlain t → PureIsOf makers sources v t → IsOfKind (as_field w) t
kind_of makers sources s l w _ _ e plain_int (pure_int z) = kind_int s l w z e
kind_of makers sources s l w _ _ e plain_int (pure_node _ _ _ m _ _ _ _ of _) = (cc)
kind_of makers sources s l w _ _ e plain_bool (pure_bool z) = kind_bool s l w z e
kind_of makers sources s l w _ _ e plain_bool (pure_node _ _ _ m _ _ _ _ of _) = (cc)
kind_of makers sources s l w _ _ e plain_text (pure_text z) = kind_text s l w z e
kind_of makers sources s l w _ _ e plain_text (pure_node _ _ _ m _ _ _ _ of _) = (cc)

plain_child : (t : ValType) (fs : List ℕ) → IsPlain t → child_then t fs ≡ fs
plain_child _ fs plain_int = refl
plain_child _ fs plain_bool = refl
plain_child _ fs plain_text = refl

plain_field : (t : ValType) (ts : List ValType) → IsPlain t → field_then t ts ≡ t ∷ ts
plain_field _ ts plain_int = refl
plain_field _ ts plain_bool = refl
plain_field _ ts plain_text = refl

-- a made tree conforms where its pure value is of a family
mutual
  pub tree_conforms : (table : TypeTable) (makers : List Maker) (sources : ℕ → ℕ → Bool) → AreMakers table makers → (s l : List ℕ) (t : MadeTree) (v : PureValue) (kind : ValType) (f : ℕ)
      → v ≡ pure_tree s l t → kind ≡ ty.Node f → PureIsOf makers sources v kind → TreeFits table t × ((type_at table.types (type_of t)).family ≡ f)
  tree_conforms table makers sources are s l t _ _ f e k (pure_int z) = (cc)
  tree_conforms table makers sources are s l t _ _ f e k (pure_bool z) = (cc)
  tree_conforms table makers sources are s l t _ _ f e k (pure_text z) = (cc)
  tree_conforms table makers sources are s l t _ _ f e k (pure_map z) = (cc)
  tree_conforms table makers sources are s l t _ _ f e k (pure_token z) = (cc)
  tree_conforms table makers sources are s l t _ _ f e k (pure_source n g is) = (cc)
  tree_conforms table makers sources are s l (made n children fields) _ _ f e k (pure_node x xs ys m ts _ at is of fit) =
      let same : x ≡ n = cc in
      let kids : xs ≡ pure_trees s l children = cc in
      let rest : ys ≡ pure_fields s l fields = cc in
      let family : m.family ≡ f = cc in
      let maker = typed_by table makers n m are (subst (λ i. maker_of makers i ≡ Some m) same at) in
      let parts = items_conform table makers sources are s l (type_at table.types n).items ts (is ∙ maker.is.items_are) children fields xs ys kids rest fit in
      (tree_fits n children fields maker.there parts.0 parts.1, sym maker.is.family_is ∙ family)

  items_conform : (table : TypeTable) (makers : List Maker) (sources : ℕ → ℕ → Bool) → AreMakers table makers → (s l : List ℕ) (items : List Item) (ts : List ValType) → ts ≡ map (λ item. item.of) items
      → (children : MadeTrees) (fields : List Value) (xs ys : PureValues) → xs ≡ pure_trees s l children → ys ≡ pure_fields s l fields → ItemsFit makers sources xs ys ts
      → TreesFit table children (child_families items) × FieldsFit fields (field_types items)
  items_conform table makers sources are s l [] _ e no_trees [] _ _ kids rest none_fit = (no_tree_fits, no_field_fits)
  items_conform table makers sources are s l [] _ e no_trees (w ∷ ws) _ _ kids rest none_fit = (cc)
  items_conform table makers sources are s l [] _ e (and_trees (made n us vs) more) fields _ _ kids rest none_fit = (cc)
  items_conform table makers sources are s l (i ∷ items) _ e children fields _ _ kids rest none_fit = (cc)
  items_conform table makers sources are s l [] _ e children fields _ _ kids rest (child_fits v xs ys f ts is more) = (cc)
  items_conform table makers sources are s l [] _ e children fields _ _ kids rest (field_fits v xs ys t ts plain is more) = (cc)
  items_conform table makers sources are s l (i ∷ items) _ e no_trees fields _ _ kids rest (child_fits v xs ys f ts is more) = (cc)
  items_conform table makers sources are s l (i ∷ items) _ e (and_trees (made n us vs) others) fields _ _ kids rest (child_fits v xs ys f ts is more) =
      let first : v ≡ node n (pure_trees s l us) (pure_fields s l vs) = cc in
      let later : xs ≡ pure_trees s l others = cc in
      let kind : ty.Node f ≡ i.of = cc in
      let kinds : ts ≡ map (λ item. item.of) items = cc in
      let one = tree_conforms table makers sources are s l (made n us vs) v (ty.Node f) f first refl is in
      let all = items_conform table makers sources are s l items ts kinds others fields xs ys later rest more in
      subst (λ k. TreesFit table (and_trees (made n us vs) others) (child_then k (child_families items)) × FieldsFit fields (field_then k (field_types items))) kind
      (and_tree_fits (made n us vs) others f (child_families items) one.1 one.0 all.0, all.1)
  items_conform table makers sources are s l (i ∷ items) _ e children [] _ _ kids rest (field_fits v xs ys t ts plain is more) = (cc)
  items_conform table makers sources are s l (i ∷ items) _ e children (w ∷ ws) _ _ kids rest (field_fits v xs ys t ts plain is more) =
      let first : v ≡ pure_field s l w = cc in
      let later : ys ≡ pure_fields s l ws = cc in
      let kind : t ≡ i.of = cc in
      let kinds : ts ≡ map (λ item. item.of) items = cc in
      let all = items_conform table makers sources are s l items ts kinds children ws xs ys kids later more in
      subst (λ k. TreesFit table children (child_then k (child_families items)) × FieldsFit (w ∷ ws) (field_then k (field_types items))) kind (
        subst (TreesFit table children) (sym (plain_child t (child_families items) plain)) all.0,
        subst (FieldsFit (w ∷ ws)) (sym (plain_field t (field_types items) plain)) (and_field_fits w ws t (field_types items) (kind_of makers sources s l w v t first plain is) all.1),
      )
