-- A made node of its type in a scene is a tree that conforms to the types.
use Rattle.std.proofs.Common.{◌≡◌, ℕ, ◌<◌, pos, length, List, [], ◌∷◌, map, refl, sym, subst}
use Rattle.value_store.specs.MadeTrees.{MadeTree, MadeTrees, made, no_trees, and_trees, type_of}
use Rattle.value_store.specs.declared.value.Value.{Value}
use Rattle.value_store.specs.declared.value.Value.TheVariants as value
use Rattle.value_store.specs.declared.value.ValType.{ValType}
use Rattle.value_store.specs.declared.value.ValType.TheVariants as ty
use Rattle.ast_types.specs.Items.{child_families, field_types, child_then, field_then}
use Rattle.ast_types.specs.TypeTable.{type_at}
use Rattle.ast_types.specs.declared.item.Item.{Item}
use Rattle.expr_lang.specs.PureValues.{PureValue, PureValues, node, no_pure, and_pure}
use Rattle.expr_lang.specs.PureOf.{pure_field, pure_fields, pure_trees, pure_tree}
use Rattle.value_store.specs.PlainTypes.{IsPlain, plain_int, plain_bool, plain_text}
use Rattle.tree_store.specs.Conforms.{IsOfKind}
use Rattle.tree_store.specs.Conforms as conforms
use Rattle.tree_store.specs.Fitting.{as_field, FieldsFit, no_field_fits, and_field_fits, TreeFits, tree_fits, TreesFit, no_tree_fits, and_tree_fits}
use Rattle.puma_model.specs.Scene.{Scene, item_types}
use Rattle.puma_model.specs.Typed.{IsOfType, typed_int, typed_bool, typed_text, typed_node, ItemsTyped, none_typed, child_typed, field_typed}

-- children of these families, and fields of these types
data Children (scene : Scene) : PureValues → List ℕ → Type 0 where
  no_child : Children scene no_pure []
  and_child : (v : PureValue) (vs : PureValues) (f : ℕ) (fs : List ℕ) → IsOfType scene v (ty.Node f) → Children scene vs fs → Children scene (and_pure v vs) (f ∷ fs)

data Fields (scene : Scene) : PureValues → List ValType → Type 0 where
  no_field : Fields scene no_pure []
  and_field : (v : PureValue) (vs : PureValues) (t : ValType) (ts : List ValType) → IsPlain t → IsOfType scene v t → Fields scene vs ts → Fields scene (and_pure v vs) (t ∷ ts)

record Both (scene : Scene) (cs fs : PureValues) (families : List ℕ) (kinds : List ValType) : Type 0 where
  pub children : Children scene cs families
  pub fields : Fields scene fs kinds

split_one : (scene : Scene) (t : ValType) (items : List Item) (cs fs : PureValues) → ItemsTyped scene cs fs (t ∷ map (λ item. item.of) items)
    → ((a b : PureValues) → ItemsTyped scene a b (map (λ item. item.of) items) → Both scene a b (child_families items) (field_types items))
    → Both scene cs fs (child_then t (child_families items)) (field_then t (field_types items))
split_one scene _ items _ fs (child_typed v cs _ f _ is more) rest = let r = rest cs fs more in record { children = and_child v cs f _ is r.children; fields = r.fields }
split_one scene _ items cs _ (field_typed v _ fs _ _ plain_int is more) rest = let r = rest cs fs more in record { children = r.children; fields = and_field v fs ty.Int _ plain_int is r.fields }
split_one scene _ items cs _ (field_typed v _ fs _ _ plain_bool is more) rest = let r = rest cs fs more in record { children = r.children; fields = and_field v fs ty.Bool _ plain_bool is r.fields }
split_one scene _ items cs _ (field_typed v _ fs _ _ plain_text is more) rest = let r = rest cs fs more in record { children = r.children; fields = and_field v fs ty.Text _ plain_text is r.fields }

split_none : (scene : Scene) (cs fs : PureValues) → ItemsTyped scene cs fs [] → Both scene cs fs [] []
split_none scene _ _ none_typed = record { children = no_child; fields = no_field }

split_items : (scene : Scene) (items : List Item) (cs fs : PureValues) → ItemsTyped scene cs fs (map (λ item. item.of) items)
    → Both scene cs fs (child_families items) (field_types items)
split_items scene [] cs fs h = split_none scene cs fs h
split_items scene (i ∷ items) cs fs h = split_one scene i.of items cs fs h (λ a b more. split_items scene items a b more)

field_kind : (scene : Scene) (s l : List ℕ) (v : Value) (t : ValType) → IsOfType scene (pure_field s l v) t → IsOfKind (as_field v) t
field_kind scene s l (value.Int z) _ (typed_int _) = conforms.is_int z
field_kind scene s l (value.Bool b) _ (typed_bool _) = conforms.is_bool b
field_kind scene s l (value.Text x) _ (typed_text _) = conforms.is_text x
field_kind scene s l (value.Map m) _ (typed_int _) = conforms.is_int (pos 0)
field_kind scene s l (value.Token m) _ (typed_int _) = conforms.is_int (pos 0)
field_kind scene s l (value.Src m) _ (typed_int _) = conforms.is_int (pos 0)
field_kind scene s l (value.Made m) _ (typed_int _) = conforms.is_int (pos 0)

field_head : {scene : Scene} {v : PureValue} {vs : PureValues} {kinds : List ValType} → Fields scene (and_pure v vs) kinds
    → (t : ValType) × (ts : List ValType) × (kinds ≡ t ∷ ts) × IsOfType scene v t × Fields scene vs ts
field_head (and_field v vs t ts plain is more) = (t, ts, refl, is, more)

field_none : {scene : Scene} {kinds : List ValType} → Fields scene no_pure kinds → kinds ≡ []
field_none no_field = refl

fields_fit : (scene : Scene) (s l : List ℕ) (vs : List Value) (kinds : List ValType) → Fields scene (pure_fields s l vs) kinds → FieldsFit vs kinds
fields_fit scene s l [] kinds h = subst (FieldsFit []) (sym (field_none h)) no_field_fits
fields_fit scene s l (v ∷ vs) kinds h = let (t, ts, e, is, more) = field_head h in
    subst (FieldsFit (v ∷ vs)) (sym e) (and_field_fits v vs t ts (field_kind scene s l v t is) (fields_fit scene s l vs ts more))

child_head : {scene : Scene} {v : PureValue} {vs : PureValues} {families : List ℕ} → Children scene (and_pure v vs) families
    → (f : ℕ) × (fs : List ℕ) × (families ≡ f ∷ fs) × IsOfType scene v (ty.Node f) × Children scene vs fs
child_head (and_child v vs f fs is more) = (f, fs, refl, is, more)

child_none : {scene : Scene} {families : List ℕ} → Children scene no_pure families → families ≡ []
child_none no_child = refl

node_parts : {scene : Scene} {n f : ℕ} {cs fs : PureValues} → IsOfType scene (node n cs fs) (ty.Node f)
    → (n < length scene.table.types) × ((type_at scene.table.types n).family ≡ f) × ItemsTyped scene cs fs (item_types scene.table n)
node_parts (typed_node n f cs fs within family side items) = (within, family, items)

mutual
  tree_conforms : (scene : Scene) (s l : List ℕ) (t : MadeTree) (f : ℕ) → IsOfType scene (pure_tree s l t) (ty.Node f)
      → TreeFits scene.table t × ((type_at scene.table.types (type_of t)).family ≡ f)
  tree_conforms scene s l (made n children fields) f h =
      let (within, family, items) = node_parts h in
      let both = split_items scene (type_at scene.table.types n).items (pure_trees s l children) (pure_fields s l fields) items in
      (tree_fits n children fields within (trees_conform scene s l children _ both.children) (fields_fit scene s l fields _ both.fields), family)

  trees_conform : (scene : Scene) (s l : List ℕ) (ts : MadeTrees) (families : List ℕ) → Children scene (pure_trees s l ts) families → TreesFit scene.table ts families
  trees_conform scene s l no_trees families h = subst (TreesFit scene.table no_trees) (sym (child_none h)) no_tree_fits
  trees_conform scene s l (and_trees (made n children fields) ts) families h =
      let (f, fs, e, is, more) = child_head h in
      let (fits, family) = tree_conforms scene s l (made n children fields) f is in
      subst (TreesFit scene.table (and_trees (made n children fields) ts)) (sym e)
      (and_tree_fits (made n children fields) ts f fs family fits (trees_conform scene s l ts fs more))

-- what laying it out asks for
pub made_conforms : (scene : Scene) (s l : List ℕ) (t : MadeTree) (f : ℕ) → IsOfType scene (pure_tree s l t) (ty.Node f) → TreeFits scene.table t
made_conforms scene s l t f h = (tree_conforms scene s l t f h).0
