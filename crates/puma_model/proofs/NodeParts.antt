-- What is seen of a node: its children and fields are of the types of its items, and so are its parts at the items of a base.
use Rattle.std.proofs.Common.{◌≡◌, ℕ, ℤ, pos, ◌<◌, ◌≤◌, ◌+◌, zero, suc, Bool, true, false, List, [], ◌∷◌, ◌++◌, length, map, Option, Some, refl, sym, ap, ◌∙◌, subst, arith, append-nil, append_assoc, add-one}
use Rattle.std.specs.Prelude.{slice_get}
use Rattle.std.proofs.lemmas.Option.{slice_get_within}
use Rattle.value_store.specs.Cells.{Cell, IsMade, tree_at}
use Rattle.value_store.specs.MadeTrees.{MadeTree, MadeTrees, made, no_trees, and_trees, type_of, children_of, fields_of, child_at}
use Rattle.value_store.specs.declared.value.Value.{Value}
use Rattle.value_store.specs.declared.value.Value.TheVariants as value
use Rattle.value_store.specs.declared.value.ValType.{ValType}
use Rattle.value_store.specs.declared.value.ValType.TheVariants as ty
use Rattle.ast_types.specs.Items.{child_families, field_types, child_then, field_then}
use Rattle.ast_types.specs.TypeTable.{TypeTable, type_at, IsA, itself, extends, IsSound}
use Rattle.ast_types.specs.declared.item.Item.{Item}
use Rattle.expr_lang.specs.OfType.{IsOf, is_int, is_bool, is_text, is_source, is_made}
use Rattle.expr_lang.specs.PureValues.{PureValue, PureValues, int, bool, text, source, node, no_pure, and_pure}
use Rattle.expr_lang.specs.PureOf.{pure_of, pure_field, pure_fields, pure_trees, pure_tree}
use Rattle.value_store.specs.PlainTypes.{IsPlain, plain_int, plain_bool, plain_text}
use Rattle.tree_store.specs.Conforms.{IsOfKind}
use Rattle.tree_store.specs.Conforms as conforms
use Rattle.tree_store.specs.Fitting.{as_field}
use Rattle.tree_store.specs.Forest.{node_at}
use Rattle.puma_model.specs.Scene.{Scene, Seen, seen, sources_of, item_types, parts_of}
use Rattle.puma_model.specs.Typed as typed
use Rattle.puma_model.specs.Typed.{IsOfType, typed_int, typed_bool, typed_text, typed_map, typed_source, typed_node, ItemsTyped, none_typed, child_typed, field_typed, AreTyped, no_typed, and_typed, IsIn}
use Rattle.puma_model.specs.Found.{IsScene}
use Rattle.puma_model.proofs.UsableTypes.{one_side}
use Rattle.puma_model.specs.within.Gathering.{drop_pure, ReadsAs, is_node_type, sees}

-- ------------------------------------------------------------------ nodes of the source tree

field_is : (scene : Scene) (v : Value) (kind : ValType) → IsOfKind v kind
    → IsPlain kind × IsOfType scene (pure_field scene.source scene.literals v) kind
field_is scene _ _ (conforms.is_int z) = (plain_int, typed_int z)
field_is scene _ _ (conforms.is_bool b) = (plain_bool, typed_bool b)
field_is scene _ _ (conforms.is_text t) = (plain_text, typed_text _)

-- nodes that have these children and fields, as items ask for
record Serve (scene : Scene) (children : List ℕ) (fields : List Value) (families : List ℕ) (kinds : List ValType) : Type 0 where
  pub as_many_children : length children ≡ length families
  pub of_families : (k c f : ℕ) → slice_get children k ≡ Some c → slice_get families k ≡ Some f → IsOfType scene (source c) (ty.Node f)
  pub as_many_fields : length fields ≡ length kinds
  pub of_kinds : (k : ℕ) (v : Value) (kind : ValType) → slice_get fields k ≡ Some v → slice_get kinds k ≡ Some kind → IsOfKind v kind

serve_child : (scene : Scene) (c : ℕ) (children : List ℕ) (fields : List Value) (f : ℕ) (families : List ℕ) (kinds : List ValType)
    → Serve scene (c ∷ children) fields (f ∷ families) kinds → Serve scene children fields families kinds
serve_child scene c children fields f families kinds s = record {
  as_many_children = (let e = s.as_many_children in omega (arith, e));
  of_families = λ k d g is of. s.of_families (suc k) d g is of;
  as_many_fields = s.as_many_fields;
  of_kinds = s.of_kinds;
}

serve_field : (scene : Scene) (v : Value) (children : List ℕ) (fields : List Value) (kind : ValType) (families : List ℕ) (kinds : List ValType)
    → Serve scene children (v ∷ fields) families (kind ∷ kinds) → Serve scene children fields families kinds
serve_field scene v children fields kind families kinds s = record {
  as_many_children = s.as_many_children;
  of_families = s.of_families;
  as_many_fields = (let e = s.as_many_fields in omega (arith, e));
  of_kinds = λ k d g is of. s.of_kinds (suc k) d g is of;
}

serve_plain : (scene : Scene) (t : ValType) (items : List Item) (children : List ℕ) (fields : List Value)
    → Serve scene children fields (child_families items) (t ∷ field_types items)
    → ((cs : List ℕ) (fs : List Value) → Serve scene cs fs (child_families items) (field_types items)
    → ItemsTyped scene (sources_of cs) (pure_fields scene.source scene.literals fs) (map (λ item. item.of) items))
    → ItemsTyped scene (sources_of children) (pure_fields scene.source scene.literals fields) (t ∷ map (λ item. item.of) items)
serve_plain scene t items children [] s more = let e = s.as_many_fields in absurd (omega (arith, e))
serve_plain scene t items children (v ∷ fields) s more =
    let (plain, is) = field_is scene v t (s.of_kinds 0 v t refl refl) in
    field_typed _ _ _ t _ plain is (more children fields (serve_field scene v children fields t _ _ s))

serve_one : (scene : Scene) (t : ValType) (items : List Item) (children : List ℕ) (fields : List Value)
    → Serve scene children fields (child_then t (child_families items)) (field_then t (field_types items))
    → ((cs : List ℕ) (fs : List Value) → Serve scene cs fs (child_families items) (field_types items)
    → ItemsTyped scene (sources_of cs) (pure_fields scene.source scene.literals fs) (map (λ item. item.of) items))
    → ItemsTyped scene (sources_of children) (pure_fields scene.source scene.literals fields) (t ∷ map (λ item. item.of) items)
serve_one scene (ty.Node f) items [] fields s more = let e = s.as_many_children in absurd (omega (arith, e))
serve_one scene (ty.Node f) items (c ∷ children) fields s more =
    child_typed _ _ _ f _ (s.of_families 0 c f refl refl) (more children fields (serve_child scene c children fields f _ _ s))
serve_one scene ty.Int items children fields s more = serve_plain scene ty.Int items children fields s more
serve_one scene ty.Bool items children fields s more = serve_plain scene ty.Bool items children fields s more
serve_one scene ty.Text items children fields s more = serve_plain scene ty.Text items children fields s more
serve_one scene ty.Map items children fields s more = serve_plain scene ty.Map items children fields s more
serve_one scene ty.Token items children fields s more = serve_plain scene ty.Token items children fields s more

no_children : (scene : Scene) (children : List ℕ) (fields : List Value) → Serve scene children fields [] [] → ItemsTyped scene (sources_of children)
    (pure_fields scene.source scene.literals fields) []
no_children scene [] [] s = none_typed
no_children scene (c ∷ children) fields s = let e = s.as_many_children in absurd (omega (arith, e))
no_children scene [] (v ∷ fields) s = let e = s.as_many_fields in absurd (omega (arith, e))

serve_items : (scene : Scene) (items : List Item) (children : List ℕ) (fields : List Value)
    → Serve scene children fields (child_families items) (field_types items)
    → ItemsTyped scene (sources_of children) (pure_fields scene.source scene.literals fields) (map (λ item. item.of) items)
serve_items scene [] children fields s = no_children scene children fields s
serve_items scene (i ∷ items) children fields s = serve_one scene i.of items children fields s (λ cs fs more. serve_items scene items cs fs more)

source_serves : (scene : Scene) (n : ℕ) → IsScene scene → n < length scene.nodes
    → typed.is_source scene.table (type_at scene.table.types (node_at scene.nodes n).ty).family ≡ true
    → Serve scene (node_at scene.nodes n).children (node_at scene.nodes n).fields
    (child_families (type_at scene.table.types (node_at scene.nodes n).ty).items) (field_types (type_at scene.table.types (node_at scene.nodes n).ty).items)
source_serves scene n is within side =
    let fits = is.conforms n within in
    record {
      as_many_children = fits.as_many_children;
      of_families = λ k c f at of. (let before = is.forest.before n k c at in
          typed_source c f (omega (arith, before, within)) (fits.of_families k c f at of)
          (one_side scene.table (node_at scene.nodes n).ty k f is.types fits.type_there of ∙ side));
      as_many_fields = fits.as_many_fields;
      of_kinds = fits.of_kinds;
    }

-- ------------------------------------------------------------------ nodes of both sides

pub record NodeTyped (scene : Scene) (seen_node : Seen) : Type 0 where
  pub there : seen_node.ty < length scene.table.types
  pub items : ItemsTyped scene seen_node.children seen_node.fields (item_types scene.table seen_node.ty)

the_seen : {a b : Seen} → Some a ≡ Some b → a ≡ b
the_seen e = cc

pub node_typed : (scene : Scene) (v : PureValue) (t : ValType) (n : Seen) → IsScene scene → IsOfType scene v t → seen scene v ≡ Some n → NodeTyped scene n
node_typed scene _ _ n is (typed_int z) e = cc
node_typed scene _ _ n is (typed_bool z) e = cc
node_typed scene _ _ n is (typed_text z) e = cc
node_typed scene _ _ n is (typed_map z) e = cc
node_typed scene _ _ n is (typed_source m f within family side) e =
    subst (NodeTyped scene) (the_seen e) (record {
      there = (is.conforms m within).type_there;
      items = serve_items scene _ _ _ (source_serves scene m is within (subst (λ g. typed.is_source scene.table g ≡ true) (sym family) side));
    })
node_typed scene _ _ n is (typed_node m f children fields within family side items) e =
    subst (NodeTyped scene) (the_seen e) (record { there = within; items = items })

-- ------------------------------------------------------------------ a base gives the first items

map_items : (xs ys : List Item) → map (λ item. item.of) (xs ++ ys) ≡ map (λ item. item.of) xs ++ map (λ item. item.of) ys
map_items [] ys = refl
map_items (x ∷ xs) ys = ap (λ z. x.of ∷ z) (map_items xs ys)

pub base_first : (table : TypeTable) (t b : ℕ) → IsSound table → IsA table.types t b
    → (more : List ValType) × (item_types table t ≡ item_types table b ++ more)
base_first table t _ sound (itself _) = ([], sym (append-nil (item_types table t)))
base_first table t b sound (extends _ c _ is up) =
    let (own, items) = sound.base_first t c is in
    let (more, e) = base_first table c b sound up in (
      more ++ map (λ item. item.of) own,
      ap (λ items. map (λ item. item.of) items) items ∙ map_items (type_at table.types c).items own ∙ ap (λ z. z ++ map (λ item. item.of) own) e
          ∙ append_assoc (item_types table b) more (map (λ item. item.of) own),
    )

pub base_before : (table : TypeTable) (t b : ℕ) → IsSound table → IsA table.types t b → b ≤ t
base_before table t _ sound (itself _) = omega arith
base_before table t b sound (extends _ c _ is up) =
    let first = sound.base_before t c is in let more = base_before table c b sound up in omega (arith, first, more)

-- ------------------------------------------------------------------ the next part

abbrev pub Moves : Bool → PureValues → PureValues → PureValue → PureValues → PureValues → Type 0
Moves true cs fs c cs2 fs2 = (cs ≡ and_pure c cs2) × (fs ≡ fs2)
Moves false cs fs c cs2 fs2 = (fs ≡ and_pure c fs2) × (cs ≡ cs2)

-- children and fields have a next part, for an item of this type
pub record NextPart (scene : Scene) (t : ValType) (rest : List ValType) (cs fs : PureValues) : Type 0 where
  pub part : PureValue
  pub children : PureValues
  pub fields : PureValues
  pub is : IsOfType scene part t
  pub moves : Moves (is_node_type t) cs fs part children fields
  pub items : ItemsTyped scene children fields rest
  pub parts : (us : List ValType) → parts_of (t ∷ us) cs fs ≡ part ∷ parts_of us children fields

pub next_part : (scene : Scene) (t : ValType) (rest : List ValType) (cs fs : PureValues) → ItemsTyped scene cs fs (t ∷ rest) → NextPart scene t rest cs fs
next_part scene _ rest _ fs (child_typed v children _ f _ is more) = record {
  part = v;
  children = children;
  fields = fs;
  is = is;
  moves = (refl, refl);
  items = more;
  parts = λ us. refl;
}
next_part scene _ rest cs _ (field_typed v _ fields _ _ plain_int is more) = record {
  part = v;
  children = cs;
  fields = fields;
  is = is;
  moves = (refl, refl);
  items = more;
  parts = λ us. refl;
}
next_part scene _ rest cs _ (field_typed v _ fields _ _ plain_bool is more) = record {
  part = v;
  children = cs;
  fields = fields;
  is = is;
  moves = (refl, refl);
  items = more;
  parts = λ us. refl;
}
next_part scene _ rest cs _ (field_typed v _ fields _ _ plain_text is more) = record {
  part = v;
  children = cs;
  fields = fields;
  is = is;
  moves = (refl, refl);
  items = more;
  parts = λ us. refl;
}

pub drop_next : (n : ℕ) (vs : PureValues) (c : PureValue) (rest : PureValues) → drop_pure n vs ≡ and_pure c rest → drop_pure (n + 1) vs ≡ rest
drop_next zero no_pure c rest e = cc
drop_next zero (and_pure v vs) c rest e = let same : vs ≡ rest = cc in same
drop_next (suc n) no_pure c rest e = cc
drop_next (suc n) (and_pure v vs) c rest e = let more = drop_next n vs c rest e in rw add-one (rw add-one at more)

-- ------------------------------------------------------------------ children and fields that are read

pub source_child : (ns : List ℕ) (i : ℕ) (c : PureValue) (rest : PureValues) → drop_pure i (sources_of ns) ≡ and_pure c rest
    → (m : ℕ) × (slice_get ns i ≡ Some m) × (c ≡ source m)
source_child [] zero c rest e = cc
source_child [] (suc i) c rest e = cc
source_child (n ∷ ns) zero c rest e = let same : source n ≡ c = cc in (n, refl, sym same)
source_child (n ∷ ns) (suc i) c rest e = source_child ns i c rest e

pub made_child : (s l : List ℕ) (ts : MadeTrees) (i : ℕ) (c : PureValue) (rest : PureValues) → drop_pure i (pure_trees s l ts) ≡ and_pure c rest
    → (t : MadeTree) × (child_at ts i ≡ Some t) × (c ≡ pure_tree s l t)
made_child s l no_trees zero c rest e = cc
made_child s l no_trees (suc i) c rest e = cc
made_child s l (and_trees (made n ch fs) ts) zero c rest e =
    let same : pure_tree s l (made n ch fs) ≡ c = cc in (made n ch fs, refl, sym same)
made_child s l (and_trees (made n ch fs) ts) (suc i) c rest e = made_child s l ts i c rest e

pub field_at : (s l : List ℕ) (vs : List Value) (i : ℕ) (c : PureValue) (rest : PureValues) → drop_pure i (pure_fields s l vs) ≡ and_pure c rest
    → (v : Value) × (slice_get vs i ≡ Some v) × (c ≡ pure_field s l v)
field_at s l [] zero c rest e = cc
field_at s l [] (suc i) c rest e = cc
field_at s l (v ∷ vs) zero c rest e = let same : pure_field s l v ≡ c = cc in (v, refl, sym same)
field_at s l (v ∷ vs) (suc i) c rest e = field_at s l vs i c rest e

field_means : (s l : List ℕ) (cells : List Cell) (v : Value) → pure_of s l cells (as_field v) ≡ pure_field s l v
field_means s l cells (value.Int z) = refl
field_means s l cells (value.Bool b) = refl
field_means s l cells (value.Text t) = refl
field_means s l cells (value.Map m) = refl
field_means s l cells (value.Token m) = refl
field_means s l cells (value.Src m) = refl
field_means s l cells (value.Made m) = refl

int_only : {scene : Scene} {z : ℤ} {t : ValType} → IsOfType scene (int z) t → t ≡ ty.Int
int_only (typed_int z) = refl

bool_only : {scene : Scene} {b : Bool} {t : ValType} → IsOfType scene (bool b) t → t ≡ ty.Bool
bool_only (typed_bool z) = refl

text_only : {scene : Scene} {b : List ℕ} {t : ValType} → IsOfType scene (text b) t → t ≡ ty.Text
text_only (typed_text z) = refl

field_of_type : (scene : Scene) (cells : List Cell) (v : Value) (t : ValType) → IsOfType scene (pure_field scene.source scene.literals v) t
    → IsOf (typed.source_families scene.table) cells (as_field v) t
field_of_type scene cells (value.Int z) t h = rw (int_only h) (is_int z)
field_of_type scene cells (value.Bool b) t h = rw (bool_only h) (is_bool b)
field_of_type scene cells (value.Text x) t h = rw (text_only h) (is_text x)
field_of_type scene cells (value.Map m) t h = rw (int_only h) (is_int (pos 0))
field_of_type scene cells (value.Token m) t h = rw (int_only h) (is_int (pos 0))
field_of_type scene cells (value.Src m) t h = rw (int_only h) (is_int (pos 0))
field_of_type scene cells (value.Made m) t h = rw (int_only h) (is_int (pos 0))

pub field_reads : (scene : Scene) (cells : List Cell) (v : Value) (c : PureValue) → c ≡ pure_field scene.source scene.literals v
    → ReadsAs scene cells (as_field v) c
field_reads scene cells v c e = record {
  means = field_means scene.source scene.literals cells v ∙ sym e;
  typed = λ t h. record {
    is = field_of_type scene cells v t (subst (λ z. IsOfType scene z t) e h);
    typed = subst (λ z. IsOfType scene z t) (e ∙ sym (field_means scene.source scene.literals cells v)) h;
  };
}

source_side : (scene : Scene) (m : ℕ) (t : ValType) → IsOfType scene (source m) t → (f : ℕ) × (t ≡ ty.Node f) × (typed.is_source scene.table f ≡ true)
source_side scene _ _ (typed_source m f within family side) = (f, refl, side)

pub source_reads : (scene : Scene) (cells : List Cell) (m : ℕ) (c : PureValue) → c ≡ source m → ReadsAs scene cells (value.Src m) c
source_reads scene cells m c e = record {
  means = sym e;
  typed = λ t h. (let h2 = subst (λ z. IsOfType scene z t) e h in let (f, is, side) = source_side scene m t h2 in
      record { is = subst (IsOf (typed.source_families scene.table) cells (value.Src m)) (sym is) (is_source m f side); typed = h2 });
}

made_side : (scene : Scene) (n : ℕ) (children fields : PureValues) (t : ValType) → IsOfType scene (node n children fields) t
    → (f : ℕ) × (t ≡ ty.Node f) × (typed.is_source scene.table f ≡ false)
made_side scene _ _ _ _ (typed_node n f children fields within family side items) = (f, refl, side)

pub made_reads : (scene : Scene) (cells : List Cell) (m : ℕ) (c : PureValue) → IsMade cells m → c ≡ pure_tree scene.source scene.literals (tree_at cells m)
    → ReadsAs scene cells (value.Made m) c
made_reads scene cells m c there e = record {
  means = sym e;
  typed = λ t h. (let h2 = subst (λ z. IsOfType scene z t) e h in let (f, is, side) = made_side scene _ _ _ t h2 in
      record { is = subst (IsOf (typed.source_families scene.table) cells (value.Made m)) (sym is) (is_made m f (λ n. side) there); typed = h2 });
}

-- ------------------------------------------------------------------ what the code reads

pub own_source : (scene : Scene) (cells : List Cell) (v : Value) (n t : ℕ) → v ≡ value.Src n → t ≡ (node_at scene.nodes n).ty
    → (it : Seen) × (sees scene cells v ≡ Some it) × (it.ty ≡ t)
own_source scene cells v n t e is = (_, ap (sees scene cells) e, sym is)

pub own_made : (scene : Scene) (cells : List Cell) (v : Value) (m t : ℕ) → v ≡ value.Made m → t ≡ type_of (tree_at cells m)
    → (it : Seen) × (sees scene cells v ≡ Some it) × (it.ty ≡ t)
own_made scene cells v m t e is = (_, ap (sees scene cells) e, sym is)

-- the node has a child, or a field, behind so many
abbrev pub HasChild : Scene → List Cell → Value → ℕ → Type 0
HasChild scene cells v i = (it : Seen) × (sees scene cells v ≡ Some it) × (c : PureValue) × (rest : PureValues) × (drop_pure i it.children ≡ and_pure c rest)

abbrev pub HasField : Scene → List Cell → Value → ℕ → Type 0
HasField scene cells v i = (it : Seen) × (sees scene cells v ≡ Some it) × (c : PureValue) × (rest : PureValues) × (drop_pure i it.fields ≡ and_pure c rest)

source_seen : (scene : Scene) (cells : List Cell) (v : Value) (n : ℕ) (it : Seen) → v ≡ value.Src n → sees scene cells v ≡ Some it
    → (it.children ≡ sources_of (node_at scene.nodes n).children) × (it.fields ≡ pure_fields scene.source scene.literals (node_at scene.nodes n).fields)
source_seen scene cells v n it e is =
    let same = the_seen (sym is ∙ ap (sees scene cells) e) in (ap (λ z. z.children) same, ap (λ z. z.fields) same)

made_seen : (scene : Scene) (cells : List Cell) (v : Value) (m : ℕ) (it : Seen) → v ≡ value.Made m → sees scene cells v ≡ Some it
    → (it.children ≡ pure_trees scene.source scene.literals (children_of (tree_at cells m)))
    × (it.fields ≡ pure_fields scene.source scene.literals (fields_of (tree_at cells m)))
made_seen scene cells v m it e is =
    let same = the_seen (sym is ∙ ap (sees scene cells) e) in (ap (λ z. z.children) same, ap (λ z. z.fields) same)

pub source_child_there : (scene : Scene) (cells : List Cell) (v : Value) (n i : ℕ) → v ≡ value.Src n → HasChild scene cells v i
    → i < length (node_at scene.nodes n).children
source_child_there scene cells v n i e (it, is, c, rest, at) =
    let (children, fields) = source_seen scene cells v n it e is in
    let (m, get, means) = source_child _ i c rest (subst (λ z. drop_pure i z ≡ and_pure c rest) children at) in
    slice_get_within (node_at scene.nodes n).children i m get

pub made_child_there : (scene : Scene) (cells : List Cell) (v : Value) (m i : ℕ) → v ≡ value.Made m → HasChild scene cells v i
    → (t : MadeTree) × (child_at (children_of (tree_at cells m)) i ≡ Some t)
made_child_there scene cells v m i e (it, is, c, rest, at) =
    let (children, fields) = made_seen scene cells v m it e is in
    let (t, get, means) = made_child scene.source scene.literals _ i c rest (subst (λ z. drop_pure i z ≡ and_pure c rest) children at) in
    (t, get)

pub source_field_there : (scene : Scene) (cells : List Cell) (v : Value) (n i : ℕ) → v ≡ value.Src n → HasField scene cells v i
    → i < length (node_at scene.nodes n).fields
source_field_there scene cells v n i e (it, is, c, rest, at) =
    let (children, fields) = source_seen scene cells v n it e is in
    let (m, get, means) = field_at scene.source scene.literals _ i c rest (subst (λ z. drop_pure i z ≡ and_pure c rest) fields at) in
    slice_get_within (node_at scene.nodes n).fields i m get

pub made_field_there : (scene : Scene) (cells : List Cell) (v : Value) (m i : ℕ) → v ≡ value.Made m → HasField scene cells v i
    → i < length (fields_of (tree_at cells m))
made_field_there scene cells v m i e (it, is, c, rest, at) =
    let (children, fields) = made_seen scene cells v m it e is in
    let (x, get, means) = field_at scene.source scene.literals _ i c rest (subst (λ z. drop_pure i z ≡ and_pure c rest) fields at) in
    slice_get_within (fields_of (tree_at cells m)) i x get

same_number : {o : Option ℕ} {a b : ℕ} → o ≡ Some a → o ≡ Some b → a ≡ b
same_number e f = cc

same_tree : {o : Option MadeTree} {a b : MadeTree} → o ≡ Some a → o ≡ Some b → a ≡ b
same_tree e f = cc

same_value : {o : Option Value} {a b : Value} → o ≡ Some a → o ≡ Some b → a ≡ b
same_value e f = cc

pub source_child_reads : (scene : Scene) (cells : List Cell) (v : Value) (n i r : ℕ) → v ≡ value.Src n → slice_get (node_at scene.nodes n).children i ≡ Some r
    → (it : Seen) (c : PureValue) (rest : PureValues) → sees scene cells v ≡ Some it → drop_pure i it.children ≡ and_pure c rest
    → ReadsAs scene cells (value.Src r) c
source_child_reads scene cells v n i r e got it c rest is at =
    let (children, fields) = source_seen scene cells v n it e is in
    let (m, get, means) = source_child _ i c rest (subst (λ z. drop_pure i z ≡ and_pure c rest) children at) in
    source_reads scene cells r c (means ∙ ap source (same_number get got))

pub made_child_reads : (scene : Scene) (cells : List Cell) (v : Value) (m i r : ℕ) → v ≡ value.Made m → IsMade cells r
    → child_at (children_of (tree_at cells m)) i ≡ Some (tree_at cells r)
    → (it : Seen) (c : PureValue) (rest : PureValues) → sees scene cells v ≡ Some it → drop_pure i it.children ≡ and_pure c rest
    → ReadsAs scene cells (value.Made r) c
made_child_reads scene cells v m i r e there got it c rest is at =
    let (children, fields) = made_seen scene cells v m it e is in
    let (t, get, means) = made_child scene.source scene.literals _ i c rest (subst (λ z. drop_pure i z ≡ and_pure c rest) children at) in
    made_reads scene cells r c there (means ∙ ap (pure_tree scene.source scene.literals) (same_tree get got))

pub source_field_reads : (scene : Scene) (cells : List Cell) (v : Value) (n i : ℕ) (x r : Value) → v ≡ value.Src n
    → slice_get (node_at scene.nodes n).fields i ≡ Some x → r ≡ as_field x
    → (it : Seen) (c : PureValue) (rest : PureValues) → sees scene cells v ≡ Some it → drop_pure i it.fields ≡ and_pure c rest
    → ReadsAs scene cells r c
source_field_reads scene cells v n i x r e got r_is it c rest is at =
    let (children, fields) = source_seen scene cells v n it e is in
    let (y, get, means) = field_at scene.source scene.literals _ i c rest (subst (λ z. drop_pure i z ≡ and_pure c rest) fields at) in
    subst (λ z. ReadsAs scene cells z c) (sym r_is) (field_reads scene cells x c (means ∙ ap (pure_field scene.source scene.literals) (same_value get got)))

pub made_field_reads : (scene : Scene) (cells : List Cell) (v : Value) (m i : ℕ) (x r : Value) → v ≡ value.Made m
    → slice_get (fields_of (tree_at cells m)) i ≡ Some x → r ≡ as_field x
    → (it : Seen) (c : PureValue) (rest : PureValues) → sees scene cells v ≡ Some it → drop_pure i it.fields ≡ and_pure c rest
    → ReadsAs scene cells r c
made_field_reads scene cells v m i x r e got r_is it c rest is at =
    let (children, fields) = made_seen scene cells v m it e is in
    let (y, get, means) = field_at scene.source scene.literals _ i c rest (subst (λ z. drop_pure i z ≡ and_pure c rest) fields at) in
    subst (λ z. ReadsAs scene cells z c) (sym r_is) (field_reads scene cells x c (means ∙ ap (pure_field scene.source scene.literals) (same_value get got)))
