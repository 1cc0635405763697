-- Reads bound one after the other.
use Rattle.std.proofs.Common.{◌≡◌, ℕ, ◌+◌, ◌<◌, ◌≤◌, zero, suc, Bool, true, false, List, [], ◌∷◌, ◌++◌, length, drop, Some, refl, sym, ap, ◌∙◌, subst, arith, drop_of_length-le, length-append}
use Rattle.std.specs.Prelude.{slice_get, if◌then◌else◌}
use Rattle.std.proofs.lemmas.Bool.{lt-ltb, le-ltb}
use Rattle.std.proofs.lemmas.Option.{slice_get_within}
use Rattle.value_store.specs.Cells.{Cell}
use Rattle.value_store.specs.declared.value.Value.{Value}
use Rattle.value_store.specs.declared.value.Value.TheVariants as value
use Rattle.value_store.specs.declared.value.ValType.{ValType}
use Rattle.value_store.specs.declared.value.ValType.TheVariants as ty
use Rattle.ast_types.specs.TypeTable.{TypeTable, type_at}
use Rattle.expr_lang.specs.OfType.{IsOf, is_source, is_made}
use Rattle.expr_lang.specs.PureOf.{pure_of}
use Rattle.expr_lang.specs.PureValues.{PureValue, source, nth}
use Rattle.tree_store.specs.Forest.{node_at}
use Rattle.ag_model.specs.ValueTable.{value_in}
use Rattle.puma_model.specs.Comes.{with_reads, read_value, reads_left, number_in_source}
use Rattle.puma_model.specs.Found.{scene_of}
use Rattle.puma_model.specs.Scene.{Scene}
use Rattle.puma_model.specs.Typed as typed
use Rattle.puma_model.specs.Typed.{IsOfType, typed_source, AreIn, IsIn, pures}
use Rattle.puma_model.specs.TypedRules.{Kinds, ReadsFit, no_read, read_later, read_fits, attribute_type}
use Rattle.puma_model.specs.declared.rules.Read.{Read}
use Rattle.puma_model.specs.declared.world.World.{World}
use Rattle.puma_model.proofs.PartsGathered.{drop_at}
use Rattle.puma_model.proofs.TypedValues.{in_append, in_one, in_at, in_length, length-pures, pures-append}
use Rattle.puma_eval.specs.within.Evaluating.{Setting, Attributes, AttributeIs, ReadsTo, BoundReads}

-- a node of the source tree
record SourceIn (scene : Scene) (x : Value) (f : ℕ) : Type 0 where
  pub node : ℕ
  pub is : x ≡ value.Src node
  pub within : node < length scene.nodes
  pub family : (type_at scene.table.types (node_at scene.nodes node).ty).family ≡ f

typed_source_in : {scene : Scene} {n f : ℕ} → IsOfType scene (source n) (ty.Node f) → (n < length scene.nodes) × ((type_at scene.table.types (node_at scene.nodes n).ty).family ≡ f)
typed_source_in (typed_source n f within family side) = (within, family)

source_of : (scene : Scene) (cells : List Cell) (x : Value) (f : ℕ) → typed.is_source scene.table f ≡ true → IsOf (typed.source_families scene.table) cells x (ty.Node f)
    → IsOfType scene (pure_of scene.source scene.literals cells x) (ty.Node f) → SourceIn scene x f
source_of scene cells _ _ side (is_source n f isso) t = let (within, family) = typed_source_in t in record { node = n; is = refl; within = within; family = family }
source_of scene cells _ _ side (is_made m f isnt there) t = (let e : true ≡ false = sym side ∙ isnt 0 in cc)

-- a read of a variable that is bound
record ReadHere (table : TypeTable) (kinds : Kinds) (r : Read) (rs : List Read) (ts all : List ValType) (left : List Read) : Type 0 where
  pub family : ℕ
  pub type : ValType
  pub var : slice_get ts r.node ≡ Some (ty.Node family)
  pub side : typed.is_source table family ≡ true
  pub of : attribute_type kinds family r.attribute ≡ Some type
  pub rest : ReadsFit table kinds rs (ts ++ type ∷ []) all left

read_here : {table : TypeTable} {kinds : Kinds} {r : Read} {rs : List Read} {ts all : List ValType} {left : List Read} → r.node < length ts
    → ReadsFit table kinds (r ∷ rs) ts all left → ReadHere table kinds r rs ts all left
read_here lt (read_later r rs ts le) = absurd (omega (arith, lt, le))
read_here lt (read_fits r rs left ts all f t var side of number rest) = record { family = f; type = t; var = var; side = side; of = of; rest = rest }

later_left : {table : TypeTable} {kinds : Kinds} {r : Read} {rs : List Read} {ts all : List ValType} {left : List Read} → length ts ≤ r.node
    → ReadsFit table kinds (r ∷ rs) ts all left → (all ≡ ts) × (left ≡ r ∷ rs)
later_left le (read_later r rs ts _) = (refl, refl)
later_left le (read_fits r rs left ts all f t var side of number rest) = let lt = slice_get_within ts r.node _ var in absurd (omega (arith, lt, le))

none_left_of : {table : TypeTable} {kinds : Kinds} {ts all : List ValType} {left : List Read} → ReadsFit table kinds [] ts all left → (all ≡ ts) × (left ≡ [])
none_left_of (no_read ts) = (refl, refl)

at_value : (xs : List Value) (i : ℕ) → i < length xs → (x : Value) × (slice_get xs i ≡ Some x)
at_value [] i lt = absurd (omega (arith, lt))
at_value (x ∷ xs) zero lt = (x, refl)
at_value (x ∷ xs) (suc i) lt = at_value xs i (omega (arith, lt))

nth-pures : (scene : Scene) (cells : List Cell) (xs : List Value) (i : ℕ) (x : Value) → slice_get xs i ≡ Some x
    → nth (pures scene cells xs) i ≡ pure_of scene.source scene.literals cells x
nth-pures scene cells [] i x is = cc
nth-pures scene cells (y ∷ xs) zero x is = let e : y ≡ x = cc in ap (pure_of scene.source scene.literals cells) e
nth-pures scene cells (y ∷ xs) (suc i) x is = nth-pures scene cells xs i x is

if_true : {X : Type 0} {b : Bool} (x y : X) → b ≡ true → (if b then x else y) ≡ x
if_true x y e = ap (λ z. if z then x else y) e

if_false : {X : Type 0} {b : Bool} (x y : X) → b ≡ false → (if b then x else y) ≡ y
if_false x y e = ap (λ z. if z then x else y) e

-- what is bound and left, at a read that is bound, and at one that isn't
reads_on : (attribute : ℕ → ℕ → PureValue) (r : Read) (rs : List Read) (env : List PureValue) → r.node < length env
    → with_reads attribute (r ∷ rs) env ≡ with_reads attribute rs (env ++ read_value attribute env r ∷ [])
reads_on attribute r rs env lt = if_true _ _ (lt-ltb r.node (length env) lt)

left_on : (r : Read) (rs : List Read) (n : ℕ) → r.node < n → reads_left (r ∷ rs) n ≡ reads_left rs (n + 1)
left_on r rs n lt = if_true _ _ (lt-ltb r.node n lt)

reads_stop : (attribute : ℕ → ℕ → PureValue) (r : Read) (rs : List Read) (env : List PureValue) → length env ≤ r.node
    → with_reads attribute (r ∷ rs) env ≡ env
reads_stop attribute r rs env le = if_false _ _ (le-ltb r.node (length env) le)

left_stop : (r : Read) (rs : List Read) (n : ℕ) → n ≤ r.node → reads_left (r ∷ rs) n ≡ r ∷ rs
left_stop r rs n le = if_false _ _ (le-ltb r.node n le)

module _ (world : World) (cells : List Cell) (setting : Setting) (reads : List Read) (from : ℕ) (old env : List Value) (at : ℕ) (all : List ValType) (left : List Read)
    (r : Read) (attributes : Attributes world cells setting) (to : ReadsTo world cells setting reads from old env at all left) (is : slice_get reads at ≡ Some r) where
  here : r.node < length env → ReadHere world.types.now setting.kinds r (drop (at + 1) reads) to.types all left
  here lt = let e = in_length (scene_of world) cells env to.types to.are in
      read_here (omega (arith, lt, e)) (subst (λ z. ReadsFit world.types.now setting.kinds z to.types all left) (drop_at reads at r is) to.fit)

  node_of : (lt : r.node < length env) → (x : Value) × (slice_get env r.node ≡ Some x) × SourceIn (scene_of world) x (here lt).family
  node_of lt =
      let (x, get) = at_value env r.node lt in
      let h = here lt in
      let isin = in_at (scene_of world) cells env to.types r.node x (ty.Node h.family) to.are get h.var in
      (x, get, source_of (scene_of world) cells x h.family h.side isin.is isin.typed)

  attribute_of : (lt : r.node < length env) (n : ℕ) → ((m : ℕ) → slice_get env r.node ≡ Some (value.Src m) → n ≡ m)
      → AttributeIs world cells n r.attribute (here lt).type (setting.attribute n r.attribute)
  attribute_of lt n the_node =
      let (x, get, src) = node_of lt in let h = here lt in
      let same : n ≡ src.node = the_node src.node (get ∙ ap (λ z. Some z) src.is) in
      subst (λ z. AttributeIs world cells z r.attribute h.type (setting.attribute z r.attribute)) (sym same)
      (attributes src.node r.attribute h.type src.within (ap (λ f. attribute_type setting.kinds f r.attribute) src.family ∙ h.of))

  pub read_place : r.node < length env → (n : ℕ) → ((m : ℕ) → slice_get env r.node ≡ Some (value.Src m) → n ≡ m) → (n < world.values.now.nodes) × (r.attribute < world.values.now.width)
  read_place lt n the_node = let a = attribute_of lt n the_node in (a.node, a.attribute)

  pub read_on : r.node < length env → (n : ℕ) (v : Value) (next : List Value) → ((m : ℕ) → slice_get env r.node ≡ Some (value.Src m) → n ≡ m)
      → v ≡ value_in world.values.now n r.attribute → next ≡ env ++ v ∷ [] → ReadsTo world cells setting reads from old next (at + 1) all left
  read_on lt n v next the_node v_is next_is =
      let (x, get, src) = node_of lt in let h = here lt in
      let same : n ≡ src.node = the_node src.node (get ∙ ap (λ z. Some z) src.is) in
      let a = attribute_of lt n the_node in
      let v_in = subst (λ z. IsIn (scene_of world) cells z h.type) (sym v_is) a.is in
      let v_means : pure_of world.texts.source.now world.texts.literals.now cells v ≡ setting.attribute n r.attribute =
      ap (pure_of world.texts.source.now world.texts.literals.now cells) v_is ∙ a.means in
      let x_means : number_in_source (nth (pures (scene_of world) cells env) r.node) ≡ n =
      ap number_in_source (nth-pures (scene_of world) cells env r.node x get ∙ ap (pure_of world.texts.source.now world.texts.literals.now cells) src.is) ∙ sym same in
      let read_is : pure_of world.texts.source.now world.texts.literals.now cells v ≡ read_value setting.attribute (pures (scene_of world) cells env) r =
      v_means ∙ ap (λ z. setting.attribute z r.attribute) (sym x_means) in
      let len = length-pures (scene_of world) cells env in
      let lt2 : r.node < length (pures (scene_of world) cells env) = omega (arith, lt, len) in
      let next_pures : pures (scene_of world) cells next ≡ pures (scene_of world) cells env ++ read_value setting.attribute (pures (scene_of world) cells env) r ∷ [] =
      ap (pures (scene_of world) cells) next_is ∙ pures-append (scene_of world) cells env (v ∷ []) ∙ ap (λ z. pures (scene_of world) cells env ++ z ∷ []) read_is in
      let one_more : length (pures (scene_of world) cells next) ≡ length (pures (scene_of world) cells env) + 1 = (let e = ap (λ z. length z) next_is in let f = length-append env (v ∷ []) in
      let g = length-pures (scene_of world) cells next in omega (arith, e, f, g, len)) in
      record {
        types = to.types ++ h.type ∷ [];
        are = subst (λ z. AreIn (scene_of world) cells z (to.types ++ h.type ∷ [])) (sym next_is)
            (in_append (scene_of world) cells env (v ∷ []) to.types (h.type ∷ []) to.are (in_one (scene_of world) cells v h.type v_in));
        fit = h.rest;
        env_is = to.env_is ∙ ap (λ z. with_reads setting.attribute z (pures (scene_of world) cells env)) (drop_at reads at r is)
            ∙ reads_on setting.attribute r (drop (at + 1) reads) (pures (scene_of world) cells env) lt2
            ∙ ap (with_reads setting.attribute (drop (at + 1) reads)) (sym next_pures);
        left_is = to.left_is ∙ ap (λ z. reads_left z (length (pures (scene_of world) cells env))) (drop_at reads at r is)
            ∙ left_on r (drop (at + 1) reads) (length (pures (scene_of world) cells env)) lt2 ∙ ap (reads_left (drop (at + 1) reads)) (sym one_more);
      }

  pub read_stop : length env ≤ r.node → BoundReads world cells setting reads from old env at all left
  read_stop le =
      let e = in_length (scene_of world) cells env to.types to.are in
      let (all_is, left_is) = later_left (omega (arith, le, e)) (subst (λ z. ReadsFit world.types.now setting.kinds z to.types all left) (drop_at reads at r is) to.fit) in
      let len = length-pures (scene_of world) cells env in
      let le2 : length (pures (scene_of world) cells env) ≤ r.node = omega (arith, le, len) in
      let here_is = drop_at reads at r is in
      record {
        are = subst (AreIn (scene_of world) cells env) (sym all_is) to.are;
        left_is = here_is ∙ sym left_is;
        env_is = sym (to.env_is ∙ ap (λ z. with_reads setting.attribute z (pures (scene_of world) cells env)) here_is
            ∙ reads_stop setting.attribute r (drop (at + 1) reads) (pures (scene_of world) cells env) le2);
        left_are = here_is ∙ sym (to.left_is ∙ ap (λ z. reads_left z (length (pures (scene_of world) cells env))) here_is
            ∙ left_stop r (drop (at + 1) reads) (length (pures (scene_of world) cells env)) le2);
      }

pub read_begin : (world : World) (cells : List Cell) (setting : Setting) (reads : List Read) (from : ℕ) (old : List Value) (types all : List ValType) (left : List Read)
    → AreIn (scene_of world) cells old types → ReadsFit world.types.now setting.kinds (drop from reads) types all left
    → ReadsTo world cells setting reads from old old from all left
read_begin world cells setting reads from old types all left are fit = record { types = types; are = are; fit = fit; env_is = refl; left_is = refl }

pub read_end : (world : World) (cells : List Cell) (setting : Setting) (reads : List Read) (from : ℕ) (old env : List Value) (at : ℕ) (all : List ValType) (left : List Read)
    → ReadsTo world cells setting reads from old env at all left → length reads ≤ at → BoundReads world cells setting reads from old env at all left
read_end world cells setting reads from old env at all left to past =
    let none = drop_of_length-le reads past in
    let (all_is, left_is) = none_left_of (subst (λ z. ReadsFit world.types.now setting.kinds z to.types all left) none to.fit) in
    record {
      are = subst (AreIn (scene_of world) cells env) (sym all_is) to.are;
      left_is = none ∙ sym left_is;
      env_is = sym (to.env_is ∙ ap (λ z. with_reads setting.attribute z (pures (scene_of world) cells env)) none);
      left_are = none ∙ sym (to.left_is ∙ ap (λ z. reads_left z (length (pures (scene_of world) cells env))) none);
    }
