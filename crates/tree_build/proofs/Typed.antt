-- What a derivation builds is of its symbols' types, and its made tree conforms.
use Rattle.std.proofs.Common.{◌≡◌, ℕ, ◌+◌, ◌-◌, ◌<◌, List, [], ◌∷◌, length, map, Some, None, Bool, true, false, All, Contains, get_or, refl, sym, ap, ◌∙◌, subst, arith, zero, suc, if◌then◌else◌, nat_eq}
use Rattle.std.specs.Prelude.{slice_get, slice_index}
use Rattle.std.proofs.lemmas.List.Elements.{All-head, All-tail, All-get_or}
use Rattle.std.proofs.lemmas.Option.{slice_get_within, slice_get-get_or}
use Rattle.std.proofs.lemmas.Bool.{eq-eqb}
use Rattle.value_store.specs.Cells.{Cell}
use Rattle.value_store.specs.MadeTrees.{MadeTree, made}
use Rattle.value_store.specs.declared.value.Value.{Value}
use Rattle.value_store.specs.declared.value.ValType.{ValType}
use Rattle.value_store.specs.declared.value.ValType.TheVariants as ty
use Rattle.ast_types.specs.declared.item.Item.{Item}
use Rattle.ast_types.specs.Items.{child_then, field_then, child_families, field_types}
use Rattle.ast_types.specs.TypeTable.{NodeType, TypeTable, type_in, type_at}
use Rattle.expr_lang.specs.declared.expr.Maker.{Maker}
use Rattle.expr_lang.specs.Evaluated.{Ready}
use Rattle.expr_lang.specs.Expression.{Expression}
use Rattle.expr_lang.specs.OfType.{AreOf, AreItems, no_items, child_item, field_item, MakesNodes, Holds}
use Rattle.expr_lang.specs.PureOf.{pure_tree}
use Rattle.expr_lang.specs.PureTypes.{PureIsOf, pure_int, pure_bool, pure_text, pure_map, pure_token, pure_source, pure_node, ItemsFit, none_fit, child_fits, field_fits, PureAreOf, no_pures, and_pures}
use Rattle.expr_lang.specs.PureValues.{PureValue, PureValues, token, node, nth}
use Rattle.expr_lang.specs.Typing.{HasType, maker_of}
use Rattle.value_store.specs.PlainTypes.{IsPlain, plain_int, plain_bool, plain_text}
use Rattle.expr_lang.specs.ValueOf.{Tokens, value_of}
use Rattle.expr_lang.proofs.ValueTyped.{value_typed}
use Rattle.cfg_model.specs.declared.symbol.Sym.{Sym}
use Rattle.cfg_model.specs.declared.symbol.Sym.TheVariants.{N}
use Rattle.cfg_model.specs.Cfg.{Cfg, IsRule}
use Rattle.cfg_model.specs.Derivation as cfg
use Rattle.cfg_model.specs.Derivation.{Forest, yield, Derive, Derivation}
use Rattle.node_model.specs.Makers.{IsMakerOf}
use Rattle.node_model.specs.Nodes.{Nodes, IsSourceType, AreSourceMakers, FitGrammar, build_context, symbol_type}
use Rattle.tree_build.specs.Built.{built, built_value, build_of, expression_in}
use Rattle.ast_types.specs.FitTypes.{HasFitItems}
use Rattle.ast_types.proofs.FitItems.{fit_items}
use Rattle.tree_store.specs.Fitting.{TreeFits}
use Rattle.node_model.specs.Makers.{AreMakers}
use Rattle.tree_build.proofs.Conforming.{first_of, tree_conforms}

pub some_first : (ms : List Maker) (n : ℕ) (m : Maker) → Contains ms m → m.ty ≡ n → (x : Maker) × (maker_of ms n ≡ Some x)
some_first [] n m (k, within, is) kind = absurd (omega (arith, within))
some_first (x ∷ ms) n m (zero, within, is) kind = (let e : nat_eq x.ty n ≡ true = eq-eqb x.ty n (ap (λ y. y.ty) is ∙ kind) in (x, ap (λ b. if b then Some x else maker_of ms n) e))
some_first (x ∷ ms) n m (suc k, within, is) kind = by_test (some_first ms n m (k, (omega (arith, within)), is) kind) (nat_eq x.ty n) refl
  where
    by_test : ((y : Maker) × (maker_of ms n ≡ Some y)) → (b : Bool) → nat_eq x.ty n ≡ b → (y : Maker) × (maker_of (x ∷ ms) n ≡ Some y)
    by_test rest true e = (x, ap (λ b. if b then Some x else maker_of ms n) e)
    by_test rest false e = (rest.0, ap (λ b. if b then Some x else maker_of ms n) e ∙ rest.1)

-- makers of the types of the source side are makers of types
source_makers_are : (table : TypeTable) (makers : List Maker) → AreSourceMakers table makers → AreMakers table makers
source_makers_are table makers are m among = (let (t, source, is) = are.each m among in (t, source.0, is))

-- the maker of a type is what the table says
record IsMaker (table : TypeTable) (n : ℕ) (m : Maker) : Type 0 where
  pub source : IsSourceType table n
  pub is : IsMakerOf table n m

maker_is : (table : TypeTable) (makers : List Maker) (n : ℕ) (m : Maker) → AreSourceMakers table makers → maker_of makers n ≡ Some m → IsMaker table n m
maker_is table makers n m are found =
    let first = first_of makers n m found in
    let (t, source, is) = are.each m first.among in
    let same : t ≡ n = sym is.type_is ∙ first.kind in
    record { source = subst (IsSourceType table) same source; is = subst (λ k. IsMakerOf table k m) same is }

maker_there : (table : TypeTable) (makers : List Maker) (n : ℕ) → AreSourceMakers table makers → IsSourceType table n → (m : Maker) × (maker_of makers n ≡ Some m)
maker_there table makers n are source =
    let (m, among, is) = are.all n source in
    some_first makers n m among is.type_is

-- children and fields of a type within the limits
field_more : (items : List Item) (t : ValType) → IsPlain t → AreItems (λ node family. false) (map (λ item. item.of) items) (length (child_families items)) (length (field_types items))
    → AreItems (λ node family. false) (t ∷ map (λ item. item.of) items) (length (child_families items)) (length (t ∷ field_types items))
field_more items t plain more =
    let e : length (field_types items) + 1 ≡ length (t ∷ field_types items) = omega arith in
    subst (λ n. AreItems (λ node family. false) (t ∷ map (λ item. item.of) items) (length (child_families items)) n) e (field_item t _ _ _ plain more)

item_more : (items : List Item) (t : ValType) → (All IsPlain (field_types items) → AreItems (λ node family. false) (map (λ item. item.of) items) (length (child_families items)) (length (field_types items)))
    → All IsPlain (field_then t (field_types items))
    → AreItems (λ node family. false) (t ∷ map (λ item. item.of) items) (length (child_then t (child_families items))) (length (field_then t (field_types items)))
item_more items (ty.Node f) more all =
    let e : length (child_families items) + 1 ≡ length (f ∷ child_families items) = omega arith in
    subst (λ n. AreItems (λ node family. false) (ty.Node f ∷ map (λ item. item.of) items) n (length (field_types items))) e (child_item f _ _ _ (λ n. refl) (more all))
item_more items ty.Int more all = field_more items ty.Int plain_int (more (All-tail IsPlain ty.Int (field_types items) all))
item_more items ty.Bool more all = field_more items ty.Bool plain_bool (more (All-tail IsPlain ty.Bool (field_types items) all))
item_more items ty.Text more all = field_more items ty.Text plain_text (more (All-tail IsPlain ty.Text (field_types items) all))
item_more items ty.Map more all = field_more items ty.Map (All-head IsPlain ty.Map (field_types items) all) (more (All-tail IsPlain ty.Map (field_types items) all))
item_more items ty.Token more all = field_more items ty.Token (All-head IsPlain ty.Token (field_types items) all) (more (All-tail IsPlain ty.Token (field_types items) all))

items_are : (items : List Item) → All IsPlain (field_types items) → AreItems (λ node family. false) (map (λ item. item.of) items) (length (child_families items)) (length (field_types items))
items_are [] plain = no_items
items_are (i ∷ items) plain = item_more items i.of (λ all. items_are items all) plain

pub makers_make : (table : TypeTable) (makers : List Maker) → AreSourceMakers table makers → All (HasFitItems table) table.types
    → (n : ℕ) (m : Maker) → maker_of makers n ≡ Some m → MakesNodes (λ node family. false) m
makers_make table makers are all n m found =
    let is = maker_is table makers n m are found in
    let fit = fit_items table n all is.source.0 in
    record {
      children = length (child_families (type_at table.types n).items);
      fields = length (field_types (type_at table.types n).items);
      items = subst (λ ts. AreItems (λ node family. false) ts (length (child_families (type_at table.types n).items)) (length (field_types (type_at table.types n).items))) (sym is.is.items_are)
          (items_are (type_at table.types n).items fit.plain);
      few_children = fit.few_children;
      few_fields = fit.few_fields;
      family = λ k. refl;
    }

-- a rule's expression may be evaluated
pub record RuleReady (nodes : Nodes) (cells : List Cell) (env : List Value) (right : List Sym) (family : ℕ) (e : Expression) : Type 0 where
  pub makers : List Maker
  pub typed : HasType (build_context nodes.families makers right) e (ty.Node family)
  pub holds : Holds cells env (build_context nodes.families makers right)

pub rule_ready : (g : Cfg) (nodes : Nodes) (cells : List Cell) (env : List Value) (r n : ℕ) (w : List Sym) (e : Expression) → FitGrammar g nodes → IsRule g r n w → slice_get nodes.builds (r - 1) ≡ Some e
    → AreOf (λ node family. false) cells env (map (symbol_type nodes.families) w) → RuleReady nodes cells env w (slice_index nodes.families n) e
rule_ready g nodes cells env r n w e fit rule at are =
    let first = rule.from_one in
    let place : r - 1 ≡ rule.place = omega (arith, first) in
    let b = fit.build rule.place _ e rule.read (ap (λ i. slice_get nodes.builds i) (sym place) ∙ at) in
    record { makers = b.makers; typed = b.typed; holds = record { are = are; makers = makers_make nodes.table b.makers b.are fit.types.items } }

pub expression_there : (g : Cfg) (nodes : Nodes) (r n : ℕ) (w : List Sym) → FitGrammar g nodes → IsRule g r n w → r - 1 < length nodes.builds
expression_there g nodes r n w fit rule =
    let first = rule.from_one in
    let low = slice_get_within g.rules rule.place _ rule.read in
    let each = fit.build_each in
    omega (arith, first, low, each)

pub is_ready : (nodes : Nodes) (cells : List Cell) (env : List Value) (right : List Sym) (family : ℕ) (e : Expression) → RuleReady nodes cells env right family e → Ready cells env e
is_ready nodes cells env right family e r = record { vars = build_context nodes.families r.makers right; of = ty.Node family; typed = r.typed; are = r.holds }

-- the same types by other makers of the same table
record Agree (ms ns : List Maker) : Type 0 where
  pub makers : (n : ℕ) (m : Maker) → maker_of ms n ≡ Some m → (x : Maker) × (maker_of ns n ≡ Some x) × (x.items.items ≡ m.items.items) × (x.family ≡ m.family)

module _ (sources : ℕ → ℕ → Bool) where
  mutual
    same_type : (c d : List Maker) → Agree c d → (v : PureValue) (t : ValType) → PureIsOf c sources v t → PureIsOf d sources v t
    same_type c d agree _ _ (pure_int z) = pure_int z
    same_type c d agree _ _ (pure_bool b) = pure_bool b
    same_type c d agree _ _ (pure_text bytes) = pure_text bytes
    same_type c d agree _ _ (pure_map es) = pure_map es
    same_type c d agree _ _ (pure_token k) = pure_token k
    same_type c d agree _ _ (pure_source n f is) = pure_source n f is
    same_type c d agree _ _ (pure_node n children fields m ts t at is of fit) =
        let (x, found, items, family) = agree.makers n m at in
        pure_node n children fields x ts t found (is ∙ sym items) (of ∙ ap (λ f. ty.Node f) (sym family)) (same_items c d agree children fields ts fit)

    same_items : (c d : List Maker) → Agree c d → (children fields : PureValues) (ts : List ValType) → ItemsFit c sources children fields ts → ItemsFit d sources children fields ts
    same_items c d agree _ _ _ none_fit = none_fit
    same_items c d agree _ _ _ (child_fits v children fields f ts is more) = child_fits v children fields f ts (same_type c d agree v (ty.Node f) is) (same_items c d agree children fields ts more)
    same_items c d agree _ _ _ (field_fits v children fields t ts plain is more) = field_fits v children fields t ts plain (same_type c d agree v t is) (same_items c d agree children fields ts more)

agreeing : (table : TypeTable) (ms ns : List Maker) → AreSourceMakers table ms → AreSourceMakers table ns → Agree ms ns
agreeing table ms ns one two = record {
  makers = λ n m found. (let is = maker_is table ms n m one found in
      let there = maker_there table ns n two is.source in
      let other = maker_is table ns n there.0 two there.1 in
      (there.0, there.1, other.is.items_are ∙ sym is.is.items_are, other.is.family_is ∙ sym is.is.family_is));
}

-- what derivations build is of their symbols' types
pub built_typed : {K : Type 0} (terminal : K → ℕ) (g : Cfg) (nodes : Nodes) (tokens : Tokens) → FitGrammar g nodes → (makers : List Maker) → AreSourceMakers nodes.table makers
    → (ss : List Sym) (f : Forest K) (k : ℕ) → Derive terminal g ss f → PureAreOf makers (λ node family. false) (built nodes tokens k f) (map (symbol_type nodes.families) ss)
built_typed terminal g nodes tokens fit makers are _ _ k cfg.nothing = no_pures
built_typed terminal g nodes tokens fit makers are _ _ k (cfg.token t leaf u f is d) =
    and_pures (token k) _ ty.Token _ (pure_token k) (built_typed terminal g nodes tokens fit makers are u f (k + 1) d)
built_typed terminal g nodes tokens fit makers are _ _ k (cfg.rule r n w u c f is dc d) =
    let first = is.from_one in
    let place : r - 1 ≡ is.place = omega (arith, first) in
    let long = fit.build_each in
    let low = slice_get_within g.rules is.place _ is.read in
    let at = slice_get-get_or nodes.builds is.place (expression_in None) (omega (arith, long, low)) in
    let e = get_or nodes.builds is.place (expression_in None) in
    let b = fit.build is.place _ e is.read at in
    let env = built_typed terminal g nodes tokens fit b.makers b.are w c k dc in
    let here = value_typed (build_context nodes.families b.makers w) tokens (built nodes tokens k c) env (makers_make nodes.table b.makers b.are fit.types.items) e (ty.Node (slice_index nodes.families n)) b.typed in
    let there = same_type (λ node family. false) b.makers makers (agreeing nodes.table b.makers makers b.are are) _ _ here in
    let builds : build_of nodes r ≡ e = ap (λ i. expression_in (slice_get nodes.builds i)) place ∙ ap expression_in at in
    and_pures (value_of tokens (built nodes tokens k c) (build_of nodes r)) _ (ty.Node (slice_index nodes.families n)) _
    (subst (λ x. PureIsOf makers (λ node family. false) (value_of tokens (built nodes tokens k c) x) (ty.Node (slice_index nodes.families n))) (sym builds) there)
    (built_typed terminal g nodes tokens fit makers are u f (k + length (yield c)) d)

pub first_typed : (makers : List Maker) (sources : ℕ → ℕ → Bool) (vs : List PureValue) (t : ValType) (ts : List ValType) → PureAreOf makers sources vs (t ∷ ts) → PureIsOf makers sources (nth vs 0) t
first_typed makers sources _ t ts (and_pures v vs _ _ is are) = is

start_conforms : {K : Type 0} (terminal : K → ℕ) (g : Cfg) (nodes : Nodes) (tokens : Tokens) (s l : List ℕ) (start : ℕ) (f : Forest K) (t : MadeTree) → FitGrammar g nodes → pure_tree s l t ≡ built_value nodes tokens f
    → Derive terminal g (N start ∷ []) f → Derive terminal g (N start ∷ []) f → TreeFits nodes.table t
start_conforms terminal g nodes tokens s l _ _ t fit is whole (cfg.rule r n w _ c _ rule dc cfg.nothing) =
    let long = fit.build_each in
    let low = slice_get_within g.rules rule.place _ rule.read in
    let at = slice_get-get_or nodes.builds rule.place (expression_in None) (omega (arith, long, low)) in
    let b = fit.build rule.place _ _ rule.read at in
    let all = built_typed terminal g nodes tokens fit b.makers b.are (N n ∷ []) _ 0 whole in
    (tree_conforms nodes.table b.makers (λ node family. false) (source_makers_are nodes.table b.makers b.are) s l t _ _ (slice_index nodes.families n) (sym is) refl (first_typed _ _ _ _ _ all)).0

-- the made tree of a derivation's value conforms
pub value_conforms : {K : Type 0} (terminal : K → ℕ) (g : Cfg) (nodes : Nodes) (tokens : Tokens) (s l : List ℕ) (read : List K) (f : Forest K) (t : MadeTree) → FitGrammar g nodes → Derivation terminal g read f
    → pure_tree s l t ≡ built_value nodes tokens f → TreeFits nodes.table t
value_conforms terminal g nodes tokens s l read f t fit derivation is = start_conforms terminal g nodes tokens s l g.start f t fit is derivation.from_start derivation.from_start
