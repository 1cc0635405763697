-- The values that a fitting pattern binds in a conforming tree are of the types that its variables have.
use Rattle.std.proofs.Common.{◌≡◌, ℕ, ℤ, zero, suc, ◌<◌, Bool, true, false, List, [], ◌∷◌, ◌++◌, length, map, Some, refl, sym, subst, ap, ◌∙◌}
use Rattle.std.specs.Prelude.{slice_get}
use Rattle.std.proofs.lemmas.Option.{slice_get_within}
use Rattle.value_store.specs.declared.value.Value.{Value}
use Rattle.value_store.specs.declared.value.Value.TheVariants as value
use Rattle.value_store.specs.declared.value.ValType.{ValType}
use Rattle.value_store.specs.declared.value.ValType.TheVariants as ty
use Rattle.ast_types.specs.declared.item.Item.{Item}
use Rattle.ast_types.specs.Items.{field_types, field_then}
use Rattle.ast_types.specs.TypeTable.{type_at, IsSound}
use Rattle.tree_store.specs.Conforms as conforms
use Rattle.tree_store.specs.Forest.{Node, node_in, node_at}
use Rattle.expr_lang.specs.Expression.{Expression}
use Rattle.expr_lang.specs.OfType as kind
use Rattle.expr_lang.specs.OfType.{AreOf}
use Rattle.expr_lang.specs.Plain.{Plain}
use Rattle.expr_lang.specs.PureOf.{pure_of}
use Rattle.expr_lang.specs.PureValues.{PureValue, int, bool, text, bool_in}
use Rattle.expr_lang.specs.ValueOf.{no_tokens, value_of}
use Rattle.value_store.specs.PlainTypes.{IsPlain, plain_int, plain_bool, plain_text}
use Rattle.beg_model.specs.Rules.{Pattern, Patterns, Rule}
use Rattle.beg_model.specs.Applies.{Holds}
use Rattle.beg_model.specs.Matching.{Matches, FitsOrNot, RuleFitsOrNot}
use Rattle.beg_model.proofs.OneFit.{one_fit}
use Rattle.beg_model.specs.Fitting.{Target, Part, child, field, Subgoal, Shows, Fits, FitAll, parts_by, item_types, field_value}
use Rattle.beg_model.specs.Accepted.{StandsAt, StandAt, leaf_stands, any_stands, bind_stands, number_stands, truth_stands, string_stands, tree_stands, none_stands, and_stands, IsTyped, IsRule}
use Rattle.beg_model.proofs.PatternsInRow.{items_first}

-- the value is an int, a bool or a text, as the type says
pub data PlainOf : PureValue → ValType → Type 0 where
  int_of : (z : ℤ) → PlainOf (int z) ty.Int
  bool_of : (b : Bool) → PlainOf (bool b) ty.Bool
  text_of : (bytes : List ℕ) → PlainOf (text bytes) ty.Text

pub data PlainAll : List PureValue → List ValType → Type 0 where
  none_of : PlainAll [] []
  and_of : (v : PureValue) (vs : List PureValue) (t : ValType) (ts : List ValType) → PlainOf v t → PlainAll vs ts → PlainAll (v ∷ vs) (t ∷ ts)

plain_append : {us vs : List PureValue} {ts rs : List ValType} → PlainAll us ts → PlainAll vs rs → PlainAll (us ++ vs) (ts ++ rs)
plain_append none_of more = more
plain_append (and_of v vs t ts one rest) more = and_of v _ t _ one (plain_append rest more)

-- a field is of the type of its item
abbrev pub PartIs : Part → ValType → Type 0
PartIs (child n) t = Unit {0}
PartIs (field v) t = PlainOf v t

pub data PartsAre : List Part → List ValType → Type 0 where
  no_parts : PartsAre [] []
  and_part : (p : Part) (ps : List Part) (t : ValType) (ts : List ValType) → PartIs p t → PartsAre ps ts → PartsAre (p ∷ ps) (t ∷ ts)
  too_few : (ts : List ValType) → PartsAre [] ts

-- the types of fields among the types of items
abbrev pub plain_types : List ValType → List ValType
plain_types [] = []
plain_types (t ∷ ts) = field_then t (plain_types ts)

plain_types-items : (items : List Item) → plain_types (map (λ item. item.of) items) ≡ field_types items
plain_types-items [] = refl
plain_types-items (i ∷ is) = ap (field_then i.of) (plain_types-items is)

plain_types-append : (ts us : List ValType) → plain_types (ts ++ us) ≡ plain_types ts ++ plain_types us
plain_types-append [] us = refl
plain_types-append (ty.Node f ∷ ts) us = plain_types-append ts us
plain_types-append (ty.Int ∷ ts) us = ap (λ z. ty.Int ∷ z) (plain_types-append ts us)
plain_types-append (ty.Bool ∷ ts) us = ap (λ z. ty.Bool ∷ z) (plain_types-append ts us)
plain_types-append (ty.Text ∷ ts) us = ap (λ z. ty.Text ∷ z) (plain_types-append ts us)
plain_types-append (ty.Map ∷ ts) us = ap (λ z. ty.Map ∷ z) (plain_types-append ts us)
plain_types-append (ty.Token ∷ ts) us = ap (λ z. ty.Token ∷ z) (plain_types-append ts us)

get_front : {A : Type 0} (xs ys : List A) (k : ℕ) (x : A) → slice_get xs k ≡ Some x → slice_get (xs ++ ys) k ≡ Some x
get_front [] ys k x e = (cc)
get_front (y ∷ xs) ys zero x e = e
get_front (y ∷ xs) ys (suc k) x e = get_front xs ys k x e

abbrev pub KindsFit : List Value → List ValType → Type 0
KindsFit fields kinds = (k : ℕ) (v : Value) (kind : ValType) → slice_get fields k ≡ Some v → slice_get kinds k ≡ Some kind → conforms.IsOfKind v kind

plain_of_kind : (on : Target) (v : Value) (t : ValType) → conforms.IsOfKind v t → PlainOf (field_value on v) t
plain_of_kind on _ _ (conforms.is_int z) = int_of z
plain_of_kind on _ _ (conforms.is_bool b) = bool_of b
plain_of_kind on _ _ (conforms.is_text t) = text_of _

parts_are : (on : Target) (ts : List ValType) (cs : List ℕ) (fields : List Value) → KindsFit fields (plain_types ts)
    → PartsAre (parts_by ts cs (map (field_value on) fields)) ts
parts_are on [] cs fields fit = no_parts
parts_are on (ty.Node f ∷ ts) [] fields fit = too_few _
parts_are on (ty.Node f ∷ ts) (c ∷ cs) fields fit = and_part (child c) _ _ ts tt (parts_are on ts cs fields fit)
parts_are on (ty.Int ∷ ts) cs [] fit = too_few _
parts_are on (ty.Bool ∷ ts) cs [] fit = too_few _
parts_are on (ty.Text ∷ ts) cs [] fit = too_few _
parts_are on (ty.Map ∷ ts) cs [] fit = too_few _
parts_are on (ty.Token ∷ ts) cs [] fit = too_few _
parts_are on (ty.Int ∷ ts) cs (v ∷ fields) fit = and_part _ _ _ ts (plain_of_kind on v ty.Int (fit 0 v ty.Int refl refl)) (parts_are on ts cs fields (λ k. fit (suc k)))
parts_are on (ty.Bool ∷ ts) cs (v ∷ fields) fit = and_part _ _ _ ts (plain_of_kind on v ty.Bool (fit 0 v ty.Bool refl refl)) (parts_are on ts cs fields (λ k. fit (suc k)))
parts_are on (ty.Text ∷ ts) cs (v ∷ fields) fit = and_part _ _ _ ts (plain_of_kind on v ty.Text (fit 0 v ty.Text refl refl)) (parts_are on ts cs fields (λ k. fit (suc k)))
parts_are on (ty.Map ∷ ts) cs (v ∷ fields) fit = and_part _ _ _ ts (plain_of_kind on v ty.Map (fit 0 v ty.Map refl refl)) (parts_are on ts cs fields (λ k. fit (suc k)))
parts_are on (ty.Token ∷ ts) cs (v ∷ fields) fit = and_part _ _ _ ts (plain_of_kind on v ty.Token (fit 0 v ty.Token refl refl)) (parts_are on ts cs fields (λ k. fit (suc k)))

within_of : (nodes : List Node) (n : ℕ) (a : Node) → slice_get nodes n ≡ Some a → (n < length nodes) × (node_at nodes n ≡ a)
within_of nodes n a is = (slice_get_within nodes n a is, ap node_in is)

module _ (on : Target) (sound : IsSound on.table) (all : conforms.Conforms on.table on.nodes) where
  shown_are : {n t : ℕ} {parts : List Part} → Shows on n t parts → PartsAre parts (item_types on.table t)
  shown_are {n = n} {t = t} shows =
      let (lt, same) = within_of on.nodes n shows.node shows.is in
      let fits = subst (λ (a : Node). conforms.Fits on.table on.nodes a.ty a.children a.fields) same (all n lt) in
      let (own, items, le) = items_first on.table sound shows.is_a in
      let kinds : field_types (type_at on.table.types shows.node.ty).items ≡ plain_types (item_types on.table t) ++ plain_types own =
      sym (plain_types-items (type_at on.table.types shows.node.ty).items) ∙ ap plain_types items ∙ plain_types-append (item_types on.table t) own in
      subst (λ z. PartsAre z (item_types on.table t)) (sym shows.are)
      (parts_are on (item_types on.table t) shows.node.children shows.node.fields (λ k v kind at of.
      fits.of_kinds k v kind at (ap (λ z. slice_get z k) kinds ∙ get_front (plain_types (item_types on.table t)) (plain_types own) k kind of)))

  mutual
    pub typed_fit : {nonterminals : ℕ} {p : Pattern} {t : ValType} {vars : List ValType} {part : Part} {ops : List Subgoal} {env : List PureValue}
        → StandsAt on.table nonterminals p t vars → PartIs part t → Fits on p part ops env → PlainAll env vars
    typed_fit (leaf_stands x f lt) is (Fits.at_leaf n _) = none_of
    typed_fit (any_stands t plain) is (Fits.at_any v) = none_of
    typed_fit (bind_stands i t plain) is (Fits.at_bind _ v) = and_of v [] t [] is none_of
    typed_fit (number_stands z) is (Fits.at_number _ v e) = none_of
    typed_fit (truth_stands b) is (Fits.at_truth _ v e) = none_of
    typed_fit (string_stands bytes) is (Fits.at_string _ v e) = none_of
    typed_fit (tree_stands t f ps vars lt family stand) is (Fits.at_tree n _ _ parts ops env shows fits) = typed_fits stand (shown_are shows) fits

    pub typed_fits : {nonterminals : ℕ} {ps : Patterns} {ts vars : List ValType} {parts : List Part} {ops : List Subgoal} {env : List PureValue}
        → StandAt on.table nonterminals ps ts vars → PartsAre parts ts → FitAll on ps parts ops env → PlainAll env vars
    typed_fits none_stands no_parts FitAll.no_part = none_of
    typed_fits none_stands (too_few _) FitAll.no_part = none_of
    typed_fits (and_stands p ps t ts us vs one rest) (too_few _) fits = elim fits [ ]
    typed_fits (and_stands p ps t ts us vs one rest) (and_part _ _ _ _ is are) (FitAll.one_more _ _ part parts o1 o2 e1 e2 first later) =
        plain_append (typed_fit one is first) (typed_fits rest are later)

value_of_plain : (s l : List ℕ) (v : Value) (t : ValType) → PlainOf (pure_of s l [] v) t → kind.IsOf (λ node family. false) [] v t × IsPlain t
value_of_plain s l (value.Int z) _ (int_of _) = (kind.is_int z, plain_int)
value_of_plain s l (value.Bool b) _ (bool_of _) = (kind.is_bool b, plain_bool)
value_of_plain s l (value.Text t) _ (text_of _) = (kind.is_text t, plain_text)
value_of_plain s l (value.Map m) t h = elim h [ ]
value_of_plain s l (value.Token k) t h = elim h [ ]
value_of_plain s l (value.Src n) t h = elim h [ ]
value_of_plain s l (value.Made c) t h = elim h [ ]

pub values_of_plain : (s l : List ℕ) (vs : List Value) (ts : List ValType) → PlainAll (map (pure_of s l []) vs) ts
    → AreOf (λ node family. false) [] vs ts × ((i : ℕ) (t : ValType) → slice_get ts i ≡ Some t → IsPlain t)
values_of_plain s l [] [] none_of = (kind.no_values, λ i t e. (cc))
values_of_plain s l [] (t ∷ ts) h = elim h [ ]
values_of_plain s l (v ∷ vs) [] h = elim h [ ]
values_of_plain s l (v ∷ vs) (t ∷ ts) (and_of _ _ _ _ one rest) =
    let (is, plain) = value_of_plain s l v t one in
    let (are, plains) = values_of_plain s l vs ts rest in
    (kind.and_value v vs t ts is are, here plain plains)
  where
    here : IsPlain t → ((i : ℕ) (u : ValType) → slice_get ts i ≡ Some u → IsPlain u) → (i : ℕ) (u : ValType) → slice_get (t ∷ ts) i ≡ Some u → IsPlain u
    here plain plains zero u e = let same : t ≡ u = (cc) in subst IsPlain same plain
    here plain plains (suc i) u e = plains i u e

-- a condition may be evaluated
pub condition_ready : (s l : List ℕ) (vs : List Value) (vars : List ValType) (e : Expression) → PlainAll (map (pure_of s l []) vs) vars → IsTyped vars ty.Bool e → Plain vs e
condition_ready s l vs vars e plain typed =
    let (are, plains) = values_of_plain s l vs vars plain in
    record {
      of = ty.Bool;
      is_plain = plain_bool;
      ready = record { vars = record { vars = vars; makers = []; sources = λ node family. false }; typed = typed.typed; holds = record { are = are; plain = plains }; few = typed.few };
    }

-- what was found from nothing is all that was found
pub found_from_none : {on : Target} {p : Pattern} {part : Part} {old new : Matches} → old.operands ≡ [] → old.values ≡ [] → FitsOrNot on p part old new true
    → Fits on p part new.operands (map (field_value on) new.values)
found_from_none {on = on} {p = p} {part = part} {new = new} none empty (ops, vs, fits, a, b) =
    subst (λ z. Fits on p part z (map (field_value on) new.values)) (sym (a ∙ ap (λ z. z ++ ops) none)) (subst (λ z. Fits on p part ops (map (field_value on) z)) (sym (b ∙ ap (λ z. z ++ vs) empty)) fits)

-- the rule's condition may be evaluated where its pattern fits
pub rule_ready : (on : Target) → IsSound on.table → conforms.Conforms on.table on.nodes → (nonterminals : ℕ) (rule : Rule) → IsRule on.table nonterminals rule → (n : ℕ) (ops : List Subgoal) (vs : List Value) (e : Expression)
    → rule.test ≡ Some e → Fits on rule.pattern (child n) ops (map (field_value on) vs) → Plain vs e
rule_ready on sound all nonterminals rule is n ops vs e some fits =
    condition_ready on.source on.literals vs is.vars e (typed_fit on sound all is.pattern tt fits) (is.test e some)

pub rule_fits : (on : Target) (rule : Rule) (n : ℕ) (found : Matches) (e : Expression) (test : Bool) → rule.test ≡ Some e
    → Fits on rule.pattern (child n) found.operands (map (field_value on) found.values) → test ≡ bool_in (value_of no_tokens (map (field_value on) found.values) e)
    → RuleFitsOrNot on rule n found test
rule_fits on rule n found e true some fits same = (fits, subst (λ o. Holds o (map (field_value on) found.values)) (sym some) (sym same))
rule_fits on rule n found e false some fits same = λ ops env other holds.
    (let (places, vars) = one_fit other fits in
    let is : bool_in (value_of no_tokens (map (field_value on) found.values) e) ≡ true =
    subst (λ z. bool_in (value_of no_tokens z e) ≡ true) vars (subst (λ o. Holds o env) some holds) in
    let no : false ≡ true = same ∙ is in (cc))
