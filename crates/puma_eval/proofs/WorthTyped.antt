-- A typed expression's value is of its type, in a scene.
use Rattle.std.proofs.Common.{◌≡◌, ℕ, List, Some, Bool, true, false, sym, subst, suc, zero, ◌∙◌}
use Rattle.std.specs.Prelude.{slice_get, if◌then◌else◌}
use Rattle.value_store.specs.declared.value.ValType.{ValType}
use Rattle.value_store.specs.declared.value.ValType.TheVariants as ty
use Rattle.expr_lang.specs.declared.expr.Op.{Op}
use Rattle.expr_lang.specs.declared.expr.Function.{Function}
use Rattle.expr_lang.specs.declared.expr.Function.TheVariants as function
use Rattle.expr_lang.specs.Expression.{Expression, Expressions}
use Rattle.expr_lang.specs.Typing.{gives, HasType, HaveTypes, a_number, a_truth, a_string, a_var, a_negative, a_negated, a_binary, an_if, a_call, a_make, none_left, one_left, Takes, or_takes, and_takes, equal_takes, differ_takes, less_takes, at_most_takes, greater_takes, at_least_takes, plus_takes, minus_takes, times_takes, quotient_takes, remainder_takes}
use Rattle.value_store.specs.PlainTypes.{plain_int, plain_bool, plain_text}
use Rattle.expr_lang.specs.PureValues.{PureValue, node, nth, nodes_in, others_in, bool_in}
use Rattle.expr_lang.specs.ValueOf.{Tokens, joined, applied}
use Rattle.expr_lang.specs.OfType.{AreItems, no_items, child_item, field_item}
use Rattle.puma_model.specs.Scene.{Scene}
use Rattle.puma_model.specs.Comes.{worth, worths}
use Rattle.expr_lang.specs.ValueOf.{no_tokens}
use Rattle.puma_model.specs.Typed.{source_families, IsOfType, typed_int, typed_bool, typed_text, typed_map, typed_source, typed_node, ItemsTyped, none_typed, child_typed, field_typed, AreTyped, no_typed, and_typed}
use Rattle.puma_model.proofs.UsableTypes.{target_maker}
use Rattle.puma_model.specs.TypedRules.{Kinds, AreKinds, rule_context}

items_fit : (scene : Scene) (vs : List PureValue) (ts : List ValType) (c n : ℕ) → AreItems (source_families scene.table) ts c n → AreTyped scene vs ts
    → ItemsTyped scene (nodes_in vs) (others_in vs) ts
items_fit scene _ _ _ _ no_items no_typed = none_typed
items_fit scene _ _ _ _ (child_item f ts c n isnt items) (and_typed _ vs _ _ (typed_source k _ within family isso) are) = (let e : true ≡ false = sym isso ∙ isnt 0 in cc)
items_fit scene _ _ _ _ (child_item f ts c n isnt items) (and_typed _ vs _ _ (typed_node k _ children fields within family isso fit) are) =
    child_typed (node k children fields) (nodes_in vs) (others_in vs) f ts (typed_node k f children fields within family isso fit) (items_fit scene vs ts c n items are)
items_fit scene _ _ _ _ (field_item _ ts c n plain_int items) (and_typed _ vs _ _ (typed_int z) are) = field_typed _ (nodes_in vs) (others_in vs) ty.Int ts plain_int (typed_int z) (items_fit scene vs ts c n items are)
items_fit scene _ _ _ _ (field_item _ ts c n plain_bool items) (and_typed _ vs _ _ (typed_bool z) are) = field_typed _ (nodes_in vs) (others_in vs) ty.Bool ts plain_bool (typed_bool z) (items_fit scene vs ts c n items are)
items_fit scene _ _ _ _ (field_item _ ts c n plain_text items) (and_typed _ vs _ _ (typed_text z) are) = field_typed _ (nodes_in vs) (others_in vs) ty.Text ts plain_text (typed_text z) (items_fit scene vs ts c n items are)

var_of : (scene : Scene) (vs : List PureValue) (ts : List ValType) (i : ℕ) (t : ValType) → AreTyped scene vs ts → slice_get ts i ≡ Some t → IsOfType scene (nth vs i) t
var_of scene _ _ i t no_typed at = (cc)
var_of scene _ _ zero t (and_typed v vs u us is are) at = (let same : u ≡ t = cc in subst (IsOfType scene v) same is)
var_of scene _ _ (suc i) t (and_typed v vs u us is are) at = var_of scene vs us i t are at

joined_of : (scene : Scene) (o : Op) (t u : ValType) (a b : PureValue) → Takes o t u → IsOfType scene (joined o a b) u
joined_of scene _ _ _ a b or_takes = typed_bool _
joined_of scene _ _ _ a b and_takes = typed_bool _
joined_of scene _ _ _ a b (equal_takes _ _) = typed_bool _
joined_of scene _ _ _ a b (differ_takes _ _) = typed_bool _
joined_of scene _ _ _ a b less_takes = typed_bool _
joined_of scene _ _ _ a b at_most_takes = typed_bool _
joined_of scene _ _ _ a b greater_takes = typed_bool _
joined_of scene _ _ _ a b at_least_takes = typed_bool _
joined_of scene _ _ _ a b plus_takes = typed_int _
joined_of scene _ _ _ a b minus_takes = typed_int _
joined_of scene _ _ _ a b times_takes = typed_int _
joined_of scene _ _ _ a b quotient_takes = typed_int _
joined_of scene _ _ _ a b remainder_takes = typed_int _

applied_of : (scene : Scene) (w : Tokens) (f : Function) (vs : List PureValue) → IsOfType scene (applied w f vs) (gives f)
applied_of scene w function.Text vs = typed_text _
applied_of scene w function.Line vs = typed_int _
applied_of scene w function.Col vs = typed_int _
applied_of scene w function.Int vs = typed_int _
applied_of scene w function.Empty vs = typed_map _
applied_of scene w function.Put vs = typed_map _
applied_of scene w function.Get vs = typed_int _
applied_of scene w function.Has vs = typed_bool _
applied_of scene w function.Size vs = typed_int _

if_of : (scene : Scene) (q : Bool) (a b : PureValue) (t : ValType) → IsOfType scene a t → IsOfType scene b t → IsOfType scene (if q then a else b) t
if_of scene true a b t x y = x
if_of scene false a b t x y = y

module _ (scene : Scene) (kinds : Kinds) (are_kinds : AreKinds scene.table kinds) (types : List ValType) (env : List PureValue) (are : AreTyped scene env types) where
  mutual
    pub worth_typed : (e : Expression) (t : ValType) → HasType (rule_context scene.table kinds types) e t → IsOfType scene (worth env e) t
    worth_typed _ _ (a_number z) = typed_int z
    worth_typed _ _ (a_truth b) = typed_bool b
    worth_typed _ _ (a_string bytes) = typed_text bytes
    worth_typed _ t (a_var i _ at) = var_of scene env types i t are at
    worth_typed _ _ (a_negative a is) = typed_int _
    worth_typed _ _ (a_negated a is) = typed_bool _
    worth_typed _ u (a_binary o a b t _ takes x y) = joined_of scene o t u _ _ takes
    worth_typed _ t (an_if c a b _ q x y) = if_of scene (bool_in (worth env c)) _ _ t (worth_typed a t x) (worth_typed b t y)
    worth_typed _ t (a_call f args ts _ takes of x) = subst (IsOfType scene (applied no_tokens f (worths env args))) (sym of) (applied_of scene no_tokens f (worths env args))
    worth_typed _ t (a_make n args m ts _ at is of x) =
        let maker = target_maker scene.table kinds.makers n m are_kinds.types are_kinds.makers at in
        let items = subst (AreTyped scene (worths env args)) is (worths_typed args ts x) in
        let fit = items_fit scene (worths env args) m.items.items maker.makes.children maker.makes.fields maker.makes.items items in
        subst (IsOfType scene (node n (nodes_in (worths env args)) (others_in (worths env args)))) (sym of)
        (typed_node n m.family _ _ maker.there (sym maker.family_is) (maker.makes.family 0)
        (subst (ItemsTyped scene (nodes_in (worths env args)) (others_in (worths env args))) maker.items_are fit))

    pub worths_typed : (es : Expressions) (ts : List ValType) → HaveTypes (rule_context scene.table kinds types) es ts → AreTyped scene (worths env es) ts
    worths_typed _ _ none_left = no_typed
    worths_typed _ _ (one_left a more t ts x xs) = and_typed _ _ t ts (worth_typed a t x) (worths_typed more ts xs)
