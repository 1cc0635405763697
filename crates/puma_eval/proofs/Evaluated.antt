-- What an evaluation gives, of values of their types in a scene.
use Rattle.std.proofs.Common.{◌≡◌, ℕ, ◌+◌, ◌≤◌, List, [], ◌∷◌, ◌++◌, length, map, drop, Some, refl, sym, ap, ◌∙◌, subst, append-nil, append_assoc, drop_of_length-le}
use Rattle.std.specs.Prelude.{slice_get, IfOk, Result, Ok, Err}
use Rattle.value_store.specs.Cells.{Cell}
use Rattle.value_store.specs.declared.value.Value.{Value}
use Rattle.value_store.specs.declared.value.ValType.{ValType}
use Rattle.expr_lang.specs.Evaluated.{Keeps, Ready, Evaluated}
use Rattle.expr_lang.specs.Expression.{Expression, Expressions, and_expression, no_expressions}
use Rattle.expr_lang.specs.Meaning.{meaning, expressions_of}
use Rattle.expr_lang.specs.OfType.{Holds}
use Rattle.expr_lang.specs.PureOf.{pure_of}
use Rattle.expr_lang.specs.Typing.{Context, HasType, HaveTypes, none_left, one_left}
use Rattle.expr_lang.specs.declared.expr.Expr.{Expr}
use Rattle.expr_lang.proofs.Evaluates.{keeps-none, keeps-both}
use Rattle.puma_model.specs.Comes.{worth, worths}
use Rattle.expr_lang.specs.ValueOf.{no_tokens}
use Rattle.puma_model.specs.Scene.{Scene}
use Rattle.puma_model.specs.Typed.{IsOfType, AreIn, pures}
use Rattle.puma_model.specs.TypedRules.{Kinds, AreKinds, rule_context}
use Rattle.puma_model.proofs.UsableTypes.{target_maker}
use Rattle.puma_model.proofs.PartsGathered.{drop_at}
use Rattle.puma_model.proofs.TypedValues.{in_kept, pures_kept, in_append, in_one, in_none, pures-append}
use Rattle.puma_eval.specs.within.Evaluating.{WorthReady, IsWorth, WorthsReady, AreWorth, WorthTo}
use Rattle.puma_eval.proofs.WorthTyped.{worth_typed}

holds_of : (scene : Scene) (cells : List Cell) (env : List Value) (kinds : Kinds) (types : List ValType) → AreKinds scene.table kinds → AreIn scene cells env types
    → Holds cells env (rule_context scene.table kinds types)
holds_of scene cells env kinds types are_kinds are = record { are = are.are; makers = λ n m at. (target_maker scene.table kinds.makers n m are_kinds.types are_kinds.makers at).makes }

pub ready_of : (scene : Scene) (cells : List Cell) (env : List Value) (e : Expression) → WorthReady scene cells env e → Ready cells env e
ready_of scene cells env e r = record {
  vars = rule_context scene.table r.kinds r.types;
  of = r.of;
  typed = r.typed;
  are = holds_of scene cells env r.kinds r.types r.kinds_are r.are;
}

pub worth_of : (scene : Scene) (old mid new : List Cell) (env : List Value) (e : Expression) (v : Value) → mid ≡ old
    → Evaluated no_tokens scene.source scene.literals mid new env e v → IsWorth scene old new env e v
worth_of scene old mid new env e v same done =
    let d = subst (λ z. Evaluated no_tokens scene.source scene.literals z new env e v) same done in
    record {
      typed = λ kinds types t are_kinds are typed. record {
        is = d.typed (rule_context scene.table kinds types) t typed (holds_of scene old env kinds types are_kinds are);
        typed = subst (λ z. IsOfType scene z t) (sym d.is) (worth_typed scene kinds are_kinds types (pures scene old env) are.typed e t typed);
      };
      means = d.is;
    }

pub worth_kept : (old mid new : List Cell) → mid ≡ old → Keeps mid new → Keeps old new
worth_kept old mid new same keeps = subst (λ z. Keeps z new) same keeps

first_typed : {c : Context} {e : Expression} {es : Expressions} {ts : List ValType} → HaveTypes c (and_expression e es) ts
    → (t : ValType) × (rest : List ValType) × (ts ≡ t ∷ rest) × HasType c e t × HaveTypes c es rest
first_typed (one_left e es t ts x xs) = (t, ts, refl, x, xs)

none_typed : {c : Context} {ts : List ValType} → HaveTypes c no_expressions ts → ts ≡ []
none_typed none_left = refl

pub worth_begin : (scene : Scene) (cells : List Cell) (env : List Value) (s l : List ℕ) (es : List Expr) (vs : List Value) → vs ≡ []
    → WorthTo scene cells cells env s l es vs 0
worth_begin scene cells env s l es vs none = record {
  kept = keeps-none cells;
  typed = λ kinds types ts are_kinds are typed. ([], ts, refl, subst (λ z. AreIn scene cells z []) (sym none) (in_none scene cells), typed);
  means = ap (λ z. pures scene cells z ++ worths (pures scene cells env) (expressions_of (map (meaning s l) es))) none;
}

module _ (scene : Scene) (old mid : List Cell) (env : List Value) (s l : List ℕ) (es : List Expr) (vs : List Value) (i : ℕ) (e : Expr)
    (to : WorthTo scene old mid env s l es vs i) (at : slice_get es i ≡ Some e) where
  here : expressions_of (map (meaning s l) (drop i es)) ≡ and_expression (meaning s l e) (expressions_of (map (meaning s l) (drop (i + 1) es)))
  here = ap (λ z. expressions_of (map (meaning s l) z)) (drop_at es i e at)

  pub worth_ready : WorthsReady scene old env (expressions_of (map (meaning s l) es)) → WorthReady scene mid env (meaning s l e)
  worth_ready r =
      let (first, rest, is, done, more) = to.typed r.kinds r.types r.of r.kinds_are r.are r.typed in
      let (t, others, e_is, typed, later) = first_typed (subst (λ z. HaveTypes (rule_context scene.table r.kinds r.types) z rest) here more) in
      record { kinds = r.kinds; kinds_are = r.kinds_are; types = r.types; are = in_kept scene old mid env r.types to.kept r.are; of = t; typed = typed }

  pub worth_next : (new : List Cell) (v : Value) (next : List Value) → WorthsReady scene old env (expressions_of (map (meaning s l) es))
      → IsWorth scene mid new env (meaning s l e) v → Keeps mid new → next ≡ vs ++ v ∷ []
      → WorthTo scene old new env s l es next (i + 1)
  worth_next new v next r is keeps next_is =
      let later = expressions_of (map (meaning s l) (drop (i + 1) es)) in
      let (first0, rest0, is0, done0, more0) = to.typed r.kinds r.types r.of r.kinds_are r.are r.typed in
      let v_means = is.means ∙ ap (λ z. worth z (meaning s l e)) (pures_kept scene old mid env r.types to.kept r.are) in
      record {
        kept = keeps-both old mid new to.kept keeps;
        typed = λ kinds types ts are_kinds are typed. (
            let (first, rest, e1, done, more) = to.typed kinds types ts are_kinds are typed in
            let (t, others, e2, x, xs) = first_typed (subst (λ z. HaveTypes (rule_context scene.table kinds types) z rest) here more) in (
              first ++ t ∷ [],
              others,
              e1 ∙ ap (λ z. first ++ z) e2 ∙ sym (append_assoc first (t ∷ []) others),
              subst (λ z. AreIn scene new z (first ++ t ∷ [])) (sym next_is)
                  (in_append scene new vs (v ∷ []) first (t ∷ []) (in_kept scene mid new vs first keeps done)
                  (in_one scene new v t (is.typed kinds types t are_kinds (in_kept scene old mid env types to.kept are) x))),
              xs,
            ));
        means = ap (λ z. pures scene new z ++ worths (pures scene old env) later) next_is
            ∙ ap (λ z. z ++ worths (pures scene old env) later) (pures-append scene new vs (v ∷ []))
            ∙ append_assoc (pures scene new vs) (pure_of scene.source scene.literals new v ∷ []) (worths (pures scene old env) later)
            ∙ ap (λ z. z ++ (pure_of scene.source scene.literals new v ∷ worths (pures scene old env) later)) (pures_kept scene mid new vs first0 keeps done0)
            ∙ ap (λ z. pures scene mid vs ++ (z ∷ worths (pures scene old env) later)) v_means
            ∙ ap (λ z. pures scene mid vs ++ worths (pures scene old env) z) (sym here)
            ∙ to.means;
      }

pub worth_end : (scene : Scene) (old new : List Cell) (env : List Value) (s l : List ℕ) (es : List Expr) (vs : List Value) (i : ℕ)
    → WorthTo scene old new env s l es vs i → length es ≤ i → AreWorth scene old new env (expressions_of (map (meaning s l) es)) vs
worth_end scene old new env s l es vs i to past =
    let none = drop_of_length-le es past in
    record {
      typed = λ kinds types ts are_kinds are typed. (let (first, rest, e1, done, more) = to.typed kinds types ts are_kinds are typed in
          let e2 = none_typed (subst (λ z. HaveTypes (rule_context scene.table kinds types) (expressions_of (map (meaning s l) z)) rest) none more) in
          subst (AreIn scene new vs) (sym (e1 ∙ ap (λ z. first ++ z) e2 ∙ append-nil first)) done);
      means = sym (append-nil (pures scene new vs)) ∙ ap (λ z. pures scene new vs ++ worths (pures scene old env) (expressions_of (map (meaning s l) z))) (sym none) ∙ to.means;
    }

pub ok_on : {A E : Type 0} (r : Result A E) (P Q : A → Type 0) → IfOk r P → ((v : A) → P v → Q v) → IfOk r Q
ok_on (Ok v) P Q is on = on v is
ok_on (Err e) P Q is on = tt
