-- An expression has one type at most.
use Rattle.std.proofs.Common.{◌≡◌, ℕ, List, [], ◌∷◌, refl, sym, ap, ◌∙◌, subst, Option, Some, None, map, length, arith, suc, zero}
use Rattle.expr_lang.specs.Meaning.{meaning, expressions_of}
use Rattle.expr_lang.specs.declared.expr.Expr.{Expr}
use Rattle.std.specs.Prelude.{slice_get, MatchOption}
use Rattle.expr_lang.specs.declared.expr.Op.{Op}
use Rattle.expr_lang.specs.declared.expr.Maker.{Maker}
use Rattle.expr_lang.specs.declared.expr.Function.{Function}
use Rattle.value_store.specs.declared.value.ValType.TheVariants as ty
use Rattle.expr_lang.specs.Expression.{Expression, Expressions, negative, negated, binary, if_then, call, make, var}
use Rattle.expr_lang.specs.Typing.{Context, maker_of, takes, Takes, or_takes, and_takes, equal_takes, differ_takes, less_takes, at_most_takes, greater_takes, at_least_takes, plus_takes, minus_takes, times_takes, quotient_takes, remainder_takes, HasType, HaveTypes, a_number, a_truth, a_string, a_var, a_negative, a_negated, a_binary, an_if, a_call, a_make, none_left, one_left}
use Rattle.value_store.specs.declared.value.ValType.{ValType}

pub same_type : {a b : ValType} → Some a ≡ Some b → a ≡ b
same_type e = cc

pub takes_one : (o : Op) (t t2 u v : ValType) → Takes o t u → Takes o t2 v → u ≡ v
takes_one _ _ _ _ _ or_takes or_takes = refl
takes_one _ _ _ _ _ and_takes and_takes = refl
takes_one _ _ _ _ _ (equal_takes _ _) (equal_takes _ _) = refl
takes_one _ _ _ _ _ (differ_takes _ _) (differ_takes _ _) = refl
takes_one _ _ _ _ _ less_takes less_takes = refl
takes_one _ _ _ _ _ at_most_takes at_most_takes = refl
takes_one _ _ _ _ _ greater_takes greater_takes = refl
takes_one _ _ _ _ _ at_least_takes at_least_takes = refl
takes_one _ _ _ _ _ plus_takes plus_takes = refl
takes_one _ _ _ _ _ minus_takes minus_takes = refl
takes_one _ _ _ _ _ times_takes times_takes = refl
takes_one _ _ _ _ _ quotient_takes quotient_takes = refl
takes_one _ _ _ _ _ remainder_takes remainder_takes = refl

same_maker : {m n : Maker} → Some m ≡ Some n → m ≡ n
same_maker e = cc

pub one_type : (vars : Context) (e : Expression) (t u : ValType) → HasType vars e t → HasType vars e u → t ≡ u
one_type vars _ _ u (a_number _) (a_number _) = refl
one_type vars _ _ u (a_truth _) (a_truth _) = refl
one_type vars _ _ u (a_string _) (a_string _) = refl
one_type vars _ _ u (a_var i t is) (a_var _ _ js) = same_type (sym is ∙ js)
one_type vars _ _ u (a_negative _ _) (a_negative _ _) = refl
one_type vars _ _ u (a_negated _ _) (a_negated _ _) = refl
one_type vars _ _ u (a_binary o a b t r p _ _) (a_binary _ _ _ t2 r2 q _ _) = takes_one o t t2 r r2 p q
one_type vars _ _ u (an_if c a b t _ x _) (an_if _ _ _ _ _ y _) = one_type vars a t u x y
one_type vars _ _ u (a_call f args ts t p q _) (a_call _ _ _ _ _ s _) = q ∙ sym s
one_type vars _ _ u (a_make n args m ts t at is of _) (a_make _ _ m2 ts2 t2 at2 is2 of2 _) = of ∙ ap (λ x. ty.Node x.family) (same_maker (sym at ∙ at2)) ∙ sym of2

pub not_inv : (vars : Context) (a : Expression) (t : ValType) → HasType vars (negated a) t → HasType vars a ty.Bool
not_inv vars a _ (a_negated _ x) = x

pub neg_inv : (vars : Context) (a : Expression) (t : ValType) → HasType vars (negative a) t → HasType vars a ty.Int
neg_inv vars a _ (a_negative _ x) = x

pub record Binary (vars : Context) (o : Op) (a b : Expression) (u : ValType) : Type 0 where
  pub of : ValType
  pub takes : Takes o of u
  pub left : HasType vars a of
  pub right : HasType vars b of

pub bin_inv : (vars : Context) (o : Op) (a b : Expression) (t : ValType) → HasType vars (binary o a b) t → Binary vars o a b t
bin_inv vars o a b t (a_binary _ _ _ u _ e x y) = record { of = u; takes = e; left = x; right = y }

pub binary_result : (vars : Context) (o : Op) (a b : Expression) (t : ValType) (result : Option ValType) → HasType vars a t → HasType vars b t
    → MatchOption result ((u : ValType) → Takes o t u → ⊥) (Takes o t) → MatchOption result ((u : ValType) → HasType vars (binary o a b) u → ⊥) (HasType vars (binary o a b))
binary_result vars o a b t (Some u) x y is = a_binary o a b t u is x y
binary_result vars o a b t None x y never = λ u typed. (let inv = bin_inv vars o a b u typed in never u (subst (λ q. Takes o q u) (one_type vars a inv.of t inv.left x) inv.takes))

pub make_inv : (vars : Context) (n : ℕ) (args : Expressions) (t : ValType) (m : Maker) → maker_of vars.makers n ≡ Some m → HasType vars (make n args) t → HaveTypes vars args m.items.items
make_inv vars n args t m at (a_make _ _ m2 ts _ at2 is of x) = subst (HaveTypes vars args) (is ∙ ap (λ q. q.items.items) (same_maker (sym at2 ∙ at))) x

pub if_inv : (vars : Context) (c a b : Expression) (t : ValType) → HasType vars (if_then c a b) t → HasType vars c ty.Bool × HasType vars a t × HasType vars b t
if_inv vars c a b t (an_if _ _ _ _ x y z) = (x, y, z)

pub call_inv : (vars : Context) (f : Function) (args : Expressions) (t : ValType) → HasType vars (call f args) t → HaveTypes vars args (takes f)
call_inv vars f args t (a_call _ _ ts _ e _ x) = subst (HaveTypes vars args) e x

pub var_inv : (vars : Context) (i : ℕ) (t : ValType) → HasType vars (var i) t → slice_get vars.vars i ≡ Some t
var_inv vars i t (a_var _ _ is) = is

pub var_result : (vars : Context) (i : ℕ) (result : Option ValType) → result ≡ slice_get vars.vars i → MatchOption result ((t : ValType) → HasType vars (var i) t → ⊥) (HasType vars (var i))
var_result vars i (Some t) is = a_var i t (sym is)
var_result vars i None is = λ t typed. (let e = is ∙ var_inv vars i t typed in cc)

pub pick_type : (s l : List ℕ) (vars : Context) (args : List Expr) (ts : List ValType) (k : ℕ) (x : Expr) (t : ValType) → HaveTypes vars (expressions_of (map (meaning s l) args)) ts → slice_get args k ≡ Some x → slice_get ts k ≡ Some t → HasType vars (meaning s l x) t
pick_type s l vars [] _ k x t none_left is at = (cc)
pick_type s l vars (a ∷ args) _ zero x t (one_left _ _ u us one more) is at =
    let same : u ≡ t = same_type at in let which : a ≡ x = cc in subst (λ e. HasType vars (meaning s l e) t) which (subst (HasType vars (meaning s l a)) same one)
pick_type s l vars (a ∷ args) _ (suc k) x t (one_left _ _ u us one more) is at = pick_type s l vars args us k x t more is at

pub all_types : (s l : List ℕ) (vars : Context) (args : List Expr) (ts : List ValType) → length args ≡ length ts
    → ((k : ℕ) (x : Expr) (t : ValType) → slice_get args k ≡ Some x → slice_get ts k ≡ Some t → HasType vars (meaning s l x) t) → HaveTypes vars (expressions_of (map (meaning s l) args)) ts
all_types s l vars [] [] long each = none_left
all_types s l vars [] (t ∷ ts) long each = absurd (omega (arith, long))
all_types s l vars (a ∷ args) [] long each = absurd (omega (arith, long))
all_types s l vars (a ∷ args) (t ∷ ts) long each = one_left _ _ t ts (each 0 a t refl refl) (all_types s l vars args ts (omega (arith, long)) (λ k x u is at. each (suc k) x u is at))

pub same_Some_of : {x y : Expr} → Some x ≡ Some y → x ≡ y
same_Some_of e = cc
