-- Values of their types, one by one.
use Rattle.std.proofs.Common.{◌≡◌, ℕ, zero, suc, Bool, List, [], ◌∷◌, ◌++◌, length, drop, Some, refl, sym, ap, subst, arith}
use Rattle.std.specs.Prelude.{slice_get}
use Rattle.value_store.specs.Cells.{Cell}
use Rattle.value_store.specs.declared.value.Value.{Value}
use Rattle.value_store.specs.declared.value.ValType.{ValType}
use Rattle.expr_lang.specs.Evaluated.{Keeps}
use Rattle.expr_lang.specs.OfType.{IsOf, AreOf, no_values, and_value}
use Rattle.expr_lang.specs.PureOf.{pure_of}
use Rattle.expr_lang.specs.PureValues.{PureValue}
use Rattle.expr_lang.proofs.Evaluates.{is-kept, pure_of-kept, are-kept, values-kept}
use Rattle.puma_model.specs.Scene.{Scene}
use Rattle.puma_model.specs.Typed.{IsOfType, AreTyped, no_typed, and_typed, AreIn, IsIn, pures}

pub pures-append : (scene : Scene) (cells : List Cell) (xs ys : List Value) → pures scene cells (xs ++ ys) ≡ pures scene cells xs ++ pures scene cells ys
pures-append scene cells [] ys = refl
pures-append scene cells (x ∷ xs) ys = ap (λ z. pure_of scene.source scene.literals cells x ∷ z) (pures-append scene cells xs ys)

pub length-pures : (scene : Scene) (cells : List Cell) (xs : List Value) → length (pures scene cells xs) ≡ length xs
length-pures scene cells [] = refl
length-pures scene cells (x ∷ xs) = let e = length-pures scene cells xs in omega (arith, e)

of_append : {k : ℕ → ℕ → Bool} {cells : List Cell} (xs ys : List Value) (ts us : List ValType) → AreOf k cells xs ts → AreOf k cells ys us → AreOf k cells (xs ++ ys) (ts ++ us)
of_append _ ys _ us no_values more = more
of_append _ ys _ us (and_value v vs t ts is are) more = and_value v (vs ++ ys) t (ts ++ us) is (of_append vs ys ts us are more)

pub typed_append : (scene : Scene) (xs ys : List PureValue) (ts us : List ValType) → AreTyped scene xs ts → AreTyped scene ys us → AreTyped scene (xs ++ ys) (ts ++ us)
typed_append scene _ ys _ us no_typed more = more
typed_append scene _ ys _ us (and_typed v vs t ts is are) more = and_typed v (vs ++ ys) t (ts ++ us) is (typed_append scene vs ys ts us are more)

pub in_append : (scene : Scene) (cells : List Cell) (xs ys : List Value) (ts us : List ValType) → AreIn scene cells xs ts → AreIn scene cells ys us
    → AreIn scene cells (xs ++ ys) (ts ++ us)
in_append scene cells xs ys ts us a b = record {
  are = of_append xs ys ts us a.are b.are;
  typed = subst (λ z. AreTyped scene z (ts ++ us)) (sym (pures-append scene cells xs ys))
      (typed_append scene (pures scene cells xs) (pures scene cells ys) ts us a.typed b.typed);
}

pub in_none : (scene : Scene) (cells : List Cell) → AreIn scene cells [] []
in_none scene cells = record { are = no_values; typed = no_typed }

pub in_one : (scene : Scene) (cells : List Cell) (v : Value) (t : ValType) → IsIn scene cells v t → AreIn scene cells (v ∷ []) (t ∷ [])
in_one scene cells v t is = record { are = and_value v [] t [] is.is no_values; typed = and_typed _ [] t [] is.typed no_typed }

of_head : {k : ℕ → ℕ → Bool} {cells : List Cell} {v : Value} {vs : List Value} {t : ValType} {ts : List ValType} → AreOf k cells (v ∷ vs) (t ∷ ts)
    → IsOf k cells v t × AreOf k cells vs ts
of_head (and_value v vs t ts is are) = (is, are)

typed_head : {scene : Scene} {v : PureValue} {vs : List PureValue} {t : ValType} {ts : List ValType} → AreTyped scene (v ∷ vs) (t ∷ ts)
    → IsOfType scene v t × AreTyped scene vs ts
typed_head (and_typed v vs t ts is are) = (is, are)

pub in_head : (scene : Scene) (cells : List Cell) (v : Value) (vs : List Value) (t : ValType) (ts : List ValType) → AreIn scene cells (v ∷ vs) (t ∷ ts)
    → IsIn scene cells v t × AreIn scene cells vs ts
in_head scene cells v vs t ts a =
    let (x, xs) = of_head a.are in
    let (y, ys) = typed_head a.typed in
    (record { is = x; typed = y }, record { are = xs; typed = ys })

of_length : {k : ℕ → ℕ → Bool} {cells : List Cell} {vs : List Value} {ts : List ValType} → AreOf k cells vs ts → length vs ≡ length ts
of_length no_values = refl
of_length (and_value v vs t ts is are) = let e = of_length are in omega (arith, e)

pub in_length : (scene : Scene) (cells : List Cell) (vs : List Value) (ts : List ValType) → AreIn scene cells vs ts → length vs ≡ length ts
in_length scene cells vs ts a = of_length a.are

-- values from a place on, and the one at a place
pub in_at : (scene : Scene) (cells : List Cell) (vs : List Value) (ts : List ValType) (i : ℕ) (v : Value) (t : ValType) → AreIn scene cells vs ts
    → slice_get vs i ≡ Some v → slice_get ts i ≡ Some t → IsIn scene cells v t
in_at scene cells [] ts i v t a is of = cc
in_at scene cells (x ∷ vs) [] i v t a is of = cc
in_at scene cells (x ∷ vs) (u ∷ ts) zero v t a is of =
    let e : x ≡ v = cc in let f : u ≡ t = cc in subst (IsIn scene cells v) f (subst (λ z. IsIn scene cells z u) e (in_head scene cells x vs u ts a).0)
in_at scene cells (x ∷ vs) (u ∷ ts) (suc i) v t a is of = in_at scene cells vs ts i v t (in_head scene cells x vs u ts a).1 is of

pub in_drop : (scene : Scene) (cells : List Cell) (vs : List Value) (ts : List ValType) (i : ℕ) → AreIn scene cells vs ts
    → AreIn scene cells (drop i vs) (drop i ts)
in_drop scene cells vs ts zero a = a
in_drop scene cells [] [] (suc i) a = a
in_drop scene cells (x ∷ vs) (u ∷ ts) (suc i) a = in_drop scene cells vs ts i (in_head scene cells x vs u ts a).1
in_drop scene cells [] (u ∷ ts) (suc i) a = let e = in_length scene cells [] (u ∷ ts) a in absurd (omega (arith, e))
in_drop scene cells (x ∷ vs) [] (suc i) a = let e = in_length scene cells (x ∷ vs) [] a in absurd (omega (arith, e))

-- cells that are added change nothing
pub in_kept : (scene : Scene) (old new : List Cell) (vs : List Value) (ts : List ValType) → Keeps old new → AreIn scene old vs ts → AreIn scene new vs ts
in_kept scene old new vs ts keeps a = record {
  are = are-kept vs ts keeps a.are;
  typed = subst (λ z. AreTyped scene z ts) (sym (values-kept scene.source scene.literals vs ts keeps a.are)) a.typed;
}

pub pures_kept : (scene : Scene) (old new : List Cell) (vs : List Value) (ts : List ValType) → Keeps old new → AreIn scene old vs ts
    → pures scene new vs ≡ pures scene old vs
pures_kept scene old new vs ts keeps a = values-kept scene.source scene.literals vs ts keeps a.are

pub one_kept : (scene : Scene) (old new : List Cell) (v : Value) (t : ValType) → Keeps old new → IsIn scene old v t → IsIn scene new v t
one_kept scene old new v t keeps a = record {
  is = is-kept v t keeps a.is;
  typed = subst (λ z. IsOfType scene z t) (sym (pure_of-kept scene.source scene.literals v t keeps a.is)) a.typed;
}
