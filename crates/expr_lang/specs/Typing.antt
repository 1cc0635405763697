-- Which type an expression has, if any.
use Rattle.std.specs.Prelude.{◌≡◌, ℕ, ℤ, List, [], ◌∷◌, Bool, false, Option, Some, None, slice_get, if◌then◌else◌, nat_eq}
use Rattle.value_store.specs.PlainTypes.{IsPlain}
use Rattle.value_store.specs.declared.value.ValType.{ValType}
use Rattle.value_store.specs.declared.value.ValType.TheVariants as ty
use Rattle.expr_lang.specs.declared.expr.Op.{Op}
use Rattle.expr_lang.specs.declared.expr.Op.TheVariants as op
use Rattle.expr_lang.specs.declared.expr.Function.{Function}
use Rattle.expr_lang.specs.declared.expr.Function.TheVariants as function
use Rattle.expr_lang.specs.declared.expr.Maker.{Maker}
use Rattle.expr_lang.specs.Expression.{Expression, Expressions, number, truth, string, var, negative, negated, binary, if_then, call, make, no_expressions, and_expression}

-- what an expression stands in: the types of variables, the makers, and which nodes of the source tree are of which family
pub record Context : Type 0 where
  pub vars : List ValType
  pub makers : List Maker
  pub sources : ℕ → ℕ → Bool

-- no node of the source tree is of the family: its nodes are made
abbrev pub IsMadeFamily : (ℕ → ℕ → Bool) → ℕ → Type 0
IsMadeFamily sources f = (n : ℕ) → sources n f ≡ false

-- the first maker of a type
abbrev pub maker_of : List Maker → ℕ → Option Maker
maker_of [] ty = None
maker_of (m ∷ ms) ty = if nat_eq m.ty ty then Some m else maker_of ms ty

-- the operator takes two operands of a type, and gives another
pub data Takes : Op → ValType → ValType → Type 0 where
  or_takes : Takes op.Or ty.Bool ty.Bool
  and_takes : Takes op.And ty.Bool ty.Bool
  equal_takes : (t : ValType) → IsPlain t → Takes op.Equal t ty.Bool
  differ_takes : (t : ValType) → IsPlain t → Takes op.Differ t ty.Bool
  less_takes : Takes op.Less ty.Int ty.Bool
  at_most_takes : Takes op.AtMost ty.Int ty.Bool
  greater_takes : Takes op.Greater ty.Int ty.Bool
  at_least_takes : Takes op.AtLeast ty.Int ty.Bool
  plus_takes : Takes op.Plus ty.Int ty.Int
  minus_takes : Takes op.Minus ty.Int ty.Int
  times_takes : Takes op.Times ty.Int ty.Int
  quotient_takes : Takes op.Quotient ty.Int ty.Int
  remainder_takes : Takes op.Remainder ty.Int ty.Int

-- what a function takes, and what it gives
abbrev pub takes : Function → List ValType
takes function.Text = ty.Token ∷ []
takes function.Line = ty.Token ∷ []
takes function.Col = ty.Token ∷ []
takes function.Int = ty.Text ∷ []
takes function.Empty = []
takes function.Put = ty.Map ∷ ty.Text ∷ ty.Int ∷ []
takes function.Get = ty.Map ∷ ty.Text ∷ ty.Int ∷ []
takes function.Has = ty.Map ∷ ty.Text ∷ []
takes function.Size = ty.Map ∷ []

-- the type of what a function gives
abbrev pub gives : Function → ValType
gives function.Text = ty.Text
gives function.Line = ty.Int
gives function.Col = ty.Int
gives function.Int = ty.Int
gives function.Empty = ty.Map
gives function.Put = ty.Map
gives function.Get = ty.Int
gives function.Has = ty.Bool
gives function.Size = ty.Int

-- the expression has the type, where the variables have theirs
mutual
  pub data HasType (scope : Context) : Expression → ValType → Type 0 where
    a_number : (z : ℤ) → HasType scope (number z) ty.Int
    a_truth : (b : Bool) → HasType scope (truth b) ty.Bool
    a_string : (bytes : List ℕ) → HasType scope (string bytes) ty.Text
    a_var : (i : ℕ) (t : ValType) → slice_get scope.vars i ≡ Some t → HasType scope (var i) t
    a_negative : (a : Expression) → HasType scope a ty.Int → HasType scope (negative a) ty.Int
    a_negated : (a : Expression) → HasType scope a ty.Bool → HasType scope (negated a) ty.Bool
    a_binary : (o : Op) (a b : Expression) (t u : ValType) → Takes o t u → HasType scope a t → HasType scope b t → HasType scope (binary o a b) u
    an_if : (c a b : Expression) (t : ValType) → HasType scope c ty.Bool → HasType scope a t → HasType scope b t → HasType scope (if_then c a b) t
    a_call : (f : Function) (args : Expressions) (ts : List ValType) (t : ValType) → ts ≡ takes f → t ≡ gives f → HaveTypes scope args ts → HasType scope (call f args) t
    a_make : (n : ℕ) (args : Expressions) (m : Maker) (ts : List ValType) (t : ValType) → maker_of scope.makers n ≡ Some m → ts ≡ m.items.items → t ≡ ty.Node m.family
        → HaveTypes scope args ts → HasType scope (make n args) t

  pub data HaveTypes (scope : Context) : Expressions → List ValType → Type 0 where
    none_left : HaveTypes scope no_expressions []
    one_left : (a : Expression) (more : Expressions) (t : ValType) (ts : List ValType) → HasType scope a t → HaveTypes scope more ts → HaveTypes scope (and_expression a more) (t ∷ ts)
