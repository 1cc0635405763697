-- The meanings of the forms of expressions.
use Rattle.std.proofs.Common.{◌≡◌, ap, sym, ◌∙◌, ℤ, ℕ, Bool, List, map}
use Rattle.std.specs.Borrow.{Bor}
use Rattle.value_store.specs.Texts.{text_of}
use Rattle.value_store.specs.declared.text.Text.{Text}
use Rattle.expr_lang.specs.Expression.{Expression, number, truth, string, var, negative, negated, binary, if_then, call, make}
use Rattle.expr_lang.specs.Meaning.{meaning, node_meaning, expressions_of}
use Rattle.expr_lang.specs.declared.expr.Op.{Op}
use Rattle.expr_lang.specs.declared.expr.Function.{Function}
use Rattle.expr_lang.specs.declared.expr.Expr.{Expr}
use Rattle.expr_lang.specs.declared.expr.Expr.TheVariants.{Int, Bool as Truth, Text as Str, Var, Neg, Not, Binary, If, Call, Make, rolls-Int, rolls-Bool, rolls-Text, rolls-Var, rolls-Neg, rolls-Not, rolls-Binary, rolls-If, rolls-Call, rolls-Make}
use Rattle.expr_lang.specs.declared.expr.Expr.TheOpen.{Expr-F}
use Rattle.expr_lang.specs.declared.expr.Expr.TheFolds.{fold-roll-Expr}

pub meaning-Int : (s l : List ℕ) (z : ℤ) → meaning s l (Int z) ≡ number z
meaning-Int s l z = ap (meaning s l) (sym (rolls-Int z)) ∙ fold-roll-Expr Expression (node_meaning s l) (Expr-F.Int z)

pub meaning-Bool : (s l : List ℕ) (b : Bool) → meaning s l (Truth b) ≡ truth b
meaning-Bool s l b = ap (meaning s l) (sym (rolls-Bool b)) ∙ fold-roll-Expr Expression (node_meaning s l) (Expr-F.Bool b)

pub meaning-Text : (s l : List ℕ) (t : Text) → meaning s l (Str t) ≡ string (text_of s l t)
meaning-Text s l t = ap (meaning s l) (sym (rolls-Text t)) ∙ fold-roll-Expr Expression (node_meaning s l) (Expr-F.Text t)

pub meaning-Var : (s l : List ℕ) (i : ℕ) → meaning s l (Var i) ≡ var i
meaning-Var s l i = ap (meaning s l) (sym (rolls-Var i)) ∙ fold-roll-Expr Expression (node_meaning s l) (Expr-F.Var i)

pub meaning-Neg : (s l : List ℕ) (a : Bor Expr) → meaning s l (Neg a) ≡ negative (meaning s l a.now)
meaning-Neg s l a = ap (meaning s l) (sym (rolls-Neg a)) ∙ fold-roll-Expr Expression (node_meaning s l) (Expr-F.Neg a)

pub meaning-Binary : (s l : List ℕ) (o : Op) (a b : Bor Expr) → meaning s l (Binary o a b) ≡ binary o (meaning s l a.now) (meaning s l b.now)
meaning-Binary s l o a b = ap (meaning s l) (sym (rolls-Binary o a b)) ∙ fold-roll-Expr Expression (node_meaning s l) (Expr-F.Binary o a b)

pub meaning-If : (s l : List ℕ) (c a b : Bor Expr) → meaning s l (If c a b) ≡ if_then (meaning s l c.now) (meaning s l a.now) (meaning s l b.now)
meaning-If s l c a b = ap (meaning s l) (sym (rolls-If c a b)) ∙ fold-roll-Expr Expression (node_meaning s l) (Expr-F.If c a b)

pub meaning-Call : (s l : List ℕ) (f : Function) (args : Bor (List Expr)) → meaning s l (Call f args) ≡ call f (expressions_of (map (meaning s l) args.now))
meaning-Call s l f args = ap (meaning s l) (sym (rolls-Call f args)) ∙ fold-roll-Expr Expression (node_meaning s l) (Expr-F.Call f args)

pub meaning-Not : (s l : List ℕ) (a : Bor Expr) → meaning s l (Not a) ≡ negated (meaning s l a.now)
meaning-Not s l a = ap (meaning s l) (sym (rolls-Not a)) ∙ fold-roll-Expr Expression (node_meaning s l) (Expr-F.Not a)

pub meaning-Make : (s l : List ℕ) (n : ℕ) (args : Bor (List Expr)) → meaning s l (Make n args) ≡ make n (expressions_of (map (meaning s l) args.now))
meaning-Make s l n args = ap (meaning s l) (sym (rolls-Make n args)) ∙ fold-roll-Expr Expression (node_meaning s l) (Expr-F.Make n args)
