-- Expressions as pure trees, with the bytes of their strings.
use Rattle.std.specs.Prelude.{ℕ, ℤ, List, Bool}
use Rattle.expr_lang.specs.declared.expr.Op.{Op}
use Rattle.expr_lang.specs.declared.expr.Function.{Function}

-- an expression, and a list of them
mutual
  pub data Expression : Type 0 where
    number : ℤ → Expression
    truth : Bool → Expression
    string : List ℕ → Expression
    var : ℕ → Expression
    negative : Expression → Expression
    negated : Expression → Expression
    binary : Op → Expression → Expression → Expression
    if_then : Expression → Expression → Expression → Expression
    call : Function → Expressions → Expression
    make : ℕ → Expressions → Expression

  pub data Expressions : Type 0 where
    no_expressions : Expressions
    and_expression : Expression → Expressions → Expressions
