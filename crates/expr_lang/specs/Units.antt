-- How many units of a store an evaluation takes at most.
use Rattle.std.specs.Prelude.{ℕ, ◌+◌}
use Rattle.expr_lang.specs.declared.expr.Function.{Function}
use Rattle.expr_lang.specs.declared.expr.Function.TheVariants as function
use Rattle.expr_lang.specs.Expression.{Expression, Expressions, number, truth, string, var, negative, negated, binary, if_then, call, make, no_expressions, and_expression}

-- how many units a function takes of a store
abbrev pub own_units : Function → ℕ
own_units function.Put = 1
own_units _ = 0

-- how many expressions a list has
abbrev pub count_of : Expressions → ℕ
count_of no_expressions = 0
count_of (and_expression a more) = count_of more + 1

-- how many units an expression takes at most: all branches counted
abbrev mutual
  pub units_of : Expression → ℕ
  units_of (number z) = 0
  units_of (truth b) = 0
  units_of (string bytes) = 0
  units_of (var i) = 0
  units_of (negative a) = units_of a
  units_of (negated a) = units_of a
  units_of (binary o a b) = units_of a + units_of b
  units_of (if_then c a b) = units_of c + units_of a + units_of b
  units_of (call f args) = units_of_all args + own_units f
  units_of (make n args) = units_of_all args + (1 + count_of args)

  pub units_of_all : Expressions → ℕ
  units_of_all no_expressions = 0
  units_of_all (and_expression a more) = units_of a + units_of_all more
