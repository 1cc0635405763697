-- What expressions of the program mean, where there are some. Only contracts within the crate cite this.
use Rattle.std.specs.Prelude.{◌≡◌, ℕ, ◌++◌, List, map, Option, Some, None}
use Rattle.std.specs.Borrow.{Bor}
use Rattle.expr_lang.specs.Expression.{Expression, Expressions}
use Rattle.expr_lang.specs.Meaning.{meaning, expressions_of}
use Rattle.expr_lang.specs.declared.expr.Expr.{Expr}

-- the meaning of an expression, where there is one
abbrev pub meaning_in : List ℕ → List ℕ → Option Expr → Option Expression
meaning_in source literals None = None
meaning_in source literals (Some e) = Some (meaning source literals e)

-- the meanings of expressions, where there are some
abbrev pub meanings_in : List ℕ → List ℕ → Option (Bor (List Expr)) → Option Expressions
meanings_in source literals None = None
meanings_in source literals (Some es) = Some (expressions_of (map (meaning source literals) es.now))

-- the expression means this, whatever the source is and whatever is put behind the literals
abbrev pub AlwaysMeans : List ℕ → Option Expr → Option Expression → Type 0
AlwaysMeans literals found wanted = (source more : List ℕ) → meaning_in source (literals ++ more) found ≡ wanted

-- the expressions mean these, whatever the source is and whatever is put behind the literals
abbrev pub AlwaysMeanAll : List ℕ → Option (Bor (List Expr)) → Option Expressions → Type 0
AlwaysMeanAll literals found wanted = (source more : List ℕ) → meanings_in source (literals ++ more) found ≡ wanted
