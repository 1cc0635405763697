-- What an expression of the program means.
use Rattle.std.specs.Prelude.{ℕ, List, [], ◌∷◌, map, Bool, Option, MatchOption}
use Rattle.value_store.specs.Texts.{text_of}
use Rattle.value_store.specs.declared.text.Text.{Text}
use Rattle.value_store.specs.declared.value.ValType.{ValType}
use Rattle.value_store.specs.declared.text.Texts.{Texts}
use Rattle.expr_lang.specs.Expression.{Expression, Expressions, number, truth, string, var, negative, negated, binary, if_then, call, make, no_expressions, and_expression}
use Rattle.expr_lang.specs.Typing.{Context, HasType}
use Rattle.expr_lang.specs.ValueOf.{Tokens}
use Rattle.expr_lang.specs.declared.expr.Scope.{Scope}
use Rattle.expr_lang.specs.declared.expr.Expr.{Expr}
use Rattle.expr_lang.specs.declared.expr.Expr.TheOpen.{Expr-F}
use Rattle.expr_lang.specs.declared.expr.Expr.TheFolds.{fold-Expr}

-- a list of expressions as the arguments of one
abbrev pub expressions_of : List Expression → Expressions
expressions_of [] = no_expressions
expressions_of (e ∷ es) = and_expression e (expressions_of es)

-- the meaning of an expression from those of its parts, with the bytes of texts
abbrev pub node_meaning : List ℕ → List ℕ → Expr-F Expression → Expression
node_meaning source literals (Expr-F.Int z) = number z
node_meaning source literals (Expr-F.Bool b) = truth b
node_meaning source literals (Expr-F.Text t) = string (text_of source literals t)
node_meaning source literals (Expr-F.Var i) = var i
node_meaning source literals (Expr-F.Neg a) = negative a.now
node_meaning source literals (Expr-F.Not a) = negated a.now
node_meaning source literals (Expr-F.Binary o a b) = binary o a.now b.now
node_meaning source literals (Expr-F.If c a b) = if_then c.now a.now b.now
node_meaning source literals (Expr-F.Call f parts) = call f (expressions_of parts.now)
node_meaning source literals (Expr-F.Make n parts) = make n (expressions_of parts.now)

-- the pure expression of one whose literals are spans
abbrev pub meaning : List ℕ → List ℕ → Expr → Expression
meaning source literals = fold-Expr Expression (node_meaning source literals)

-- the tokens that have these texts and places
abbrev pub tokens_of : List ℕ → List ℕ → List Text → List (ℕ × ℕ) → Tokens
tokens_of source literals spans places = record { texts = map (text_of source literals) spans; places = places }

-- a scope of the program; which nodes of the source tree are of which family it doesn't say
abbrev pub context_of : Scope → (ℕ → ℕ → Bool) → Context
context_of scope sources = record { vars = scope.vars.now; makers = scope.makers.now; sources = sources }

-- the meaning of an expression whose strings lie in these texts
abbrev pub meant : Texts → Expr → Expression
meant texts e = meaning texts.source.now texts.literals.now e

-- the pure expressions of those of the program
abbrev pub meant_all : Texts → List Expr → Expressions
meant_all texts es = expressions_of (map (meaning texts.source.now texts.literals.now) es)

-- the tokens whose spans lie in these texts
abbrev pub tokens_in : Texts → List Text → List (ℕ × ℕ) → Tokens
tokens_in texts spans places = tokens_of texts.source.now texts.literals.now spans places

-- the type that was found is one of the expression; None where it has none. Whatever texts its strings
-- lie in and whatever the source tree is, the answer is the same
abbrev pub IsTypeOf : Scope → Expr → Option ValType → Type 0
IsTypeOf scope e found = (source literals : List ℕ) (sources : ℕ → ℕ → Bool)
    → MatchOption found ((t : ValType) → HasType (context_of scope sources) (meaning source literals e) t → ⊥)
    (HasType (context_of scope sources) (meaning source literals e))
