-- What the names of an expression stand for, and what the expression means.
use Rattle.std.specs.Prelude.{◌≡◌, ℕ, pos, Bool, false, ◌||◌, not, List, [], ◌∷◌, ◌++◌, Option, Some, None, is_some, codes, if◌then◌else◌, decimal, slice_index}
use Rattle.std.specs.Str.{bytes_eq}
use Rattle.value_store.specs.declared.value.ValType.{ValType}
use Rattle.ck_base.specs.Numbered.{number_of}
use Rattle.expr_lang.specs.Expression.{Expression, Expressions, no_expressions, and_expression}
use Rattle.expr_lang.specs.Expression as ex
use Rattle.expr_lang.specs.Typing.{Context, HasType}
use Rattle.expr_lang.specs.declared.expr.Function.{Function}
use Rattle.expr_lang.specs.declared.expr.Function.TheVariants as function
use Rattle.expr_read.specs.Spoken.{Spoken, SpokenList, number, truth, string, name, dollar, pair, negative, negated, binary, if_then, applied, grouped, no_spoken, and_spoken}

-- two words, and the number of the variable that they stand for
pub record Dotted : Type 0 where
  pub before : List ℕ
  pub after : List ℕ
  pub variable : ℕ

-- what an expression may name: variables by their names, makers by theirs, of which the types are in the same
-- order, and variables by two words
pub record Vocabulary : Type 0 where
  pub variables : List (List ℕ)
  pub makers : List (List ℕ)
  pub types : List ℕ
  pub dotted : List Dotted

-- the function of a name
abbrev pub function_of : List ℕ → Option Function
function_of w =
    if bytes_eq w (codes "text") then Some function.Text else
    if bytes_eq w (codes "line") then Some function.Line else
    if bytes_eq w (codes "col") then Some function.Col else
    if bytes_eq w (codes "int") then Some function.Int else
    if bytes_eq w (codes "empty") then Some function.Empty else
    if bytes_eq w (codes "put") then Some function.Put else
    if bytes_eq w (codes "get") then Some function.Get else
    if bytes_eq w (codes "has") then Some function.Has else
    if bytes_eq w (codes "size") then Some function.Size else
    None

-- the name of `$n`: the number is written without leading zeros
abbrev pub dollar_name : ℕ → List ℕ
dollar_name n = 36 ∷ decimal n

-- the variable of two words: the first one so called
abbrev pub paired : List Dotted → List ℕ → List ℕ → Option ℕ
paired [] v w = None
paired (d ∷ ds) v w = if bytes_eq d.before v then (if bytes_eq d.after w then Some d.variable else paired ds v w) else paired ds v w

-- an expression of parts, where each of them is there
abbrev pub of_one : (Expression → Expression) → Option Expression → Option Expression
of_one make None = None
of_one make (Some a) = Some (make a)

-- an expression made of two, where both are there
abbrev pub of_two : (Expression → Expression → Expression) → Option Expression → Option Expression → Option Expression
of_two make None b = None
of_two make (Some a) b = of_one (make a) b

-- an expression made of three, where all are there
abbrev pub of_three : (Expression → Expression → Expression → Expression) → Option Expression → Option Expression
    → Option Expression → Option Expression
of_three make None a b = None
of_three make (Some c) a b = of_two (make c) a b

-- an expression made of a list, where the list is there
abbrev pub of_all : (Expressions → Expression) → Option Expressions → Option Expression
of_all make None = None
of_all make (Some args) = Some (make args)

-- a list with one in front, where both are there
abbrev pub and_all : Option Expression → Option Expressions → Option Expressions
and_all None more = None
and_all (Some a) None = None
and_all (Some a) (Some more) = Some (and_expression a more)

-- a name before parentheses is that of a function, else that of a maker
abbrev pub applied_to : Vocabulary → Option Function → Option ℕ → Option Expressions → Option Expression
applied_to words (Some f) maker args = of_all (ex.call f) args
applied_to words None (Some k) args = of_all (ex.make (slice_index words.types k)) args
applied_to words None None args = None

-- the variable of a number, where there is one
abbrev pub var_of : Option ℕ → Option Expression
var_of None = None
var_of (Some i) = Some (ex.var i)

-- the expression with each name what it stands for; None where one stands for nothing. Of equal names the first
-- one counts
abbrev mutual
  pub resolved : Vocabulary → Spoken → Option Expression
  resolved words (number n) = Some (ex.number (pos n))
  resolved words (truth b) = Some (ex.truth b)
  resolved words (string bytes) = Some (ex.string bytes)
  resolved words (name w) = var_of (number_of words.variables w)
  resolved words (dollar n) = var_of (number_of words.variables (dollar_name n))
  resolved words (pair v w) = var_of (paired words.dotted v w)
  resolved words (negative a) = of_one ex.negative (resolved words a)
  resolved words (negated a) = of_one ex.negated (resolved words a)
  resolved words (binary o a b) = of_two (ex.binary o) (resolved words a) (resolved words b)
  resolved words (if_then c a b) = of_three ex.if_then (resolved words c) (resolved words a) (resolved words b)
  resolved words (applied w args) =
      applied_to words (function_of w) (number_of words.makers w) (resolved_all words args)
  resolved words (grouped a) = resolved words a

  pub resolved_all : Vocabulary → SpokenList → Option Expressions
  resolved_all words no_spoken = Some no_expressions
  resolved_all words (and_spoken a more) = and_all (resolved words a) (resolved_all words more)

-- whether one of these names, or of the functions, is called so
abbrev pub is_applicable : List (List ℕ) → List ℕ → Bool
is_applicable makers w = is_some (function_of w) || is_some (number_of makers w)

-- whether a name before parentheses is neither that of a function nor one of these
abbrev mutual
  pub has_unknown : List (List ℕ) → Spoken → Bool
  has_unknown makers (number n) = false
  has_unknown makers (truth b) = false
  has_unknown makers (string bytes) = false
  has_unknown makers (name w) = false
  has_unknown makers (dollar n) = false
  has_unknown makers (pair v w) = false
  has_unknown makers (negative a) = has_unknown makers a
  has_unknown makers (negated a) = has_unknown makers a
  has_unknown makers (binary o a b) = has_unknown makers a || has_unknown makers b
  has_unknown makers (if_then c a b) = has_unknown makers c || (has_unknown makers a || has_unknown makers b)
  has_unknown makers (applied w args) = not (is_applicable makers w) || has_unknown_all makers args
  has_unknown makers (grouped a) = has_unknown makers a

  pub has_unknown_all : List (List ℕ) → SpokenList → Bool
  has_unknown_all makers no_spoken = false
  has_unknown_all makers (and_spoken a more) = has_unknown makers a || has_unknown_all makers more

-- the expression means this one, of this type
pub record Means (words : Vocabulary) (context : Context) (e : Spoken) (x : Expression) (t : ValType) : Type 0 where
  pub is : resolved words e ≡ Some x
  pub typed : HasType context x t

-- it means none: a name stands for nothing, or there is no type
abbrev pub MeansNothing : Vocabulary → Context → Spoken → Type 0
MeansNothing words context e = (x : Expression) (t : ValType) → Means words context e x t → ⊥
