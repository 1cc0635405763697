-- An expression as it is written, before its names are looked up.
use Rattle.std.specs.Prelude.{ℕ, ◌+◌, max, List, Bool}
use Rattle.expr_lang.specs.declared.expr.Op.{Op}

-- an expression, and a list of them
mutual
  pub data Spoken : Type 0 where
    number : ℕ → Spoken
    truth : Bool → Spoken
    string : List ℕ → Spoken
    name : List ℕ → Spoken
    -- `$n`
    dollar : ℕ → Spoken
    -- one name, `.`, and another
    pair : List ℕ → List ℕ → Spoken
    negative : Spoken → Spoken
    negated : Spoken → Spoken
    binary : Op → Spoken → Spoken → Spoken
    if_then : Spoken → Spoken → Spoken → Spoken
    -- a name before arguments in parentheses
    applied : List ℕ → SpokenList → Spoken
    -- one in parentheses
    grouped : Spoken → Spoken

  pub data SpokenList : Type 0 where
    no_spoken : SpokenList
    and_spoken : Spoken → SpokenList → SpokenList

-- what has parts has one more than the deepest of them; all else has 1
abbrev mutual
  pub nesting : Spoken → ℕ
  nesting (number n) = 1
  nesting (truth b) = 1
  nesting (string bytes) = 1
  nesting (name w) = 1
  nesting (dollar n) = 1
  nesting (pair v w) = 1
  nesting (negative a) = nesting a + 1
  nesting (negated a) = nesting a + 1
  nesting (binary o a b) = max (nesting a) (nesting b) + 1
  nesting (if_then c a b) = max (nesting c) (max (nesting a) (nesting b)) + 1
  nesting (applied w args) = deepest args + 1
  nesting (grouped a) = nesting a + 1

  pub deepest : SpokenList → ℕ
  deepest no_spoken = 0
  deepest (and_spoken a more) = max (nesting a) (deepest more)
