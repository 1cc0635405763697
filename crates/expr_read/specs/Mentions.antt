-- The variables that an expression as it is written names.
use Rattle.std.specs.Prelude.{ℕ, List, [], ◌∷◌, ◌++◌}
use Rattle.expr_read.specs.Spoken.{Spoken, SpokenList, number, truth, string, name, dollar, pair, negative, negated, binary, if_then, applied, grouped, no_spoken, and_spoken}

-- a variable as it is named: by one name, by `$` and a number, or by two names with `.` between
pub data Named : Type 0 where
  by_name : List ℕ → Named
  by_dollar : ℕ → Named
  by_pair : List ℕ → List ℕ → Named

-- the variables that an expression names, from left to right, each as often as it stands there; the names before
-- parentheses are none
abbrev mutual
  pub named_in : Spoken → List Named
  named_in (number n) = []
  named_in (truth b) = []
  named_in (string bytes) = []
  named_in (name w) = by_name w ∷ []
  named_in (dollar n) = by_dollar n ∷ []
  named_in (pair v w) = by_pair v w ∷ []
  named_in (negative a) = named_in a
  named_in (negated a) = named_in a
  named_in (binary o a b) = named_in a ++ named_in b
  named_in (if_then c a b) = named_in c ++ (named_in a ++ named_in b)
  named_in (applied w args) = named_in_all args
  named_in (grouped a) = named_in a

  pub named_in_all : SpokenList → List Named
  named_in_all no_spoken = []
  named_in_all (and_spoken a more) = named_in a ++ named_in_all more

-- the numbers behind `$` among them
abbrev pub numbers_among : List Named → List ℕ
numbers_among [] = []
numbers_among (by_name w ∷ more) = numbers_among more
numbers_among (by_dollar n ∷ more) = n ∷ numbers_among more
numbers_among (by_pair v w ∷ more) = numbers_among more

-- the numbers behind `$` in an expression, from left to right
abbrev pub dollars_in : Spoken → List ℕ
dollars_in e = numbers_among (named_in e)
