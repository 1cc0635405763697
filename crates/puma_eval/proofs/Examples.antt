-- The definitions on cases where wrong readings differ.
use Rattle.std.proofs.Common.{ℕ, pos, ◌<◌, List, [], ◌∷◌, Err, refl, arith}
use Rattle.value_store.specs.declared.value.ValType.TheVariants as ty
use Rattle.expr_lang.specs.PureValues.{PureValue, int}
use Rattle.puma_model.specs.Comes.{Program, Reply, no_rule, Comes, called, no_rule_left}
use Rattle.puma_eval.specs.Answers.{Answers}
use Rattle.puma_eval.specs.declared.results.RewriteError.TheVariants as error

-- a routine without rules: a call of it comes to no rule, in one call
abbrev bare : Program
bare = record {
  scene = record { table = record { families = []; types = [] }; nodes = []; source = []; literals = [] };
  attribute = λ n a. int (pos 0);
  routines = record { params = []; answer = ty.Int; rules = [] } ∷ [];
}

comes_to_none : Comes bare 0 [] (no_rule 0) 1
comes_to_none = called 0 [] 0 (no_rule 0) (no_rule_left 0 [])

-- a reply that takes the whole budget is given, and the budget isn't spent then
one_call_in_one : Answers bare [] 0 [] 1 (Err (error.NoRule 0 1))
one_call_in_one = (comes_to_none, omega arith)

not_spent_in_one : Answers bare [] 0 [] 1 (Err (error.SpentBudget 1)) → ⊥
not_spent_in_one (same, none) = let more = none (no_rule 0) 1 comes_to_none in absurd (omega (arith, more))

-- one that takes more isn't given, and the budget is spent
not_one_in_none : Answers bare [] 0 [] 0 (Err (error.NoRule 0 1)) → ⊥
not_one_in_none (comes, within) = absurd (omega (arith, within))

some_call : {p : Program} {q k : ℕ} {args : List PureValue} {r : Reply} → Comes p q args r k → 0 < k
some_call (called q args k r tries) = omega arith

spent_in_none : Answers bare [] 0 [] 0 (Err (error.SpentBudget 0))
spent_in_none = (refl, λ r k comes. some_call comes)
