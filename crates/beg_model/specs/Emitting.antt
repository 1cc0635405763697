-- What rules hold and emit, as the reader gives it.
use Rattle.std.specs.Prelude.{◌≡◌, ℕ, ◌+◌, ◌<◌, ◌≤◌, List, [], ◌∷◌, ◌++◌, length, true, Some, slice_get}
use Rattle.beg_model.specs.Rules.{Pattern, Patterns, leaf, tree, no_pattern, and_pattern, Emitted, bytes, own_register, operand, field, Rule, Rules}
use Rattle.beg_model.specs.declared.rules.Holding.{Holding}
use Rattle.beg_model.specs.declared.rules.Holding.TheVariants.{Class, Operand, Nothing}

-- the nonterminals of a pattern's operands, from left to right
abbrev mutual
  pub leaves_of : Pattern → List ℕ
  leaves_of (leaf x) = x ∷ []
  leaves_of (tree t ps) = leaves_of_all ps
  leaves_of _ = []

  -- the same for patterns, one after the other
  pub leaves_of_all : Patterns → List ℕ
  leaves_of_all no_pattern = []
  leaves_of_all (and_pattern p ps) = leaves_of p ++ leaves_of_all ps

-- the piece may stand in what the rule emits, where it binds so many variables: the rule's register where it holds one,
-- an operand that holds something (they are numbered from 1), a variable
pub data MayEmit (holds : List Holding) (rule : Rule) (vars : ℕ) : Emitted → Type 0 where
  bytes_may : (bs : List ℕ) → MayEmit holds rule vars (bytes bs)
  register_may : (class : ℕ) → slice_get holds rule.left ≡ Some (Class class) → MayEmit holds rule vars own_register
  operand_may : (n x : ℕ) → slice_get (leaves_of rule.pattern) n ≡ Some x → (slice_get holds x ≡ Some Nothing → ⊥)
      → MayEmit holds rule vars (operand (n + 1))
  field_may : (k : ℕ) → k < vars → MayEmit holds rule vars (field k)

-- what rules hold and emit, within the limits: a class is there, the goal holds nothing, and each piece may stand where it does
pub record AreEmitted (vars_of : Pattern → ℕ) (rules : Rules) : Type 0 where
  pub few_classes : length rules.classes ≤ 8
  pub few_registers : (class : ℕ) (names : List (List ℕ)) → slice_get rules.classes class ≡ Some names → length names ≤ 64
  pub classes_there : (x class : ℕ) → slice_get rules.holds x ≡ Some (Class class) → class < length rules.classes
  pub goal_holds : slice_get rules.holds rules.goal ≡ Some Nothing
  pub pieces : (r k : ℕ) (rule : Rule) (piece : Emitted) → slice_get rules.list r ≡ Some rule → slice_get rule.emit k ≡ Some piece
      → MayEmit rules.holds rule (vars_of rule.pattern) piece
  pub once : (r n j k : ℕ) (rule : Rule) → slice_get rules.list r ≡ Some rule → slice_get rules.holds rule.left ≡ Some Operand
      → slice_get rule.emit j ≡ Some (operand n) → slice_get rule.emit k ≡ Some (operand n) → j ≡ k
  pub early : (r : ℕ) (rule : Rule) → slice_get rules.list r ≡ Some rule → rule.early ≡ true
      → (class : ℕ) × (slice_get rules.holds rule.left ≡ Some (Class class))
