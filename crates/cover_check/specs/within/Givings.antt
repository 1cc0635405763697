-- What a rule gives at a pair. Only contracts within this crate cite it.
use Rattle.std.specs.Prelude.{◌≡◌, ℕ, ◌+◌, ◌≤◌, List, [], ◌∷◌, Option, Some, None, nat_lt, if◌then◌else◌}
use Rattle.beg_model.specs.Cover.{Application}
use Rattle.beg_model.specs.declared.matched.Subgoal.{Subgoal}
use Rattle.beg_model.specs.Labels.{Costs, Sums}
use Rattle.cover_check.specs.declared.giving.Given.{Given}
use Rattle.cover_check.specs.declared.giving.Given.TheVariants.{Nothing, Cost, Past}

abbrev pub plus : Option ℕ → Option ℕ → Option ℕ
plus None l = None
plus (Some a) None = None
plus (Some a) (Some b) = Some (a + b)

-- the labels at these places, added to a sum; none where a place has no label
abbrev pub sum_from : Costs → Option ℕ → List Subgoal → Option ℕ
sum_from costs sum [] = sum
sum_from costs sum (p ∷ ps) = sum_from costs (plus sum (costs p.node p.nonterminal)) ps

-- a sum as the program has it
abbrev pub given_of : Option ℕ → Given
given_of None = Nothing
given_of (Some n) = if nat_lt n 18446744073709551616 then Cost n else Past

-- one label more
abbrev pub given_plus : Given → Option ℕ → Given
given_plus g None = Nothing
given_plus Nothing (Some b) = Nothing
given_plus Past (Some b) = Past
given_plus (Cost a) (Some b) = given_of (Some (a + b))

-- rule r applies at node n for x, its operands have labels, and with its cost they come to this
pub record Gives (Applies : Application) (costs : Costs) (n x r total : ℕ) : Type 0 where
  pub k : ℕ
  pub e : ℕ
  pub ps : List Subgoal
  pub applies : Applies r n x k ps
  pub sums : Sums costs ps e
  pub total_is : total ≡ k + e

-- what a rule gives at a pair: nothing, a cost, or more than any label
abbrev pub GivenIs : Application → Costs → ℕ → ℕ → ℕ → Given → Type 0
GivenIs Applies costs n x r Nothing = (total : ℕ) → Gives Applies costs n x r total → ⊥
GivenIs Applies costs n x r (Cost c) = Gives Applies costs n x r c
GivenIs Applies costs n x r Past = (total : ℕ) × Gives Applies costs n x r total × (18446744073709551616 ≤ total)
