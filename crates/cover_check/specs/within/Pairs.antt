-- A pair against all rules.
use Rattle.std.specs.Prelude.{◌≡◌, ℕ, ◌+◌, ◌<◌, ◌≤◌, List, Option, Some, None, MatchOption, Bool, true, false, nat_lt, nat_eq}
use Rattle.beg_model.specs.Cover.{Application}
use Rattle.beg_model.specs.declared.matched.Subgoal.{Subgoal}
use Rattle.beg_model.specs.Labels.{Costs, Sums, IsRightAt}
use Rattle.cover_check.specs.declared.giving.Given.{Given}
use Rattle.cover_check.specs.declared.giving.Given.TheVariants.{Nothing, Cost, Past}

-- what a rule gives is less than the label, or there is no label
abbrev pub breaks : Given → Option ℕ → Bool
breaks Nothing l = false
breaks (Cost c) (Some l) = nat_lt c l
breaks (Cost c) None = true
breaks Past (Some l) = false
breaks Past None = true

-- a rule gives this cost
abbrev pub comes_to : Given → ℕ → Bool
comes_to Nothing l = false
comes_to (Cost c) l = nat_eq c l
comes_to Past l = false

-- the label of the pair, if it has one, is what its rule gives
abbrev pub IsOwn : Application → Costs → Costs → ℕ → ℕ → Type 0
IsOwn Applies costs rules n x = (c : ℕ) → costs n x ≡ Some c → (r : ℕ) × (k : ℕ) × (e : ℕ) × (ps : List Subgoal)
    × (rules n x ≡ Some r) × Applies r n x k ps × Sums costs ps e × (c ≡ k + e)

-- no rule undercuts the label of the pair, or fills one that has none
abbrev pub IsUnder : Application → Costs → ℕ → ℕ → Type 0
IsUnder Applies costs n x = (r k e : ℕ) (ps : List Subgoal) → Applies r n x k ps → Sums costs ps e
    → (c : ℕ) × (costs n x ≡ Some c) × (c ≤ k + e)

-- a test that tells whether this is so
abbrev pub Tells : Type 0 → Bool → Type 0
Tells P true = P
Tells P false = P → ⊥

-- the first nonterminal for which the node isn't right, if there is one
pub record WrongFirst (Applies : Application) (costs rules : Costs) (nonterminals n x : ℕ) : Type 0 where
  pub there : x < nonterminals
  pub wrong : IsRightAt Applies costs rules n x → ⊥
  pub before : (y : ℕ) → y < x → IsRightAt Applies costs rules n y

-- the node is right for all nonterminals, or this is the first for which it isn't
abbrev pub NodeChecked : Application → Costs → Costs → ℕ → ℕ → Option ℕ → Type 0
NodeChecked Applies costs rules nonterminals n told = MatchOption told ((x : ℕ) → x < nonterminals → IsRightAt Applies costs rules n x)
    (λ x. WrongFirst Applies costs rules nonterminals n x)
