-- Covers of a node for a nonterminal, their costs, and the chosen ones.
use Rattle.std.specs.Prelude.{◌≡◌, ℕ, ◌+◌, ◌<◌, ◌≤◌, ◌⊎◌, List, [], ◌∷◌, ◌++◌, length}
use Rattle.beg_model.specs.Fitting.{Subgoal}

-- `Applies r n x k operands`: rule r has the left side x and the cost k, its pattern fits node n, its IF is
-- true there, and its operands, from left to right, are these
abbrev pub Application : Type 1
Application = ℕ → ℕ → ℕ → ℕ → List Subgoal → Type 0

mutual
  -- a cover of a node for a nonterminal, with its cost
  pub data Cover (Applies : Application) : ℕ → ℕ → ℕ → Type 0 where
    by_rule : (r n x k c : ℕ) (operands : List Subgoal) → Applies r n x k operands → Covers Applies operands c
        → Cover Applies n x (k + c)

  -- a cover for each of these, with the sum of their costs
  pub data Covers (Applies : Application) : List Subgoal → ℕ → Type 0 where
    no_subgoal : Covers Applies [] 0
    one_more : (n x c d : ℕ) (rest : List Subgoal) → Cover Applies n x c → Covers Applies rest d
        → Covers Applies (record { node = n; nonterminal = x } ∷ rest) (c + d)

-- the least cost of a cover
pub record Least (Applies : Application) (n x c : ℕ) : Type 0 where
  pub reached : Cover Applies n x c
  pub least : (d : ℕ) → Cover Applies n x d → c ≤ d

-- some cover of this cost has the rule on top
pub data Reaches (Applies : Application) (r n x : ℕ) : ℕ → Type 0 where
  on_top : (k c : ℕ) (operands : List Subgoal) → Applies r n x k operands → Covers Applies operands c
      → Reaches Applies r n x (k + c)

-- the first rule that some cover of the least cost has on top
pub record Chosen (Applies : Application) (n x c r : ℕ) : Type 0 where
  pub least : Least Applies n x c
  pub reaches : Reaches Applies r n x c
  pub first : (q : ℕ) → Reaches Applies q n x c → r ≤ q

-- a rule at a node, with the numbers of the instances that are its operands
pub record Instance : Type 0 where
  pub rule : ℕ
  pub node : ℕ
  pub operands : List ℕ

-- the instances of the chosen covers of these, operands first, from left to right, numbered from a
-- first number on; with the number of each one's own instance, and the sum of the rules' costs
pub data Stands (Applies : Application) : ℕ → List Subgoal → List Instance → List ℕ → ℕ → Type 0 where
  no_subgoal : (first : ℕ) → Stands Applies first [] [] [] 0
  one_more : (first r n x k c d e : ℕ) (operands rest : List Subgoal) (below after : List Instance) (tops others : List ℕ)
      → Chosen Applies n x c r → Applies r n x k operands
      → Stands Applies first operands below tops d
      → Stands Applies (first + length below + 1) rest after others e
      → Stands Applies first (record { node = n; nonterminal = x } ∷ rest)
      (below ++ (record { rule = r; node = n; operands = tops } ∷ after)) ((first + length below) ∷ others) (k + d + e)

-- there is a chain rule of this cost from the left side to the right one: x = y
abbrev pub Chains : Type 1
Chains = ℕ → ℕ → ℕ → Type 0

-- chain rules of cost 0, one after the other
pub data FreeWay (Chain : Chains) : ℕ → ℕ → Type 0 where
  step : (x y : ℕ) → Chain x y 0 → FreeWay Chain x y
  more : (x y z : ℕ) → Chain x y 0 → FreeWay Chain y z → FreeWay Chain x z

-- it is one of these
pub data IsOne (p : Subgoal) : List Subgoal → Type 0 where
  here : (rest : List Subgoal) → IsOne p (p ∷ rest)
  there : (q : Subgoal) (rest : List Subgoal) → IsOne p rest → IsOne p (q ∷ rest)

-- what the laws use of rules on a tree
pub record IsOrderly (Applies : Application) (Chain : Chains) (rules nonterminals : ℕ) : Type 0 where
  pub one : (r n x y k l : ℕ) (ps qs : List Subgoal) → Applies r n x k ps → Applies r n y l qs
      → (x ≡ y) × (k ≡ l) × (ps ≡ qs)
  pub among : (r n x k : ℕ) (ps : List Subgoal) → Applies r n x k ps → r < rules
  pub test : (r n : ℕ) → ((x : ℕ) × (k : ℕ) × (ps : List Subgoal) × Applies r n x k ps)
      ⊎ ((x k : ℕ) (ps : List Subgoal) → Applies r n x k ps → ⊥)
  pub falls : (r n x k : ℕ) (ps : List Subgoal) (p : Subgoal) → Applies r n x k ps → IsOne p ps
      → (p.node < n) ⊎ ((p.node ≡ n) × Chain x p.nonterminal k)
  pub within : (x y k : ℕ) → Chain x y k → (x < nonterminals) × (y < nonterminals)
  pub no_free_cycle : (x : ℕ) → FreeWay Chain x x → ⊥
