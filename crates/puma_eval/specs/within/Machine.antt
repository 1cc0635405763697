-- Calls that wait for others: how what a part comes to gives what the whole comes to.
use Rattle.std.specs.Prelude.{◌≡◌, ℕ, ◌+◌, List, [], ◌∷◌, reverse}
use Rattle.expr_lang.specs.Expression.{Expression}
use Rattle.expr_lang.specs.PureValues.{PureValue}
use Rattle.puma_model.specs.Comes.{Program, Reply, Outcome, Runs, Finishes, After}
use Rattle.puma_model.specs.Rules.{PureClause, PureRule}
use Rattle.puma_model.specs.declared.rules.Read.{Read}

-- what something comes to, and in how many calls
abbrev pub Coming : Type 1
Coming = Reply → ℕ → Type 0

-- the whole comes to what the part comes to, in n more calls, and to nothing else
pub record Ties (n : ℕ) (whole part : Coming) : Type 0 where
  pub there : (r : Reply) (k : ℕ) → part r k → whole r (n + k)
  pub back : (r : Reply) (k : ℕ) → whole r k → (l : ℕ) × part r l × (k ≡ n + l)

-- this reply, without a call
pub record Is (reply r : Reply) (k : ℕ) : Type 0 where
  pub reply_is : r ≡ reply
  pub no_call : k ≡ 0

-- a call whose rule is used: what is left of the rule, and the rules behind it
pub record Going : Type 0 where
  pub routine : ℕ
  pub args : List PureValue
  pub answer : Expression
  pub later : List PureRule
  pub clauses : List PureClause
  pub reads : List Read
  pub env : List PureValue

-- it runs the clauses that are left
pub data Goes (p : Program) (h : Going) : Reply → ℕ → Type 0 where
  goes : (end : Outcome) (j k : ℕ) (r : Reply) → Runs p h.clauses h.reads h.env end j
      → Finishes p h.routine h.args h.answer h.later end r k → Goes p h r (j + k)

-- the call of its first clause comes to the reply `given`, and it goes on
pub data Resumes (p : Program) (h : Going) (given : Reply) : Reply → ℕ → Type 0 where
  resumes : (clause : PureClause) (rest : List PureClause) (end : Outcome) (j k : ℕ) (r : Reply) → h.clauses ≡ clause ∷ rest
      → After p clause.binds rest h.reads h.env given end j
      → Finishes p h.routine h.args h.answer h.later end r k → Resumes p h given r (j + k)

-- those that wait, the innermost first, when the innermost call comes to the first reply
pub data Waits (p : Program) : List Going → Reply → Reply → ℕ → Type 0 where
  none_waits : (r : Reply) → Waits p [] r r 0
  one_waits : (h : Going) (hs : List Going) (r s final : Reply) (j k : ℕ) → Resumes p h r s j
      → Waits p hs s final k → Waits p (h ∷ hs) r final (j + k)

-- what a part comes to, and then those that wait for it, the innermost last
pub data Within (p : Program) (waiting : List Going) (part : Coming) : Reply → ℕ → Type 0 where
  within : (r final : Reply) (j k : ℕ) → part r j → Waits p (reverse waiting) r final k
      → Within p waiting part final (j + k)

-- it waits for the call of a clause
pub record HasClause (h : Going) : Type 0 where
  pub clause : PureClause
  pub rest : List PureClause
  pub is : h.clauses ≡ clause ∷ rest
