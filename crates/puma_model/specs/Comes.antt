-- What a call of a routine comes to, and in how many calls.
use Rattle.std.specs.Prelude.{◌≡◌, ℕ, ◌+◌, Bool, true, false, Option, Some, None, List, [], ◌∷◌, ◌++◌, length, nat_lt, if◌then◌else◌}
use Rattle.expr_lang.specs.Expression.{Expression, Expressions}
use Rattle.expr_lang.specs.PureValues.{PureValue, source, bool_in, nth}
use Rattle.expr_lang.specs.ValueOf.{no_tokens, value_of, values_of}
use Rattle.puma_model.specs.Scene.{Scene}
use Rattle.puma_model.specs.Matches.{MatchAll}
use Rattle.puma_model.specs.Rules.{PureClause, PureRule, PureRoutine, rules_at}
use Rattle.puma_model.specs.declared.rules.Read.{Read}

-- what calls run in: what patterns look at, the values of attributes, and the routines
pub record Program : Type 0 where
  pub scene : Scene
  pub attribute : ℕ → ℕ → PureValue
  pub routines : List PureRoutine

-- what a call comes to: a value, or that no rule of a routine was used
pub data Reply : Type 0 where
  a_value : PureValue → Reply
  no_rule : ℕ → Reply

-- what an expression comes to; expressions of rules see no tokens
abbrev pub worth : List PureValue → Expression → PureValue
worth env e = value_of no_tokens env e

abbrev pub worths : List PureValue → Expressions → List PureValue
worths env es = values_of no_tokens env es

abbrev pub number_in_source : PureValue → ℕ
number_in_source (source n) = n
number_in_source _ = 0

-- the value that a read binds
abbrev pub read_value : (ℕ → ℕ → PureValue) → List PureValue → Read → PureValue
read_value attribute env r = attribute (number_in_source (nth env r.node)) r.attribute

-- the variables with those that the reads of variables bound so far bind; such reads come first
abbrev pub with_reads : (ℕ → ℕ → PureValue) → List Read → List PureValue → List PureValue
with_reads attribute [] env = env
with_reads attribute (r ∷ rs) env =
    if nat_lt r.node (length env) then with_reads attribute rs (env ++ read_value attribute env r ∷ []) else env

-- the reads of variables that come later, where n are bound so far
abbrev pub reads_left : List Read → ℕ → List Read
reads_left [] n = []
reads_left (r ∷ rs) n = if nat_lt r.node n then reads_left rs (n + 1) else r ∷ rs

-- the IF, if there is one, is true
abbrev pub PassesTest : List PureValue → Option Expression → Type 0
PassesTest env None = Unit {0}
PassesTest env (Some e) = bool_in (worth env e) ≡ true

-- a rule is used for these arguments: its patterns match, and then its IF is true of the variables bound so far
pub record IsUsed (p : Program) (rule : PureRule) (args env : List PureValue) (left : List Read) : Type 0 where
  pub bound : List PureValue
  pub matches : MatchAll p.scene rule.patterns args bound
  pub env_is : env ≡ with_reads p.attribute rule.reads bound
  pub left_is : left ≡ reads_left rule.reads (length bound)
  pub test : PassesTest env rule.test

-- how the clauses of a rule end: all succeed, with the values bound so far; a WHEN is false; or a call comes to NoRule of a
-- routine
pub data Outcome : Type 0 where
  succeeded : List PureValue → Outcome
  failed : Outcome
  stopped : ℕ → Outcome

mutual
  -- a call of a routine with values: it counts one, and the calls of all rules that are tried count
  pub data Comes (p : Program) : ℕ → List PureValue → Reply → ℕ → Type 0 where
    called : (q : ℕ) (args : List PureValue) (k : ℕ) (r : Reply) → Tries p q args (rules_at p.routines q) r k → Comes p q args r (1 + k)

  -- the rules that are left, in order
  pub data Tries (p : Program) : ℕ → List PureValue → List PureRule → Reply → ℕ → Type 0 where
    no_rule_left : (q : ℕ) (args : List PureValue) → Tries p q args [] (no_rule q) 0
    not_used : (q : ℕ) (args : List PureValue) (k : ℕ) (rule : PureRule) (rest : List PureRule) (r : Reply)
        → ((env : List PureValue) (left : List Read) → IsUsed p rule args env left → ⊥)
        → Tries p q args rest r k → Tries p q args (rule ∷ rest) r k
    used : (q : ℕ) (args : List PureValue) (j k : ℕ) (rule : PureRule) (rest : List PureRule) (env : List PureValue)
        (left : List Read) (end : Outcome) (r : Reply) → IsUsed p rule args env left → Runs p rule.clauses left env end j
        → Finishes p q args rule.answer rest end r k → Tries p q args (rule ∷ rest) r (j + k)

  -- the end of a used rule's clauses gives what its call comes to
  pub data Finishes (p : Program) : ℕ → List PureValue → Expression → List PureRule → Outcome → Reply → ℕ → Type 0 where
    answers : (q : ℕ) (args : List PureValue) (e : Expression) (rest : List PureRule) (env : List PureValue)
        → Finishes p q args e rest (succeeded env) (a_value (worth env e)) 0
    goes_on : (q : ℕ) (args : List PureValue) (e : Expression) (rest : List PureRule) (r : Reply) (k : ℕ)
        → Tries p q args rest r k → Finishes p q args e rest failed r k
    stops : (q : ℕ) (args : List PureValue) (e : Expression) (rest : List PureRule) (t : ℕ)
        → Finishes p q args e rest (stopped t) (no_rule t) 0

  -- the clauses that are left of a rule, and the reads, with the values bound so far
  pub data Runs (p : Program) : List PureClause → List Read → List PureValue → Outcome → ℕ → Type 0 where
    no_clause_left : (reads : List Read) (env : List PureValue) → Runs p [] reads env (succeeded env) 0
    called_first : (clause : PureClause) (rest : List PureClause) (reads : List Read) (env : List PureValue) (r : Reply)
        (end : Outcome) (j k : ℕ) → Comes p clause.routine (worths env clause.args) r j
        → After p clause.binds rest reads env r end k → Runs p (clause ∷ rest) reads env end (j + k)

  -- what the call of a clause comes to gives how the clauses end: a LET binds the value, and then come the reads of it; a WHEN with
  -- false fails; and a call that comes to NoRule stops all
  pub data After (p : Program) : Bool → List PureClause → List Read → List PureValue → Reply → Outcome → ℕ → Type 0 where
    binds : (rest : List PureClause) (reads : List Read) (env : List PureValue) (v : PureValue) (end : Outcome) (k : ℕ)
        → Runs p rest (reads_left reads (length (env ++ v ∷ []))) (with_reads p.attribute reads (env ++ v ∷ [])) end k
        → After p true rest reads env (a_value v) end k
    holds : (rest : List PureClause) (reads : List Read) (env : List PureValue) (v : PureValue) (end : Outcome) (k : ℕ)
        → bool_in v ≡ true → Runs p rest reads env end k → After p false rest reads env (a_value v) end k
    fails : (rest : List PureClause) (reads : List Read) (env : List PureValue) (v : PureValue)
        → bool_in v ≡ false → After p false rest reads env (a_value v) failed 0
    passes_on : (binds : Bool) (rest : List PureClause) (reads : List Read) (env : List PureValue) (t : ℕ)
        → After p binds rest reads env (no_rule t) (stopped t) 0
