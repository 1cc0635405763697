-- Rules and routines as pure values.
use Rattle.std.specs.Prelude.{ℕ, Bool, true, false, Option, Some, None, ◌+◌, List, [], ◌∷◌, map, if◌then◌else◌, slice_get, option_map, pos}
use Rattle.value_store.specs.declared.value.ValType.{ValType}
use Rattle.value_store.specs.declared.value.ValType.TheVariants as ty
use Rattle.expr_lang.specs.Expression.{Expression, Expressions, number}
use Rattle.expr_lang.specs.Meaning.{meaning, expressions_of}
use Rattle.puma_model.specs.PurePatterns.{PurePatterns, no_patterns, pure_patterns}
use Rattle.puma_model.specs.declared.rules.Clause.{Clause}
use Rattle.puma_model.specs.declared.rules.Clause.TheVariants as clause
use Rattle.puma_model.specs.declared.rules.Read.{Read}
use Rattle.puma_model.specs.declared.rules.PumaRule.{PumaRule}
use Rattle.puma_model.specs.declared.rules.Routine.{Routine}

-- a call of a routine; a LET binds what it comes to, to the variable of this number, and a WHEN tests it
pub record PureClause : Type 0 where
  pub binds : Bool
  pub var : ℕ
  pub routine : ℕ
  pub args : Expressions

pub record PureRule : Type 0 where
  pub patterns : PurePatterns
  pub reads : List Read
  pub test : Option Expression
  pub clauses : List PureClause
  pub answer : Expression
  pub vars : ℕ

pub record PureRoutine : Type 0 where
  pub params : List ValType
  pub answer : ValType
  pub rules : List PureRule

abbrev pub clause_of : List ℕ → List ℕ → Clause → PureClause
clause_of s l (clause.Let var routine args) =
    record { binds = true; var = var; routine = routine; args = expressions_of (map (meaning s l) args.now) }
clause_of s l (clause.When routine args) =
    record { binds = false; var = 0; routine = routine; args = expressions_of (map (meaning s l) args.now) }

-- a rule of the program, where its strings lie in these bytes
abbrev pub rule_of : List ℕ → List ℕ → PumaRule → PureRule
rule_of s l rule = record {
  patterns = pure_patterns s l rule.patterns.now;
  reads = rule.reads.now;
  test = option_map (λ e. meaning s l e.now) rule.test;
  clauses = map (clause_of s l) rule.clauses.now;
  answer = meaning s l rule.answer.now;
  vars = rule.vars;
}

abbrev pub routine_of : List ℕ → List ℕ → Routine → PureRoutine
routine_of s l routine = record {
  params = routine.params.items;
  answer = routine.answer;
  rules = map (rule_of s l) routine.rules.items;
}

abbrev pub routines_of : List ℕ → List ℕ → List Routine → List PureRoutine
routines_of s l routines = map (routine_of s l) routines

abbrev pub routine_in : Option PureRoutine → PureRoutine
routine_in None = record { params = []; answer = ty.Int; rules = [] }
routine_in (Some routine) = routine

-- how many of the clauses are LETs
abbrev pub let_count : List PureClause → ℕ
let_count [] = 0
let_count (clause ∷ rest) = if clause.binds then let_count rest + 1 else let_count rest

-- the routine of this number
abbrev pub routine_at : List PureRoutine → ℕ → PureRoutine
routine_at routines q = routine_in (slice_get routines q)

-- the rules of a routine
abbrev pub rules_at : List PureRoutine → ℕ → List PureRule
rules_at routines q = (routine_at routines q).rules

abbrev pub rule_in : Option PureRule → PureRule
rule_in None = record { patterns = no_patterns; reads = []; test = None; clauses = []; answer = number (pos 0); vars = 0 }
rule_in (Some rule) = rule

-- a rule of a routine
abbrev pub rule_at : List PureRoutine → ℕ → ℕ → PureRule
rule_at routines q i = rule_in (slice_get (rules_at routines q) i)
