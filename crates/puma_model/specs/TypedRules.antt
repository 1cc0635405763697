-- Rules that are typed: patterns fit their places, and expressions have the types that their places need.
use Rattle.std.specs.Prelude.{◌≡◌, ℕ, ◌+◌, ◌<◌, ◌≤◌, ℤ, Bool, true, false, List, [], ◌∷◌, ◌++◌, length, Option, Some, None, option_map, slice_get, slice_index, slice_index_or}
use Rattle.value_store.specs.declared.value.ValType.{ValType}
use Rattle.value_store.specs.declared.value.ValType.TheVariants as ty
use Rattle.ast_types.specs.FitTypes.{AreTypes}
use Rattle.ast_types.specs.TypeTable.{TypeTable, type_at}
use Rattle.expr_lang.specs.Expression.{Expression}
use Rattle.expr_lang.specs.Typing.{Context, HasType, HaveTypes}
use Rattle.expr_lang.specs.declared.expr.Maker.{Maker}
use Rattle.ag_model.specs.Typed.{IsAttributeType}
use Rattle.ag_model.specs.declared.attribution.Attribute.{Attribute}
use Rattle.node_model.specs.Makers.{AreMakersOf}
use Rattle.puma_model.specs.PurePatterns.{PurePattern, PurePatterns, any_value, variable, int_literal, bool_literal, text_literal, tree, no_patterns, and_pattern, bound_in_all, tree_count_all, variable_count_all}
use Rattle.puma_model.specs.Scene.{item_types}
use Rattle.puma_model.specs.Matches.{own}
use Rattle.puma_model.specs.Rules.{PureClause, PureRule, PureRoutine, let_count, routine_at}
use Rattle.puma_model.specs.Typed.{is_source, source_families}
use Rattle.puma_model.specs.declared.rules.Read.{Read}

-- the pattern may stand at a place of this type, and the variables that it binds are of these types
mutual
  pub data PatternFits (table : TypeTable) : PurePattern → ValType → List ValType → Type 0 where
    any_fits : (t : ValType) → PatternFits table any_value t []
    variable_fits : (i : ℕ) (t : ValType) → PatternFits table (variable i) t (t ∷ [])
    int_fits : (z : ℤ) → PatternFits table (int_literal z) ty.Int []
    bool_fits : (b : Bool) → PatternFits table (bool_literal b) ty.Bool []
    text_fits : (bytes : List ℕ) → PatternFits table (text_literal bytes) ty.Text []
    tree_fits : (n f : ℕ) (bind : Option ℕ) (ps : PurePatterns) (us : List ValType) → n < length table.types
        → (type_at table.types n).family ≡ f → PatternsFit table ps (item_types table n) us
        → PatternFits table (tree n bind ps) (ty.Node f) (own bind (ty.Node f) ++ us)

  pub data PatternsFit (table : TypeTable) : PurePatterns → List ValType → List ValType → Type 0 where
    none_fit : PatternsFit table no_patterns [] []
    and_fits : (p : PurePattern) (ps : PurePatterns) (t : ValType) (ts us more : List ValType) → PatternFits table p t us
        → PatternsFit table ps ts more → PatternsFit table (and_pattern p ps) (t ∷ ts) (us ++ more)

-- what expressions of rules stand in: what makes nodes, and the attributes of each family
pub record Kinds : Type 0 where
  pub makers : List Maker
  pub attributes : List (List Attribute)

-- the type of an attribute of a family, if there is one of this number
abbrev pub attribute_type : Kinds → ℕ → ℕ → Option ValType
attribute_type kinds f a = option_map (λ attribute. attribute.of) (slice_get (slice_index_or kinds.attributes f []) a)

-- the types are usable; there is a maker for each type of the target side, and for no other; attributes are of types that
-- attributes may have
pub record AreKinds (table : TypeTable) (kinds : Kinds) : Type 0 where
  pub types : AreTypes table
  pub makers : AreMakersOf table true kinds.makers
  pub attributes : (f a : ℕ) (t : ValType) → attribute_type kinds f a ≡ Some t → IsAttributeType t

-- an expression of a rule stands in this, where the variables that are bound are of these types
abbrev pub rule_context : TypeTable → Kinds → List ValType → Context
rule_context table kinds vars = record { vars = vars; makers = kinds.makers; sources = source_families table }

-- after variables of these types reads come, each of the variable whose number is the next one: of which types all are then,
-- and the reads that are left
pub data ReadsFit (table : TypeTable) (kinds : Kinds) : List Read → List ValType → List ValType → List Read → Type 0 where
  no_read : (ts : List ValType) → ReadsFit table kinds [] ts ts []
  read_later : (r : Read) (rs : List Read) (ts : List ValType) → length ts ≤ r.node → ReadsFit table kinds (r ∷ rs) ts ts (r ∷ rs)
  read_fits : (r : Read) (rs left : List Read) (ts us : List ValType) (f : ℕ) (t : ValType) → slice_get ts r.node ≡ Some (ty.Node f)
      → is_source table f ≡ true → attribute_type kinds f r.attribute ≡ Some t → r.var ≡ length ts
      → ReadsFit table kinds rs (ts ++ t ∷ []) us left → ReadsFit table kinds (r ∷ rs) ts us left

-- what is left of a rule is typed: reads and clauses after variables of these types, and the answer. A LET's variable is the
-- next one, a WHEN's routine gives a bool, and no read is left behind the last clause
pub data RestFits (table : TypeTable) (kinds : Kinds) (routines : List PureRoutine) : List ValType → List Read → List PureClause
    → Expression → ValType → Type 0 where
  answer_fits : (ts : List ValType) (reads : List Read) (e : Expression) (t : ValType) → reads ≡ []
      → HasType (rule_context table kinds ts) e t
      → RestFits table kinds routines ts reads [] e t
  let_fits : (ts us : List ValType) (reads left : List Read) (clause : PureClause) (rest : List PureClause) (e : Expression)
      (t : ValType) (callee : PureRoutine) → clause.binds ≡ true → clause.var ≡ length ts → slice_get routines clause.routine ≡ Some callee
      → HaveTypes (rule_context table kinds ts) clause.args callee.params
      → ReadsFit table kinds reads (ts ++ callee.answer ∷ []) us left
      → RestFits table kinds routines us left rest e t → RestFits table kinds routines ts reads (clause ∷ rest) e t
  when_fits : (ts : List ValType) (reads : List Read) (clause : PureClause) (rest : List PureClause) (e : Expression)
      (t : ValType) (callee : PureRoutine) → clause.binds ≡ false → slice_get routines clause.routine ≡ Some callee
      → callee.answer ≡ ty.Bool
      → HaveTypes (rule_context table kinds ts) clause.args callee.params
      → RestFits table kinds routines ts reads rest e t → RestFits table kinds routines ts reads (clause ∷ rest) e t

-- the IF, if there is one, is a bool
abbrev pub TestFits : Context → Option Expression → Type 0
TestFits context None = Unit {0}
TestFits context (Some e) = HasType context e ty.Bool

-- a rule of a routine with these parameters and this answer; its variables are numbered as they are bound, and counted
pub record RuleFits (table : TypeTable) (kinds : Kinds) (routines : List PureRoutine) (params : List ValType) (answer : ValType)
    (rule : PureRule) : Type 0 where
  pub bound : List ValType
  pub vars : List ValType
  pub left : List Read
  pub patterns : PatternsFit table rule.patterns params bound
  pub reads : ReadsFit table kinds rule.reads bound vars left
  pub test : TestFits (rule_context table kinds vars) rule.test
  pub rest : RestFits table kinds routines vars left rule.clauses rule.answer answer
  pub numbered : (k : ℕ) → k < length (bound_in_all rule.patterns) → slice_index (bound_in_all rule.patterns) k ≡ k
  pub few_trees : tree_count_all rule.patterns ≤ 16
  pub counted : rule.vars ≡ variable_count_all rule.patterns + length rule.reads + let_count rule.clauses

-- all rules of all routines are typed, within the limits
pub record RoutinesFit (table : TypeTable) (kinds : Kinds) (routines : List PureRoutine) : Type 0 where
  pub kinds_are : AreKinds table kinds
  pub few_params : (q : ℕ) (routine : PureRoutine) → slice_get routines q ≡ Some routine → length routine.params ≤ 8
  pub few_rules : (q : ℕ) (routine : PureRoutine) → slice_get routines q ≡ Some routine → length routine.rules ≤ 1048576
  pub rules : (q i : ℕ) (routine : PureRoutine) (rule : PureRule) → slice_get routines q ≡ Some routine
      → slice_get routine.rules i ≡ Some rule → RuleFits table kinds routines routine.params routine.answer rule

-- the main routine takes one argument, a node of this family of the source side, and gives a node of the target side
pub record IsMainOf (table : TypeTable) (family : ℕ) (routines : List PureRoutine) (main : ℕ) : Type 0 where
  pub there : main < length routines
  pub params : (routine_at routines main).params ≡ ty.Node family ∷ []
  pub source_side : is_source table family ≡ true
  pub given : ℕ
  pub answer : (routine_at routines main).answer ≡ ty.Node given
  pub target_side : is_source table given ≡ false

-- what a section PUMA declares for a tree whose root is of this family
pub record AreRoutines (table : TypeTable) (kinds : Kinds) (family : ℕ) (routines : List PureRoutine) (main budget : ℕ) : Type 0 where
  pub fit : RoutinesFit table kinds routines
  pub main_is : IsMainOf table family routines main
  pub least_budget : 1 ≤ budget
  pub most_budget : budget ≤ 256
