-- The definitions on cases where wrong readings differ.
use Rattle.std.proofs.Common.{◌≡◌, ℕ, zero, suc, pos, ◌+◌, ◌<◌, Bool, true, false, List, [], ◌∷◌, length, Some, None, ◌⊎◌, inl, inr, refl, sym, ap, ◌∙◌, subst, arith}
use Rattle.std.specs.Prelude.{slice_get}
use Rattle.value_store.specs.declared.value.ValType.{ValType}
use Rattle.value_store.specs.declared.value.ValType.TheVariants as ty
use Rattle.ast_types.specs.TypeTable.{TypeTable, NodeType, IsA, itself, extends, type_at}
use Rattle.ast_types.specs.declared.item.Item.{Item}
use Rattle.expr_lang.specs.Expression.{Expression, number, var, binary, no_expressions, and_expression}
use Rattle.expr_lang.specs.declared.expr.Op.TheVariants as op
use Rattle.expr_lang.specs.PureValues.{PureValue, int, bool, source, node, no_pure, and_pure}
use Rattle.puma_model.specs.PurePatterns.{PurePatterns, variable, int_literal, tree, no_patterns, and_pattern}
use Rattle.puma_model.specs.Scene.{Scene, Seen, item_types, parts_of}
use Rattle.puma_model.specs.Matches.{Matches, variable_matches, tree_matches, MatchAll, none_match, and_matches}
use Rattle.puma_model.specs.Rules.{PureRule, PureRoutine, PureClause, routine_in}
use Rattle.puma_model.specs.TypedRules.{Kinds, RestFits, let_fits, when_fits, RuleFits}
use Rattle.puma_model.proofs.MatchSteps.{tree_parts}
use Rattle.puma_model.specs.Comes.{Program, a_value, no_rule, IsUsed, succeeded, failed, stopped, Comes, called, no_rule_left, used, answers, goes_on, stops, no_clause_left, called_first, fails, passes_on, with_reads, reads_left}
use Rattle.puma_model.specs.declared.rules.Read.{Read}

-- type 1 extends type 0, which has one item, by another one
abbrev first_item : Item
first_item = record { name = []; of = ty.Int }

abbrev second_item : Item
second_item = record { name = []; of = ty.Bool }

abbrev table : TypeTable
table = record {
  families = record { name = []; target = true } ∷ [];
  types = record { name = []; family = 0; base = None; items = first_item ∷ [] }
      ∷ record { name = []; family = 0; base = Some 0; items = first_item ∷ second_item ∷ [] } ∷ [];
}

abbrev scene : Scene
scene = record { table = table; nodes = []; source = []; literals = [] }

abbrev extended : PureValue
extended = node 1 no_pure (and_pure (int (pos 3)) (and_pure (bool true) no_pure))

-- a pattern of a type matches a node of one that extends it, by the items that the pattern's type has; the tree's own variable
-- comes before those of its parts
base_matches : Matches scene (tree 0 (Some 0) (and_pattern (variable 1) no_patterns)) extended (extended ∷ int (pos 3) ∷ [])
base_matches = tree_matches 0 (Some 0) (and_pattern (variable 1) no_patterns) extended
    (record { ty = 1; children = no_pure; fields = and_pure (int (pos 3)) (and_pure (bool true) no_pure) }) (int (pos 3) ∷ []) refl
    (extends 1 0 0 refl (itself 0))
    (and_matches (variable 1) no_patterns (int (pos 3)) [] (int (pos 3) ∷ []) [] (variable_matches 1 (int (pos 3))) none_match)

abbrev pattern_count : PurePatterns → ℕ
pattern_count no_patterns = 0
pattern_count (and_pattern p ps) = pattern_count ps + 1

as_many : {s : Scene} {ps : PurePatterns} {vs bs : List PureValue} → MatchAll s ps vs bs → pattern_count ps ≡ length vs
as_many none_match = refl
as_many (and_matches p ps v vs first more is others) = let e = as_many others in omega (arith, e)

same_seen : {a b : Seen} → Some a ≡ Some b → a ≡ b
same_seen e = cc

-- the items of the node's own type aren't asked: the pattern of the base has no second part
own_items_not_asked : (bs : List PureValue) → Matches scene (tree 0 None (and_pattern (variable 0) (and_pattern (variable 1) no_patterns))) extended bs → ⊥
own_items_not_asked bs m =
    let (it, bound, is, kind, all) = tree_parts m in
    let one : length (parts_of (item_types scene.table 0) it.children it.fields) ≡ 1 =
    ap (λ z. length (parts_of (item_types scene.table 0) z.children z.fields)) (sym (same_seen is)) in
    let two : 2 ≡ length (parts_of (item_types scene.table 0) it.children it.fields) = as_many all in
    absurd (omega (arith, one, two))

abbrev basic : PureValue
basic = node 0 no_pure (and_pure (int (pos 3)) no_pure)

kind_of : {types : List NodeType} {t b : ℕ} → IsA types t b → (t ≡ b) ⊎ ((c : ℕ) × ((type_at types t).base ≡ Some c))
kind_of (itself t) = inl refl
kind_of (extends t c b is up) = inr (c, is)

by_kind : (zero ≡ suc zero) ⊎ ((c : ℕ) × ((type_at scene.table.types 0).base ≡ Some c)) → ⊥
by_kind (inl e) = absurd (omega (arith, e))
by_kind (inr (c, e)) = (let none : None ≡ Some c = e in cc)

-- a pattern of a type doesn't match a node of its base
base_is_no_extension : (ps : PurePatterns) (bs : List PureValue) → Matches scene (tree 1 None ps) basic bs → ⊥
base_is_no_extension ps bs m =
    let (it, bound, is, kind, all) = tree_parts m in
    let ty_is : it.ty ≡ 0 = ap (λ z. z.ty) (sym (same_seen is)) in
    by_kind (kind_of (subst (λ z. IsA scene.table.types z 1) ty_is kind))

-- ------------------------------------------------------------------ calls

abbrev call_of : ℕ → Bool → PureClause
call_of q b = record { binds = b; var = 1; routine = q; args = and_expression (number (pos 3)) no_expressions }

abbrev plain_rule : List PureClause → Expression → PureRule
plain_rule clauses answer = record {
  patterns = and_pattern (variable 0) no_patterns;
  reads = [];
  test = None;
  clauses = clauses;
  answer = answer;
  vars = 1;
}

-- main (0) has two rules, of which the first asks routine 1 about 3
abbrev main_rules : List PureRule
main_rules = plain_rule (call_of 1 false ∷ []) (number (pos 1)) ∷ plain_rule [] (number (pos 2)) ∷ []

abbrev program_with : List PureRule → Program
program_with rules = record {
  scene = scene;
  attribute = λ n a. int (pos 0);
  routines = record { params = ty.Int ∷ []; answer = ty.Int; rules = main_rules } ∷ record { params = ty.Int ∷ []; answer = ty.Bool; rules = rules } ∷ [];
}

-- whether the number is even
abbrev even : List PureRule
even = plain_rule [] (binary op.Equal (binary op.Remainder (var 0) (number (pos 2))) (number (pos 0))) ∷ []

used_for : (p : Program) (clauses : List PureClause) (answer : Expression) (v : PureValue) → IsUsed p (plain_rule clauses answer) (v ∷ []) (v ∷ []) []
used_for p clauses answer v = record {
  bound = v ∷ [];
  matches = and_matches (variable 0) no_patterns v [] (v ∷ []) [] (variable_matches 0 v) none_match;
  env_is = refl;
  left_is = refl;
  test = tt;
}

-- the calls of a rule that failed afterwards count: `main` comes to 2 in two calls, and not in one
even_fails : Comes (program_with even) 0 (int (pos 7) ∷ []) (a_value (int (pos 2))) 2
even_fails = called 0 (int (pos 7) ∷ []) 1 (a_value (int (pos 2)))
    (used 0 (int (pos 7) ∷ []) 1 0 (plain_rule (call_of 1 false ∷ []) (number (pos 1))) (plain_rule [] (number (pos 2)) ∷ []) (int (pos 7) ∷ []) [] failed (a_value (int (pos 2)))
    (used_for (program_with even) _ _ (int (pos 7)))
    (called_first (call_of 1 false) [] [] (int (pos 7) ∷ []) (a_value (bool false)) failed 1 0
    (called 1 (int (pos 3) ∷ []) 0 (a_value (bool false))
    (used 1 (int (pos 3) ∷ []) 0 0 _ [] (int (pos 3) ∷ []) [] (succeeded (int (pos 3) ∷ [])) (a_value (bool false))
    (used_for (program_with even) [] _ (int (pos 3))) (no_clause_left [] (int (pos 3) ∷ [])) (answers 1 (int (pos 3) ∷ []) _ [] (int (pos 3) ∷ []))))
    (fails [] [] (int (pos 7) ∷ []) (bool false) refl))
    (goes_on 0 (int (pos 7) ∷ []) (number (pos 1)) (plain_rule [] (number (pos 2)) ∷ []) (a_value (int (pos 2))) 0
    (used 0 (int (pos 7) ∷ []) 0 0 (plain_rule [] (number (pos 2))) [] (int (pos 7) ∷ []) [] (succeeded (int (pos 7) ∷ [])) (a_value (int (pos 2)))
    (used_for (program_with even) [] _ (int (pos 7))) (no_clause_left [] (int (pos 7) ∷ [])) (answers 0 (int (pos 7) ∷ []) (number (pos 2)) [] (int (pos 7) ∷ [])))))

-- a call for which no rule is used ends all: it doesn't fail the WHEN that makes it, so the second rule isn't tried
none_ends : Comes (program_with []) 0 (int (pos 7) ∷ []) (no_rule 1) 2
none_ends = called 0 (int (pos 7) ∷ []) 1 (no_rule 1)
    (used 0 (int (pos 7) ∷ []) 1 0 (plain_rule (call_of 1 false ∷ []) (number (pos 1))) (plain_rule [] (number (pos 2)) ∷ []) (int (pos 7) ∷ []) [] (stopped 1) (no_rule 1)
    (used_for (program_with []) _ _ (int (pos 7)))
    (called_first (call_of 1 false) [] [] (int (pos 7) ∷ []) (no_rule 1) (stopped 1) 1 0
    (called 1 (int (pos 3) ∷ []) 0 (no_rule 1) (no_rule_left 1 (int (pos 3) ∷ [])))
    (passes_on false [] [] (int (pos 7) ∷ []) 1))
    (stops 0 (int (pos 7) ∷ []) (number (pos 1)) (plain_rule [] (number (pos 2)) ∷ []) 1))

-- a read of a variable that comes later isn't bound yet
later_reads : with_reads (λ n a. int (pos a)) (record { var = 1; node = 0; attribute = 5 } ∷ record { var = 3; node = 2; attribute = 6 } ∷ []) (source 4 ∷ [])
    ≡ source 4 ∷ int (pos 5) ∷ []
later_reads = refl

left_reads : reads_left (record { var = 1; node = 0; attribute = 5 } ∷ record { var = 3; node = 2; attribute = 6 } ∷ []) 1
    ≡ record { var = 3; node = 2; attribute = 6 } ∷ []
left_reads = refl

-- of two rules that match the first one is used, though the second one's pattern is more specific
abbrev of_three : PureRule
of_three = record {
  patterns = and_pattern (int_literal (pos 3)) no_patterns;
  reads = [];
  test = None;
  clauses = [];
  answer = number (pos 2);
  vars = 0;
}

first_written : Comes (program_with (plain_rule [] (number (pos 1)) ∷ of_three ∷ [])) 1 (int (pos 3) ∷ []) (a_value (int (pos 1))) 1
first_written = called 1 (int (pos 3) ∷ []) 0 (a_value (int (pos 1)))
    (used 1 (int (pos 3) ∷ []) 0 0 (plain_rule [] (number (pos 1))) (of_three ∷ []) (int (pos 3) ∷ []) [] (succeeded (int (pos 3) ∷ [])) (a_value (int (pos 1)))
    (used_for (program_with (plain_rule [] (number (pos 1)) ∷ of_three ∷ [])) [] (number (pos 1)) (int (pos 3)))
    (no_clause_left [] (int (pos 3) ∷ [])) (answers 1 (int (pos 3) ∷ []) (number (pos 1)) (of_three ∷ []) (int (pos 3) ∷ [])))

-- ------------------------------------------------------------------ typed rules

abbrev no_kinds : Kinds
no_kinds = record { makers = []; attributes = [] }

asked_gives_bool : {t : TypeTable} {kinds : Kinds} {routines : List PureRoutine} {ts : List ValType} {reads : List Read} {clause : PureClause}
    {rest : List PureClause} {e : Expression} {u : ValType} → RestFits t kinds routines ts reads (clause ∷ rest) e u → clause.binds ≡ false
    → (callee : PureRoutine) × (slice_get routines clause.routine ≡ Some callee) × (callee.answer ≡ ty.Bool)
asked_gives_bool (let_fits ts us reads left clause rest e t callee b number_is is args fit more) f = (let g : true ≡ false = sym b ∙ f in cc)
asked_gives_bool (when_fits ts reads clause rest e t callee b is gives args more) f = (callee, is, gives)

-- a WHEN may not call a routine that gives an int
int_is_not_asked : RestFits table no_kinds (record { params = ty.Int ∷ []; answer = ty.Int; rules = [] } ∷ []) (ty.Int ∷ []) []
    (call_of 0 false ∷ []) (number (pos 1)) ty.Int → ⊥
int_is_not_asked h =
    let (callee, is, gives) = asked_gives_bool h refl in
    (let e : ty.Int ≡ ty.Bool = ap (λ o. (routine_in o).answer) is ∙ gives in cc)

abbrev numbered_five : PureRule
numbered_five = record {
  patterns = and_pattern (variable 5) no_patterns;
  reads = [];
  test = None;
  clauses = [];
  answer = number (pos 1);
  vars = 7;
}

-- a variable's number is its place, and each variable counts once
five_is_not_first : RuleFits table no_kinds [] (ty.Int ∷ []) ty.Int numbered_five → ⊥
five_is_not_first f =
    let within : 0 < 1 = omega arith in
    let e : 5 ≡ 0 = f.numbered 0 within in
    absurd (omega (arith, e))

seven_are_not_one : RuleFits table no_kinds [] (ty.Int ∷ []) ty.Int numbered_five → ⊥
seven_are_not_one f = let e : 7 ≡ 1 = f.counted in absurd (omega (arith, e))
