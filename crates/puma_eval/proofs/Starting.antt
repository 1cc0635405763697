-- The first rule that is used.
use Rattle.std.proofs.Common.{◌≡◌, ℕ, ◌+◌, ◌-◌, ◌<◌, ◌≤◌, ◌^◌, zero, suc, min, Bool, true, false, List, [], ◌∷◌, length, map, drop, take, Option, Some, None, refl, sym, ap, ◌∙◌, subst, arith, ◌⊎◌, inl, inr, drop_of_length-le}
use Rattle.std.specs.Prelude.{slice_get}
use Rattle.std.proofs.lemmas.Option.{slice_get_within}
use Rattle.value_store.specs.Cells.{Cell}
use Rattle.value_store.specs.declared.value.Value.{Value}
use Rattle.value_store.specs.declared.value.ValType.{ValType}
use Rattle.expr_lang.specs.Evaluated.{Keeps}
use Rattle.expr_lang.specs.Expression.{Expression}
use Rattle.expr_lang.specs.PureValues.{PureValue}
use Rattle.expr_lang.proofs.Evaluates.{pure_of-kept, keeps-both}
use Rattle.puma_model.specs.Comes.{Program, Tries, no_rule, with_reads, PassesTest, IsUsed}
use Rattle.puma_model.specs.Found.{scene_of, row_of, patterns_in, patterns_at, CanMatch, MatchFound, IsFirstMatch, NoneMatches, HasNoMatch}
use Rattle.puma_model.specs.Matches.{MatchAll}
use Rattle.puma_model.specs.PurePatterns.{PurePatterns, variable_count_all, pure_patterns}
use Rattle.puma_model.specs.Rules.{PureRule, PureRoutine, routine_in, routine_at, rules_at, rule_in, rule_at, rule_of, routines_of}
use Rattle.puma_model.specs.Typed.{AreIn, pures}
use Rattle.puma_model.specs.TypedRules.{Kinds, AreKinds, RuleFits, RestFits, TestFits, PatternsFit, rule_context}
use Rattle.puma_model.specs.declared.rules.PumaRule.{PumaRule}
use Rattle.puma_model.specs.declared.rules.Routine.{Routine}
use Rattle.puma_model.specs.declared.rules.Routines.{Routines}
use Rattle.puma_model.specs.declared.world.World.{World}
use Rattle.puma_model.proofs.OneMatch.{one_match_all}
use Rattle.puma_model.proofs.PartsGathered.{drop_at}
use Rattle.puma_model.proofs.TypedValues.{in_kept, pures_kept, one_kept}
use Rattle.puma_eval.specs.Answers.{routines_in}
use Rattle.puma_eval.specs.declared.frames.Frame.{Frame}
use Rattle.puma_eval.specs.within.Evaluating.{Setting, TestReady, TestIs, ReadsReady, ReadsBound}
use Rattle.puma_eval.specs.within.Frames.{Stands, AreArgs, HasRoom, IsFrame, program, frame_rule, going_of}
use Rattle.puma_eval.specs.within.Machine.{Coming, Ties, Is, Goes}
use Rattle.puma_eval.proofs.Steps.{ties_self, ties_on, ties_past, ties_used, ties_none, IsNotUsed, going_from}

-- ------------------------------------------------------------------ more cells

pub stands_kept : (world : World) (routines : Routines) (old new : List Cell) (setting : Setting) → Keeps old new → Stands world routines old setting
    → Stands world routines new setting
stands_kept world routines old new setting keeps s = record {
  scene_is = s.scene_is;
  fit = s.fit;
  attributes = λ n a t within of. (let x = s.attributes n a t within of in record {
    node = x.node;
    attribute = x.attribute;
    is = one_kept (scene_of world) old new _ t keeps x.is;
    means = pure_of-kept world.texts.source.now world.texts.literals.now _ t keeps x.is.is ∙ x.means;
  });
}

pub args_kept : (world : World) (routines : Routines) (old new : List Cell) (q : ℕ) (args : List Value) → Keeps old new → AreArgs world routines old q args
    → AreArgs world routines new q args
args_kept world routines old new q args keeps a = record { there = a.there; are = in_kept (scene_of world) old new args _ keeps a.are }

-- ------------------------------------------------------------------ rules by number

get_there : {A : Type 0} (xs : List A) (i : ℕ) → i < length xs → (x : A) × (slice_get xs i ≡ Some x)
get_there [] i lt = absurd (omega (arith, lt))
get_there (x ∷ xs) zero lt = (x, refl)
get_there (x ∷ xs) (suc i) lt = get_there xs i (omega (arith, lt))

pub routine_there : (routines : List PureRoutine) (q : ℕ) → q < length routines → slice_get routines q ≡ Some (routine_at routines q)
routine_there routines q lt = let (x, is) = get_there routines q lt in is ∙ ap (λ z. Some z) (sym (ap routine_in is))

pub rule_there : (routines : List PureRoutine) (q i : ℕ) → i < length (rules_at routines q) → slice_get (rules_at routines q) i ≡ Some (rule_at routines q i)
rule_there routines q i lt = let (x, is) = get_there (rules_at routines q) i lt in is ∙ ap (λ z. Some z) (sym (ap rule_in is))

row_map : (s l : List ℕ) (rules : List PumaRule) → row_of s l rules ≡ map (λ r. r.patterns) (map (rule_of s l) rules)
row_map s l [] = refl
row_map s l (r ∷ rules) = ap (λ z. pure_patterns s l r.patterns.now ∷ z) (row_map s l rules)

pub row_rules : (s l : List ℕ) (list : List Routine) (q : ℕ) → patterns_at (patterns_in s l list) q ≡ map (λ r. r.patterns) (rules_at (routines_of s l list) q)
row_rules s l [] q = refl
row_rules s l (r ∷ list) zero = row_map s l r.rules.items
row_rules s l (r ∷ list) (suc q) = row_rules s l list q

get_row : (rules : List PureRule) (i : ℕ) (ps : PurePatterns) → slice_get (map (λ r. r.patterns) rules) i ≡ Some ps
    → (rule : PureRule) × (slice_get rules i ≡ Some rule) × (rule.patterns ≡ ps)
get_row [] i ps is = cc
get_row (r ∷ rules) zero ps is = let e : r.patterns ≡ ps = cc in (r, refl, e)
get_row (r ∷ rules) (suc i) ps is = get_row rules i ps is

length-row : (rules : List PureRule) → length (map (λ r. r.patterns) rules) ≡ length rules
length-row [] = refl
length-row (r ∷ rules) = let e = length-row rules in omega (arith, e)

row_at : (rules : List PureRule) (i : ℕ) (rule : PureRule) → slice_get rules i ≡ Some rule → slice_get (map (λ r. r.patterns) rules) i ≡ Some rule.patterns
row_at [] i rule is = cc
row_at (r ∷ rules) zero rule is = let e : r ≡ rule = cc in ap (λ z. Some z.patterns) e
row_at (r ∷ rules) (suc i) rule is = row_at rules i rule is

same_rule : {o : Option PureRule} {a b : PureRule} → o ≡ Some a → o ≡ Some b → a ≡ b
same_rule e f = cc

-- ------------------------------------------------------------------ a matcher may be asked

module _ (world : World) (routines : Routines) where
  row_is : (q : ℕ) → patterns_at (patterns_in world.texts.source.now world.texts.literals.now routines.list.items) q ≡ map (λ r. r.patterns) (rules_at (routines_in world routines) q)
  row_is q = row_rules world.texts.source.now world.texts.literals.now routines.list.items q

  pub rule_fits : (cells : List Cell) (setting : Setting) (q i : ℕ) (rule : PureRule) → Stands world routines cells setting → q < length (routines_in world routines)
      → slice_get (rules_at (routines_in world routines) q) i ≡ Some rule
      → RuleFits world.types.now setting.kinds (routines_in world routines) (routine_at (routines_in world routines) q).params (routine_at (routines_in world routines) q).answer rule
  rule_fits cells setting q i rule s lt is = s.fit.rules q i (routine_at (routines_in world routines) q) rule (routine_there (routines_in world routines) q lt) is

  pub can_match : (cells : List Cell) (setting : Setting) (q : ℕ) (args : List Value) (room : ℕ) (row : List PurePatterns)
      → row ≡ patterns_at (patterns_in world.texts.source.now world.texts.literals.now routines.list.items) q
      → Stands world routines cells setting → AreArgs world routines cells q args
      → HasRoom (routines_in world routines) room → CanMatch (scene_of world) cells row args room
  can_match cells setting q args room row same s a r = subst (λ z. CanMatch (scene_of world) cells z args room) (sym (same ∙ row_is q)) (record {
    scene_is = s.scene_is;
    few = (let e = length-row (rules_at (routines_in world routines) q) in let f = s.fit.few_rules q _ (routine_there (routines_in world routines) q a.there) in omega (arith, e, f));
    params = (routine_at (routines_in world routines) q).params;
    args_are = a.are;
    fit = λ i ps is. (let (rule, at, e) = get_row (rules_at (routines_in world routines) q) i ps is in
        let f = rule_fits cells setting q i rule s a.there at in
        (f.bound, subst (λ z. PatternsFit world.types.now z (routine_at (routines_in world routines) q).params f.bound) e f.patterns));
    enough = λ i ps is. (let (rule, at, e) = get_row (rules_at (routines_in world routines) q) i ps is in
        subst (λ z. variable_count_all z ≤ room) e (r.enough q i rule at));
  })

-- ------------------------------------------------------------------ rules that are passed over

pub no_match_no_use : (p : Program) (rule : PureRule) (cells : List Cell) (args : List Value) (pure_args : List PureValue)
    → pures p.scene cells args ≡ pure_args → HasNoMatch p.scene cells rule.patterns args → IsNotUsed p rule pure_args
no_match_no_use p rule cells args pure_args same none env left used_is =
    none used_is.bound (subst (λ z. MatchAll p.scene rule.patterns z used_is.bound) (sym same) used_is.matches)

pub ties_to : (p : Program) (q : ℕ) (args : List PureValue) (rules : List PureRule) (d next : ℕ) → next + d ≤ length rules
    → ((j : ℕ) (rule : PureRule) → next ≤ j → j < next + d → slice_get rules j ≡ Some rule → IsNotUsed p rule args)
    → Ties 0 (Tries p q args (drop next rules)) (Tries p q args (drop (next + d) rules))
ties_to p q args rules zero next le none = subst (λ z. Ties 0 (Tries p q args (drop next rules)) (Tries p q args (drop z rules))) (let e : next ≡ next + 0 = omega arith in e)
    (ties_self (Tries p q args (drop next rules)))
ties_to p q args rules (suc d) next le none =
    let (rule, is) = get_there rules next (omega (arith, le)) in
    let more = ties_to p q args rules d (next + 1) (omega (arith, le)) (λ j other ge lt. none j other (omega (arith, ge)) (omega (arith, lt))) in
    let e : next + 1 + d ≡ next + suc d = omega arith in
    let further = subst (λ z. Ties 0 (Tries p q args (drop (next + 1) rules)) (Tries p q args (drop z rules))) e more in
    subst (λ z. Ties 0 (Tries p q args z) (Tries p q args (drop (next + suc d) rules))) (sym (drop_at rules next rule is))
    (ties_on (ties_past p q args rule (drop (next + 1) rules) (none next rule (omega arith) (omega arith) is)) further)

pub ties_up_to : (p : Program) (q : ℕ) (args : List PureValue) (rules : List PureRule) (next i : ℕ) → next ≤ i → i ≤ length rules
    → ((j : ℕ) (rule : PureRule) → next ≤ j → j < i → slice_get rules j ≡ Some rule → IsNotUsed p rule args)
    → Ties 0 (Tries p q args (drop next rules)) (Tries p q args (drop i rules))
ties_up_to p q args rules next i le within none =
    let e : next + (i - next) ≡ i = omega (arith, le) in
    subst (λ z. Ties 0 (Tries p q args (drop next rules)) (Tries p q args (drop z rules))) e
    (ties_to p q args rules (i - next) next (omega (arith, le, within)) (λ j rule ge lt is. none j rule ge (omega (arith, lt, le)) is))

order : (a b : ℕ) → (a ≤ b) ⊎ (b ≤ a)
order a b = grind arith

pub ties_no_more : (p : Program) (q : ℕ) (args : List PureValue) (rules : List PureRule) (next : ℕ)
    → ((j : ℕ) (rule : PureRule) → next ≤ j → slice_get rules j ≡ Some rule → IsNotUsed p rule args)
    → Ties 0 (Tries p q args (drop next rules)) (Is (no_rule q))
ties_no_more p q args rules next none = elim (order next (length rules)) [
  | inl le ↦ (let all = ties_up_to p q args rules next (length rules) le (omega arith) (λ j rule ge lt is. none j rule ge is) in
      let ended : length rules ≤ length rules = omega arith in
      ties_on (subst (λ z. Ties 0 (Tries p q args (drop next rules)) (Tries p q args z)) (drop_of_length-le rules ended) all) (ties_none p q args))
  | inr past ↦ subst (λ z. Ties 0 (Tries p q args z) (Is (no_rule q))) (sym (drop_of_length-le rules past)) (ties_none p q args)
]

-- ------------------------------------------------------------------ the rule whose patterns match

-- what is known once the patterns of rule i match, and the reads of their variables are bound
pub record MatchedRule (world : World) (routines : Routines) (old mid : List Cell) (setting : Setting) (q : ℕ) (args : List Value) (i : ℕ) (rule : PureRule)
    (env : List Value) (read : ℕ) : Type 0 where
  pub vars : List ValType
  pub env_are : AreIn (scene_of world) mid env vars
  pub rest : RestFits world.types.now setting.kinds (routines_in world routines) vars (drop read rule.reads) rule.clauses rule.answer (routine_at (routines_in world routines) q).answer
  pub test_fits : TestFits (rule_context world.types.now setting.kinds vars) rule.test
  pub used_is : PassesTest (pures (scene_of world) mid env) rule.test
      → IsUsed (program world routines setting) rule (pures (scene_of world) old args) (pures (scene_of world) mid env) (drop read rule.reads)
  pub no_use : (PassesTest (pures (scene_of world) mid env) rule.test → ⊥) → IsNotUsed (program world routines setting) rule (pures (scene_of world) old args)

-- the values of the variables of the patterns
pub record Bound (world : World) (cells : List Cell) (rule : PureRule) (args env : List Value) (params : List ValType) : Type 0 where
  pub matches : MatchAll (scene_of world) rule.patterns (pures (scene_of world) cells args) (pures (scene_of world) cells env)
  pub typed : (types : List ValType) → PatternsFit world.types.now rule.patterns params types → AreIn (scene_of world) cells env types

pub bound_of : (world : World) (cells : List Cell) (rule : PureRule) (ps : PurePatterns) (args bindings env : List Value) (params : List ValType) (n room : ℕ) → ps ≡ rule.patterns
    → MatchFound (scene_of world) cells ps args bindings → AreIn (scene_of world) cells args params
    → n ≡ min (variable_count_all rule.patterns) 4294967295 → variable_count_all rule.patterns ≤ room → room < 2 ^ 32
    → env ≡ take n bindings → Bound world cells rule args env params
bound_of world cells rule ps args bindings env params n room same found are n_is le small env_is =
    let count = found.count ∙ ap variable_count_all same in
    let e : n ≡ length found.bound = omega (arith, count, n_is, le, small) in
    let env_bound : env ≡ found.bound = env_is ∙ ap (λ z. take z bindings) e ∙ found.front in
    record {
      matches = subst (λ z. MatchAll (scene_of world) rule.patterns (pures (scene_of world) cells args) (pures (scene_of world) cells z)) (sym env_bound)
          (subst (λ z. MatchAll (scene_of world) z (pures (scene_of world) cells args) (pures (scene_of world) cells found.bound)) same found.matches);
      typed = λ types fit. subst (λ z. AreIn (scene_of world) cells z types) (sym env_bound)
          (found.typed params types (subst (λ z. PatternsFit world.types.now z params types) (sym same) fit) are);
    }

pub reads_ready : (world : World) (routines : Routines) (cells : List Cell) (setting : Setting) (q i : ℕ) (rule : PureRule) (args env : List Value)
    → Stands world routines cells setting → q < length (routines_in world routines) → slice_get (rules_at (routines_in world routines) q) i ≡ Some rule
    → Bound world cells rule args env (routine_at (routines_in world routines) q).params → ReadsReady world cells rule.reads env
reads_ready world routines cells setting q i rule args env s lt is b =
    let f = rule_fits world routines cells setting q i rule s lt is in
    record { setting = setting; attributes = s.attributes; types = f.bound; all = f.vars; left = f.left; are = b.typed f.bound f.patterns; fit = f.reads }

pub matched_rule : (world : World) (routines : Routines) (old mid : List Cell) (setting : Setting) (q i : ℕ) (rule : PureRule) (args before env : List Value) (read : ℕ)
    → Stands world routines mid setting → q < length (routines_in world routines) → slice_get (rules_at (routines_in world routines) q) i ≡ Some rule
    → Bound world mid rule args before (routine_at (routines_in world routines) q).params
    → ReadsBound world mid rule.reads 0 before env read → pures (scene_of world) mid args ≡ pures (scene_of world) old args
    → MatchedRule world routines old mid setting q args i rule env read
matched_rule world routines old mid setting q i rule args before env read s lt is b reads same =
    let f = rule_fits world routines mid setting q i rule s lt is in
    let r = reads setting f.bound f.vars f.left s.attributes (b.typed f.bound f.patterns) f.reads in
    let matches = subst (λ z. MatchAll (scene_of world) rule.patterns z (pures (scene_of world) mid before)) same b.matches in
    record {
      vars = f.vars;
      env_are = r.are;
      rest = subst (λ z. RestFits world.types.now setting.kinds (routines_in world routines) f.vars z rule.clauses rule.answer (routine_at (routines_in world routines) q).answer) (sym r.left_is) f.rest;
      test_fits = f.test;
      used_is = λ passes. record { bound = pures (scene_of world) mid before; matches = matches; env_is = r.env_is; left_is = r.left_are; test = passes };
      no_use = λ fails other left used_is. (let e = one_match_all (scene_of world) used_is.matches matches in
          fails (subst (λ z. PassesTest z rule.test) (used_is.env_is ∙ ap (with_reads setting.attribute rule.reads) e ∙ sym r.env_is) used_is.test));
    }

pub test_ready : (world : World) (cells : List Cell) (kinds : Kinds) (types : List ValType) (env : List Value) (test : Option Expression)
    → AreKinds world.types.now kinds → AreIn (scene_of world) cells env types → TestFits (rule_context world.types.now kinds types) test
    → TestReady (scene_of world) cells env test
test_ready world cells kinds types env None kinds_are are fits = tt
test_ready world cells kinds types env (Some e) kinds_are are fits = record { kinds = kinds; kinds_are = kinds_are; types = types; are = are; of = _; typed = fits }

pub passes_of : (env : List PureValue) (test : Option Expression) (b : Bool) → TestIs env test b → b ≡ true → PassesTest env test
passes_of env None b is e = tt
passes_of env (Some x) b is e = sym is ∙ e

pub fails_of : (env : List PureValue) (test : Option Expression) (b : Bool) → TestIs env test b → b ≡ false → PassesTest env test → ⊥
fails_of env None b is e passes = (let f : true ≡ false = sym is ∙ e in cc)
fails_of env (Some x) b is e passes = (let f : true ≡ false = sym passes ∙ sym is ∙ e in cc)

-- ------------------------------------------------------------------ one turn

module _ (world : World) (routines : Routines) (old mid : List Cell) (setting : Setting) (q : ℕ) (args bindings : List Value) (next i : ℕ) (row : List PurePatterns)
    (row_same : row ≡ patterns_at (patterns_in world.texts.source.now world.texts.literals.now routines.list.items) q)
    (same : pures (scene_of world) mid args ≡ pures (scene_of world) old args) where
  the_rule : IsFirstMatch (scene_of world) mid row args next bindings i
      → (rule : PureRule) × (slice_get (rules_at (routines_in world routines) q) i ≡ Some rule) × (ps : PurePatterns) × (ps ≡ rule.patterns) × MatchFound (scene_of world) mid ps args bindings
  the_rule first =
      let (rule, at, e) = get_row (rules_at (routines_in world routines) q) i first.patterns (subst (λ z. slice_get z i ≡ Some first.patterns) (row_same ∙ row_is world routines q) first.is) in
      (rule, at, first.patterns, sym e, first.found)

  pub match_within : IsFirstMatch (scene_of world) mid row args next bindings i → i < length (rules_at (routines_in world routines) q)
  match_within first = let (rule, at, ps, e, found) = the_rule first in slice_get_within (rules_at (routines_in world routines) q) i rule at

  pub match_bound : (rule : PureRule) (n room : ℕ) (env : List Value) (params : List ValType) → IsFirstMatch (scene_of world) mid row args next bindings i
      → slice_get (rules_at (routines_in world routines) q) i ≡ Some rule → AreIn (scene_of world) mid args params
      → n ≡ min (variable_count_all rule.patterns) 4294967295 → HasRoom (routines_in world routines) room → env ≡ take n bindings → Bound world mid rule args env params
  match_bound rule n room env params first is are n_is has env_is =
      let (other, at, ps, e, found) = the_rule first in
      let e2 : ps ≡ rule.patterns = e ∙ ap (λ z. z.patterns) (same_rule at is) in
      bound_of world mid rule ps args bindings env params n room e2 found are n_is (has.enough q i rule is) has.small env_is

  skipped : IsFirstMatch (scene_of world) mid row args next bindings i → (j : ℕ) (rule : PureRule) → next ≤ j → j < i
      → slice_get (rules_at (routines_in world routines) q) j ≡ Some rule → IsNotUsed (program world routines setting) rule (pures (scene_of world) old args)
  skipped first j rule ge lt at = no_match_no_use (program world routines setting) rule mid args _ same
      (first.first j rule.patterns ge lt (subst (λ z. slice_get z j ≡ Some rule.patterns) (sym (row_same ∙ row_is world routines q)) (row_at _ j rule at)))

  pub ties_matched : (rule : PureRule) → IsFirstMatch (scene_of world) mid row args next bindings i → slice_get (rules_at (routines_in world routines) q) i ≡ Some rule
      → Ties 0 (Tries (program world routines setting) q (pures (scene_of world) old args) (drop next (rules_at (routines_in world routines) q)))
      (Tries (program world routines setting) q (pures (scene_of world) old args) (rule ∷ drop (i + 1) (rules_at (routines_in world routines) q)))
  ties_matched rule first is =
      let within = slice_get_within (rules_at (routines_in world routines) q) i rule is in
      subst (λ z. Ties 0 (Tries (program world routines setting) q (pures (scene_of world) old args) (drop next (rules_at (routines_in world routines) q)))
      (Tries (program world routines setting) q (pures (scene_of world) old args) z)) (drop_at _ i rule is)
      (ties_up_to (program world routines setting) q (pures (scene_of world) old args) (rules_at (routines_in world routines) q) next i first.later (omega (arith, within)) (skipped first))

  pub ties_none_left : NoneMatches (scene_of world) mid row args next
      → Ties 0 (Tries (program world routines setting) q (pures (scene_of world) old args) (drop next (rules_at (routines_in world routines) q))) (Is (no_rule q))
  ties_none_left none = ties_no_more (program world routines setting) q (pures (scene_of world) old args) (rules_at (routines_in world routines) q) next
      (λ j rule ge at. no_match_no_use (program world routines setting) rule mid args _ same
      (none j rule.patterns ge (subst (λ z. slice_get z j ≡ Some rule.patterns) (sym (row_same ∙ row_is world routines q)) (row_at _ j rule at))))

-- the frame of a used rule
pub frame_leads : (world : World) (routines : Routines) (old mid new : List Cell) (setting : Setting) (q i read : ℕ) (rule : PureRule) (f : Frame) (part : Coming)
    → Keeps old mid → Keeps mid new → AreArgs world routines old q f.args.items → slice_get (rules_at (routines_in world routines) q) i ≡ Some rule
    → MatchedRule world routines old mid setting q f.args.items i rule f.env.items read
    → PassesTest (pures (scene_of world) mid f.env.items) rule.test
    → f.routine ≡ q → f.rule ≡ i → f.clause ≡ 0 → f.read ≡ read
    → Ties 0 part (Tries (program world routines setting) q (pures (scene_of world) old f.args.items) (rule ∷ drop (i + 1) (rules_at (routines_in world routines) q)))
    → Ties 0 part (Goes (program world routines setting) (going_of world routines new f)) × IsFrame world routines new setting f × (f.routine ≡ q)
frame_leads world routines old mid new setting q i read rule f part keeps keeps2 a is m passes q_is i_is clause_is read_is ties =
    let both = keeps-both old mid new keeps keeps2 in
    let rule_is : frame_rule world routines f ≡ rule = ap (λ z. rule_at (routines_in world routines) z f.rule) q_is ∙ ap (λ z. rule_at (routines_in world routines) q z) i_is ∙ ap rule_in is in
    let e_args = pures_kept (scene_of world) old new f.args.items _ both a.are in
    let e_env = pures_kept (scene_of world) mid new f.env.items m.vars keeps2 m.env_are in
    let going_is : going_from q (pures (scene_of world) old f.args.items) rule (drop (i + 1) (rules_at (routines_in world routines) q)) (pures (scene_of world) mid f.env.items) (drop read rule.reads)
    ≡ going_of world routines new f =
    rw (rule_is, q_is, i_is, clause_is, read_is, e_args, e_env) refl in (
      subst (λ z. Ties 0 part (Goes (program world routines setting) z)) going_is (ties_on ties (ties_used (program world routines setting) q _ rule _ _ _ (m.used_is passes))),
      record {
        args = subst (λ z. AreArgs world routines new z f.args.items) (sym q_is) (args_kept world routines old new q f.args.items both a);
        rule_there = rw (q_is, i_is) (slice_get_within (rules_at (routines_in world routines) q) i rule is);
        types = m.vars;
        env_are = in_kept (scene_of world) mid new f.env.items m.vars keeps2 m.env_are;
        rest = rw (rule_is, q_is, clause_is, read_is) m.rest;
      },
      q_is,
    )

pub rules_few : (world : World) (routines : Routines) (cells : List Cell) (setting : Setting) (q : ℕ) → Stands world routines cells setting
    → q < length (routines_in world routines) → length (rules_at (routines_in world routines) q) < 2 ^ 32
rules_few world routines cells setting q s lt = let few = s.fit.few_rules q _ (routine_there (routines_in world routines) q lt) in omega (arith, few)
