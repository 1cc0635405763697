-- A frame goes on with the value that its clause's call came to.
use Rattle.std.proofs.Common.{◌≡◌, ℕ, ◌+◌, ◌<◌, zero, suc, true, false, List, [], ◌∷◌, ◌++◌, length, map, drop, Option, Some, refl, sym, ap, ◌∙◌, subst, arith}
use Rattle.std.specs.Prelude.{slice_get}
use Rattle.std.proofs.lemmas.Option.{slice_get_within}
use Rattle.value_store.specs.Cells.{Cell}
use Rattle.value_store.specs.declared.value.Value.{Value}
use Rattle.value_store.specs.declared.value.ValType.{ValType}
use Rattle.ast_types.specs.TypeTable.{TypeTable}
use Rattle.expr_lang.specs.Expression.{Expression}
use Rattle.expr_lang.specs.PureOf.{pure_of}
use Rattle.expr_lang.specs.PureValues.{bool_in}
use Rattle.puma_model.specs.Comes.{Tries, a_value, with_reads, reads_left}
use Rattle.puma_model.specs.Found.{scene_of}
use Rattle.puma_model.specs.Rules.{PureClause, PureRule, PureRoutine, routine_in, routine_at, rules_at, rule_in, rule_at, clause_of, rule_of}
use Rattle.puma_model.specs.Typed.{AreIn, IsIn, pures}
use Rattle.puma_model.specs.TypedRules.{Kinds, RestFits, let_fits, when_fits, ReadsFit}
use Rattle.puma_model.specs.declared.rules.PumaRule.{PumaRule}
use Rattle.puma_model.specs.declared.rules.Clause.{Clause}
use Rattle.puma_model.specs.declared.rules.Read.{Read}
use Rattle.puma_model.specs.declared.rules.Routines.{Routines}
use Rattle.puma_model.specs.declared.world.World.{World}
use Rattle.puma_model.proofs.PartsGathered.{drop_at}
use Rattle.puma_model.proofs.TypedValues.{in_append, in_one, pures-append}
use Rattle.puma_eval.specs.Answers.{routines_in}
use Rattle.puma_eval.specs.declared.frames.Frame.{Frame}
use Rattle.puma_eval.specs.declared.frames.Resumed.{Resumed}
use Rattle.puma_eval.specs.declared.frames.Resumed.TheVariants as resumed
use Rattle.puma_eval.specs.within.Evaluating.{Setting, ReadsReady, ReadsBound}
use Rattle.puma_eval.specs.within.Frames.{Stands, AreArgs, IsFrame, WaitsFor, IsAnswer, Leads, program, frame_rule, going_of}
use Rattle.puma_eval.specs.within.Machine.{Coming, Ties, Goes, Resumes}
use Rattle.puma_eval.proofs.Steps.{ties_on, ties_let, ties_when, ties_fails, after_let, after_when}

pub leads_on : (world : World) (routines : Routines) (cells : List Cell) (setting : Setting) (whole part : Coming) (q : ℕ) (found : Resumed) → Ties 0 whole part
    → Leads world routines cells setting part q found → Leads world routines cells setting whole q found
leads_on world routines cells setting whole part q (resumed.On f) ties (t, frame, is) = (ties_on ties t, frame, is)
leads_on world routines cells setting whole part q (resumed.NoRule t) ties leads = ties_on ties leads

same_clause : {o : Option PureClause} {a b : PureClause} → o ≡ Some a → o ≡ Some b → a ≡ b
same_clause e f = cc

pub same_routine : {o : Option PureRoutine} {a : PureRoutine} → o ≡ Some a → routine_in o ≡ a
same_routine e = ap routine_in e

-- what is left after a LET, and after a WHEN
record AfterLet (table : TypeTable) (kinds : Kinds) (routines : List PureRoutine) (types : List ValType) (reads : List Read) (clause : PureClause) (rest : List PureClause)
    (e : Expression) (t : ValType) : Type 0 where
  pub all : List ValType
  pub left : List Read
  pub reads_fit : ReadsFit table kinds reads (types ++ (routine_at routines clause.routine).answer ∷ []) all left
  pub rest_fits : RestFits table kinds routines all left rest e t

let_rest : {table : TypeTable} {kinds : Kinds} {routines : List PureRoutine} {types : List ValType} {reads : List Read} {clause : PureClause} {rest : List PureClause}
    {e : Expression} {t : ValType} → clause.binds ≡ true → RestFits table kinds routines types reads (clause ∷ rest) e t → AfterLet table kinds routines types reads clause rest e t
let_rest {table = table} {kinds = kinds} b (let_fits types us reads left clause rest e t callee b2 var callee_is args fit more) = record {
  all = us;
  left = left;
  reads_fit = subst (λ z. ReadsFit table kinds reads (types ++ z.answer ∷ []) us left) (sym (same_routine callee_is)) fit;
  rest_fits = more;
}
let_rest b (when_fits types reads clause rest e t callee b2 callee_is gives args more) = (let f : true ≡ false = sym b ∙ b2 in cc)

when_rest : {table : TypeTable} {kinds : Kinds} {routines : List PureRoutine} {types : List ValType} {reads : List Read} {clause : PureClause} {rest : List PureClause}
    {e : Expression} {t : ValType} → clause.binds ≡ false → RestFits table kinds routines types reads (clause ∷ rest) e t → RestFits table kinds routines types reads rest e t
when_rest b (let_fits types us reads left clause rest e t callee b2 var callee_is args fit more) = (let f : true ≡ false = sym b2 ∙ b in cc)
when_rest b (when_fits types reads clause rest e t callee b2 callee_is gives args more) = more

pub frame_rule_of : (world : World) (routines : Routines) (f : Frame) (it : PureRule) → slice_get (rules_at (routines_in world routines) f.routine) f.rule ≡ Some it
    → frame_rule world routines f ≡ it
frame_rule_of world routines f it is = ap rule_in is

pub get_clause : (s l : List ℕ) (clauses : List Clause) (i : ℕ) (clause : Clause) → slice_get clauses i ≡ Some clause → slice_get (map (clause_of s l) clauses) i ≡ Some (clause_of s l clause)
get_clause s l [] i clause is = cc
get_clause s l (x ∷ clauses) zero clause is = let e : x ≡ clause = cc in ap (λ z. Some (clause_of s l z)) e
get_clause s l (x ∷ clauses) (suc i) clause is = get_clause s l clauses i clause is

pub clauses_length : (s l : List ℕ) (clauses : List Clause) → length (map (clause_of s l) clauses) ≡ length clauses
clauses_length s l [] = refl
clauses_length s l (x ∷ clauses) = let e = clauses_length s l clauses in omega (arith, e)

module _ (world : World) (routines : Routines) (cells : List Cell) (setting : Setting) (f : Frame) (q : ℕ) (v : Value) (it : PumaRule)
    (stands : Stands world routines cells setting) (waits : WaitsFor world routines cells setting f q) (answer : IsAnswer world routines cells q v)
    (it_is : slice_get (rules_at (routines_in world routines) f.routine) f.rule ≡ Some (rule_of world.texts.source.now world.texts.literals.now it)) where
  rule_is : frame_rule world routines f ≡ rule_of world.texts.source.now world.texts.literals.now it
  rule_is = frame_rule_of world routines f (rule_of world.texts.source.now world.texts.literals.now it) it_is

  pub clause_there : f.clause < length it.clauses.now
  clause_there =
      let lt = slice_get_within _ f.clause waits.clause waits.is in
      let e = ap (λ z. length z.clauses) rule_is in
      let g = clauses_length world.texts.source.now world.texts.literals.now it.clauses.now in omega (arith, lt, e, g)

  pub binds_is : (clause : Clause) → slice_get it.clauses.now f.clause ≡ Some clause → waits.clause.binds ≡ (clause_of world.texts.source.now world.texts.literals.now clause).binds
  binds_is clause at = ap (λ z. z.binds) (same_clause waits.is (ap (λ z. slice_get z.clauses f.clause) rule_is
      ∙ get_clause world.texts.source.now world.texts.literals.now it.clauses.now f.clause clause at))

  clauses_are : (going_of world routines cells f).clauses ≡ waits.clause ∷ drop (f.clause + 1) (frame_rule world routines f).clauses
  clauses_are = drop_at (frame_rule world routines f).clauses f.clause waits.clause waits.is

  left_of : RestFits world.types.now setting.kinds (routines_in world routines) waits.frame.types (drop f.read (frame_rule world routines f).reads)
      (waits.clause ∷ drop (f.clause + 1) (frame_rule world routines f).clauses) (frame_rule world routines f).answer (routine_at (routines_in world routines) f.routine).answer
  left_of = subst (λ z. RestFits world.types.now setting.kinds (routines_in world routines) waits.frame.types (drop f.read (frame_rule world routines f).reads) z
      (frame_rule world routines f).answer (routine_at (routines_in world routines) f.routine).answer) clauses_are waits.frame.rest

  reads_are : drop f.read (frame_rule world routines f).reads ≡ drop f.read it.reads.now
  reads_are = ap (λ z. drop f.read z.reads) rule_is

  v_in : IsIn (scene_of world) cells v (routine_at (routines_in world routines) waits.clause.routine).answer
  v_in = subst (λ z. IsIn (scene_of world) cells v (routine_at (routines_in world routines) z).answer) (sym waits.calls) answer

  env_in : (env : List Value) → env ≡ f.env.items ++ v ∷ []
      → AreIn (scene_of world) cells env (waits.frame.types ++ (routine_at (routines_in world routines) waits.clause.routine).answer ∷ [])
  env_in env is = subst (λ z. AreIn (scene_of world) cells z (waits.frame.types ++ (routine_at (routines_in world routines) waits.clause.routine).answer ∷ [])) (sym is)
      (in_append (scene_of world) cells f.env.items (v ∷ []) waits.frame.types _ waits.frame.env_are (in_one (scene_of world) cells v _ v_in))

  pub let_ready : waits.clause.binds ≡ true → (env : List Value) → env ≡ f.env.items ++ v ∷ [] → ReadsReady world cells (drop f.read it.reads.now) env
  let_ready b env is =
      let a = let_rest b left_of in
      record {
        setting = setting;
        attributes = stands.attributes;
        types = _;
        all = a.all;
        left = a.left;
        are = env_in env is;
        fit = subst (λ z. ReadsFit world.types.now setting.kinds z (waits.frame.types ++ (routine_at (routines_in world routines) waits.clause.routine).answer ∷ []) a.all a.left) reads_are a.reads_fit;
      }

  pub let_leads : waits.clause.binds ≡ true → (mid env : List Value) (read : ℕ) (g : Frame) → mid ≡ f.env.items ++ v ∷ []
      → ReadsBound world cells it.reads.now f.read mid env read
      → g.routine ≡ f.routine → g.rule ≡ f.rule → g.clause ≡ f.clause + 1 → g.read ≡ read → g.args.items ≡ f.args.items → g.env.items ≡ env
      → Ties 0 (Resumes (program world routines setting) (going_of world routines cells f) (a_value (pure_of world.texts.source.now world.texts.literals.now cells v)))
      (Goes (program world routines setting) (going_of world routines cells g)) × IsFrame world routines cells setting g × (g.routine ≡ f.routine)
  let_leads b mid env read g mid_is reads q_is i_is clause_is read_is args_is env_is =
      let a = let_rest b left_of in
      let r = reads setting _ a.all a.left stands.attributes (env_in mid mid_is)
      (subst (λ z. ReadsFit world.types.now setting.kinds z (waits.frame.types ++ (routine_at (routines_in world routines) waits.clause.routine).answer ∷ []) a.all a.left) reads_are a.reads_fit) in
      let same_rule : frame_rule world routines g ≡ frame_rule world routines f =
      ap (λ z. rule_at (routines_in world routines) z g.rule) q_is ∙ ap (λ z. rule_at (routines_in world routines) f.routine z) i_is in
      let reads_same : (frame_rule world routines f).reads ≡ it.reads.now = ap (λ z. z.reads) rule_is in
      let mid_pures : pures (scene_of world) cells mid ≡ pures (scene_of world) cells f.env.items ++ pure_of world.texts.source.now world.texts.literals.now cells v ∷ [] =
      ap (pures (scene_of world) cells) mid_is ∙ pures-append (scene_of world) cells f.env.items (v ∷ []) in
      let new_reads : drop g.read (frame_rule world routines g).reads ≡ reads_left (drop f.read (frame_rule world routines f).reads)
      (length (pures (scene_of world) cells f.env.items ++ pure_of world.texts.source.now world.texts.literals.now cells v ∷ [])) =
      ap (λ z. drop g.read z.reads) same_rule ∙ ap (λ z. drop g.read z) reads_same ∙ ap (λ z. drop z it.reads.now) read_is ∙ r.left_are
      ∙ ap (λ z. reads_left z (length (pures (scene_of world) cells mid))) (sym reads_are) ∙ ap (λ z. reads_left (drop f.read (frame_rule world routines f).reads) (length z)) mid_pures in
      let new_env : pures (scene_of world) cells g.env.items ≡ with_reads setting.attribute (drop f.read (frame_rule world routines f).reads)
      (pures (scene_of world) cells f.env.items ++ pure_of world.texts.source.now world.texts.literals.now cells v ∷ []) =
      ap (pures (scene_of world) cells) env_is ∙ r.env_is ∙ ap (λ z. with_reads setting.attribute z (pures (scene_of world) cells mid)) (sym reads_are)
      ∙ ap (with_reads setting.attribute (drop f.read (frame_rule world routines f).reads)) mid_pures in
      let going_is : after_let (program world routines setting) (going_of world routines cells f) (drop (f.clause + 1) (frame_rule world routines f).clauses)
      (pure_of world.texts.source.now world.texts.literals.now cells v) ≡ going_of world routines cells g =
      rw (new_reads, new_env, same_rule, q_is, i_is, clause_is, args_is) refl in (
        subst (λ z. Ties 0 (Resumes (program world routines setting) (going_of world routines cells f) (a_value (pure_of world.texts.source.now world.texts.literals.now cells v)))
            (Goes (program world routines setting) z)) going_is
            (ties_let (program world routines setting) (going_of world routines cells f) waits.clause _ clauses_are _ b),
        record {
          args = subst (λ z. AreArgs world routines cells g.routine z) (sym args_is) (subst (λ z. AreArgs world routines cells z f.args.items) (sym q_is) waits.frame.args);
          rule_there = rw (q_is, i_is) waits.frame.rule_there;
          types = a.all;
          env_are = subst (λ z. AreIn (scene_of world) cells z a.all) (sym env_is) r.are;
          rest = rw (same_rule, clause_is, q_is) (subst (λ z. RestFits world.types.now setting.kinds (routines_in world routines) a.all z
              (drop (f.clause + 1) (frame_rule world routines f).clauses) (frame_rule world routines f).answer (routine_at (routines_in world routines) f.routine).answer)
              (sym (ap (λ z. drop g.read z) reads_same ∙ ap (λ z. drop z it.reads.now) read_is ∙ r.left_is)) a.rest_fits);
        },
        q_is,
      )

  pub when_leads : waits.clause.binds ≡ false → bool_in (pure_of world.texts.source.now world.texts.literals.now cells v) ≡ true → (g : Frame)
      → g.routine ≡ f.routine → g.rule ≡ f.rule → g.clause ≡ f.clause + 1 → g.read ≡ f.read → g.args.items ≡ f.args.items → g.env.items ≡ f.env.items
      → Ties 0 (Resumes (program world routines setting) (going_of world routines cells f) (a_value (pure_of world.texts.source.now world.texts.literals.now cells v)))
      (Goes (program world routines setting) (going_of world routines cells g)) × IsFrame world routines cells setting g × (g.routine ≡ f.routine)
  when_leads b holds g q_is i_is clause_is read_is args_is env_is =
      let same_rule : frame_rule world routines g ≡ frame_rule world routines f =
      ap (λ z. rule_at (routines_in world routines) z g.rule) q_is ∙ ap (λ z. rule_at (routines_in world routines) f.routine z) i_is in
      let going_is : after_when (going_of world routines cells f) (drop (f.clause + 1) (frame_rule world routines f).clauses) ≡ going_of world routines cells g =
      rw (same_rule, q_is, i_is, clause_is, read_is, args_is, env_is) refl in (
        subst (λ z. Ties 0 (Resumes (program world routines setting) (going_of world routines cells f) (a_value (pure_of world.texts.source.now world.texts.literals.now cells v)))
            (Goes (program world routines setting) z)) going_is
            (ties_when (program world routines setting) (going_of world routines cells f) waits.clause _ clauses_are _ b holds),
        record {
          args = subst (λ z. AreArgs world routines cells g.routine z) (sym args_is) (subst (λ z. AreArgs world routines cells z f.args.items) (sym q_is) waits.frame.args);
          rule_there = rw (q_is, i_is) waits.frame.rule_there;
          types = waits.frame.types;
          env_are = subst (λ z. AreIn (scene_of world) cells z waits.frame.types) (sym env_is) waits.frame.env_are;
          rest = rw (same_rule, clause_is, read_is, q_is) (when_rest b left_of);
        },
        q_is,
      )

  pub when_next : waits.clause.binds ≡ false → bool_in (pure_of world.texts.source.now world.texts.literals.now cells v) ≡ false
      → Ties 0 (Resumes (program world routines setting) (going_of world routines cells f) (a_value (pure_of world.texts.source.now world.texts.literals.now cells v)))
      (Tries (program world routines setting) f.routine (pures (scene_of world) cells f.args.items) (drop (f.rule + 1) (rules_at (routines_in world routines) f.routine)))
  when_next b fails = ties_fails (program world routines setting) (going_of world routines cells f) waits.clause _ clauses_are _ b fails
