-- One turn of the frames: to the next call, to the end, or to the frame that waits.
use Rattle.std.proofs.Common.{◌≡◌, ℕ, ◌+◌, ◌<◌, ◌≤◌, zero, suc, List, [], ◌∷◌, ◌++◌, length, map, drop, reverse, All, Some, refl, sym, ap, ◌∙◌, subst, arith, drop_of_length-le}
use Rattle.std.specs.Prelude.{slice_get}
use Rattle.std.proofs.lemmas.List.{reverse-append}
use Rattle.std.proofs.lemmas.List.Elements.{All-head, All-tail, All-append}
use Rattle.std.proofs.lemmas.Option.{slice_get_within}
use Rattle.value_store.specs.Cells.{Cell}
use Rattle.value_store.specs.declared.value.Value.{Value}
use Rattle.value_store.specs.declared.value.ValType.{ValType}
use Rattle.ast_types.specs.TypeTable.{TypeTable}
use Rattle.expr_lang.specs.Evaluated.{Keeps}
use Rattle.expr_lang.specs.Expression.{Expression}
use Rattle.expr_lang.specs.PureOf.{pure_of}
use Rattle.expr_lang.specs.Typing.{HasType, HaveTypes}
use Rattle.puma_model.specs.Comes.{a_value, no_rule, worth, worths}
use Rattle.puma_model.specs.Found.{scene_of}
use Rattle.puma_model.specs.Rules.{PureClause, PureRoutine, routine_at, rules_at, clause_of, rule_of}
use Rattle.puma_model.specs.Typed.{AreIn, pures}
use Rattle.puma_model.specs.TypedRules.{Kinds, RestFits, answer_fits, let_fits, when_fits, rule_context}
use Rattle.puma_model.specs.declared.rules.Clause.{Clause}
use Rattle.puma_model.specs.declared.rules.PumaRule.{PumaRule}
use Rattle.puma_model.specs.declared.rules.Read.{Read}
use Rattle.puma_model.specs.declared.rules.Routines.{Routines}
use Rattle.puma_model.specs.declared.world.World.{World}
use Rattle.puma_model.proofs.PartsGathered.{drop_at}
use Rattle.puma_model.proofs.TypedValues.{in_kept, pures_kept}
use Rattle.puma_eval.specs.Answers.{routines_in}
use Rattle.puma_eval.specs.declared.frames.Call.{Call}
use Rattle.puma_eval.specs.declared.frames.Frame.{Frame}
use Rattle.puma_eval.specs.within.Evaluating.{Setting, WorthReady, IsWorth, WorthsReady, AreWorth}
use Rattle.puma_eval.specs.within.Frames.{Stands, IsFrame, WaitsFor, AllWait, none_waits, one_waits, IsAnswer, Settles, Settling, program, frame_rule, going_of}
use Rattle.puma_eval.specs.within.Machine.{Coming, Ties, Is, Going, Goes, Resumes, Within, HasClause}
use Rattle.puma_eval.specs.declared.frames.Step.TheVariants as step
use Rattle.puma_eval.specs.declared.frames.Outcome.TheVariants as outcome
use Rattle.puma_eval.proofs.Resuming.{frame_rule_of, same_routine, get_clause, clauses_length}
use Rattle.puma_eval.proofs.Starting.{args_kept}
use Rattle.puma_eval.proofs.Steps.{ties_on, ties_clause, ties_end, ties_value, ties_within, ties_last, ties_no_rule}

-- ------------------------------------------------------------------ more cells

frame_kept : (world : World) (routines : Routines) (old new : List Cell) (setting : Setting) (f : Frame) → Keeps old new → IsFrame world routines old setting f
    → IsFrame world routines new setting f
frame_kept world routines old new setting f keeps is = record {
  args = args_kept world routines old new f.routine f.args.items keeps is.args;
  rule_there = is.rule_there;
  types = is.types;
  env_are = in_kept (scene_of world) old new f.env.items is.types keeps is.env_are;
  rest = is.rest;
}

pub waits_kept : (world : World) (routines : Routines) (old new : List Cell) (setting : Setting) (f : Frame) (q : ℕ) → Keeps old new → WaitsFor world routines old setting f q
    → WaitsFor world routines new setting f q
waits_kept world routines old new setting f q keeps is = record {
  frame = frame_kept world routines old new setting f keeps is.frame;
  clause = is.clause;
  is = is.is;
  calls = is.calls;
}

pub all_kept : {world : World} {routines : Routines} {old new : List Cell} {setting : Setting} {main : ℕ} {fs : List Frame} {q : ℕ} → Keeps old new
    → AllWait world routines old setting main fs q → AllWait world routines new setting main fs q
all_kept keeps (none_waits) = none_waits
all_kept {world = world} {routines = routines} {old = old} {new = new} {setting = setting} keeps (one_waits f fs q waits all) =
    one_waits f fs q (waits_kept world routines old new setting f q keeps waits) (all_kept keeps all)

pub going_kept : (world : World) (routines : Routines) (old new : List Cell) (setting : Setting) (f : Frame) → Keeps old new → IsFrame world routines old setting f
    → going_of world routines new f ≡ going_of world routines old f
going_kept world routines old new setting f keeps is =
    let a = pures_kept (scene_of world) old new f.args.items _ keeps is.args.are in
    let e = pures_kept (scene_of world) old new f.env.items is.types keeps is.env_are in
    rw (a, e) refl

-- each of the frames waits for some call
abbrev pub Waits : World → Routines → List Cell → Setting → Frame → Type 0
Waits world routines cells setting f = (q : ℕ) × WaitsFor world routines cells setting f q

all_one : (P : Frame → Type 0) (x : Frame) → P x → All P (x ∷ [])
all_one P x p zero d lt = p
all_one P x p (suc k) d lt = absurd (omega (arith, lt))

all_cons : (P : Frame → Type 0) (x : Frame) (xs : List Frame) → P x → All P xs → All P (x ∷ xs)
all_cons P x xs p all = All-append P (x ∷ []) xs (all_one P x p) all

all_none : (P : Frame → Type 0) → All P []
all_none P k d lt = absurd (omega (arith, lt))

all_reverse : (P : Frame → Type 0) (fs : List Frame) → All P fs → All P (reverse fs)
all_reverse P [] all = all
all_reverse P (f ∷ fs) all = rw (reverse-append (f ∷ []) fs)
    (All-append P (reverse fs) (f ∷ []) (all_reverse P fs (All-tail P f fs all)) (all_one P f (All-head P f fs all)))

twice : (fs : List Frame) → reverse (reverse fs) ≡ fs
twice [] = refl
twice (f ∷ fs) = ap reverse (reverse-append (f ∷ []) fs) ∙ reverse-append (reverse fs) (f ∷ []) ∙ ap (λ z. f ∷ z) (twice fs)

each_waits : {world : World} {routines : Routines} {cells : List Cell} {setting : Setting} {main : ℕ} {fs : List Frame} {q : ℕ}
    → AllWait world routines cells setting main fs q → All (Waits world routines cells setting) fs
each_waits {world = world} {routines = routines} {cells = cells} {setting = setting} (none_waits) = all_none (Waits world routines cells setting)
each_waits {world = world} {routines = routines} {cells = cells} {setting = setting} (one_waits f fs q waits all) =
    all_cons (Waits world routines cells setting) f fs (q, waits) (each_waits all)

pub waiting_each : (world : World) (routines : Routines) (cells : List Cell) (setting : Setting) (main q : ℕ) (ws : List Frame)
    → AllWait world routines cells setting main (reverse ws) q → All (Waits world routines cells setting) ws
waiting_each world routines cells setting main q ws all =
    subst (All (Waits world routines cells setting)) (twice ws) (all_reverse (Waits world routines cells setting) (reverse ws) (each_waits all))

pub goings_kept : (world : World) (routines : Routines) (old new : List Cell) (setting : Setting) (ws : List Frame) → Keeps old new → All (Waits world routines old setting) ws
    → map (going_of world routines new) ws ≡ map (going_of world routines old) ws
goings_kept world routines old new setting [] keeps all = refl
goings_kept world routines old new setting (f ∷ ws) keeps all =
    let e = going_kept world routines old new setting f keeps (All-head (Waits world routines old setting) f ws all).1.frame in
    let more = goings_kept world routines old new setting ws keeps (All-tail (Waits world routines old setting) f ws all) in rw (e, more) refl

goings-append : (world : World) (routines : Routines) (cells : List Cell) (ws : List Frame) (f : Frame)
    → map (going_of world routines cells) (ws ++ f ∷ []) ≡ map (going_of world routines cells) ws ++ going_of world routines cells f ∷ []
goings-append world routines cells [] f = refl
goings-append world routines cells (x ∷ ws) f = ap (λ z. going_of world routines cells x ∷ z) (goings-append world routines cells ws f)

all_goings : (P : Going → Type 0) (x : Going) (xs : List Going) → P x → All P xs → All P (x ∷ xs)
all_goings P x xs p all zero d lt = p
all_goings P x xs p all (suc k) d lt = all k d (omega (arith, lt))

pub have_clauses : (world : World) (routines : Routines) (cells : List Cell) (setting : Setting) (ws : List Frame) → All (Waits world routines cells setting) ws
    → All HasClause (map (going_of world routines cells) ws)
have_clauses world routines cells setting [] all = λ k d lt. absurd (omega (arith, lt))
have_clauses world routines cells setting (f ∷ ws) all =
    let (q, waits) = All-head (Waits world routines cells setting) f ws all in
    all_goings HasClause (going_of world routines cells f) (map (going_of world routines cells) ws)
    (record { clause = waits.clause; rest = drop (f.clause + 1) (frame_rule world routines f).clauses; is = drop_at (frame_rule world routines f).clauses f.clause waits.clause waits.is })
    (have_clauses world routines cells setting ws (All-tail (Waits world routines cells setting) f ws all))

-- ------------------------------------------------------------------ a clause is left

clause_args : {table : TypeTable} {kinds : Kinds} {routines : List PureRoutine} {types : List ValType} {reads : List Read} {clause : PureClause} {rest : List PureClause}
    {e : Expression} {t : ValType} → RestFits table kinds routines types reads (clause ∷ rest) e t
    → (clause.routine < length routines) × HaveTypes (rule_context table kinds types) clause.args (routine_at routines clause.routine).params
clause_args {table = table} {kinds = kinds} {routines = routines} (let_fits types us reads left clause rest e t callee b var callee_is args fit more) =
    (slice_get_within routines clause.routine callee callee_is, subst (λ z. HaveTypes (rule_context table kinds types) clause.args z.params) (sym (same_routine callee_is)) args)
clause_args {table = table} {kinds = kinds} {routines = routines} (when_fits types reads clause rest e t callee b callee_is gives args more) =
    (slice_get_within routines clause.routine callee callee_is, subst (λ z. HaveTypes (rule_context table kinds types) clause.args z.params) (sym (same_routine callee_is)) args)

answer_type : {table : TypeTable} {kinds : Kinds} {routines : List PureRoutine} {types : List ValType} {reads : List Read}
    {e : Expression} {t : ValType} → RestFits table kinds routines types reads [] e t → HasType (rule_context table kinds types) e t
answer_type (answer_fits types reads e t none typed) = typed

module _ (world : World) (routines : Routines) (cells : List Cell) (setting : Setting) (main : ℕ) (before : Coming) (ws : List Frame) (top : Frame) (it : PumaRule)
    (stands : Stands world routines cells setting) (to : Settling world routines cells setting main before ws top)
    (it_is : slice_get (rules_at (routines_in world routines) top.routine) top.rule ≡ Some (rule_of world.texts.source.now world.texts.literals.now it)) where
  rule_is : frame_rule world routines top ≡ rule_of world.texts.source.now world.texts.literals.now it
  rule_is = frame_rule_of world routines top (rule_of world.texts.source.now world.texts.literals.now it) it_is

  module _ (clause : Clause) (at : slice_get it.clauses.now top.clause ≡ Some clause) where
    clause_is : slice_get (frame_rule world routines top).clauses top.clause ≡ Some (clause_of world.texts.source.now world.texts.literals.now clause)
    clause_is = ap (λ z. slice_get z.clauses top.clause) rule_is ∙ get_clause world.texts.source.now world.texts.literals.now it.clauses.now top.clause clause at

    left_of : RestFits world.types.now setting.kinds (routines_in world routines) to.frame.types (drop top.read (frame_rule world routines top).reads)
        (clause_of world.texts.source.now world.texts.literals.now clause ∷ drop (top.clause + 1) (frame_rule world routines top).clauses)
        (frame_rule world routines top).answer (routine_at (routines_in world routines) top.routine).answer
    left_of = subst (λ z. RestFits world.types.now setting.kinds (routines_in world routines) to.frame.types (drop top.read (frame_rule world routines top).reads) z
        (frame_rule world routines top).answer (routine_at (routines_in world routines) top.routine).answer) (drop_at _ top.clause _ clause_is) to.frame.rest

    pub call_ready : (env : List Value) → env ≡ top.env.items → WorthsReady (scene_of world) cells env (clause_of world.texts.source.now world.texts.literals.now clause).args
    call_ready env is =
        let (there, args) = clause_args left_of in
        record {
          kinds = setting.kinds;
          kinds_are = stands.fit.kinds_are;
          types = to.frame.types;
          are = subst (λ z. AreIn (scene_of world) cells z to.frame.types) (sym is) to.frame.env_are;
          of = _;
          typed = args;
        }

    pub settle_call : (new : List Cell) (env : List Value) (call : Call) (next : List Frame) → env ≡ top.env.items → Keeps cells new
        → call.routine ≡ (clause_of world.texts.source.now world.texts.literals.now clause).routine
        → AreWorth (scene_of world) cells new env (clause_of world.texts.source.now world.texts.literals.now clause).args call.args.items
        → next ≡ ws ++ top ∷ [] → Settles world routines new setting main before next (step.Call call)
    settle_call new env call next env_is keeps call_is worth_is next_is =
        let (there, args) = clause_args left_of in
        let each = waiting_each world routines cells setting main top.routine ws to.wait in
        let goings : map (going_of world routines new) next ≡ map (going_of world routines cells) ws ++ going_of world routines cells top ∷ [] =
        ap (map (going_of world routines new)) next_is ∙ goings-append world routines new ws top
        ∙ ap (λ z. z ++ going_of world routines new top ∷ []) (goings_kept world routines cells new setting ws keeps each)
        ∙ ap (λ z. map (going_of world routines cells) ws ++ z ∷ []) (going_kept world routines cells new setting top keeps to.frame) in
        let values : pures (scene_of world) new call.args.items ≡ worths (pures (scene_of world) cells top.env.items) (clause_of world.texts.source.now world.texts.literals.now clause).args =
        worth_is.means ∙ ap (λ z. worths (pures (scene_of world) cells z) (clause_of world.texts.source.now world.texts.literals.now clause).args) env_is in
        let ties = ties_on to.ties (ties_clause (program world routines setting) (map (going_of world routines cells) ws) (going_of world routines cells top)
        (clause_of world.texts.source.now world.texts.literals.now clause) _ (drop_at _ top.clause _ clause_is)) in (
          rw (goings, values, call_is) ties,
          subst (λ z. AllWait world routines new setting main (reverse z) call.routine) (sym next_is)
              (subst (λ z. AllWait world routines new setting main z call.routine) (sym (reverse-append ws (top ∷ [])))
              (one_waits top (reverse ws) call.routine
              (record { frame = frame_kept world routines cells new setting top keeps to.frame; clause = _; is = clause_is; calls = sym call_is })
              (all_kept keeps to.wait))),
          record {
            there = rw call_is there;
            are = subst (λ z. AreIn (scene_of world) new call.args.items (routine_at (routines_in world routines) z).params) (sym call_is)
                (worth_is.typed setting.kinds to.frame.types _ stands.fit.kinds_are (subst (λ z. AreIn (scene_of world) cells z to.frame.types) (sym env_is) to.frame.env_are) args);
          },
        )

  -- no clause is left
  module _ (past : length it.clauses.now ≤ top.clause) where
    none_left : drop top.clause (frame_rule world routines top).clauses ≡ []
    none_left = let e = ap (λ z. length z.clauses) rule_is in let g = clauses_length world.texts.source.now world.texts.literals.now it.clauses.now in
        let le : length (frame_rule world routines top).clauses ≤ top.clause = omega (arith, past, e, g) in drop_of_length-le (frame_rule world routines top).clauses le

    answer_is : HasType (rule_context world.types.now setting.kinds to.frame.types) (rule_of world.texts.source.now world.texts.literals.now it).answer
        (routine_at (routines_in world routines) top.routine).answer
    answer_is = subst (λ z. HasType (rule_context world.types.now setting.kinds to.frame.types) z.answer (routine_at (routines_in world routines) top.routine).answer) rule_is
        (answer_type (subst (λ z. RestFits world.types.now setting.kinds (routines_in world routines) to.frame.types (drop top.read (frame_rule world routines top).reads) z
        (frame_rule world routines top).answer (routine_at (routines_in world routines) top.routine).answer) none_left to.frame.rest))

    pub answer_ready : (env : List Value) → env ≡ top.env.items → WorthReady (scene_of world) cells env (rule_of world.texts.source.now world.texts.literals.now it).answer
    answer_ready env is = record {
      kinds = setting.kinds;
      kinds_are = stands.fit.kinds_are;
      types = to.frame.types;
      are = subst (λ z. AreIn (scene_of world) cells z to.frame.types) (sym is) to.frame.env_are;
      of = _;
      typed = answer_is;
    }

    module _ (new : List Cell) (env : List Value) (v : Value) (env_is : env ≡ top.env.items) (keeps : Keeps cells new)
        (worth_is : IsWorth (scene_of world) cells new env (rule_of world.texts.source.now world.texts.literals.now it).answer v) where
      pub v_answer : IsAnswer world routines new top.routine v
      v_answer = worth_is.typed setting.kinds to.frame.types _ stands.fit.kinds_are
          (subst (λ z. AreIn (scene_of world) cells z to.frame.types) (sym env_is) to.frame.env_are) answer_is

      value_of : Ties 0 before (Within (program world routines setting) (map (going_of world routines cells) ws) (Is (a_value (pure_of world.texts.source.now world.texts.literals.now new v))))
      value_of =
          let means : pure_of world.texts.source.now world.texts.literals.now new v ≡ worth (pures (scene_of world) cells top.env.items) (frame_rule world routines top).answer =
          worth_is.means ∙ ap (λ z. worth (pures (scene_of world) cells z) (rule_of world.texts.source.now world.texts.literals.now it).answer) env_is
          ∙ ap (λ z. worth (pures (scene_of world) cells top.env.items) z.answer) (sym rule_is) in
          rw means (ties_on to.ties (ties_within (program world routines setting) (map (going_of world routines cells) ws) 0 (Goes (program world routines setting) (going_of world routines cells top)) _
          (ties_end (program world routines setting) (going_of world routines cells top) none_left)))

      main_is : ws ≡ [] → top.routine ≡ main
      main_is none = last_call (subst (λ z. AllWait world routines cells setting main (reverse z) top.routine) none to.wait)
        where
          last_call : {q : ℕ} → AllWait world routines cells setting main [] q → q ≡ main
          last_call (none_waits) = refl

      pub settle_value : ws ≡ [] → Settles world routines new setting main before ws (step.Done (outcome.Value v))
      settle_value none = (
        ties_on (subst (λ z. Ties 0 before (Within (program world routines setting) (map (going_of world routines cells) z) (Is (a_value (pure_of world.texts.source.now world.texts.literals.now new v))))) none value_of)
            (ties_last (program world routines setting) _),
        subst (λ z. IsAnswer world routines new z v) (main_is none) v_answer,
      )

      -- a frame waits for the value
      module _ (rest : List Frame) (below : Frame) (ws_is : ws ≡ rest ++ below ∷ []) where
        both_wait : WaitsFor world routines cells setting below top.routine × AllWait world routines cells setting main (reverse rest) below.routine
        both_wait = first_wait (subst (λ z. AllWait world routines cells setting main z top.routine) (ap reverse ws_is ∙ reverse-append rest (below ∷ [])) to.wait)
          where
            first_wait : {q : ℕ} → AllWait world routines cells setting main (below ∷ reverse rest) q
                → WaitsFor world routines cells setting below q × AllWait world routines cells setting main (reverse rest) below.routine
            first_wait (one_waits f fs q waits all) = (waits, all)

        pub below_waits : WaitsFor world routines new setting below top.routine
        below_waits = waits_kept world routines cells new setting below top.routine keeps both_wait.0

        pub resumed_ties : (part : Coming) → Ties 0 (Resumes (program world routines setting) (going_of world routines new below) (a_value (pure_of world.texts.source.now world.texts.literals.now new v))) part
            → Ties 0 before (Within (program world routines setting) (map (going_of world routines cells) rest) part)
        resumed_ties part ties =
            let goings : map (going_of world routines cells) ws ≡ map (going_of world routines cells) rest ++ going_of world routines new below ∷ [] =
            ap (map (going_of world routines cells)) ws_is ∙ goings-append world routines cells rest below
            ∙ ap (λ z. map (going_of world routines cells) rest ++ z ∷ []) (sym (going_kept world routines cells new setting below keeps both_wait.0.frame)) in
            ties_on (subst (λ z. Ties 0 before (Within (program world routines setting) z (Is (a_value (pure_of world.texts.source.now world.texts.literals.now new v))))) goings value_of)
            (ties_on (ties_value (program world routines setting) (map (going_of world routines cells) rest) (going_of world routines new below) _)
            (ties_within (program world routines setting) (map (going_of world routines cells) rest) 0 _ part ties))

        pub settle_stop : (last : List Cell) (t : ℕ)
            → Ties 0 (Resumes (program world routines setting) (going_of world routines new below) (a_value (pure_of world.texts.source.now world.texts.literals.now new v))) (Is (no_rule t))
            → Ties 0 before (Is (no_rule t))
        settle_stop last t ties =
            ties_on (resumed_ties (Is (no_rule t)) ties)
            (ties_no_rule (program world routines setting) (map (going_of world routines cells) rest) t
            (have_clauses world routines cells setting rest (waiting_each world routines cells setting main below.routine rest both_wait.1)))

        pub settle_on : (last : List Cell) (next : Frame) → Keeps new last
            → Ties 0 (Resumes (program world routines setting) (going_of world routines new below) (a_value (pure_of world.texts.source.now world.texts.literals.now new v)))
            (Goes (program world routines setting) (going_of world routines last next)) × IsFrame world routines last setting next × (next.routine ≡ below.routine)
            → Keeps cells last → Settling world routines last setting main before rest next
        settle_on last next keeps2 (ties, frame, is) both =
            let each = waiting_each world routines cells setting main below.routine rest both_wait.1 in
            record {
              frame = frame;
              wait = subst (λ z. AllWait world routines last setting main (reverse rest) z) (sym is) (all_kept both both_wait.1);
              ties = subst (λ z. Ties 0 before (Within (program world routines setting) z (Goes (program world routines setting) (going_of world routines last next))))
                  (sym (goings_kept world routines cells last setting rest both each)) (resumed_ties _ ties);
            }

pub none_of_length : (ws : List Frame) → length ws ≡ 0 → ws ≡ []
none_of_length [] e = refl
none_of_length (f ∷ ws) e = absurd (omega (arith, e))
