-- One turn is one call.
use Rattle.std.proofs.Common.{◌≡◌, ℕ, ◌+◌, ◌-◌, ◌<◌, ◌≤◌, ◌^◌, zero, suc, List, [], ◌∷◌, ◌++◌, length, map, reverse, Some, arith, refl, sym, subst, ap, replicate, length-append}
use Rattle.std.specs.Prelude.{slice_get}
use Rattle.value_store.specs.Cells.{Cell}
use Rattle.value_store.specs.declared.value.Value.{Value}
use Rattle.value_store.specs.declared.value.Value.TheVariants as value
use Rattle.value_store.specs.PlainTypes.{plain_int, plain_bool, plain_text}
use Rattle.value_store.specs.declared.value.ValType.{ValType}
use Rattle.ag_model.specs.Typed.{IsAttributeType, of_plain, of_map}
use Rattle.expr_lang.specs.Evaluated.{Keeps}
use Rattle.expr_lang.specs.OfType.{IsOf, is_int, is_bool, is_text, is_map, is_source}
use Rattle.expr_lang.specs.PureOf.{pure_of}
use Rattle.expr_lang.specs.PureValues.{PureValue, source}
use Rattle.puma_model.specs.Comes.{Program, Reply, a_value, no_rule, Comes, called, Tries}
use Rattle.puma_model.specs.Found.{scene_of, IsScene}
use Rattle.puma_model.specs.Rules.{PureRule, PureRoutine, routine_at, rules_at, rule_of, routines_of}
use Rattle.puma_model.specs.Scene.{Scene}
use Rattle.puma_model.specs.Typed as typed
use Rattle.puma_model.specs.Typed.{IsOfType, typed_int, typed_bool, typed_text, typed_map, typed_source, AreIn, IsIn, pures}
use Rattle.puma_model.specs.TypedRules.{Kinds}
use Rattle.puma_model.specs.declared.rules.PumaRule.{PumaRule}
use Rattle.puma_model.specs.declared.rules.Routine.{Routine}
use Rattle.puma_model.specs.declared.rules.Routines.{Routines}
use Rattle.puma_model.specs.declared.world.World.{World}
use Rattle.puma_model.proofs.TypedValues.{in_one}
use Rattle.puma_eval.specs.Answers.{Answers, GivesValue, IsMain, IsReady, attributes_in, routines_in}
use Rattle.puma_eval.specs.declared.frames.Call.{Call}
use Rattle.puma_eval.specs.declared.frames.Frame.{Frame}
use Rattle.puma_eval.specs.declared.frames.Outcome.{Outcome}
use Rattle.puma_eval.specs.declared.frames.Outcome.TheVariants as outcome
use Rattle.puma_eval.specs.declared.frames.Resumed.TheVariants as resumed
use Rattle.puma_eval.specs.declared.frames.Step.TheVariants as step
use Rattle.puma_eval.specs.within.Evaluating.{Setting}
use Rattle.puma_eval.specs.within.Frames.{Stands, AreArgs, HasRoom, IsFrame, AllWait, none_waits, IsAnswer, Leads, Settles, Turning, program, going_of, answer_of}
use Rattle.puma_eval.specs.within.Machine.{Coming, Ties, Is, Going, Goes, Within, within}
use Rattle.puma_eval.proofs.Starting.{rule_fits}
use Rattle.puma_eval.proofs.Settling.{all_kept, waiting_each, goings_kept, have_clauses}
use Rattle.puma_eval.proofs.Steps.{ties_on, ties_call, ties_within, ties_by, none_there, none_back, ties_no_rule}

ties_then : (n : ℕ) (P Q R : Coming) → Ties n P Q → Ties 0 Q R → Ties n P R
ties_then n P Q R s t = let e : n + 0 ≡ n = omega arith in subst (λ z. Ties z P R) e (ties_on s t)

came : (n : ℕ) (main : Coming) (reply : Reply) → Ties n main (Is reply) → main reply n
came n main reply t = let e : n + 0 ≡ n = omega arith in subst (λ z. main reply z) e (t.there reply 0 (record { reply_is = refl; no_call = refl }))

at_least_one : {p : Program} {q k : ℕ} {args : List PureValue} {r : Reply} → Comes p q args r k → 0 < k
at_least_one (called q args k r tries) = omega arith

at_least_one_within : {p : Program} {q k : ℕ} {args : List PureValue} {r : Reply} (ws : List Going) → Within p ws (Comes p q args) r k → 0 < k
at_least_one_within ws (within r final j k come waits) = let some = at_least_one come in omega (arith, some)

pub turn_begin : (world : World) (routines : Routines) (cells : List Cell) (setting : Setting) (call : Call) (ws : List Frame) → ws ≡ [] → AreArgs world routines cells call.routine call.args.items
    → Turning world routines cells setting call.routine (Comes (program world routines setting) call.routine (pures (scene_of world) cells call.args.items)) ws call 0
turn_begin world routines cells setting call ws none args = record {
  wait = subst (λ z. AllWait world routines cells setting call.routine (reverse z) call.routine) (sym none) none_waits;
  args = args;
  ties = subst (λ z. Ties 0 (Comes (program world routines setting) call.routine (pures (scene_of world) cells call.args.items))
      (Within (program world routines setting) (map (going_of world routines cells) z) (Comes (program world routines setting) call.routine (pures (scene_of world) cells call.args.items)))) (sym none)
      (ties_by _ _ (none_back (program world routines setting) _) (none_there (program world routines setting) _));
}

module _ (world : World) (routines : Routines) (cells : List Cell) (setting : Setting) (main : ℕ) (before : Coming) (ws : List Frame) (call : Call) (turn : ℕ)
    (to : Turning world routines cells setting main before ws call turn) where
  -- the call's rules are tried
  tried : (part : Coming) → Ties 0 (Tries (program world routines setting) call.routine (pures (scene_of world) cells call.args.items) (rules_at (routines_in world routines) call.routine)) part
      → Ties (turn + 1) before (Within (program world routines setting) (map (going_of world routines cells) ws) part)
  tried part ties = ties_on to.ties (ties_within (program world routines setting) (map (going_of world routines cells) ws) 1 _ part
      (ties_on (ties_call (program world routines setting) call.routine _) ties))

  pub turn_none : (t : ℕ) → Ties 0 (Tries (program world routines setting) call.routine (pures (scene_of world) cells call.args.items) (rules_at (routines_in world routines) call.routine)) (Is (no_rule t))
      → before (no_rule t) (turn + 1)
  turn_none t ties = came (turn + 1) before (no_rule t) (ties_then (turn + 1) before _ _ (tried (Is (no_rule t)) ties)
      (ties_no_rule (program world routines setting) (map (going_of world routines cells) ws) t
      (have_clauses world routines cells setting ws (waiting_each world routines cells setting main call.routine ws to.wait))))

  module _ (mid : List Cell) (keeps : Keeps cells mid) (f : Frame)
      (leads : Leads world routines mid setting (Tries (program world routines setting) call.routine (pures (scene_of world) cells call.args.items) (rules_at (routines_in world routines) call.routine))
      call.routine (resumed.On f)) where
    pub frame_ready : IsFrame world routines mid setting f × AllWait world routines mid setting main (reverse ws) f.routine
    frame_ready = (leads.1, subst (AllWait world routines mid setting main (reverse ws)) (sym leads.2) (all_kept keeps to.wait))

    started : Ties (turn + 1) before (Within (program world routines setting) (map (going_of world routines mid) ws) (Goes (program world routines setting) (going_of world routines mid f)))
    started = subst (λ z. Ties (turn + 1) before (Within (program world routines setting) z (Goes (program world routines setting) (going_of world routines mid f))))
        (sym (goings_kept world routines cells mid setting ws keeps (waiting_each world routines cells setting main call.routine ws to.wait))) (tried _ leads.0)

    pub turn_call : (new : List Cell) (next_ws : List Frame) (next : Call)
        → Settles world routines new setting main (Within (program world routines setting) (map (going_of world routines mid) ws) (Goes (program world routines setting) (going_of world routines mid f))) next_ws (step.Call next)
        → Turning world routines new setting main before next_ws next (turn + 1)
    turn_call new next_ws next (ties, wait, args) = record { wait = wait; args = args; ties = ties_then (turn + 1) before _ _ started ties }

    pub turn_value : (new : List Cell) (next_ws : List Frame) (v : Value)
        → Settles world routines new setting main (Within (program world routines setting) (map (going_of world routines mid) ws) (Goes (program world routines setting) (going_of world routines mid f))) next_ws (step.Done (outcome.Value v))
        → before (a_value (pure_of world.texts.source.now world.texts.literals.now new v)) (turn + 1) × IsAnswer world routines new main v
    turn_value new next_ws v (ties, answer) = (came (turn + 1) before _ (ties_then (turn + 1) before _ _ started ties), answer)

    pub turn_stop : (new : List Cell) (next_ws : List Frame) (t : ℕ)
        → Settles world routines new setting main (Within (program world routines setting) (map (going_of world routines mid) ws) (Goes (program world routines setting) (going_of world routines mid f))) next_ws (step.Done (outcome.NoRule t))
        → before (no_rule t) (turn + 1)
    turn_stop new next_ws t ties = came (turn + 1) before _ (ties_then (turn + 1) before _ _ started ties)

    -- the answer where all is done
    pub turn_done : (new : List Cell) (next_ws : List Frame) (o : Outcome) (budget : ℕ) → turn < budget
        → (args : List PureValue) → before ≡ Comes (program world routines setting) main args
        → Settles world routines new setting main (Within (program world routines setting) (map (going_of world routines mid) ws) (Goes (program world routines setting) (going_of world routines mid f))) next_ws (step.Done o)
        → Answers (program world routines setting) new main args budget (answer_of o (turn + 1)) × GivesValue world (routines_in world routines) new main (answer_of o (turn + 1))
    turn_done new next_ws (outcome.Value v) budget lt args is settles = let (come, answer) = turn_value new next_ws v settles in
        ((subst (λ z. z (a_value (pure_of world.texts.source.now world.texts.literals.now new v)) (turn + 1)) is come, omega (arith, lt)), answer)
    turn_done new next_ws (outcome.NoRule t) budget lt args is settles =
        ((subst (λ z. z (no_rule t) (turn + 1)) is (turn_stop new next_ws t settles), omega (arith, lt)), tt)

  pub turn_spent : (r : Reply) (k : ℕ) → before r k → turn < k
  turn_spent r k m = let (l, w, is) = to.ties.back r k m in let some = at_least_one_within _ w in omega (arith, some, is)

-- ------------------------------------------------------------------ where a run begins

attribute_typed : (scene : Scene) (cells : List Cell) (v : Value) (t : ValType) → IsAttributeType t → IsOf (typed.source_families scene.table) cells v t
    → IsOfType scene (pure_of scene.source scene.literals cells v) t
attribute_typed scene cells _ _ (of_plain _ plain_int) (is_int z) = typed_int z
attribute_typed scene cells _ _ (of_plain _ plain_bool) (is_bool b) = typed_bool b
attribute_typed scene cells _ _ (of_plain _ plain_text) (is_text t) = typed_text _
attribute_typed scene cells _ _ of_map (is_map m there) = typed_map _

abbrev pub kinds_setting : World → List Cell → Kinds → Setting
kinds_setting world cells kinds = record { kinds = kinds; attribute = attributes_in world cells }

pub stands_of : (world : World) (routines : Routines) (cells : List Cell) (kinds : Kinds) → IsScene (scene_of world) → IsReady world cells routines kinds → Stands world routines cells (kinds_setting world cells kinds)
stands_of world routines cells kinds w t = record {
  scene_is = w;
  fit = t.fit;
  attributes = λ n a u within of. (let x = t.attributes n a u within of in record {
    node = x.node;
    attribute = x.attribute;
    is = record { is = x.is; typed = attribute_typed (scene_of world) cells _ u (t.fit.kinds_are.attributes _ a u of) x.is };
    means = refl;
  });
}

pub root_args : (world : World) (routines : Routines) (cells : List Cell) (main root : ℕ) (args : List Value) → IsMain world (routines_in world routines) main root
    → args ≡ value.Src root ∷ [] → AreArgs world routines cells main args
root_args world routines cells main root args is args_is = record {
  there = is.of.there;
  are = subst (λ z. AreIn (scene_of world) cells z (routine_at (routines_in world routines) main).params) (sym args_is)
      (subst (AreIn (scene_of world) cells (value.Src root ∷ [])) (sym is.of.params) (in_one (scene_of world) cells (value.Src root) _ (record {
        is = is_source root _ is.of.source_side;
        typed = typed_source root _ is.only.root.within refl is.of.source_side;
      })));
}

get_rule : (s l : List ℕ) (rules : List PumaRule) (i : ℕ) (rule : PureRule) → slice_get (map (rule_of s l) rules) i ≡ Some rule
    → (it : PumaRule) × (slice_get rules i ≡ Some it) × (rule ≡ rule_of s l it)
get_rule s l [] i rule is = cc
get_rule s l (x ∷ rules) zero rule is = let e : rule_of s l x ≡ rule = cc in (x, refl, sym e)
get_rule s l (x ∷ rules) (suc i) rule is = get_rule s l rules i rule is

get_routine : (s l : List ℕ) (list : List Routine) (q : ℕ) (i : ℕ) (rule : PureRule) → slice_get (rules_at (routines_of s l list) q) i ≡ Some rule
    → (r : Routine) × (it : PumaRule) × (slice_get list q ≡ Some r) × (slice_get r.rules.items i ≡ Some it) × (rule ≡ rule_of s l it)
get_routine s l [] q i rule is = cc
get_routine s l (r ∷ list) zero i rule is = let (it, at, e) = get_rule s l r.rules.items i rule is in (r, it, refl, at, e)
get_routine s l (r ∷ list) (suc q) i rule is = get_routine s l list q i rule is

routine_in_range : (routines : List PureRoutine) (q i : ℕ) (rule : PureRule) → slice_get (rules_at routines q) i ≡ Some rule → q < length routines
routine_in_range [] q i rule is = cc
routine_in_range (r ∷ routines) zero i rule is = omega arith
routine_in_range (r ∷ routines) (suc q) i rule is = let more = routine_in_range routines q i rule is in omega (arith, more)

pub room_of : (world : World) (routines : Routines) (cells : List Cell) (setting : Setting) (most room : ℕ) → Stands world routines cells setting → most < 2 ^ 32 → room ≡ most
    → ((q i : ℕ) (r : Routine) (rule : PumaRule) → slice_get routines.list.items q ≡ Some r → slice_get r.rules.items i ≡ Some rule → rule.vars ≤ most)
    → HasRoom (routines_in world routines) room
room_of world routines cells setting most room stands small same each = record {
  small = omega (arith, small, same);
  enough = λ q i rule is. (
      let (r, it, at, at_rule, e) = get_routine world.texts.source.now world.texts.literals.now routines.list.items q i rule is in
      let vars = each q i r it at at_rule in
      let fits = rule_fits world routines cells setting q i rule stands (routine_in_range _ q i rule is) is in
      let room_is = fits.counted in
      let v = ap (λ z. z.vars) e in
      omega (arith, vars, room_is, v, same));
}

replicate_length : (n : ℕ) (x : Value) → length (replicate n x) ≡ n
replicate_length zero x = refl
replicate_length (suc n) x = let e = replicate_length n x in omega (arith, e)

pub reserved_length : (new old : List Value) (n : ℕ) (x : Value) → old ≡ [] → new ≡ old ++ replicate (n - length old) x → length new ≡ n
reserved_length new old n x none is =
    let e = ap (λ z. length z) is in
    let f = length-append old (replicate (n - length old) x) in
    let h = replicate_length (n - length old) x in
    let o = ap (λ z. length z) none in
    omega (arith, e, f, h, o)

pub root_value : (scene : Scene) (cells : List Cell) (args : List Value) (root : ℕ) → args ≡ value.Src root ∷ [] → pures scene cells args ≡ source root ∷ []
root_value scene cells args root is = ap (pures scene cells) is
