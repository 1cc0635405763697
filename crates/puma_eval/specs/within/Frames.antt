-- Frames: calls whose rule is used, as the program holds them, and what they mean.
use Rattle.std.specs.Prelude.{◌≡◌, ℕ, ◌+◌, ◌<◌, ◌≤◌, ◌^◌, List, [], ◌∷◌, length, drop, map, reverse, slice_get, Some, Ok, Err, Result}
use Rattle.value_store.specs.Cells.{Cell}
use Rattle.value_store.specs.declared.value.Value.{Value}
use Rattle.value_store.specs.declared.value.ValType.{ValType}
use Rattle.expr_lang.specs.PureOf.{pure_of}
use Rattle.puma_model.specs.Comes.{Program, Comes, a_value, no_rule}
use Rattle.puma_model.specs.Found.{scene_of, IsScene}
use Rattle.puma_model.specs.PurePatterns.{variable_count_all}
use Rattle.puma_model.specs.Rules.{PureClause, PureRule, PureRoutine, routine_at, rules_at, rule_at}
use Rattle.puma_model.specs.Typed.{AreIn, IsIn, pures}
use Rattle.puma_model.specs.TypedRules.{RestFits, RoutinesFit}
use Rattle.puma_model.specs.declared.rules.Routines.{Routines}
use Rattle.puma_model.specs.declared.world.World.{World}
use Rattle.puma_eval.specs.Answers.{program_in, routines_in}
use Rattle.puma_eval.specs.declared.frames.Frame.{Frame}
use Rattle.puma_eval.specs.declared.frames.Call.{Call}
use Rattle.puma_eval.specs.declared.frames.Outcome.{Outcome}
use Rattle.puma_eval.specs.declared.frames.Outcome.TheVariants as outcome
use Rattle.puma_eval.specs.declared.frames.Resumed.{Resumed}
use Rattle.puma_eval.specs.declared.frames.Resumed.TheVariants as resumed
use Rattle.puma_eval.specs.declared.frames.Step.{Step}
use Rattle.puma_eval.specs.declared.frames.Step.TheVariants as step
use Rattle.puma_eval.specs.declared.results.Rewritten.{Rewritten}
use Rattle.puma_eval.specs.declared.results.RewriteError.{RewriteError}
use Rattle.puma_eval.specs.declared.results.RewriteError.TheVariants as error
use Rattle.puma_eval.specs.within.Evaluating.{Setting, Attributes}
use Rattle.puma_eval.specs.within.Machine.{Coming, Ties, Is, Going, Goes, Within}

-- the types and the tree are sound, the routines are typed, and attributes have their values
pub record Stands (world : World) (routines : Routines) (cells : List Cell) (setting : Setting) : Type 0 where
  pub scene_is : IsScene (scene_of world)
  pub fit : RoutinesFit world.types.now setting.kinds (routines_in world routines)
  pub attributes : Attributes world cells setting

abbrev pub program : World → Routines → Setting → Program
program world routines setting = program_in world routines setting.attribute

-- the values are arguments of the routine
pub record AreArgs (world : World) (routines : Routines) (cells : List Cell) (q : ℕ) (args : List Value) : Type 0 where
  pub there : q < length (routines_in world routines)
  pub are : AreIn (scene_of world) cells args (routine_at (routines_in world routines) q).params

-- there is room for the variables of the patterns of each rule
pub record HasRoom (routines : List PureRoutine) (room : ℕ) : Type 0 where
  pub small : room < 2 ^ 32
  pub enough : (q i : ℕ) (rule : PureRule) → slice_get (rules_at routines q) i ≡ Some rule → variable_count_all rule.patterns ≤ room

-- the rule of a frame
abbrev pub frame_rule : World → Routines → Frame → PureRule
frame_rule world routines f = rule_at (routines_in world routines) f.routine f.rule

-- what a frame means
abbrev pub going_of : World → Routines → List Cell → Frame → Going
going_of world routines cells f = record {
  routine = f.routine;
  args = pures (scene_of world) cells f.args.items;
  answer = (frame_rule world routines f).answer;
  later = drop (f.rule + 1) (rules_at (routines_in world routines) f.routine);
  clauses = drop f.clause (frame_rule world routines f).clauses;
  reads = drop f.read (frame_rule world routines f).reads;
  env = pures (scene_of world) cells f.env.items;
}

-- a frame has a rule, its values are of their types, and what is left of the rule is typed
pub record IsFrame (world : World) (routines : Routines) (cells : List Cell) (setting : Setting) (f : Frame) : Type 0 where
  pub args : AreArgs world routines cells f.routine f.args.items
  pub rule_there : f.rule < length (rules_at (routines_in world routines) f.routine)
  pub types : List ValType
  pub env_are : AreIn (scene_of world) cells f.env.items types
  pub rest : RestFits world.types.now setting.kinds (routines_in world routines) types
      (drop f.read (frame_rule world routines f).reads) (drop f.clause (frame_rule world routines f).clauses)
      (frame_rule world routines f).answer (routine_at (routines_in world routines) f.routine).answer

-- a frame waits for a call of the routine
pub record WaitsFor (world : World) (routines : Routines) (cells : List Cell) (setting : Setting) (f : Frame) (q : ℕ) : Type 0 where
  pub frame : IsFrame world routines cells setting f
  pub clause : PureClause
  pub is : slice_get (frame_rule world routines f).clauses f.clause ≡ Some clause
  pub calls : clause.routine ≡ q

-- frames, the innermost first, wait for a call of a routine each, and the outermost is a call of the main routine
pub data AllWait (world : World) (routines : Routines) (cells : List Cell) (setting : Setting) (main : ℕ) : List Frame → ℕ → Type 0 where
  none_waits : AllWait world routines cells setting main [] main
  one_waits : (f : Frame) (fs : List Frame) (q : ℕ) → WaitsFor world routines cells setting f q
      → AllWait world routines cells setting main fs f.routine → AllWait world routines cells setting main (f ∷ fs) q

-- the value is of what the routine gives
abbrev pub IsAnswer : World → Routines → List Cell → ℕ → Value → Type 0
IsAnswer world routines cells q v = IsIn (scene_of world) cells v (routine_at (routines_in world routines) q).answer

-- something comes to what this comes to: a frame of the routine that goes on, or no rule
abbrev pub Leads : World → Routines → List Cell → Setting → Coming → ℕ → Resumed → Type 0
Leads world routines cells setting part q (resumed.On f) =
    Ties 0 part (Goes (program world routines setting) (going_of world routines cells f)) × IsFrame world routines cells setting f × (f.routine ≡ q)
Leads world routines cells setting part q (resumed.NoRule t) = Ties 0 part (Is (no_rule t))

-- what is to be done next comes to what the frames came to
abbrev pub Settles : World → Routines → List Cell → Setting → ℕ → Coming → List Frame → Step → Type 0
Settles world routines cells setting main before waiting (step.Call call) =
    Ties 0 before (Within (program world routines setting) (map (going_of world routines cells) waiting)
    (Comes (program world routines setting) call.routine (pures (scene_of world) cells call.args.items)))
    × AllWait world routines cells setting main (reverse waiting) call.routine
    × AreArgs world routines cells call.routine call.args.items
Settles world routines cells setting main before waiting (step.Done (outcome.Value v)) =
    Ties 0 before (Is (a_value (pure_of world.texts.source.now world.texts.literals.now cells v))) × IsAnswer world routines cells main v
Settles world routines cells setting main before waiting (step.Done (outcome.NoRule t)) = Ties 0 before (Is (no_rule t))

-- the frame on top, and those that wait, come to what came before
pub record Settling (world : World) (routines : Routines) (cells : List Cell) (setting : Setting) (main : ℕ) (before : Coming) (waiting : List Frame)
    (top : Frame) : Type 0 where
  pub frame : IsFrame world routines cells setting top
  pub wait : AllWait world routines cells setting main (reverse waiting) top.routine
  pub ties : Ties 0 before (Within (program world routines setting) (map (going_of world routines cells) waiting)
      (Goes (program world routines setting) (going_of world routines cells top)))

-- after so many calls the main call comes to what the present call and the frames that wait for it come to
pub record Turning (world : World) (routines : Routines) (cells : List Cell) (setting : Setting) (main : ℕ) (before : Coming) (waiting : List Frame)
    (call : Call) (turn : ℕ) : Type 0 where
  pub wait : AllWait world routines cells setting main (reverse waiting) call.routine
  pub args : AreArgs world routines cells call.routine call.args.items
  pub ties : Ties turn before (Within (program world routines setting) (map (going_of world routines cells) waiting)
      (Comes (program world routines setting) call.routine (pures (scene_of world) cells call.args.items)))

-- the answer where the main call comes to this
abbrev pub answer_of : Outcome → ℕ → Result Rewritten RewriteError
answer_of (outcome.Value v) calls = Ok (record { value = v; calls = calls })
answer_of (outcome.NoRule q) calls = Err (error.NoRule q calls)
