-- The rules before this one aren't used.
use Rattle.std.proofs.Common.{◌≡◌, ◌-◌, length, drop}
use Rattle.value_store.specs.Cells.{cells_of}
use Rattle.expr_lang.specs.Evaluated.{Keeps}
use Rattle.puma_model.specs.Comes.{Tries}
use Rattle.puma_model.specs.Found.{scene_of}
use Rattle.puma_model.specs.Rules.{rules_at}
use Rattle.puma_model.specs.Typed.{pures}
use Rattle.puma_eval.specs.Answers.{routines_in}
use Rattle.puma_eval.specs.within.Evaluating.{Setting}
use Rattle.puma_eval.specs.within.Frames.{Stands, program}
use Rattle.puma_eval.specs.within.Machine.{Ties}
use Rattle.puma_eval.proofs.frames.start.Given as goal

abbrev pub invariant-loop-rule : goal.invariant-loop-rule
invariant-loop-rule g l = record {
  kept : Keeps (cells_of l.initial.cells.units) (cells_of l.cells.units);
  size : length l.bindings ≡ length l.initial.bindings;
  ties : (setting : Setting) → Stands l.world l.routines (cells_of l.initial.cells.units) setting
      → Ties 0 (Tries (program l.world l.routines setting) l.call.routine (pures (scene_of l.world) (cells_of l.initial.cells.units) l.call.args.items)
      (drop l.from (rules_at (routines_in l.world l.routines) l.call.routine)))
      (Tries (program l.world l.routines setting) l.call.routine (pures (scene_of l.world) (cells_of l.initial.cells.units) l.call.args.items)
      (drop l.next (rules_at (routines_in l.world l.routines) l.call.routine)));
}

abbrev pub decreases-loop-rule : goal.decreases-loop-rule
decreases-loop-rule g l = length (rules_at (routines_in l.world l.routines) l.call.routine) - l.next
