use Rattle.std.proofs.Common.{◌≡◌, ◌+◌, ◌*◌, ◌-◌, ◌≤◌, length, map, drop, take}
use Rattle.value_store.specs.Cells.{cells_of}
use Rattle.expr_lang.specs.Meaning.{meaning, expressions_of, tokens_of}
use Rattle.expr_lang.specs.Units.{units_of_all}
use Rattle.expr_lang.specs.Evaluated.{EvaluatedAll}
use Rattle.expr_lang.proofs.Evaluates.{depth_of, depth_of_all}
use Rattle.expr_lang.proofs.evaluation.+eval.Given as goal

abbrev pub decreases-eval : goal.decreases-eval
decreases-eval l = 2 * depth_of (meaning l.texts.now.source.now l.texts.now.literals.now l.e.now)

abbrev pub decreases-eval_all : goal.decreases-eval_all
decreases-eval_all l = 2 * depth_of_all (expressions_of (map (meaning l.texts.now.source.now l.texts.now.literals.now) l.args.now))

abbrev pub decreases-eval_call : goal.decreases-eval_call
decreases-eval_call l = 2 * depth_of_all (expressions_of (map (meaning l.texts.now.source.now l.texts.now.literals.now) l.args.now)) + 1

abbrev pub decreases-eval_make : goal.decreases-eval_make
decreases-eval_make l = 2 * depth_of_all (expressions_of (map (meaning l.texts.now.source.now l.texts.now.literals.now) l.args.now)) + 1

abbrev pub invariant-eval_all-loop-i : goal.invariant-eval_all-loop-i
invariant-eval_all-loop-i l = record {
  within : l.i ≤ length l.args;
  eight : length l.into ≡ 16;
  spare : l.initial.cells.spare ≤ l.cells.spare + units_of_all (expressions_of (map (meaning l.texts.source.now l.texts.literals.now) (drop l.i l.args)));
  done : EvaluatedAll (tokens_of l.texts.source.now l.texts.literals.now l.spans l.places) l.texts.source.now l.texts.literals.now (cells_of l.initial.cells.units) (cells_of l.cells.units) l.env
      (expressions_of (map (meaning l.texts.source.now l.texts.literals.now) (drop l.i l.args))) (take (length l.args - l.i) (drop l.i l.into));
}

abbrev pub decreases-eval_all-loop-i : goal.decreases-eval_all-loop-i
decreases-eval_all-loop-i l = l.i
