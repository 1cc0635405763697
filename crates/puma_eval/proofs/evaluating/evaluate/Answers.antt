-- The store has room, and holds the same cells as before.
use Rattle.std.proofs.Common.{ap, sym, subst}
use Rattle.value_store.specs.Cells.{cells_of}
use Rattle.expr_lang.specs.Meaning.{meant}
use Rattle.expr_lang.specs.Evaluated.{Ready}
use Rattle.puma_model.specs.Found.{scene_of}
use Rattle.puma_eval.proofs.Evaluated.{ready_of, worth_of, ok_on}
use Rattle.puma_eval.proofs.evaluating.evaluate.Goals as goal

pub eval-requires : goal.eval-requires
eval-requires c = subst (λ z. Ready (cells_of z) c.args.env.now (meant c.args.world.now.texts c.args.e.now)) (sym c.in_ok-reserve.ensures.same)
    (ready_of (scene_of c.args.world.now) (cells_of c.args.cells.now.units) c.args.env.now _ c.requires)

pub returns-clause-ok : goal.returns-clause-ok
returns-clause-ok c = ok_on c.eval.result _ _ c.eval.ensures.ok
    (λ v done. worth_of (scene_of c.args.world.now) (cells_of c.args.cells.now.units) (cells_of c.reserve.new.self.units) (cells_of c.eval.new.cells.units) c.args.env.now
    (meant c.args.world.now.texts c.args.e.now) v (ap cells_of c.in_ok-reserve.ensures.same) done)
