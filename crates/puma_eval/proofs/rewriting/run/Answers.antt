-- The setting that a run has, its room and its main call.
use Rattle.std.proofs.Common.{arith, ◌∙◌, ap, subst, ◌∷◌, []}
use Rattle.value_store.specs.Cells.{cells_of}
use Rattle.value_store.specs.declared.value.Value.TheVariants as value
use Rattle.puma_model.specs.Found.{scene_of}
use Rattle.puma_eval.specs.Answers.{Answers, attributes_in, program_in}
use Rattle.puma_eval.proofs.Turns.{stands_of, room_of, root_args, root_value, kinds_setting}
use Rattle.puma_eval.proofs.rewriting.run.Goals as goal

pub turns-requires-clause-room : goal.turns-requires-clause-room
turns-requires-clause-room g c = room_of c.args.world.now c.args.routines.now (cells_of c.args.cells.now.units) (kinds_setting c.args.world.now (cells_of c.args.cells.now.units) c.requires.typed.0) c.most_variables.result _ (stands_of c.args.world.now c.args.routines.now (cells_of c.args.cells.now.units) c.requires.typed.0 c.requires.world c.requires.typed.1)
    (let small = c.most_variables.type_inv in omega (arith, small)) c.in-Ok.ensures (λ q i r rule at at_rule. c.most_variables.ensures q i r rule at at_rule)

pub turns-requires-clause-ready : goal.turns-requires-clause-ready
turns-requires-clause-ready g c = (kinds_setting c.args.world.now (cells_of c.args.cells.now.units) c.requires.typed.0, (stands_of c.args.world.now c.args.routines.now (cells_of c.args.cells.now.units) c.requires.typed.0 c.requires.world c.requires.typed.1))

pub turns-requires-clause-args : goal.turns-requires-clause-args
turns-requires-clause-args g c = root_args c.args.world.now c.args.routines.now (cells_of c.args.cells.now.units) c.args.routines.now.main c.requires.main.0 c.in-Ok-rooted.args.items c.requires.main.1
    (c.in-Ok-rooted.ensures ∙ ap (λ z. value.Src z ∷ []) (c.requires.main.1.only.only c.root.result c.root.ensures.only.root))

pub returns-clause-answers : goal.returns-clause-answers
returns-clause-answers g c = λ root is.
    subst (λ z. Answers (program_in c.args.world.now c.args.routines.now (attributes_in c.args.world.now (cells_of c.args.cells.now.units))) (cells_of c.turns.new.cells.units) c.args.routines.now.main z c.args.budget c.turns.result)
    (root_value (scene_of c.args.world.now) (cells_of c.args.cells.now.units) c.in-Ok-rooted.args.items root
    (c.in-Ok-rooted.ensures ∙ ap (λ z. value.Src z ∷ []) (is.only.only c.root.result c.root.ensures.only.root)))
    (c.turns.ensures.answers (kinds_setting c.args.world.now (cells_of c.args.cells.now.units) c.requires.typed.0) (stands_of c.args.world.now c.args.routines.now (cells_of c.args.cells.now.units) c.requires.typed.0 c.requires.world c.requires.typed.1))
