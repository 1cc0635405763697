-- They are turns over the tree's nodes.
use Rattle.ag_model.specs.Attribution.{grammar_of}
use Rattle.ag_model.specs.Solution.{expressions_of}
use Rattle.ag_visits.specs.within.OfTree.{tree_of, val_of, kinds_at, sets_at, steps_at}
use Rattle.ag_visits.proofs.Fits.{ready_of, fitting, is_full}
use Rattle.ag_visits.proofs.WholeVisits.{are_whole}
use Rattle.ag_visits.proofs.visits.visits_of_a_plan.Goals as goal

pub returns : goal.returns
returns c = λ width wide.
    let g = grammar_of c.args.types.now c.args.a.now in
    let nodes = c.args.tree.now in
    let plan = c.args.plan.now in
    let val = val_of c.args.texts.now.source.now c.args.texts.now.literals.now
    (expressions_of c.args.texts.now.source.now c.args.texts.now.literals.now c.args.a.now) nodes in
    let ready = ready_of g plan nodes c.requires.attribution.complete c.requires.fits c.requires.conforms c.len-count.ensures.forest c.requires.root in
    are_whole val (tree_of g width nodes) (kinds_at g nodes) (sets_at g plan nodes) (steps_at plan nodes)
    (fitting g width nodes val plan ready wide) (is_full g width nodes val plan ready wide)
