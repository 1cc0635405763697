-- A family has few sets.
use Rattle.std.proofs.Common.{◌≡◌, [], ap, sym, ◌∙◌, arith, length, Vec, ℕ}
use Rattle.std.specs.Global.{Global}
use Rattle.std.proofs.lemmas.List.{length-map}
use Rattle.ag_model.proofs.TypesInRange.{family_there}
use Rattle.ag_model.specs.Attribution.{family_of}
use Rattle.std.specs.Prelude.{slice_index_or}
use Rattle.ag_model.specs.Plans.{lists}
use Rattle.ag_planner.specs.within.Sets.{pure_sets}
use Rattle.ag_planner.proofs.Reading.{sets_read}
use Rattle.ag_planner.specs.within.Tasks.{own_sets, g_of}
use Rattle.ag_planner.proofs.maker.own_sets_of.Goals as goal

pub returns-clause-is : goal.returns-clause-is
returns-clause-is c =
    let task = c.args.task.now in
    let count = c.requires.sets.count in
    let size = length-map task.sets.now (λ (parts : Vec (Vec ℕ Global) Global). lists parts.items) in
    let below = c.family_of-family.ensures.there in
    let read = sets_read task.sets.now c.family_of-family.result c.index-task-family.result (omega arith) c.index-task-family.is in
    ap lists c.as_slice.ensures.value ∙ ap (λ (v : Vec (Vec ℕ Global) Global). lists v.items) (sym c.index-task-family.is) ∙ sym read ∙ ap (λ x. slice_index_or (pure_sets task.sets.now) x []) c.family_of-family.ensures.is

pub returns-clause-few : goal.returns-clause-few
returns-clause-few c =
    let is : lists c.as_slice.result.now ≡ own_sets c.args.task.now = returns-clause-is c in
    let parts = c.requires.sets.each (family_of (g_of c.args.task.now) c.args.task.now.t) (family_there (g_of c.args.task.now) c.requires.complete c.args.task.now.t c.requires.there) in
    let few = parts.few in
    let size = length-map c.as_slice.result.now (λ (v : Vec ℕ Global). v.items) in
    let same = ap length is in
    omega arith
