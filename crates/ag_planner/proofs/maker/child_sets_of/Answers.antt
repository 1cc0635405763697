-- A family has few sets.
use Rattle.std.proofs.Common.{◌≡◌, ap, sym, ◌∙◌, arith, length, Vec, ℕ}
use Rattle.std.specs.Global.{Global}
use Rattle.std.proofs.lemmas.List.{length-map}
use Rattle.ag_model.proofs.TypesInRange.{child_there}
use Rattle.ag_model.specs.Plans.{sets_at, sets_of, lists}
use Rattle.ag_planner.proofs.Reading.{sets_read}
use Rattle.ag_planner.specs.within.Tasks.{below, g_of, set_plan}
use Rattle.ag_planner.proofs.maker.child_sets_of.Goals as goal

pub returns-clause-is : goal.returns-clause-is
returns-clause-is c =
    let task = c.args.task.now in
    let x = c.child_family-family.result in
    let count = c.requires.task.sets.count in
    let size = length-map task.sets.now (λ (parts : Vec (Vec ℕ Global) Global). lists parts.items) in
    let there = child_there (g_of task) c.requires.task.complete task.t c.args.c x c.child_family-family.ensures in
    let read = sets_read task.sets.now x c.index-task-family.result (omega arith) c.index-task-family.is in
    ap lists c.as_slice.ensures.value ∙ ap (λ (v : Vec (Vec ℕ Global) Global). lists v.items) (sym c.index-task-family.is) ∙ sym read ∙ sym (ap (sets_at (set_plan task)) c.child_family-family.ensures)

pub returns-clause-few : goal.returns-clause-few
returns-clause-few c =
    let is : lists c.as_slice.result.now ≡ below c.args.task.now c.args.c = returns-clause-is c in
    let x = c.child_family-family.result in
    let parts = c.requires.task.sets.each x (child_there (g_of c.args.task.now) c.requires.task.complete c.args.task.now.t c.args.c x c.child_family-family.ensures) in
    let few = parts.few in
    let at_x : below c.args.task.now c.args.c ≡ sets_of (set_plan c.args.task.now) x = ap (sets_at (set_plan c.args.task.now)) c.child_family-family.ensures in
    let size = length-map c.as_slice.result.now (λ (v : Vec ℕ Global). v.items) in
    let same = ap length (is ∙ at_x) in
    omega arith
