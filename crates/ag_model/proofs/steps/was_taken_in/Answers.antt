-- Visit by visit.
use Rattle.std.proofs.Common.{◌+◌, false, true}
use Rattle.ag_model.specs.Plans.{TakesIn, lists}
use Rattle.ag_model.proofs.Tries.{none_more, none_all, one_has, by_contents, most_of}
use Rattle.ag_model.proofs.steps.was_taken_in.Goals as goal

pub returns-then-is_in : goal.returns-then-is_in
returns-then-is_in c =
    most_of (λ v. TakesIn (lists c.args.sets.now) v c.args.a) c.args.most true (one_has (λ v. TakesIn (lists c.args.sets.now) v c.args.a) c.loop-v.v (c.args.most + 1) c.is_in.result c.loop-v-test.true (by_contents c.taken_in.result.now c.is_in.result c.args.a (TakesIn (lists c.args.sets.now) c.loop-v.v) c.taken_in.ensures c.is_in.ensures) c.if-is_in.true)

pub loop-v-preserved : goal.loop-v-preserved
loop-v-preserved c =
    none_more (λ v. TakesIn (lists c.args.sets.now) v c.args.a) c.loop-v.v c.is_in.result c.loop-v.invariant (by_contents c.taken_in.result.now c.is_in.result c.args.a (TakesIn (lists c.args.sets.now) c.loop-v.v) c.taken_in.ensures c.is_in.ensures) c.if-is_in.false

pub returns : goal.returns
returns c =
    most_of (λ v. TakesIn (lists c.args.sets.now) v c.args.a) c.args.most false (none_all (λ v. TakesIn (lists c.args.sets.now) v c.args.a) c.loop-v.v (c.args.most + 1) c.loop-v-test.false c.loop-v.invariant)
