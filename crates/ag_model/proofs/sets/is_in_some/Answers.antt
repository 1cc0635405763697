-- Set by set.
use Rattle.std.proofs.Common.{◌↔◌, IsTrue, [], subst}
use Rattle.std.specs.Prelude.{slice_index_or, Contains}
use Rattle.ag_model.specs.Plans.{lists}
use Rattle.ag_model.proofs.Tries.{none_more, none_all}
use Rattle.ag_model.proofs.sets.is_in_some.Goals as goal

pub loop-k-preserved : goal.loop-k-preserved
loop-k-preserved c =
    none_more (λ j. Contains (slice_index_or (lists c.args.sets.now) j []) c.args.a) c.loop-k.k c.is_in.result c.loop-k.invariant (subst (λ xs. IsTrue c.is_in.result ↔ Contains xs c.args.a) c.set_at.ensures c.is_in.ensures) c.if-is_in.false

pub returns : goal.returns
returns c =
    none_all (λ j. Contains (slice_index_or (lists c.args.sets.now) j []) c.args.a) c.loop-k.k c.args.end c.loop-k-test.false c.loop-k.invariant
