-- Attribute by attribute.
use Rattle.std.proofs.Common.{◌↔◌, IsTrue, length, sym, subst}
use Rattle.std.proofs.lemmas.List.{length-map}
use Rattle.ag_model.specs.Plans.{lists}
use Rattle.ag_model.specs.within.FitsByPlace.{IsInSome}
use Rattle.ag_model.proofs.Tries.{all_more, all_all, one_lacks}
use Rattle.ag_model.proofs.sets.all_placed.Goals as goal

pub returns-then-not-is_in_some : goal.returns-then-not-is_in_some
returns-then-not-is_in_some c =
    one_lacks (λ a. IsInSome (lists c.args.sets.now) (length (lists c.args.sets.now)) a) c.loop-a.a c.args.end c.is_in_some.result c.loop-a-test.true (subst (λ n. IsTrue c.is_in_some.result ↔ IsInSome (lists c.args.sets.now) n c.loop-a.a) (sym (length-map c.args.sets.now (λ part. part.items))) c.is_in_some.ensures) c.if-not-is_in_some.true

pub loop-a-preserved : goal.loop-a-preserved
loop-a-preserved c =
    all_more (λ a. IsInSome (lists c.args.sets.now) (length (lists c.args.sets.now)) a) c.loop-a.a c.is_in_some.result c.loop-a.invariant (subst (λ n. IsTrue c.is_in_some.result ↔ IsInSome (lists c.args.sets.now) n c.loop-a.a) (sym (length-map c.args.sets.now (λ part. part.items))) c.is_in_some.ensures) c.if-not-is_in_some.false

pub returns : goal.returns
returns c =
    all_all (λ a. IsInSome (lists c.args.sets.now) (length (lists c.args.sets.now)) a) c.loop-a.a c.args.end c.loop-a-test.false c.loop-a.invariant
