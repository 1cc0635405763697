-- Set by set.
use Rattle.std.proofs.Common.{◌<◌, ◌≤◌, length, sym, subst}
use Rattle.std.proofs.lemmas.List.{length-map}
use Rattle.ag_model.specs.Attribution.{kinds_in}
use Rattle.ag_model.specs.Plans.{lists}
use Rattle.ag_model.specs.within.FitsByPlace.{PartFits}
use Rattle.ag_model.proofs.Tries.{all_more, all_all, one_lacks}
use Rattle.ag_model.proofs.sets.parts_fit.Goals as goal

pub returns-then-not-part_fits : goal.returns-then-not-part_fits
returns-then-not-part_fits c =
    one_lacks (λ k. PartFits (kinds_in c.args.attributes.now) (lists c.args.sets.now) k) c.loop-k.k (length (lists c.args.sets.now)) c.part_fits.result (subst (λ n. c.loop-k.k < n) (sym (length-map c.args.sets.now (λ part. part.items))) c.loop-k-test.true) c.part_fits.ensures c.if-not-part_fits.true

pub loop-k-preserved : goal.loop-k-preserved
loop-k-preserved c =
    all_more (λ k. PartFits (kinds_in c.args.attributes.now) (lists c.args.sets.now) k) c.loop-k.k c.part_fits.result c.loop-k.invariant c.part_fits.ensures c.if-not-part_fits.false

pub returns : goal.returns
returns c =
    all_all (λ k. PartFits (kinds_in c.args.attributes.now) (lists c.args.sets.now) k) c.loop-k.k (length (lists c.args.sets.now)) (subst (λ n. n ≤ c.loop-k.k) (sym (length-map c.args.sets.now (λ part. part.items))) c.loop-k-test.false) c.loop-k.invariant
