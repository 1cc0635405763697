-- One part more, from the end.
use Rattle.std.proofs.Common.{◌≡◌, ◌<◌, ◌+◌, ◌-◌, arith, length}
use Rattle.std.proofs.lemmas.Option.{slice_get-get_or}
use Rattle.cfg_model.specs.declared.symbol.Sym.TheVariants.{T}
use Rattle.cfg_model.specs.declared.parts.Part.{Part}
use Rattle.cfg_model.proofs.FirstLoops.{edges_more, edges_same}
use Rattle.cfg_model.proofs.first_sets.first_edges.Goals as goal

pub loop-i-preserved-in-Continue-1 : goal.loop-i-preserved-in-Continue-1
loop-i-preserved-in-Continue-1 c =
    let zero_part : Part = record { left = 0; symbol = T 0 } in
    let parts = c.args.parts.now in
    let i = c.loop-i.i in
    let some = c.loop-i-test.true in
    let fits = c.loop-i.invariant.fits in
    let inside : i - 1 < length parts = omega arith in
    let back : i ≡ (i - 1) + 1 = omega arith in
    let is = slice_get-get_or parts (i - 1) zero_part inside in
    let range = c.requires.1 _ (i - 1, is) in
    record {
      fits = omega arith;
      so_far = rw c.in_ok-push.ensures.items (edges_more parts (i - 1) _ is c.args.count c.requires.0 c.in-N.n c.loop-i.edges.items c.in-N.is (rw c.in-N.is at range.1) range.0 (rw back at c.loop-i.invariant.so_far));
    }

pub loop-i-preserved : goal.loop-i-preserved
loop-i-preserved c =
    let zero_part : Part = record { left = 0; symbol = T 0 } in
    let parts = c.args.parts.now in
    let i = c.loop-i.i in
    let some = c.loop-i-test.true in
    let fits = c.loop-i.invariant.fits in
    let inside : i - 1 < length parts = omega arith in
    let back : i ≡ (i - 1) + 1 = omega arith in
    let is = slice_get-get_or parts (i - 1) zero_part inside in
    record {
      fits = omega arith;
      so_far = edges_same parts (i - 1) _ is c.args.count c.requires.0 c.loop-i.edges.items c.in_default.not-N (rw back at c.loop-i.invariant.so_far);
    }
