-- One symbol more, a nonterminal.
use Rattle.std.proofs.Common.{◌≡◌, ◌<◌, ◌+◌, ◌-◌, ◌∷◌, drop, get_or, length, refl, add-one, drop-cons, arith}
use Rattle.cfg_model.specs.declared.symbol.Sym.TheVariants.{T, N}
use Rattle.cfg_model.proofs.Gathering.{down_more}
use Rattle.cfg_model.proofs.reach.add_down.Goals as goal

pub loop-i-preserved-in-Continue-1 : goal.loop-i-preserved-in-Continue-1
loop-i-preserved-in-Continue-1 c =
    let right = c.as_slice-right.result.now in
    let i = c.loop-i.i in
    let some = c.loop-i-test.true in
    let fits = c.loop-i.invariant.fits in
    let back : (i - 1) + 1 ≡ i = omega arith in
    let inside : i - 1 < length right = omega arith in
    let next : drop (i - 1) right ≡ get_or right (i - 1) (T 0) ∷ drop (i - 1 + 1) right = rw (add-one, drop-cons right (i - 1) (T 0)) refl in
    let cut : drop (i - 1) right ≡ N c.in-N.n ∷ drop i right = rw (back, c.in-N.is) at next in
    record {
      fits = omega arith;
      edges = rw (c.in_ok-push.ensures.items, cut) (down_more c.rule.inside.left (drop i right) c.args.edges.now.items c.loop-i.edges.items c.in-N.n c.loop-i.invariant.edges);
    }
