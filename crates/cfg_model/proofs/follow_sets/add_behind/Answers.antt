-- One symbol more.
use Rattle.std.proofs.Common.{◌≡◌, ◌<◌, ◌+◌, ◌-◌, ◌∷◌, drop, get_or, length, refl, add-one, drop-cons, arith}
use Rattle.cfg_model.specs.declared.symbol.Sym.TheVariants.{T}
use Rattle.cfg_model.proofs.Trailing.{trailer_step, rows_step, edges_step}
use Rattle.cfg_model.proofs.follow_sets.add_behind.Goals as goal

pub loop-i-preserved : goal.loop-i-preserved
loop-i-preserved c =
    let right = c.as_slice-right.result.now in
    let i = c.loop-i.i in
    let some = c.loop-i-test.true in
    let before = c.loop-i.invariant in
    let fits = before.fits in
    let back : (i - 1) + 1 ≡ i = omega arith in
    let inside : i - 1 < length right = omega arith in
    let s = get_or right (i - 1) (T 0) in
    let next : drop (i - 1) right ≡ get_or right (i - 1) (T 0) ∷ drop (i - 1 + 1) right = rw (add-one, drop-cons right (i - 1) (T 0)) refl in
    let cut : drop (i - 1) right ≡ get_or right (i - 1) (T 0) ∷ drop i right = rw back at next in
    let firsts = c.args.firsts.now in
    let null = c.args.null.now in
    record {
      fits = omega arith;
      size = c.put_before-vanish.ensures.trailer;
      are = c.put_behind.ensures.rows;
      trailer = rw cut (trailer_step firsts null s (drop i right) c.loop-i.trailer c.put_before-vanish.new.trailer before.trailer c.put_before-vanish.ensures.begins);
      vanish = rw cut (
        (λ holds. (let both = c.put_before-vanish.ensures.vanish.0 holds in (both.0, before.vanish.0 both.1))),
        (λ pass. c.put_before-vanish.ensures.vanish.1 (pass.0, before.vanish.1 pass.1)),
      );
      rows = rw cut (rows_step firsts null s (drop i right) c.loop-i.trailer c.args.rows.now.items c.loop-i.rows.items c.put_behind.new.rows.items before.trailer before.rows c.put_behind.ensures.joined);
      edges = rw cut (edges_step firsts null s (drop i right) c.loop-i.vanish c.rule.inside.left c.args.edges.now.items c.loop-i.edges.items c.put_edge.new.edges.items before.vanish before.edges c.in_ok-put_edge.ensures);
    }
