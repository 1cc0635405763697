-- One symbol more.
use Rattle.std.proofs.Common.{◌≡◌, ◌<◌, ◌+◌, ◌-◌, ◌∷◌, drop, get_or, length, refl, ◌∙◌, ap, add-one, drop-cons, arith}
use Rattle.cfg_model.specs.declared.symbol.Sym.TheVariants.{T}
use Rattle.cfg_model.specs.Cfg.{Rule}
use Rattle.cfg_model.proofs.Middling.{standing_more, standing_done}
use Rattle.cfg_model.proofs.looping.add_middle.Goals as goal

pub loop-i-preserved : goal.loop-i-preserved
loop-i-preserved c =
    let right = c.as_slice-right.result.now in
    let i = c.loop-i.i in
    let some = c.loop-i-test.true in
    let fits = c.loop-i.invariant.fits in
    let back : (i - 1) + 1 ≡ i = omega arith in
    let inside : i - 1 < length right = omega arith in
    let next : drop (i - 1) right ≡ get_or right (i - 1) (T 0) ∷ drop (i - 1 + 1) right = rw (add-one, drop-cons right (i - 1) (T 0)) refl in
    let cut : drop (i - 1) right ≡ get_or right (i - 1) (T 0) ∷ drop i right = rw back at next in
    record {
      fits = omega arith;
      edges = rw cut (standing_more c.args.null.now c.rule.inside.left c.stops-others.result (get_or right (i - 1) (T 0)) (drop i right) c.is_alone-alone.result
          c.args.edges.now.items c.loop-i.edges.items c.put_edge.new.edges.items c.is_alone-alone.ensures c.loop-i.invariant.edges c.in_ok-put_edge.ensures);
    }

pub returns : goal.returns
returns c =
    let right = c.as_slice-right.result.now in
    let left_is : c.rule.inside.left ≡ c.args.rule.now.left = ap (λ (r : Rule). r.left) c.rule.view_is in
    let right_is : right ≡ c.args.rule.now.right = c.as_slice-right.ensures.value ∙ ap (λ (r : Rule). r.right) c.rule.view_is in
    let zero_is : c.loop-i.i ≡ 0 = (let a = c.loop-i-test.false in omega arith) in
    let all = rw zero_is at c.loop-i.invariant.edges in
    rw (left_is, right_is) at (standing_done c.args.null.now c.rule.inside.left c.stops-others.result right c.args.edges.now.items c.loop-i.edges.items c.stops-others.ensures all)
