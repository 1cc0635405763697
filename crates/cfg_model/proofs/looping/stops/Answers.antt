-- One symbol more, which passes or stops.
use Rattle.std.proofs.Common.{◌≡◌, ◌<◌, ◌≤◌, ◌+◌, ◌-◌, ◌∷◌, [], drop, get_or, length, refl, add-one, drop-cons, arith}
use Rattle.std.proofs.Math.ListN.{drop_of_length-le}
use Rattle.cfg_model.specs.declared.symbol.Sym.TheVariants.{T}
use Rattle.cfg_model.specs.within.Middles.{none_stops, it_passes, it_stops}
use Rattle.cfg_model.proofs.looping.stops.Goals as goal

pub loop-i-init : goal.loop-i-init
loop-i-init c =
    let list = c.args.list.now in
    let whole : length list ≤ length list = omega arith in
    let none_left : drop (length list) list ≡ [] = drop_of_length-le list {i = length list} whole in
    record { fits = omega arith; stops = rw none_left none_stops }

pub loop-i-preserved-then-not-passes : goal.loop-i-preserved-then-not-passes
loop-i-preserved-then-not-passes c =
    let list = c.args.list.now in
    let i = c.loop-i.i in
    let some = c.loop-i-test.true in
    let fits = c.loop-i.invariant.fits in
    let back : (i - 1) + 1 ≡ i = omega arith in
    let inside : i - 1 < length list = omega arith in
    let next : drop (i - 1) list ≡ get_or list (i - 1) (T 0) ∷ drop (i - 1 + 1) list = rw (add-one, drop-cons list (i - 1) (T 0)) refl in
    let cut : drop (i - 1) list ≡ get_or list (i - 1) (T 0) ∷ drop i list = rw back at next in
    record {
      fits = omega arith;
      stops = rw cut (it_stops (get_or list (i - 1) (T 0)) (drop i list) c.loop-i.count (λ pass. (let e = c.passes.ensures.1 pass in let f = c.if-not-passes.true in cc)) c.loop-i.invariant.stops);
    }

pub loop-i-preserved : goal.loop-i-preserved
loop-i-preserved c =
    let list = c.args.list.now in
    let i = c.loop-i.i in
    let some = c.loop-i-test.true in
    let fits = c.loop-i.invariant.fits in
    let back : (i - 1) + 1 ≡ i = omega arith in
    let inside : i - 1 < length list = omega arith in
    let next : drop (i - 1) list ≡ get_or list (i - 1) (T 0) ∷ drop (i - 1 + 1) list = rw (add-one, drop-cons list (i - 1) (T 0)) refl in
    let cut : drop (i - 1) list ≡ get_or list (i - 1) (T 0) ∷ drop i list = rw back at next in
    record {
      fits = omega arith;
      stops = rw cut (it_passes (get_or list (i - 1) (T 0)) (drop i list) c.loop-i.count (c.passes.ensures.0 c.if-not-passes.false) c.loop-i.invariant.stops);
    }
