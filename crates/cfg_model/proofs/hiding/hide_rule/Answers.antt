-- One symbol more, and whether it can vanish.
use Rattle.std.proofs.Common.{◌≡◌, ◌+◌, ◌∷◌, drop, get_or, refl, ap, ◌∙◌, add-one, drop-cons}
use Rattle.cfg_model.specs.declared.symbol.Sym.TheVariants.{T}
use Rattle.cfg_model.specs.Cfg.{Rule}
use Rattle.cfg_model.proofs.HiddenRows.{hiding_pass, hiding_stop}
use Rattle.cfg_model.proofs.hiding.hide_rule.Goals as goal

pub returns-then-not-passes-clause-hidden : goal.returns-then-not-passes-clause-hidden
returns-then-not-passes-clause-hidden c =
    let right = c.as_slice-right.result.now in
    let i = c.loop-symbol.symbol-index in
    let lt = c.loop-symbol-test.true in
    let cut : drop i right ≡ get_or right i (T 0) ∷ drop (i + 1) right = rw (add-one, drop-cons right i (T 0)) refl in
    let left_is : c.rule.inside.left ≡ c.args.rule.now.left = ap (λ (r : Rule). r.left) c.rule.view_is in
    let right_is : right ≡ c.args.rule.now.right = c.as_slice-right.ensures.value ∙ ap (λ (r : Rule). r.right) c.rule.view_is in
    rw (left_is, right_is) at (hiding_stop c.args.null.now c.args.met.now c.rule.inside.left right c.loop-symbol.behind (get_or right i (T 0)) (drop (i + 1) right)
    c.args.rows.now.items c.loop-symbol.rows.items c.hide_symbol.new.rows.items (rw cut at c.loop-symbol.invariant.hiding) c.hide_symbol.ensures.joined
    (λ pass. (let e = c.if-not-passes.ensures.1 pass in cc)))

pub loop-symbol-preserved : goal.loop-symbol-preserved
loop-symbol-preserved c =
    let right = c.as_slice-right.result.now in
    let i = c.loop-symbol.symbol-index in
    let lt = c.loop-symbol-test.true in
    let cut : drop i right ≡ get_or right i (T 0) ∷ drop (i + 1) right = rw (add-one, drop-cons right i (T 0)) refl in
    record {
      rows = c.hide_symbol.ensures.rows;
      hiding = hiding_pass c.args.null.now c.args.met.now c.rule.inside.left right c.loop-symbol.behind (get_or right i (T 0)) (drop (i + 1) right)
          c.args.rows.now.items c.loop-symbol.rows.items c.hide_symbol.new.rows.items (rw cut at c.loop-symbol.invariant.hiding) c.hide_symbol.ensures.joined
          (c.if-not-passes.ensures.0 refl);
    }
