-- One symbol more, and whether it can vanish.
use Rattle.std.proofs.Common.{◌≡◌, ◌+◌, [], ◌∷◌, drop, get_or, refl, ap, ◌∙◌, add-one, drop-cons}
use Rattle.std.proofs.Math.ListN.{drop_of_length-le}
use Rattle.cfg_model.specs.declared.symbol.Sym.TheVariants.{T}
use Rattle.cfg_model.specs.Cfg.{Rule}
use Rattle.cfg_model.proofs.Fronts.{adding_pass, adding_stop, adding_of_rule}
use Rattle.cfg_model.proofs.parts.add_parts.Goals as goal

pub loop-symbol-preserved : goal.loop-symbol-preserved
loop-symbol-preserved c =
    let right = c.as_slice-right.result.now in
    let i = c.loop-symbol.symbol-index in
    let lt = c.loop-symbol-test.true in
    let cut : drop i right ≡ get_or right i (T 0) ∷ drop (i + 1) right = rw (add-one, drop-cons right i (T 0)) refl in
    rw c.in_ok-push.ensures.items (adding_pass c.args.null.now c.rule.inside.left right (get_or right i (T 0)) (drop (i + 1) right) c.args.parts.now.items c.loop-symbol.parts.items
    (rw cut at c.loop-symbol.invariant) (c.if-not-passes.ensures.0 refl))

pub returns-then-not-passes : goal.returns-then-not-passes
returns-then-not-passes c =
    let right = c.as_slice-right.result.now in
    let i = c.loop-symbol.symbol-index in
    let lt = c.loop-symbol-test.true in
    let cut : drop i right ≡ get_or right i (T 0) ∷ drop (i + 1) right = rw (add-one, drop-cons right i (T 0)) refl in
    let left_is : c.rule.inside.left ≡ c.args.rule.now.left = ap (λ (r : Rule). r.left) c.rule.view_is in
    let right_is : right ≡ c.args.rule.now.right = c.as_slice-right.ensures.value ∙ ap (λ (r : Rule). r.right) c.rule.view_is in
    let adding = adding_stop c.args.null.now c.rule.inside.left right (get_or right i (T 0)) (drop (i + 1) right) c.args.parts.now.items c.loop-symbol.parts.items
    (rw cut at c.loop-symbol.invariant) (λ pass. (let e = c.if-not-passes.ensures.1 pass in cc)) in
    rw c.in_ok-push.ensures.items (adding_of_rule c.args.null.now c.args.rule.now c.rule.inside.left right [] c.args.parts.now.items _ left_is right_is adding refl)

pub returns : goal.returns
returns c =
    let right = c.as_slice-right.result.now in
    let left_is : c.rule.inside.left ≡ c.args.rule.now.left = ap (λ (r : Rule). r.left) c.rule.view_is in
    let right_is : right ≡ c.args.rule.now.right = c.as_slice-right.ensures.value ∙ ap (λ (r : Rule). r.right) c.rule.view_is in
    let none_left : drop c.loop-symbol.symbol-index right ≡ [] = drop_of_length-le right {i = c.loop-symbol.symbol-index} c.loop-symbol-test.false in
    adding_of_rule c.args.null.now c.args.rule.now c.rule.inside.left right (drop c.loop-symbol.symbol-index right) c.args.parts.now.items c.loop-symbol.parts.items left_is right_is c.loop-symbol.invariant none_left
