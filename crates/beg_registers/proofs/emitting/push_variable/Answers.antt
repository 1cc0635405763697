-- The fields that the rule binds are collected, and the one that is asked for is written.
use Rattle.std.proofs.Common.{◌≡◌, ◌++◌, Some, None, length, refl, sym, subst, ap, ◌∙◌, arith, append-nil}
use Rattle.std.specs.Prelude.{slice_get}
use Rattle.std.proofs.lemmas.Option.{slice_get_read, slice_get_within, slice_get_past, slice_get-get_or}
use Rattle.beg_model.specs.Cover.{Instance}
use Rattle.beg_model.specs.RuleMeaning.{pattern_of}
use Rattle.beg_registers.specs.Bound.{bound_at}
use Rattle.beg_registers.specs.within.Shown.{FitsNode}
use Rattle.beg_registers.proofs.CodeFacts.{field_written}
use Rattle.beg_registers.proofs.emitting.push_variable.Goals as goal

pub collect_bound-requires : goal.collect_bound-requires
collect_bound-requires c =
    let r = ap (λ (z : Instance). z.rule) c.i.view_is in
    let n = ap (λ (z : Instance). z.node) c.i.view_is in
    let w = slice_get_within c.args.rules.now.rules.items c.args.i.now.rule _ c.requires.known.is in
    let there = slice_get_read c.args.rules.now.rules.items (length c.args.rules.now.rules.items) c.i.inside.rule c.index.result.now refl (omega (arith, w, r)) c.index.ensures in
    subst (λ z. FitsNode c.args.tree.now c.index.result.now.pattern z) (sym n)
    (c.requires.fits c.index.result.now (subst (λ z. slice_get c.args.rules.now.rules.items z ≡ Some c.index.result.now) r there))

pub returns-then-k-bound : goal.returns-then-k-bound
returns-then-k-bound c =
    let r = ap (λ (z : Instance). z.rule) c.i.view_is in
    let n = ap (λ (z : Instance). z.node) c.i.view_is in
    let w = slice_get_within c.args.rules.now.rules.items c.args.i.now.rule _ c.requires.known.is in
    let there = slice_get_read c.args.rules.now.rules.items (length c.args.rules.now.rules.items) c.i.inside.rule c.index.result.now refl (omega (arith, w, r)) c.index.ensures in
    let pattern = pattern_of c.args.texts.now.source.now c.args.texts.now.literals.now c.index.result.now.pattern in
    field_written c.args.texts.now c.args.rules.now c.args.tree.now c.args.i.now c.index.result.now c.args.k c.collect_bound.new.fields.items None c.args.out.now.items c.args.out.now.items
    (subst (λ z. slice_get c.args.rules.now.rules.items z ≡ Some c.index.result.now) r there)
    (c.in_ok-collect_bound.ensures c.args.texts.now.source.now c.args.texts.now.literals.now
    ∙ ap (λ z. z ++ bound_at c.args.tree.now pattern c.i.inside.node) c.clear.ensures.items ∙ ap (λ z. bound_at c.args.tree.now pattern z) n)
    (ap (λ z. slice_get z c.args.k) (sym c.as_slice-bound.ensures.value) ∙ slice_get_past c.as_slice-bound.result.now c.args.k c.if-k-bound.true)
    (sym (append-nil c.args.out.now.items))

pub returns : goal.returns
returns c =
    let r = ap (λ (z : Instance). z.rule) c.i.view_is in
    let n = ap (λ (z : Instance). z.node) c.i.view_is in
    let w = slice_get_within c.args.rules.now.rules.items c.args.i.now.rule _ c.requires.known.is in
    let there = slice_get_read c.args.rules.now.rules.items (length c.args.rules.now.rules.items) c.i.inside.rule c.index.result.now refl (omega (arith, w, r)) c.index.ensures in
    let pattern = pattern_of c.args.texts.now.source.now c.args.texts.now.literals.now c.index.result.now.pattern in
    field_written c.args.texts.now c.args.rules.now c.args.tree.now c.args.i.now c.index.result.now c.args.k c.collect_bound.new.fields.items _ c.args.out.now.items c.push_value.new.out.items
    (subst (λ z. slice_get c.args.rules.now.rules.items z ≡ Some c.index.result.now) r there)
    (c.in_ok-collect_bound.ensures c.args.texts.now.source.now c.args.texts.now.literals.now
    ∙ ap (λ z. z ++ bound_at c.args.tree.now pattern c.i.inside.node) c.clear.ensures.items ∙ ap (λ z. bound_at c.args.tree.now pattern z) n)
    (ap (λ z. slice_get z c.args.k) (sym c.as_slice-bound.ensures.value) ∙ slice_get-get_or c.as_slice-bound.result.now c.args.k _ c.if-k-bound.false)
    c.in_ok-push_value.ensures
