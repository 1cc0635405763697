-- One rule's set more.
use Rattle.std.proofs.Common.{◌≡◌, length, refl, slice_get, Some, ap, ◌∙◌, arith}
use Rattle.std.proofs.lemmas.Option.{slice_get_read}
use Rattle.cfg_model.specs.Cfg.{Cfg}
use Rattle.ell_tables.proofs.RuleSets.{rule_sets_more, rule_sets_all}
use Rattle.ell_tables.proofs.making.rule_sets.Goals as goal

pub rule_set-requires-clause-firsts : goal.rule_set-requires-clause-firsts
rule_set-requires-clause-firsts c = rw c.deref.ensures.value c.in_ok-firsts.ensures

pub loop-i-preserved : goal.loop-i-preserved
loop-i-preserved c =
    let g = c.args.g.now in
    let are : c.deref-rule-items.result.now ≡ g.rules = c.deref-rule-items.ensures.value ∙ ap (λ (g : Cfg). g.rules) c.g.view_is in
    let is : slice_get g.rules c.loop-i.i ≡ Some c.rule-item.result =
    rw (← are) (slice_get_read c.deref-rule-items.result.now _ c.loop-i.i c.rule-item.result refl c.loop-i-test.true c.rule-item.is) in
    rw c.in_ok-push.ensures.items (rule_sets_more g c.loop-i.i c.rule-item.result c.loop-i.sets.items c.in_ok-set.set is c.in_ok-set.ensures.size c.in_ok-set.ensures.has c.loop-i.invariant)

pub returns : goal.returns
returns c =
    let g = c.args.g.now in
    let are : c.deref-rule-items.result.now ≡ g.rules = c.deref-rule-items.ensures.value ∙ ap (λ (g : Cfg). g.rules) c.g.view_is in
    let last : c.loop-i.i ≡ length g.rules = (let a = c.loop-i.auto.i-end in let b = c.loop-i-test.false in let d = ap (λ l. length l) are in omega arith) in
    rule_sets_all g c.loop-i.sets.items c.loop-i.i c.loop-i.invariant last
