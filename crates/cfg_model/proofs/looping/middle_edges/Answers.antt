-- One rule more.
use Rattle.std.proofs.Common.{◌≡◌, ◌≤◌, [], length, refl, slice_get, Some, ap, ◌∙◌}
use Rattle.std.proofs.lemmas.Option.{slice_get_read}
use Rattle.cfg_model.specs.Cfg.{Cfg}
use Rattle.cfg_model.proofs.Middling.{middle_rule, middle_all}
use Rattle.cfg_model.proofs.looping.middle_edges.Goals as goal

pub loop-i-preserved : goal.loop-i-preserved
loop-i-preserved c =
    let are : c.deref-rule-items.result.now ≡ c.args.g.now.rules = c.deref-rule-items.ensures.value ∙ ap (λ (g : Cfg). g.rules) c.g.view_is in
    let is : slice_get c.args.g.now.rules c.loop-i.i ≡ Some c.rule-item.result =
    rw (← are) (slice_get_read c.deref-rule-items.result.now _ c.loop-i.i c.rule-item.result refl c.loop-i-test.true c.rule-item.is) in
    middle_rule c.args.g.now c.args.null.now c.loop-i.i c.rule-item.result [] c.loop-i.edges.items c.add_middle.new.edges.items is c.loop-i.invariant c.in_ok-add_middle.ensures

pub returns : goal.returns
returns c =
    let are : c.deref-rule-items.result.now ≡ c.args.g.now.rules = c.deref-rule-items.ensures.value ∙ ap (λ (g : Cfg). g.rules) c.g.view_is in
    let all : length c.args.g.now.rules ≤ c.loop-i.i = rw are at c.loop-i-test.false in
    middle_all c.args.g.now c.args.null.now c.loop-i.i c.loop-i.edges.items c.loop-i.invariant all
