-- One rule more.
use Rattle.std.proofs.Common.{◌≡◌, ◌≤◌, length, refl, slice_get, Some, ap, ◌∙◌}
use Rattle.std.proofs.lemmas.Option.{slice_get_read}
use Rattle.cfg_model.specs.Cfg.{Cfg}
use Rattle.cfg_model.proofs.HiddenRows.{hidden_rule, hidden_all}
use Rattle.cfg_model.proofs.hiding.hide_rules.Goals as goal

pub loop-i-preserved : goal.loop-i-preserved
loop-i-preserved c =
    let g = c.args.g.now in
    let count : c.g.inside.nonterminals ≡ g.nonterminals = ap (λ (g : Cfg). g.nonterminals) c.g.view_is in
    let are : c.deref-rule-items.result.now ≡ g.rules = c.deref-rule-items.ensures.value ∙ ap (λ (g : Cfg). g.rules) c.g.view_is in
    let is : slice_get g.rules c.loop-i.i ≡ Some c.rule-item.result =
    rw (← are) (slice_get_read c.deref-rule-items.result.now _ c.loop-i.i c.rule-item.result refl c.loop-i-test.true c.rule-item.is) in
    record {
      rows = rw count at c.hide_rule.ensures.rows;
      hidden = hidden_rule g c.args.null.now c.args.met.now c.loop-i.i c.rule-item.result c.args.rows.now.items c.loop-i.rows.items c.hide_rule.new.rows.items is
          c.loop-i.invariant.hidden c.hide_rule.ensures.hidden;
    }

pub returns-clause-hidden : goal.returns-clause-hidden
returns-clause-hidden c =
    let g = c.args.g.now in
    let are : c.deref-rule-items.result.now ≡ g.rules = c.deref-rule-items.ensures.value ∙ ap (λ (g : Cfg). g.rules) c.g.view_is in
    let all : length g.rules ≤ c.loop-i.i = rw are at c.loop-i-test.false in
    hidden_all g c.args.null.now c.args.met.now c.loop-i.i c.args.rows.now.items c.loop-i.rows.items c.loop-i.invariant.hidden all
