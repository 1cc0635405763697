-- One rule more, whose left side is in the set or isn't.
use Rattle.std.proofs.Common.{◌≡◌, ◌≤◌, ℕ, refl, ap, ◌∙◌, sym, subst, length, slice_get, Some}
use Rattle.std.proofs.lemmas.Option.{slice_get_read}
use Rattle.ck_base.specs.BitSet.{Has}
use Rattle.cfg_model.specs.Cfg.{Cfg, Rule}
use Rattle.cfg_model.proofs.Trailing.{behind_rule, behind_other, behind_all}
use Rattle.cfg_model.proofs.follow_sets.add_rules.Goals as goal
use Rattle.cfg_model.proofs.follow_sets.add_rules.Goals.{then-has+in_ok-add_behind, else-has}

pub loop-i-preserved : goal.loop-i-preserved
loop-i-preserved c =
    let g = c.args.g.now in
    let firsts = c.args.firsts.now in
    let null = c.args.null.now in
    let reach = c.args.reach.now in
    let are : c.deref-rule-items.result.now ≡ g.rules = c.deref-rule-items.ensures.value ∙ ap (λ (g : Cfg). g.rules) c.g.view_is in
    let is : slice_get g.rules c.loop-i.i ≡ Some c.rule-item.result =
    rw (← are) (slice_get_read c.deref-rule-items.result.now _ c.loop-i.i c.rule-item.result refl c.loop-i-test.true c.rule-item.is) in
    let left_is : c.rule.inside.left ≡ c.rule-item.result.left = ap (λ (r : Rule). r.left) c.rule.view_is in
    elim c.if-has.branch [
      | then-has+in_ok-add_behind w ↦ rw (w.rows-is, w.edges-is, w.trailer-is) (record {
        are = w.add_behind.ensures.rows;
        size = w.add_behind.ensures.trailer;
        so_far = behind_rule g firsts null reach c.loop-i.i c.rule-item.result is c.args.rows.now.items c.loop-i.rows.items c.loop-i.edges.items c.loop-i.invariant.so_far
            w.add_behind.new.rows.items w.add_behind.new.edges.items (subst (λ (n : ℕ). Has reach n) left_is (c.has.ensures.0 w.if-has.true))
            w.in_ok-add_behind.ensures.begins w.in_ok-add_behind.ensures.edges;
      })
      | else-has w ↦ rw (w.rows-is, w.edges-is, w.trailer-is) (record {
        are = c.loop-i.invariant.are;
        size = c.loop-i.invariant.size;
        so_far = behind_other g firsts null reach c.loop-i.i c.rule-item.result is c.args.rows.now.items c.loop-i.rows.items c.loop-i.edges.items c.loop-i.invariant.so_far
            (λ has. (let e = c.has.ensures.1 (subst (λ (n : ℕ). Has reach n) (sym left_is) has) in let f = w.if-has.false in cc));
      })
    ]

pub returns-clause-behind : goal.returns-clause-behind
returns-clause-behind c =
    let g = c.args.g.now in
    let are : c.deref-rule-items.result.now ≡ g.rules = c.deref-rule-items.ensures.value ∙ ap (λ (g : Cfg). g.rules) c.g.view_is in
    let all : length g.rules ≤ c.loop-i.i = rw are at c.loop-i-test.false in
    behind_all g c.args.firsts.now c.args.null.now c.args.reach.now c.loop-i.i c.args.rows.now.items c.loop-i.rows.items c.loop-i.edges.items c.loop-i.invariant.so_far all
