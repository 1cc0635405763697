-- One rule more, by whether it adds.
use Rattle.std.proofs.Common.{slice_get, Some, ◌≡◌, ◌≤◌, length, ap, refl, ◌∙◌}
use Rattle.std.proofs.lemmas.Option.{slice_get_read}
use Rattle.cfg_model.specs.Cfg.{Cfg}
use Rattle.cfg_model.proofs.Round.{round_added, round_same, round_closed}
use Rattle.cfg_model.proofs.closing.add_round.Goals as goal
use Rattle.cfg_model.proofs.closing.add_round.Goals.{then-add_left, else-add_left}

pub loop-i-preserved : goal.loop-i-preserved
loop-i-preserved c =
    let are : c.deref-rule-items.result.now ≡ c.args.g.now.rules = c.deref-rule-items.ensures.value ∙ ap (λ (g : Cfg). g.rules) c.g.view_is in
    let is : slice_get c.args.g.now.rules c.loop-i.i ≡ Some c.rule-item.result =
    rw (← are) (slice_get_read c.deref-rule-items.result.now _ c.loop-i.i c.rule-item.result refl c.loop-i-test.true c.rule-item.is) in
    elim c.if-add_left.branch [
      | then-add_left w ↦ rw w.grew-is (round_added c.args.words c.args.g.now c.loop-i.i c.args.set.now c.loop-i.set c.add_left.new.set c.loop-i.grew c.rule-item.result c.loop-i.invariant is (c.add_left.ensures.added w.if-add_left.true))
      | else-add_left w ↦ rw w.grew-is (round_same c.args.words c.args.g.now c.loop-i.i c.args.set.now c.loop-i.set c.add_left.new.set c.loop-i.grew c.rule-item.result c.loop-i.invariant is (c.add_left.ensures.same w.if-add_left.false))
    ]

pub returns-clause-closed : goal.returns-clause-closed
returns-clause-closed c =
    let are : c.deref-rule-items.result.now ≡ c.args.g.now.rules = c.deref-rule-items.ensures.value ∙ ap (λ (g : Cfg). g.rules) c.g.view_is in
    let all : length c.args.g.now.rules ≤ c.loop-i.i = rw are at c.loop-i-test.false in
    round_closed c.args.words c.args.g.now c.loop-i.i c.args.set.now c.loop-i.set c.loop-i.grew c.loop-i.invariant all
