-- By whether the left side is reachable, and the right side vanishes.
use Rattle.std.proofs.Common.{◌≡◌, ◌<◌, ℕ, ap, ◌∙◌, sym, subst, length, arith}
use Rattle.std.proofs.lemmas.List.{get_or_default}
use Rattle.ck_base.specs.BitSet.{BitSet, Has, Adds}
use Rattle.cfg_model.specs.Cfg.{Rule}
use Rattle.cfg_model.specs.Rows.{no_row, row}
use Rattle.ell_tables.specs.within.RuleSets.{IsRuleSet}
use Rattle.ell_tables.proofs.RuleSets.{set_none, set_stop, set_vanish}
use Rattle.ell_tables.proofs.making.rule_set.Goals as goal
use Rattle.ell_tables.proofs.making.rule_set.Goals.{then-has+then-add_first, then-has+else-add_first, else-has}

pub returns-clause-has : goal.returns-clause-has
returns-clause-has c =
    let g = c.args.g.now in
    let reach = c.args.reach.now in
    let follows = c.args.follows.now in
    let one = c.args.rule.now in
    let left_is : c.rule.inside.left ≡ one.left = ap (λ (r : Rule). r.left) c.rule.view_is in
    let right_is : c.rule.inside.right.items ≡ one.right = ap (λ (r : Rule). r.right) c.rule.view_is in
    let is : IsRuleSet g one c.if-has.set = elim c.if-has.branch [
      | then-has+then-add_first w ↦
          let list_is = w.deref.ensures.value ∙ right_is in
          let reached = subst (λ (n : ℕ). Has reach n) left_is (c.has.ensures.0 w.if-has.true) in
          let inside : c.rule.inside.left < length follows = (let a = c.requires.follows.are.count_is in let b = c.requires.left in omega (arith, left_is)) in
          let source : w.index-follows-rule.result ≡ row follows one.left =
          w.index-follows-rule.is ∙ get_or_default follows c.rule.inside.left w.index-follows-rule.result no_row inside ∙ ap (λ n. row follows n) left_is in
          rw w.set-is (set_vanish g reach c.requires.reach one c.in_ok-set.set c.in_ok-set.ensures.empty reached w.add_first.new.to (rw list_is at w.add_first.ensures.first)
          follows c.requires.follows w.join.new.self (rw list_is at (w.add_first.ensures.vanish.0 w.if-add_first.true))
          (subst (λ (s : BitSet). Adds w.add_first.new.to w.join.new.self (Has s)) source w.join.ensures.joined))
      | then-has+else-add_first w ↦
          let list_is = w.deref.ensures.value ∙ right_is in
          let reached = subst (λ (n : ℕ). Has reach n) left_is (c.has.ensures.0 w.if-has.true) in
          rw w.set-is (set_stop g reach c.requires.reach one c.in_ok-set.set c.in_ok-set.ensures.empty reached w.add_first.new.to (rw list_is at w.add_first.ensures.first)
          (λ vanish. (let e = w.add_first.ensures.vanish.1 (rw list_is vanish) in let f = w.if-add_first.false in cc)))
      | else-has w ↦ rw w.set-is (set_none g reach c.requires.reach one c.in_ok-set.set c.in_ok-set.ensures.empty
          (λ has. (let e = c.has.ensures.1 (subst (λ (n : ℕ). Has reach n) (sym left_is) has) in let f = w.if-has.false in cc)))
    ] in
    is
