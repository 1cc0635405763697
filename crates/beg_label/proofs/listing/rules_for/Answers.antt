-- One rule more; all of them.
use Rattle.std.proofs.Common.{◌≡◌, arith, subst}
use Rattle.beg_label.specs.within.Listed.{ListsRules}
use Rattle.beg_label.proofs.RulesByType.{one_listed}
use Rattle.beg_label.proofs.listing.rules_for.Goals as goal

pub loop-r-preserved : goal.loop-r-preserved
loop-r-preserved c = λ texts. (let below = c.loop-r-test.true in let count = c.requires.count in
    one_listed texts c.args.rules.now c.args.types.now c.args.ty c.loop-r.r c.loop-r.list.items c.list_rule.new.list.items
    (omega (arith, below, count)) (c.loop-r.invariant texts) (c.in_ok-list_rule.ensures texts))

pub returns : goal.returns
returns c = λ texts. (let past = c.loop-r-test.false in let end = c.loop-r.auto.r-end in
    let all : c.loop-r.r ≡ c.args.count = omega (arith, past, end) in
    subst (λ z. ListsRules texts c.args.rules.now c.args.types.now c.args.ty z c.loop-r.list.items) all (c.loop-r.invariant texts))
