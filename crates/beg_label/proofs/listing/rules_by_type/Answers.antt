-- One type more has its list.
use Rattle.beg_label.proofs.RulesByType.{one_more_list}
use Rattle.beg_label.specs.within.Listed.{ListsRules}
use Rattle.std.proofs.Common.{subst}
use Rattle.beg_label.proofs.listing.rules_by_type.Goals as goal

pub loop-ty-preserved : goal.loop-ty-preserved
loop-ty-preserved c = record {
  size = (let more = c.in_ok-push.ensures.len in let size = c.loop-ty.invariant.size in cc);
  each = λ texts. one_more_list texts c.args.rules.now c.args.types.now c.loop-ty.ty c.loop-ty.lists.items c.push.new.self.items c.in_ok-list.list
      c.loop-ty.invariant.size c.in_ok-push.ensures.items (c.loop-ty.invariant.each texts)
      (subst (λ z. ListsRules texts c.args.rules.now c.args.types.now c.loop-ty.ty z c.in_ok-list.list.items) c.requires (c.in_ok-list.ensures texts));
}
