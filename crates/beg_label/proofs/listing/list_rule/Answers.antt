-- A rule that isn't listed can't apply.
use Rattle.std.proofs.Common.{◌≡◌, inr, refl, subst}
use Rattle.beg_model.specs.Fitting.{MayFit}
use Rattle.beg_model.specs.RuleMeaning.{rule_of}
use Rattle.beg_model.specs.Rules.{Rule}
use Rattle.beg_model.proofs.PatternsInRow.{mapped_read}
use Rattle.beg_label.proofs.listing.list_rule.Goals as goal

pub returns-else-may_apply : goal.returns-else-may_apply
returns-else-may_apply c = λ texts. inr (
  (λ (rule, is, may). (
      let view = rule_of texts.source.now texts.literals.now in
      let here = mapped_read view c.args.rules.now.rules.items c.args.r c.rule_at.result.now c.rule_at.ensures in
      let same : rule ≡ view c.rule_at.result.now = cc in
      let fits = subst (λ (z : Rule). MayFit c.args.types.now.types z.pattern c.args.ty) same may in
      let yes = (c.may_apply.ensures texts.source.now texts.literals.now).1 fits in
      let no = c.if-may_apply.false in cc)),
  refl,
)
