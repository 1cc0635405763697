-- The label has no rule; or a line; or neither, and its rule decides.
use Rattle.std.proofs.Common.{◌∙◌, sym}
use Rattle.std.proofs.lemmas.Option.{none-some}
use Rattle.node_spec.proofs.AstUnknownHead.{its_rule}
use Rattle.node_spec.proofs.unknown_head.lacks_build.Goals as goal

pub returns-in_default : goal.returns-in_default
returns-in_default c = (
  (λ is. cc),
  (λ lacks. absurd (none-some lacks.number (sym c.in_default.is ∙ c.find.ensures.number ∙ lacks.of_label))),
)

pub returns-then-not-is_missing : goal.returns-then-not-is_missing
returns-then-not-is_missing c = (
  (λ is. cc),
  (λ lacks. let is = c.is_missing.ensures.1 lacks.no_line in let e = c.if-not-is_missing.true in cc),
)

pub returns : goal.returns
returns c =
    its_rule c.args.g.now.labels c.args.g.now.grammar.rules c.args.lines.now c.args.label.now _ _
    (sym c.find.ensures.number ∙ c.in-Some.is) (c.is_missing.ensures.0 c.if-not-is_missing.false) c.has_no_only.ensures
