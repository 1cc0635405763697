-- It has a line, or a family of the source side, or neither.
use Rattle.std.proofs.Common.{refl}
use Rattle.node_spec.proofs.unknown_head.lacks_family.Goals as goal

pub returns-then-not-is_missing : goal.returns-then-not-is_missing
returns-then-not-is_missing c = (
  (λ is. cc),
  (λ lacks. let is = c.is_missing.ensures.1 lacks.no_line in let e = c.if-not-is_missing.true in cc),
)

pub returns-then-is_source : goal.returns-then-is_source
returns-then-is_source c = ((λ is. cc), (λ lacks. absurd (lacks.no_source (c.is_source.ensures.0 c.if-is_source.true))))

pub returns : goal.returns
returns c = (
  (λ is. record {
    no_line = c.is_missing.ensures.0 c.if-not-is_missing.false;
    no_source = λ source. let is = c.is_source.ensures.1 source in let e = c.if-is_source.false in cc;
  }),
  (λ lacks. refl),
)
