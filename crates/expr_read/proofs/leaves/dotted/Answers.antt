-- A name alone, or two with `.` between.
use Rattle.std.proofs.Common.{◌∷◌, codes, refl, ap, ◌∙◌}
use Rattle.spec_text.specs.Lexemes.{sign}
use Rattle.expr_read.specs.within.Wholes.{alone, paired}
use Rattle.expr_read.proofs.Sayings.{says-Name, says-Pair}
use Rattle.expr_read.proofs.leaves.dotted.Goals as goal

pub returns-in_default : goal.returns-in_default
returns-in_default c = (rw (says-Name c.args.name) (alone _ _ c.in_default.ensures c.requires), rw (says-Name c.args.name) refl)

pub returns-then-is_name : goal.returns-then-is_name
returns-then-is_name c = (
  rw (says-Pair c.args.name c.in_ok-second.second)
      (paired _ _ _ _ (c.is_name.ensures.0 c.if-is_name.true) (c.in-Some.ensures ∙ ap (λ l. sign (codes ".") ∷ l) c.in_ok-second.ensures)),
  rw (says-Pair c.args.name c.in_ok-second.second) refl,
)
