-- Two digits.
use Rattle.std.proofs.Common.{refl, sym, ◌∙◌}
use Rattle.spec_text.proofs.ClassSets.{code_here}
use Rattle.spec_text.proofs.class.coded_of.Goals as goal

pub returns : goal.returns
returns c = rw (c.in_ok-high.ensures.cases.0, c.in_ok-low.ensures.cases.0)
    (code_here 92 120 _ _ _ _ refl refl (sym c.is_hex.ensures ∙ c.if-not-is_hex.false) (sym c.is_hex-2.ensures ∙ c.if-not-is_hex-2.false)
    (let a = c.hex_value.ensures.is in let b = c.hex_value-2.ensures.is in rw (a, b) refl))
