-- The byte itself.
use Rattle.std.proofs.Common.{sym, ◌∙◌}
use Rattle.spec_text.specs.Classes.{plain}
use Rattle.spec_text.proofs.class.char_of.Goals as goal

pub returns-then-is_class_byte : goal.returns-then-is_class_byte
returns-then-is_class_byte c = rw c.in_ok-first.ensures.cases.0 (plain _ _ (sym c.is_class_byte.ensures ∙ c.if-is_class_byte.true))
