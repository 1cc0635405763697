-- The class lists one set.
use Rattle.std.proofs.Common.{refl}
use Rattle.spec_text.proofs.Views.{set_said}
use Rattle.spec_text.proofs.view.set_in.Goals as goal

pub returns : goal.returns
returns c = set_said _ _ _ _ c.requires refl c.in-Some.ensures
