-- Makers that make nodes.
use Rattle.std.specs.Prelude.{◌≡◌, ℕ, List, false, Some}
use Rattle.expr_lang.specs.declared.expr.Maker.{Maker}
use Rattle.expr_lang.specs.OfType.{MakesNodes}
use Rattle.expr_lang.specs.Typing.{maker_of}

-- each maker makes nodes, where no node is of a source tree
abbrev pub AllMake : List Maker → Type 0
AllMake makers = (n : ℕ) (m : Maker) → maker_of makers n ≡ Some m → MakesNodes (λ node family. false) m
