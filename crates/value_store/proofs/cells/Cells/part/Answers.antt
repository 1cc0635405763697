use Rattle.std.proofs.lemmas.Option.{slice_get_within}
use Rattle.value_store.proofs.PartsStand.{unit_of_part, part_after_first}
use Rattle.value_store.proofs.cells.Cells.part.Goals as goal

pub unit-requires : goal.unit-requires
unit-requires c = record { some = part_after_first c.args.self.now.units _ _ c.requires.1; within = slice_get_within _ _ _ c.requires.1 }

pub returns-in_default : goal.returns-in_default
returns-in_default c = absurd (c.in_default.not-Part _ (unit_of_part _ c.args.cell c.unit.result _ c.requires.1 c.unit.ensures.says))
