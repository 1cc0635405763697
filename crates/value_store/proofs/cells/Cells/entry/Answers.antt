use Rattle.std.proofs.Common.{arith}
use Rattle.std.proofs.lemmas.Option.{slice_get_within}
use Rattle.value_store.proofs.PartsStand.{unit_of_map}
use Rattle.value_store.proofs.cells.Cells.entry.Goals as goal

pub unit-requires : goal.unit-requires
unit-requires c = record { some = omega arith; within = slice_get_within _ _ _ c.requires.map.is }

pub returns-in_default : goal.returns-in_default
returns-in_default c = let found = unit_of_map _ c.args.m c.unit.result c.requires.map c.unit.ensures.says in absurd (c.in_default.not-Entry _ found.1)
