use Rattle.std.proofs.lemmas.Option.{slice_get_within}
use Rattle.value_store.proofs.PartsStand.{unit_of_node, made_after_first}
use Rattle.value_store.proofs.cells.Cells.node.Goals as goal

pub unit-requires : goal.unit-requires
unit-requires c = record { some = made_after_first c.args.self.now.units _ c.requires; within = slice_get_within _ _ _ c.requires.is }

pub returns-in_default : goal.returns-in_default
returns-in_default c = let found = unit_of_node _ c.args.cell c.unit.result c.requires c.unit.ensures.says in absurd (c.in_default.not-Node _ found.1)
