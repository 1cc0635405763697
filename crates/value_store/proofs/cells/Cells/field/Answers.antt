use Rattle.std.proofs.Common.{sym, ap, ◌∙◌, Some}
use Rattle.value_store.proofs.PartsStand.{field_stands, same_part}
use Rattle.value_store.proofs.cells.Cells.field.Goals as goal

pub part-requires : goal.part-requires
part-requires c = let f = field_stands c.args.self.now.units c.args.cell c.args.i _ c.node-node.ensures c.requires.within in (f.0, f.2)

pub returns : goal.returns
returns c = let f = field_stands c.args.self.now.units c.args.cell c.args.i _ c.node-node.ensures c.requires.within in f.1 ∙ ap Some (same_part (sym f.2 ∙ c.part.ensures))
