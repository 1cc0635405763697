use Rattle.std.proofs.Common.{sym, ◌∙◌, arith, subst, Some, ◌≡◌}
use Rattle.value_store.specs.Cells.{cells_of, IsMade, tree_at}
use Rattle.value_store.specs.MadeTrees.{child_at, children_of}
use Rattle.value_store.proofs.PartsStand.{child_stands, same_part, made_part}
use Rattle.value_store.proofs.cells.Cells.child.Goals as goal

pub part-requires : goal.part-requires
part-requires c = let f = child_stands c.args.self.now.units c.args.cell c.args.i _ c.node-node.ensures c.requires.within in (_, f.4)

pub overflow_add-cell : goal.overflow_add-cell
overflow_add-cell c = let f = child_stands c.args.self.now.units c.args.cell c.args.i _ c.node-node.ensures c.requires.within in let b = c.node-node.ensures.before in let r = c.ranges.cell in omega (arith, b, f.1, r)

pub returns-in-Made-clause-made : goal.returns-in-Made-clause-made
returns-in-Made-clause-made c = let f = child_stands c.args.self.now.units c.args.cell c.args.i _ c.node-node.ensures c.requires.within in
    subst (λ x. IsMade (cells_of c.args.self.now.units) x) (made_part (same_part (sym f.4 ∙ c.part.ensures) ∙ c.in-Made.is)) f.2

pub returns-in-Made-clause-is : goal.returns-in-Made-clause-is
returns-in-Made-clause-is c = let f = child_stands c.args.self.now.units c.args.cell c.args.i _ c.node-node.ensures c.requires.within in
    subst (λ x. child_at (children_of (tree_at (cells_of c.args.self.now.units) c.args.cell)) c.args.i ≡ Some (tree_at (cells_of c.args.self.now.units) x)) (made_part (same_part (sym f.4 ∙ c.part.ensures) ∙ c.in-Made.is)) f.3

pub returns-in_default : goal.returns-in_default
returns-in_default c = let f = child_stands c.args.self.now.units c.args.cell c.args.i _ c.node-node.ensures c.requires.within in
    absurd (c.in_default.not-Made _ (sym (same_part (sym f.4 ∙ c.part.ensures))))
