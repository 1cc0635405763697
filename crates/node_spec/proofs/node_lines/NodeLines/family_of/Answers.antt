-- By its line, or by its own name.
use Rattle.std.proofs.Common.{◌∙◌, refl}
use Rattle.node_spec.proofs.AstFamilies.{by_its_line, by_its_name}
use Rattle.node_spec.proofs.node_lines.NodeLines.family_of.Goals as goal

pub returns-in-Some : goal.returns-in-Some
returns-in-Some c = λ ds are.
    c.index.ensures
    ∙ by_its_line _ ds c.args.self.now c.args.nonterminal.now c.in-Some.n _ are
    ((c.find.ensures.found _).0 c.in-Some.is)

pub returns-in-None : goal.returns-in-None
returns-in-None c = λ ds are.
    c.number_of.ensures
    ∙ by_its_name _ ds c.args.self.now c.args.nonterminal.now are (c.find.ensures.absent.0 (rw c.in-None.is refl))
