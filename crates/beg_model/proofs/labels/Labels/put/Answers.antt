-- The entry stands at the place of the pair alone.
use Rattle.beg_model.proofs.LabelTables.{puts_is}
use Rattle.beg_model.proofs.labels.Labels.put.Goals as goal

pub returns : goal.returns
returns c =
    puts_is c.args.self.now c.self.inside.nodes c.self.inside.nonterminals c.self.inside.entries.items c.args.node c.args.n c.args.cost c.args.rule
    c.of.result c.self.view_is c.self.invariant c.requires.node c.requires.nonterminal c.of.ensures
