use Rattle.ck_chain.specs.within.Grammars.{absent, found}
use Rattle.ck_chain.proofs.RefusedSpec.{not_true}
use Rattle.ck_chain.proofs.accepting.grammar_of.Goals as goal

pub read_grammar-requires-clause-some : goal.read_grammar-requires-clause-some
read_grammar-requires-clause-some c = c.has_grammar.ensures.found _ c.requires.read c.if-has_grammar.true

pub returns-in_ok-g-clause-found : goal.returns-in_ok-g-clause-found
returns-in_ok-g-clause-found c =
    let g = c.in_ok-g.ensures in
    found _ g.grammar g.in_range (g.terminals, g.labels) g.nonterminals

pub returns-else-has_grammar-clause-found : goal.returns-else-has_grammar-clause-found
returns-else-has_grammar-clause-found c = absent (c.has_grammar.ensures.absent _ c.requires.read (not_true _ c.if-has_grammar.false))
