-- Since LALR and ELL have one rank.
use Rattle.front_spec.proofs.OneGrammar.{one_grammar_section}
use Rattle.front_spec.proofs.laws.at_most_one_grammar_section.Goals as goal

pub returns : goal.returns
returns c = one_grammar_section
