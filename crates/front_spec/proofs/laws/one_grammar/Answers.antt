-- Since LALR and ELL have one rank, and the lines are judged in one way.
use Rattle.front_spec.proofs.OneGrammar.{grammar_or_fault, one_grammar, one_grammar_fault, grammar_not_fault}
use Rattle.front_spec.proofs.laws.one_grammar.Goals as goal

pub returns-clause-some : goal.returns-clause-some
returns-clause-some c = grammar_or_fault

pub returns-clause-one : goal.returns-clause-one
returns-clause-one c = one_grammar

pub returns-clause-one_fault : goal.returns-clause-one_fault
returns-clause-one_fault c = one_grammar_fault

pub returns-clause-not_both : goal.returns-clause-not_both
returns-clause-not_both c = grammar_not_fault
