-- The sections LALR and ELL are looked for one after the other.
use Rattle.std.proofs.Common.{true, false}
use Rattle.front_spec.specs.GrammarPromise.{for_lalr, for_ell}
use Rattle.spec_text.specs.declared.section.Section.TheVariants.{Lalr, Ell}
use Rattle.ck_chain.proofs.RefusedSpec.{no_grammar}
use Rattle.ck_chain.proofs.accepting.has_grammar.Goals as goal

pub returns-in-Some-clause-found : goal.returns-in-Some-clause-found
returns-in-Some-clause-found c = λ file are is.
    let found = c.in-Some.ensures file are in
    (false, found.these, record { section = Lalr; of_grammar = for_lalr; has = found.has })

pub returns-in-Some-section_of-clause-found : goal.returns-in-Some-section_of-clause-found
returns-in-Some-section_of-clause-found c = λ file are is.
    let found = c.in-Some-section_of.ensures file are in
    (true, found.these, record { section = Ell; of_grammar = for_ell; has = found.has })

pub returns-in-None-section_of-clause-absent : goal.returns-in-None-section_of-clause-absent
returns-in-None-section_of-clause-absent c = λ file are none. no_grammar file (c.in-None.ensures file are) (c.in-None-section_of.ensures file are)
