-- The section, its lines, their faults, and then the grammar.
use Rattle.std.proofs.Common.{arith, refl}
use Rattle.spec_text.proofs.Numbers.{section_grows}
use Rattle.spec_text.proofs.PassedOn.{passed_on}
use Rattle.front_spec.proofs.MadeGrammar.{declared_in_range}
use Rattle.front_spec.proofs.ReadGrammar.{grammar_fault, shape_fault, list_few, list_grows, all_declared, declares, made_grammar}
use Rattle.front_spec.proofs.grammar.read_grammar.Goals as goal

pub declared_lines-requires : goal.declared_lines-requires
declared_lines-requires c =
    let is = c.grammar_of-text.ensures c.args.spec.now c.requires.read in
    λ k. ((refl, tt), (is.these.inside, is.lines, section_grows c.args.spec.now is.has.section is.these is.has.has))

pub returns-in_err-list-clause-fault : goal.returns-in_err-list-clause-fault
returns-in_err-list-clause-fault c =
    let is = c.grammar_of-text.ensures c.args.spec.now c.requires.read in
    let tokens = c.args.rules.now.tokens in
    passed_on _ _ _ c.from_residual.ensures.1
    (shape_fault c.args.spec.now tokens _ is _ (c.in_err-list.ensures.fault is.these.inside is.lines
    (section_grows c.args.spec.now is.has.section is.these is.has.has)))

pub declared_names-requires-clause-few : goal.declared_names-requires-clause-few
declared_names-requires-clause-few c =
    let is = c.grammar_of-text.ensures c.args.spec.now c.requires.read in
    let few = list_few c.args.spec.now c.args.rules.now.tokens _ is _ _ c.as_slice-list.ensures.value c.requires.size
    c.in_ok-list.ensures.declared c.in_ok-list.ensures.few in
    omega (arith, few)

pub declared_names-requires-clause-grow : goal.declared_names-requires-clause-grow
declared_names-requires-clause-grow c =
    let is = c.grammar_of-text.ensures c.args.spec.now c.requires.read in
    list_grows c.args.spec.now c.args.rules.now.tokens _ is _ _ c.as_slice-list.ensures.value c.requires.size
    c.in_ok-list.ensures.declared c.in_ok-list.ensures.few

pub returns-in_err-names-clause-fault : goal.returns-in_err-names-clause-fault
returns-in_err-names-clause-fault c =
    let is = c.grammar_of-text.ensures c.args.spec.now c.requires.read in
    let tokens = c.args.rules.now.tokens in
    passed_on _ _ _ c.from_residual-in_err-names.ensures.1
    (grammar_fault c.args.spec.now tokens _ is _ (c.in_err-names.ensures.fault is.these is.head
    (all_declared c.args.spec.now tokens _ is _ _ c.as_slice-list.ensures.value c.requires.size
    c.in_ok-list.ensures.declared c.in_ok-list.ensures.few)))

pub returns-clause-grammar : goal.returns-clause-grammar
returns-clause-grammar c =
    let is = c.grammar_of-text.ensures c.args.spec.now c.requires.read in
    declares c.args.spec.now c.args.rules.now.tokens _ is _ _ c.as_slice-list.ensures.value c.requires.size
    c.in_ok-list.ensures.declared c.in_ok-list.ensures.few c.in_ok-names.ensures.accepted _
    (made_grammar _ _ _ _ _ _ _ _ c.len.ensures c.len-2.ensures c.in_ok-names.ensures.nonterminals c.in_ok-names.ensures.labels
    c.in_ok-rules.ensures)

pub returns-clause-in_range : goal.returns-clause-in_range
returns-clause-in_range c = declared_in_range c.args.spec.now c.args.rules.now.tokens _ (returns-clause-grammar c)
