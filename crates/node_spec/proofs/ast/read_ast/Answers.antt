-- The section, its lines, their names, and then what they declare.
use Rattle.std.proofs.Common.{arith, refl}
use Rattle.spec_text.proofs.Numbers.{section_grows}
use Rattle.spec_text.specs.declared.section.Section.TheVariants.{Ast}
use Rattle.node_spec.proofs.ReadAst.{fault_passed, shape_fault, list_few, list_grows, list_behind, all_declared, adds_few, adds_within, declares, fits}
use Rattle.node_spec.proofs.ast.read_ast.Goals as goal

pub declared_lines-requires : goal.declared_lines-requires
declared_lines-requires c =
    let is = c.ast_of-section.ensures c.args.spec.now c.requires.read in
    λ k. ((refl, tt), (is.these.inside, is.lines, section_grows c.args.spec.now Ast is.these is.has))

pub returns-in_err-list-clause-fault : goal.returns-in_err-list-clause-fault
returns-in_err-list-clause-fault c =
    let is = c.ast_of-section.ensures c.args.spec.now c.requires.read in
    fault_passed c.args.spec.now c.args.g.now _ is _ _ c.from_residual.ensures.1
    (shape_fault c.args.spec.now c.args.g.now _ is _
    (c.in_err-list.ensures.fault is.these.inside is.lines (section_grows c.args.spec.now Ast is.these is.has)))

pub declared_names-requires-clause-few : goal.declared_names-requires-clause-few
declared_names-requires-clause-few c =
    let is = c.ast_of-section.ensures c.args.spec.now c.requires.read in
    let few = list_few c.args.spec.now c.args.g.now _ is _ _ c.as_slice-list.ensures.value c.requires.size
    c.in_ok-list.ensures.declared c.in_ok-list.ensures.few in
    omega (arith, few)

pub declared_names-requires-clause-grow : goal.declared_names-requires-clause-grow
declared_names-requires-clause-grow c =
    let is = c.ast_of-section.ensures c.args.spec.now c.requires.read in
    list_grows c.args.spec.now c.args.g.now _ is _ _ c.as_slice-list.ensures.value c.requires.size
    c.in_ok-list.ensures.declared c.in_ok-list.ensures.few

pub declared_names-requires-clause-before : goal.declared_names-requires-clause-before
declared_names-requires-clause-before c =
    let is = c.ast_of-section.ensures c.args.spec.now c.requires.read in
    list_behind c.args.spec.now c.args.g.now _ is _ _ c.as_slice-list.ensures.value c.requires.size
    c.in_ok-list.ensures.declared c.in_ok-list.ensures.few

pub returns-in_err-names-clause-fault : goal.returns-in_err-names-clause-fault
returns-in_err-names-clause-fault c =
    let is = c.ast_of-section.ensures c.args.spec.now c.requires.read in
    fault_passed c.args.spec.now c.args.g.now _ is _ _ c.from_residual-in_err-names.ensures.1
    (c.in_err-names.ensures.fault is.these is.head
    (all_declared c.args.spec.now c.args.g.now _ is _ _ c.as_slice-list.ensures.value c.requires.size
    c.in_ok-list.ensures.declared c.in_ok-list.ensures.few))

pub declared_nodes-requires-clause-few : goal.declared_nodes-requires-clause-few
declared_nodes-requires-clause-few c =
    let is = c.ast_of-section.ensures c.args.spec.now c.requires.read in
    let few = list_few c.args.spec.now c.args.g.now _ is _ _ c.as_slice-list.ensures.value c.requires.size
    c.in_ok-list.ensures.declared c.in_ok-list.ensures.few in
    omega (arith, few)

pub declared_nodes-requires-clause-grow : goal.declared_nodes-requires-clause-grow
declared_nodes-requires-clause-grow c =
    let is = c.ast_of-section.ensures c.args.spec.now c.requires.read in
    list_grows c.args.spec.now c.args.g.now _ is _ _ c.as_slice-list.ensures.value c.requires.size
    c.in_ok-list.ensures.declared c.in_ok-list.ensures.few

pub declared_nodes-requires-clause-before : goal.declared_nodes-requires-clause-before
declared_nodes-requires-clause-before c =
    let is = c.ast_of-section.ensures c.args.spec.now c.requires.read in
    list_behind c.args.spec.now c.args.g.now _ is _ _ c.as_slice-list.ensures.value c.requires.size
    c.in_ok-list.ensures.declared c.in_ok-list.ensures.few

pub returns-in_err-nodes-clause-fault : goal.returns-in_err-nodes-clause-fault
returns-in_err-nodes-clause-fault c =
    let is = c.ast_of-section.ensures c.args.spec.now c.requires.read in
    fault_passed c.args.spec.now c.args.g.now _ is _ _ c.from_residual-in_err-nodes.ensures.1
    (c.in_err-nodes.ensures.fault is.these is.head
    (all_declared c.args.spec.now c.args.g.now _ is _ _ c.as_slice-list.ensures.value c.requires.size
    c.in_ok-list.ensures.declared c.in_ok-list.ensures.few))

pub returns-in_err-nodes-clause-few : goal.returns-in_err-nodes-clause-few
returns-in_err-nodes-clause-few c =
    let is = c.ast_of-section.ensures c.args.spec.now c.requires.read in
    adds_few c.args.spec.now c.args.g.now _ is _ _ c.as_slice-list.ensures.value c.requires.size
    c.in_ok-list.ensures.declared c.in_ok-list.ensures.few c.args.literals.now c.declared_nodes.new.literals c.declared_nodes.ensures.few

pub returns-in_err-nodes-clause-within : goal.returns-in_err-nodes-clause-within
returns-in_err-nodes-clause-within c =
    let is = c.ast_of-section.ensures c.args.spec.now c.requires.read in
    adds_within c.args.spec.now c.args.g.now _ is _ _ c.as_slice-list.ensures.value c.requires.size
    c.in_ok-list.ensures.declared c.in_ok-list.ensures.few c.args.literals.now c.declared_nodes.new.literals c.declared_nodes.ensures.few

pub returns-clause-few : goal.returns-clause-few
returns-clause-few c =
    let is = c.ast_of-section.ensures c.args.spec.now c.requires.read in
    adds_few c.args.spec.now c.args.g.now _ is _ _ c.as_slice-list.ensures.value c.requires.size
    c.in_ok-list.ensures.declared c.in_ok-list.ensures.few c.args.literals.now c.declared_nodes.new.literals c.declared_nodes.ensures.few

pub returns-clause-within : goal.returns-clause-within
returns-clause-within c =
    let is = c.ast_of-section.ensures c.args.spec.now c.requires.read in
    adds_within c.args.spec.now c.args.g.now _ is _ _ c.as_slice-list.ensures.value c.requires.size
    c.in_ok-list.ensures.declared c.in_ok-list.ensures.few c.args.literals.now c.declared_nodes.new.literals c.declared_nodes.ensures.few

pub returns-clause-nodes : goal.returns-clause-nodes
returns-clause-nodes c = λ source more.
    let is = c.ast_of-section.ensures c.args.spec.now c.requires.read in
    declares c.args.spec.now c.args.g.now _ is _ _ c.as_slice-list.ensures.value c.requires.size
    c.in_ok-list.ensures.declared c.in_ok-list.ensures.few c.in_ok-nodes.ensures.accepted _ (c.in_ok-nodes.ensures.nodes source more)

pub returns-clause-fits : goal.returns-clause-fits
returns-clause-fits c = λ source more.
    let is = c.ast_of-section.ensures c.args.spec.now c.requires.read in
    fits c.args.spec.now c.args.g.now _ is _ _ c.as_slice-list.ensures.value c.requires.size
    c.in_ok-list.ensures.declared c.in_ok-list.ensures.few c.in_ok-nodes.ensures.accepted _ (c.in_ok-nodes.ensures.nodes source more)
    c.requires.labels c.requires.nonterminals c.in_ok-nodes.ensures.all
