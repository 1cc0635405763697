-- The lines, their faults, and then the rules.
use Rattle.std.proofs.Common.{arith, refl}
use Rattle.spec_text.specs.declared.section.Section.TheVariants.{Rex}
use Rattle.spec_text.proofs.Numbers.{section_grows}
use Rattle.spec_text.proofs.PassedOn.{passed_on}
use Rattle.front_spec.proofs.ReadRex.{rex_fault, shape_fault, list_few, list_grows, all_declared, made}
use Rattle.front_spec.proofs.rex.read_rex.Goals as goal

pub declared_lines-requires : goal.declared_lines-requires
declared_lines-requires c =
    let section = c.rex_of-section.ensures c.args.spec.now c.requires.read in
    λ k. ((refl, tt), (section.these.inside, section.lines, section_grows c.args.spec.now Rex section.these section.has))

pub returns-in_err-list-clause-fault : goal.returns-in_err-list-clause-fault
returns-in_err-list-clause-fault c =
    let section = c.rex_of-section.ensures c.args.spec.now c.requires.read in
    passed_on _ _ _ c.from_residual.ensures.1
    (shape_fault _ section.these _ section.has (c.in_err-list.ensures.fault section.these.inside section.lines
    (section_grows c.args.spec.now Rex section.these section.has)))

pub declared_states-requires-clause-few : goal.declared_states-requires-clause-few
declared_states-requires-clause-few c =
    let section = c.rex_of-section.ensures c.args.spec.now c.requires.read in
    let few = list_few c.args.spec.now _ section _ _ c.as_slice-list.ensures.value c.requires.size c.in_ok-list.ensures.declared c.in_ok-list.ensures.few in
    omega (arith, few)

pub declared_states-requires-clause-grow : goal.declared_states-requires-clause-grow
declared_states-requires-clause-grow c =
    let section = c.rex_of-section.ensures c.args.spec.now c.requires.read in
    list_grows c.args.spec.now _ section _ _ c.as_slice-list.ensures.value c.requires.size c.in_ok-list.ensures.declared c.in_ok-list.ensures.few

pub returns-in_err-states-clause-fault : goal.returns-in_err-states-clause-fault
returns-in_err-states-clause-fault c =
    let section = c.rex_of-section.ensures c.args.spec.now c.requires.read in
    passed_on _ _ _ c.from_residual-in_err-states.ensures.1
    (rex_fault _ section.these _ section.has (c.in_err-states.ensures.fault section.these.inside
    (all_declared c.args.spec.now _ section _ _ c.as_slice-list.ensures.value c.requires.size c.in_ok-list.ensures.declared c.in_ok-list.ensures.few)))

pub gathered-requires : goal.gathered-requires
gathered-requires c =
    let section = c.rex_of-section.ensures c.args.spec.now c.requires.read in
    let few = list_few c.args.spec.now _ section _ _ c.as_slice-list.ensures.value c.requires.size c.in_ok-list.ensures.declared c.in_ok-list.ensures.few in
    omega (arith, few)

pub returns-clause-rules : goal.returns-clause-rules
returns-clause-rules c =
    let section = c.rex_of-section.ensures c.args.spec.now c.requires.read in
    let m =
    (made c.args.spec.now _ section _ _ c.as_slice-list.ensures.value c.requires.size c.in_ok-list.ensures.declared c.in_ok-list.ensures.few
    _ _ _ c.in_ok-states.ensures.states c.in_ok-states.ensures.accepted c.in_ok-tokens.ensures c.in_ok-rules.ensures) in
    record { lines = m.these; section = m.section; declared = m.declared; accepted = m.accepted; are = m.are }

pub returns-clause-positions : goal.returns-clause-positions
returns-clause-positions c =
    let section = c.rex_of-section.ensures c.args.spec.now c.requires.read in
    (made c.args.spec.now _ section _ _ c.as_slice-list.ensures.value c.requires.size c.in_ok-list.ensures.declared c.in_ok-list.ensures.few
    _ _ _ c.in_ok-states.ensures.states c.in_ok-states.ensures.accepted c.in_ok-tokens.ensures c.in_ok-rules.ensures).positions

pub returns-clause-next : goal.returns-clause-next
returns-clause-next c =
    let section = c.rex_of-section.ensures c.args.spec.now c.requires.read in
    (made c.args.spec.now _ section _ _ c.as_slice-list.ensures.value c.requires.size c.in_ok-list.ensures.declared c.in_ok-list.ensures.few
    _ _ _ c.in_ok-states.ensures.states c.in_ok-states.ensures.accepted c.in_ok-tokens.ensures c.in_ok-rules.ensures).next

pub returns-clause-active : goal.returns-clause-active
returns-clause-active c =
    let section = c.rex_of-section.ensures c.args.spec.now c.requires.read in
    (made c.args.spec.now _ section _ _ c.as_slice-list.ensures.value c.requires.size c.in_ok-list.ensures.declared c.in_ok-list.ensures.few
    _ _ _ c.in_ok-states.ensures.states c.in_ok-states.ensures.accepted c.in_ok-tokens.ensures c.in_ok-rules.ensures).active

pub returns-clause-tokens : goal.returns-clause-tokens
returns-clause-tokens c =
    let section = c.rex_of-section.ensures c.args.spec.now c.requires.read in
    (made c.args.spec.now _ section _ _ c.as_slice-list.ensures.value c.requires.size c.in_ok-list.ensures.declared c.in_ok-list.ensures.few
    _ _ _ c.in_ok-states.ensures.states c.in_ok-states.ensures.accepted c.in_ok-tokens.ensures c.in_ok-rules.ensures).tokens

pub returns-clause-states : goal.returns-clause-states
returns-clause-states c =
    let section = c.rex_of-section.ensures c.args.spec.now c.requires.read in
    (made c.args.spec.now _ section _ _ c.as_slice-list.ensures.value c.requires.size c.in_ok-list.ensures.declared c.in_ok-list.ensures.few
    _ _ _ c.in_ok-states.ensures.states c.in_ok-states.ensures.accepted c.in_ok-tokens.ensures c.in_ok-rules.ensures).states

pub returns-clause-few : goal.returns-clause-few
returns-clause-few c =
    let section = c.rex_of-section.ensures c.args.spec.now c.requires.read in
    (made c.args.spec.now _ section _ _ c.as_slice-list.ensures.value c.requires.size c.in_ok-list.ensures.declared c.in_ok-list.ensures.few
    _ _ _ c.in_ok-states.ensures.states c.in_ok-states.ensures.accepted c.in_ok-tokens.ensures c.in_ok-rules.ensures).few
