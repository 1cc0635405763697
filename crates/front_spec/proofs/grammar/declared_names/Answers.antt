-- One kind after the other.
use Rattle.std.proofs.Common.{map}
use Rattle.section_frame.specs.Passes.{judged_by}
use Rattle.spec_text.proofs.PassedOn.{passed_on}
use Rattle.front_spec.specs.GrammarSteps.{produced}
use Rattle.front_spec.proofs.ProductionFaults.{is_without_rule, grammar_fault, grammar_accepted}
use Rattle.front_spec.proofs.grammar.declared_names.Goals as goal

pub returns-in_err-stages-clause-fault : goal.returns-in_err-stages-clause-fault
returns-in_err-stages-clause-fault c = passed_on _ _ _ c.from_residual-in_err-stages.ensures.1 (λ these head all.
    grammar_fault c.args.tokens.now these (map (judged_by produced) c.args.list.now) all c.is_empty.result
    (is_without_rule c.args.list.now _ c.is_empty.ensures) c.in_ok-labels.twice c.in_ok-unknown.unknown
    c.in_ok-limit.limit c.in_ok-labels.ensures.first c.in_ok-unknown.ensures.first c.in_ok-limit.ensures.first
    c.args.head c.with_head-unknown.result head c.with_head-unknown.ensures _ c.in_err-stages.ensures.fault)

pub returns-clause-accepted : goal.returns-clause-accepted
returns-clause-accepted c = λ these head all.
    grammar_accepted c.args.tokens.now these (map (judged_by produced) c.args.list.now) all c.is_empty.result
    (is_without_rule c.args.list.now _ c.is_empty.ensures) c.in_ok-labels.twice c.in_ok-unknown.unknown
    c.in_ok-limit.limit c.in_ok-labels.ensures.first c.in_ok-unknown.ensures.first c.in_ok-limit.ensures.first
    c.args.head c.with_head-unknown.result head c.with_head-unknown.ensures c.in_ok-stages.ensures.none
