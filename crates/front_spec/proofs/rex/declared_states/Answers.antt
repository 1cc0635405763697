-- One kind after the other.
use Rattle.std.proofs.Common.{map, subst}
use Rattle.ck_base.specs.declared.fault.Kind.TheVariants.{Twice}
use Rattle.section_frame.specs.Passes.{FirstWith, judged_by}
use Rattle.spec_text.proofs.PassedOn.{passed_on}
use Rattle.front_spec.specs.RexFaults.{RexFault}
use Rattle.front_spec.specs.Seen.{saying}
use Rattle.front_spec.proofs.SayingFaults.{twice_fault, later_fault, rex_accepted}
use Rattle.front_spec.proofs.rex.declared_states.Goals as goal

pub returns-in_err-stages-clause-fault : goal.returns-in_err-stages-clause-fault
returns-in_err-stages-clause-fault c = passed_on _ _ _ c.from_residual-in_err-stages.ensures.1 (λ lines all.
    twice_fault lines (map (judged_by saying) c.args.list.now) all c.in_ok-twice.twice c.in_ok-twice.ensures.first _ c.in_err-stages.ensures.fault)

pub states_of-requires-clause-apart : goal.states_of-requires-clause-apart
states_of-requires-clause-apart c =
    let ds = map (judged_by saying) c.args.list.now in
    subst (FirstWith ds (RexFault ds Twice)) c.in_ok-stages.ensures.none.0 c.in_ok-twice.ensures.first

pub returns-in_err-stages-2-clause-fault : goal.returns-in_err-stages-2-clause-fault
returns-in_err-stages-2-clause-fault c = passed_on _ _ _ c.from_residual-in_err-stages-2.ensures.1 (λ lines all.
    later_fault lines (map (judged_by saying) c.args.list.now) all c.in_ok-twice.twice c.in_ok-twice.ensures.first c.in_ok-stages.ensures.none.0
    c.in_ok-unknown.unknown c.in_ok-limit.limit c.in_ok-unknown.ensures.first c.in_ok-limit.ensures.first _ c.in_err-stages-2.ensures.fault)

pub returns-clause-accepted : goal.returns-clause-accepted
returns-clause-accepted c = λ lines all.
    rex_accepted lines (map (judged_by saying) c.args.list.now) all c.in_ok-twice.twice c.in_ok-twice.ensures.first c.in_ok-stages.ensures.none.0
    c.in_ok-unknown.unknown c.in_ok-limit.limit c.in_ok-unknown.ensures.first c.in_ok-limit.ensures.first c.in_ok-stages-2.ensures.none
