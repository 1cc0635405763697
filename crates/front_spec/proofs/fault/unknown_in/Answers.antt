-- A state that isn't there, where the rule is active or behind GO.
use Rattle.std.proofs.Common.{map}
use Rattle.ck_base.specs.declared.fault.Kind.TheVariants.{Unknown}
use Rattle.section_frame.specs.Passes.{judged_by}
use Rattle.section_frame.proofs.Passing.{first_judged, ok_as}
use Rattle.front_spec.specs.RexFaults.{RexFault}
use Rattle.front_spec.specs.Seen.{saying}
use Rattle.front_spec.proofs.SayingFaults.{Unknowns, to_unknown, of_unknown}
use Rattle.front_spec.proofs.fault.unknown_in.Goals as goal

pub returns : goal.returns
returns c =
    let ds = map (judged_by saying) c.args.list.now in
    record {
      first = ok_as _ _ _ (λ found first.
          first_judged saying c.args.list.now (λ es i said. Unknowns ds c.args.states.now c.requires.states said) (λ es. RexFault ds Unknown)
          (λ es. to_unknown ds c.args.states.now c.requires.states) (λ es. of_unknown ds c.args.states.now c.requires.states) found first)
          c.first_line.ensures.first;
    }
