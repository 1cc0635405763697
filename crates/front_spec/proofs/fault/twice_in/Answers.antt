-- A state that is there, one that is STD, and a token that is END.
use Rattle.ck_base.specs.declared.fault.Kind.TheVariants.{Twice}
use Rattle.section_frame.proofs.Passing.{first_judged, ok_as}
use Rattle.front_spec.specs.RexFaults.{RexFault}
use Rattle.front_spec.specs.Seen.{saying}
use Rattle.front_spec.proofs.SayingFaults.{Twices, to_twice, of_twice}
use Rattle.front_spec.proofs.fault.twice_in.Goals as goal

pub returns : goal.returns
returns c =
    record {
      first = ok_as _ _ _ (λ found first.
          first_judged saying c.args.list.now (λ ds. Twices ds) (λ ds. RexFault ds Twice) (λ ds. to_twice ds) (λ ds. of_twice ds) found
          (rw (c.as_slice.ensures, c.as_slice-2.ensures) at first)) c.first_line.ensures.first;
    }
