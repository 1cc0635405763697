-- States and positions are counted.
use Rattle.ck_base.specs.declared.fault.Kind.TheVariants.{Limit}
use Rattle.section_frame.proofs.Passing.{first_judged, ok_as}
use Rattle.front_spec.specs.RexFaults.{RexFault}
use Rattle.front_spec.specs.Seen.{saying}
use Rattle.front_spec.proofs.SayingFaults.{Limits, to_limit, of_limit}
use Rattle.front_spec.proofs.fault.limit_in.Goals as goal

pub returns : goal.returns
returns c =
    record {
      first = ok_as _ _ _ (λ found first.
          first_judged saying c.args.list.now (λ ds. Limits ds) (λ ds. RexFault ds Limit) (λ ds. to_limit ds) (λ ds. of_limit ds) found first)
          c.first_line.ensures.first;
    }
