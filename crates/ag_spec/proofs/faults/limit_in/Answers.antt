-- A family with too many attributes.
use Rattle.ck_base.specs.declared.fault.Kind.TheVariants.{Limit}
use Rattle.section_frame.proofs.Passing.{first_judged, ok_as}
use Rattle.ag_spec.specs.AgFaults.{AgFault, IsCrowded, too_many_attributes}
use Rattle.ag_spec.specs.within.AgSeen.{saying_seen}
use Rattle.ag_spec.proofs.LineFaults.{of_limit}
use Rattle.ag_spec.proofs.faults.limit_in.Goals as goal

pub returns : goal.returns
returns c =
    record {
      first = ok_as _ _ _ (λ found first.
          first_judged saying_seen c.args.list.now (λ ds. IsCrowded c.args.table.now ds) (λ ds. AgFault c.args.table.now ds Limit)
          (λ ds. too_many_attributes) (λ ds. of_limit c.args.table.now ds) found first) c.first_line.ensures.first;
    }
