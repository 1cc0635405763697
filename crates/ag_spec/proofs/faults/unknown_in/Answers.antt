-- A family, a type, a holder or a maker that isn't there.
use Rattle.ck_base.specs.declared.fault.Kind.TheVariants.{Unknown}
use Rattle.section_frame.proofs.Passing.{first_judged, ok_as}
use Rattle.ag_spec.specs.AgFaults.{AgFault}
use Rattle.ag_spec.specs.within.AgSeen.{saying_seen}
use Rattle.ag_spec.proofs.LineFaults.{Unknowns, to_unknown, of_unknown}
use Rattle.ag_spec.proofs.faults.unknown_in.Goals as goal

pub returns : goal.returns
returns c =
    record {
      first = ok_as _ _ _ (λ found first.
          first_judged saying_seen c.args.list.now (λ ds. Unknowns c.args.table.now ds) (λ ds. AgFault c.args.table.now ds Unknown)
          (λ ds. to_unknown c.args.table.now ds) (λ ds. of_unknown c.args.table.now ds) found first) c.first_line.ensures.first;
    }
