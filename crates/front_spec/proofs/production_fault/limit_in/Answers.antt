-- Rules and symbols are counted.
use Rattle.ck_base.specs.declared.fault.Kind.TheVariants.{Limit}
use Rattle.section_frame.proofs.Passing.{first_judged, ok_as}
use Rattle.front_spec.specs.GrammarFaults.{GrammarFault}
use Rattle.front_spec.specs.GrammarSteps.{produced}
use Rattle.front_spec.proofs.ProductionFaults.{Limits, to_limit, of_limit}
use Rattle.front_spec.proofs.production_fault.limit_in.Goals as goal

pub returns : goal.returns
returns c =
    record {
      first = ok_as _ _ _ (λ found first.
          first_judged produced c.args.list.now (λ ds. Limits c.args.tokens.now ds) (λ ds. GrammarFault c.args.tokens.now ds Limit)
          (λ ds. to_limit c.args.tokens.now ds) (λ ds. of_limit c.args.tokens.now ds) found
          (rw (c.from.ensures, c.len.ensures) at first)) c.first_line.ensures.first;
    }
