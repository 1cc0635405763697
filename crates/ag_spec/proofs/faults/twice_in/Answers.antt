-- An attribute that is there, one that is called as an item, and a reserved word.
use Rattle.std.proofs.Common.{sym, subst}
use Rattle.ck_base.specs.declared.fault.Kind.TheVariants.{Twice}
use Rattle.section_frame.proofs.Passing.{first_judged, ok_as}
use Rattle.ag_spec.specs.AgFaults.{AgFault}
use Rattle.ag_spec.specs.within.AgSeen.{saying_seen}
use Rattle.ag_spec.proofs.LineFaults.{TwicesBy, to_twice, of_twice}
use Rattle.ag_spec.proofs.faults.twice_in.Goals as goal

pub returns : goal.returns
returns c =
    record {
      first = ok_as _ _ _ (λ found first.
          first_judged saying_seen c.args.list.now (λ ds. TwicesBy c.args.items.now ds) (λ ds. AgFault c.args.table.now ds Twice)
          (λ ds i said is. to_twice c.args.table.now ds i said (subst (λ names. TwicesBy names ds i said) c.requires.items is))
          (λ ds i said fault. subst (λ names. TwicesBy names ds i said) (sym c.requires.items) (of_twice c.args.table.now ds i said fault))
          found first) c.first_line.ensures.first;
    }
