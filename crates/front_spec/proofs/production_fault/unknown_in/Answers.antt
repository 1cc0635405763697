-- A symbol that is none of both.
use Rattle.std.proofs.Common.{map, ◌++◌, subst, sym}
use Rattle.ck_base.specs.declared.fault.Kind.TheVariants.{Unknown}
use Rattle.section_frame.specs.Passes.{judged_by}
use Rattle.section_frame.specs.Words.{IsMissing}
use Rattle.section_frame.proofs.Passing.{first_judged, ok_as}
use Rattle.front_spec.specs.GrammarFaults.{GrammarFault, no_symbol}
use Rattle.front_spec.specs.GrammarSteps.{produced}
use Rattle.front_spec.proofs.ProductionFaults.{of_unknown}
use Rattle.front_spec.proofs.production_fault.unknown_in.Goals as goal

pub returns : goal.returns
returns c =
    let ds = map (judged_by produced) c.args.list.now in
    record {
      first = ok_as _ _ _ (λ found first.
          first_judged produced c.args.list.now (λ es i said. IsMissing (c.args.tokens.now ++ c.args.nonterminals.now) said.right)
          (λ es. GrammarFault c.args.tokens.now ds Unknown)
          (λ es i said is. no_symbol i said (subst (λ names. IsMissing (c.args.tokens.now ++ names) said.right) c.requires.names is))
          (λ es i said fault. subst (λ names. IsMissing (c.args.tokens.now ++ names) said.right) (sym c.requires.names) (of_unknown c.args.tokens.now ds i said fault))
          found first) c.first_line.ensures.first;
    }
