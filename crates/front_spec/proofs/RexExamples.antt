-- The shortest file that has sections declares no rule.
use Rattle.std.proofs.Common.{ℕ, [], refl}
use Rattle.ck_base.specs.declared.fault.Kind.{Kind}
use Rattle.section_frame.specs.Declares.{no_lines, HasAt, judged}
use Rattle.section_frame.specs.FirstFault.{Accepts}
use Rattle.spec_text.proofs.SectionExamples.{rex_end_file, rex_end_rex}
use Rattle.front_spec.specs.RexFaults.{rex, RexFault}
use Rattle.front_spec.specs.RexRules.{rules_by}
use Rattle.front_spec.specs.Promise.{DeclaresRules}

-- a section without a line is accepted
nothing_accepted : Accepts (judged rex []) []
nothing_accepted = record { declares = no_lines; no_fault = λ kind line some has. none kind line has }
  where
    none : (kind : Kind) (line : ℕ) → HasAt [] (RexFault [] kind) line → ⊥
    none kind line has = let at = has.is in cc

pub rex_end_declares : DeclaresRules rex_end_file (rules_by [])
rex_end_declares = record {
  lines = record { head = 1; inside = [] };
  section = rex_end_rex;
  declared = [];
  accepted = nothing_accepted;
  are = refl;
}
