-- What `read_rex` gives.
use Rattle.std.specs.Prelude.{◌≡◌, ℕ, List}
use Rattle.ck_base.specs.declared.fault.Kind.{Kind}
use Rattle.ck_base.specs.declared.fault.SpecFault.{SpecFault}
use Rattle.ck_base.specs.declared.fault.SpecFault.TheVariants.{Bad, NoMemory}
use Rattle.rex_model.specs.Rules.{Rules}
use Rattle.section_frame.specs.Declares.{Declared, judged}
use Rattle.section_frame.specs.FirstFault.{FirstFault, Accepts}
use Rattle.spec_text.specs.Promise.{HasSection}
use Rattle.spec_text.specs.Sections.{SectionLines}
use Rattle.spec_text.specs.declared.section.Section.TheVariants.{Rex}
use Rattle.front_spec.specs.RexShapes.{Saying}
use Rattle.front_spec.specs.RexFaults.{rex}
use Rattle.front_spec.specs.RexRules.{rules_by}

-- the section REX of the file declares these scan rules, and has no fault
pub record DeclaresRules (file : List ℕ) (rules : Rules) : Type 0 where
  pub lines : SectionLines
  pub section : HasSection file Rex lines
  pub declared : List (Declared Saying)
  pub accepted : Accepts (judged rex lines.inside) declared
  pub are : rules ≡ rules_by declared

-- the first fault of the section REX of the file
pub record FirstRexFault (file : List ℕ) (line : ℕ) (kind : Kind) : Type 0 where
  pub lines : SectionLines
  pub section : HasSection file Rex lines
  pub fault : FirstFault (judged rex lines.inside) line kind

-- the section's first fault, or that memory was wanted
abbrev pub IsRexFault : List ℕ → SpecFault → Type 0
IsRexFault file (Bad line kind) = FirstRexFault file line kind
IsRexFault file NoMemory = Unit {0}
