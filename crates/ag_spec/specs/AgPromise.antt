-- What `read_ag` gives.
use Rattle.std.specs.Prelude.{◌≡◌, ℕ, ◌<◌, List, length, map}
use Rattle.ast_types.specs.TypeTable.{TypeTable}
use Rattle.ck_base.specs.declared.fault.Kind.{Kind}
use Rattle.section_frame.specs.Declares.{Declared, judged}
use Rattle.section_frame.specs.FirstFault.{FirstFault, Accepts}
use Rattle.spec_text.specs.Promise.{HasSection}
use Rattle.spec_text.specs.Sections.{SectionLines}
use Rattle.spec_text.specs.declared.section.Section.TheVariants.{Ag}
use Rattle.ag_model.specs.Attribution.{attribute_rows, equations_of, grammar_of}
use Rattle.ag_model.specs.Coverage.{AreCovered}
use Rattle.ag_model.specs.Solution.{expressions_of}
use Rattle.ag_model.specs.declared.attribution.Attribution.{Attribution}
use Rattle.ag_spec.specs.AgShapes.{AgSaying}
use Rattle.ag_spec.specs.AgAttributes.{attributes_by, declared_grammar}
use Rattle.ag_spec.specs.AgEquations.{DeclaresEquation}
use Rattle.ag_spec.specs.AgFaults.{ag}
use Rattle.ag_spec.specs.AgRefusals.{IsRefused, given_places}
use Rattle.ag_spec.specs.declared.fault.AgFault.{AgFault}
use Rattle.ag_spec.specs.declared.fault.AgFault.TheVariants.{Spec, RootInherits, TwoEquations, NoEquation, NoMemory}

-- the lines of AG declare this together over the types, and none has a fault
pub record AreAccepted (file : List ℕ) (table : TypeTable) (ds : List (Declared AgSaying)) : Type 0 where
  pub lines : SectionLines
  pub section : HasSection file Ag lines
  pub accepted : Accepts (judged (ag table) lines.inside) ds

-- the attribution is the one that the lines declare, where the strings of its expressions lie in these bytes: each type
-- has one equation for each place that it has to give, in their order, and it is the one that covers the place
pub record IsDeclared (s l : List ℕ) (table : TypeTable) (ds : List (Declared AgSaying)) (a : Attribution) : Type 0 where
  pub attributes : attribute_rows a ≡ attributes_by table ds
  pub equations_each : length a.equations.items ≡ length table.types
  pub targets : (t : ℕ) → t < length table.types
      → map (λ q. q.target) (equations_of (grammar_of table a) t) ≡ given_places (grammar_of table a) t
  pub covered : AreCovered (grammar_of table a) (DeclaresEquation (declared_grammar table ds) ds) (expressions_of s l a)

-- AG of the file declares the attribution for the types, where the root of trees is of this family
pub record DeclaresAttribution (file s l : List ℕ) (table : TypeTable) (root : ℕ) (a : Attribution) : Type 0 where
  pub declared : List (Declared AgSaying)
  pub accepted : AreAccepted file table declared
  pub not_refused : (fault : AgFault) → IsRefused (declared_grammar table declared) declared root fault → ⊥
  pub is : IsDeclared s l table declared a

-- the first fault of AG of the file, over the types
pub record FirstAgFault (file : List ℕ) (table : TypeTable) (line : ℕ) (kind : Kind) : Type 0 where
  pub lines : SectionLines
  pub section : HasSection file Ag lines
  pub fault : FirstFault (judged (ag table) lines.inside) line kind

-- AG of the file has no fault, and is refused for this
pub record RefusesAg (file : List ℕ) (table : TypeTable) (root : ℕ) (fault : AgFault) : Type 0 where
  pub declared : List (Declared AgSaying)
  pub accepted : AreAccepted file table declared
  pub refused : IsRefused (declared_grammar table declared) declared root fault

-- the section's first fault, or what it is refused for, or that memory was wanted
abbrev pub IsAgFault : List ℕ → TypeTable → ℕ → AgFault → Type 0
IsAgFault file table root (Spec line kind) = FirstAgFault file table line kind
IsAgFault file table root (RootInherits a) = RefusesAg file table root (RootInherits a)
IsAgFault file table root (TwoEquations holder target) = RefusesAg file table root (TwoEquations holder target)
IsAgFault file table root (NoEquation holder target) = RefusesAg file table root (NoEquation holder target)
IsAgFault file table root NoMemory = Unit {0}
