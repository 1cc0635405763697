-- What `read_ast` gives.
use Rattle.std.specs.Prelude.{◌≡◌, ℕ, List}
use Rattle.ck_base.specs.declared.fault.Kind.{Kind}
use Rattle.ck_base.specs.declared.fault.SpecFault.{SpecFault}
use Rattle.ck_base.specs.declared.fault.SpecFault.TheVariants.{Bad, NoMemory}
use Rattle.cfg_model.specs.declared.named.NamedGrammar.{NamedGrammar}
use Rattle.section_frame.specs.Declares.{Declared, judged_at}
use Rattle.section_frame.specs.FirstFault.{FirstFault, Accepts, Judged}
use Rattle.spec_text.specs.Promise.{HasSection}
use Rattle.spec_text.specs.Sections.{SectionLines}
use Rattle.spec_text.specs.declared.section.Section.TheVariants.{Ast}
use Rattle.node_spec.specs.AstShapes.{AstSaying}
use Rattle.node_spec.specs.AstBuilds.{nodes_by}
use Rattle.node_spec.specs.AstFaults.{AstHeadFault, ast}
use Rattle.node_model.specs.Nodes.{Nodes}

-- how the lines are judged, for the grammar
abbrev pub judged_ast : NamedGrammar → SectionLines → Judged (List (Declared AstSaying))
judged_ast g lines = judged_at (ast g) lines.head (AstHeadFault g) lines.inside

-- AST of the file declares these nodes for the grammar, and has no fault
pub record DeclaresNodes (file : List ℕ) (g : NamedGrammar) (nodes : Nodes) : Type 0 where
  pub lines : SectionLines
  pub section : HasSection file Ast lines
  pub declared : List (Declared AstSaying)
  pub accepted : Accepts (judged_ast g lines) declared
  pub is : nodes ≡ nodes_by g declared

-- the first fault of AST of the file, for the grammar
pub record FirstAstFault (file : List ℕ) (g : NamedGrammar) (line : ℕ) (kind : Kind) : Type 0 where
  pub lines : SectionLines
  pub section : HasSection file Ast lines
  pub fault : FirstFault (judged_ast g lines) line kind

-- the section's first fault, or that memory was wanted
abbrev pub IsAstFault : List ℕ → NamedGrammar → SpecFault → Type 0
IsAstFault file g (Bad line kind) = FirstAstFault file g line kind
IsAstFault file g NoMemory = Unit {0}
