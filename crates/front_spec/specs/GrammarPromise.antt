-- What `read_grammar` gives.
use Rattle.std.specs.Prelude.{◌≡◌, ℕ, Bool, true, false, List}
use Rattle.ck_base.specs.declared.fault.Kind.{Kind}
use Rattle.ck_base.specs.declared.fault.SpecFault.{SpecFault}
use Rattle.ck_base.specs.declared.fault.SpecFault.TheVariants.{Bad, NoMemory}
use Rattle.cfg_model.specs.declared.named.NamedGrammar.{NamedGrammar}
use Rattle.section_frame.specs.Declares.{Declared, judged_at}
use Rattle.section_frame.specs.FirstFault.{FirstFault, Accepts, Judged}
use Rattle.spec_text.specs.Promise.{HasSection}
use Rattle.spec_text.specs.Sections.{SectionLines}
use Rattle.spec_text.specs.declared.section.Section.{Section}
use Rattle.spec_text.specs.declared.section.Section.TheVariants.{Lalr, Ell}
use Rattle.front_spec.specs.GrammarShapes.{SaidProduction}
use Rattle.front_spec.specs.GrammarFaults.{NoProduction, grammar}
use Rattle.front_spec.specs.GrammarRules.{named_by}

-- a section of a grammar, for LL(1) parsing or for LALR(1) parsing
pub data IsGrammarSection : Section → Bool → Type 0 where
  for_lalr : IsGrammarSection Lalr false
  for_ell : IsGrammarSection Ell true

-- the file has this section of a grammar
pub record HasGrammar (file : List ℕ) (ell : Bool) (lines : SectionLines) : Type 0 where
  pub section : Section
  pub of_grammar : IsGrammarSection section ell
  pub has : HasSection file section lines

-- how the lines are judged, over the scanner's tokens
abbrev pub judged_grammar : List (List ℕ) → SectionLines → Judged (List (Declared SaidProduction))
judged_grammar tokens lines = judged_at (grammar tokens) lines.head NoProduction lines.inside

-- the grammar's section of the file declares this grammar over the scanner's tokens, and has no fault
pub record DeclaresGrammar (file : List ℕ) (tokens : List (List ℕ)) (g : NamedGrammar) : Type 0 where
  pub ell : Bool
  pub lines : SectionLines
  pub section : HasGrammar file ell lines
  pub declared : List (Declared SaidProduction)
  pub accepted : Accepts (judged_grammar tokens lines) declared
  pub is : g ≡ named_by tokens ell declared

-- the first fault of the grammar's section of the file
pub record FirstGrammarFault (file : List ℕ) (tokens : List (List ℕ)) (line : ℕ) (kind : Kind) : Type 0 where
  pub ell : Bool
  pub lines : SectionLines
  pub section : HasGrammar file ell lines
  pub fault : FirstFault (judged_grammar tokens lines) line kind

-- the section's first fault, or that memory was wanted
abbrev pub IsGrammarFault : List ℕ → List (List ℕ) → SpecFault → Type 0
IsGrammarFault file tokens (Bad line kind) = FirstGrammarFault file tokens line kind
IsGrammarFault file tokens NoMemory = Unit {0}
