-- What the stages of the reader of AST find. Only contracts within the crate cite these.
use Rattle.std.specs.Prelude.{◌≡◌, ℕ, min, List, Option, Some, None}
use Rattle.ck_base.specs.declared.fault.Kind.TheVariants.{Typing}
use Rattle.ck_base.specs.declared.fault.SpecFault.{SpecFault}
use Rattle.ck_base.specs.declared.fault.SpecFault.TheVariants.{Bad, NoMemory}
use Rattle.cfg_model.specs.declared.named.NamedGrammar.{NamedGrammar}
use Rattle.section_frame.specs.Declares.{Declared}
use Rattle.spec_text.specs.Least.{Least}
use Rattle.node_spec.specs.AstShapes.{AstSaying}
use Rattle.node_spec.specs.within.AstSteps.{HasIn}

-- the fault is the first one of kind type, or want of memory
abbrev pub IsLeastTyping : NamedGrammar → ℕ → List (Declared AstSaying) → SpecFault → Type 0
IsLeastTyping g head ds (Bad line kind) = (kind ≡ Typing) × Least (HasIn g head ds Typing) line
IsLeastTyping g head ds NoMemory = Unit {0}

-- the earlier of two lines, of which the first may be missing
abbrev pub earlier_or : Option ℕ → ℕ → ℕ
earlier_or None line = line
earlier_or (Some other) line = min other line
