-- A pass over the lines of a section.
use Rattle.std.specs.Prelude.{ℕ, List, Option, MatchOption}
use Rattle.section_frame.specs.Declares.{Declared, HasAt}
use Rattle.spec_text.specs.Least.{Least}
use Rattle.section_frame.specs.declared.pass.Numbered.{Numbered}

-- the line as it is judged
abbrev pub judged_by : {T S : Type 0} → (T → S) → Numbered T → Declared S
judged_by seen line = record { number = line.number; said = seen line.says }

-- the line as the program has it
abbrev pub numbered : {T : Type 0} → Numbered T → Declared T
numbered line = record { number = line.number; said = line.says }

-- what the program's line says, with its number
abbrev pub as_seen : {T S : Type 0} → (T → S) → Declared T → Declared S
as_seen seen d = record { number = d.number; said = seen d.said }

-- the least line of a declaration with F; None where there is none
abbrev pub FirstWith : {S : Type 0} → List (Declared S) → (ℕ → S → Type 0) → Option ℕ → Type 0
FirstWith ds F found = MatchOption found ((line : ℕ) → HasAt ds F line → ⊥) (Least (HasAt ds F))
