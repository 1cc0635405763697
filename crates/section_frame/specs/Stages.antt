-- One kind of fault after the other.
use Rattle.std.specs.Prelude.{◌≡◌, ℕ, min, Bool, true, false, Option, None, Some, MatchOption}
use Rattle.ck_base.specs.declared.fault.Kind.{Kind}
use Rattle.ck_base.specs.declared.fault.Kind.TheVariants.{Limit, Twice, Unknown, Typing}
use Rattle.ck_base.specs.declared.fault.SpecFault.{SpecFault}
use Rattle.ck_base.specs.declared.fault.SpecFault.TheVariants.{Bad, NoMemory}
use Rattle.spec_text.specs.Least.{Least}
use Rattle.section_frame.specs.FirstFault.{FirstFault, Judged}

-- the fault of the first kind of which a line was found
pub data FirstOf (twice unknown typing limit : Option ℕ) : SpecFault → Type 0 where
  of_twice : (line : ℕ) → twice ≡ Some line → FirstOf twice unknown typing limit (Bad line Twice)
  of_unknown : (line : ℕ) → twice ≡ None → unknown ≡ Some line → FirstOf twice unknown typing limit (Bad line Unknown)
  of_typing : (line : ℕ) → twice ≡ None → unknown ≡ None → typing ≡ Some line
      → FirstOf twice unknown typing limit (Bad line Typing)
  of_limit : (line : ℕ) → twice ≡ None → unknown ≡ None → typing ≡ None → limit ≡ Some line
      → FirstOf twice unknown typing limit (Bad line Limit)

-- the earlier one of a line that was found and the head's line, where that is at fault
abbrev pub at_head_or : Bool → ℕ → Option ℕ → Option ℕ
at_head_or false head found = found
at_head_or true head None = Some head
at_head_or true head (Some line) = Some (min head line)

-- the first line, or that of the head, with a fault of the kind; None where there is none
abbrev pub FirstOfKind : {D : Type 0} → Judged D → D → Kind → Option ℕ → Type 0
FirstOfKind s declared kind found =
    MatchOption found ((line : ℕ) → s.Has declared kind line → ⊥) (Least (s.Has declared kind))

-- the fault is the first one, or want of memory
abbrev pub IsFirstIn : {D : Type 0} → Judged D → SpecFault → Type 0
IsFirstIn s (Bad line kind) = FirstFault s line kind
IsFirstIn s NoMemory = Unit {0}
