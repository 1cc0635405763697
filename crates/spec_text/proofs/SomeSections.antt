-- A file has sections or a first section fault: it can't be that there is neither. With sections it has REX.
use Rattle.std.proofs.Common.{ℕ, ◌+◌, ◌-◌, ◌<◌, List, length, take, drop, refl, arith}
use Rattle.ck_base.specs.Found.{HasNo}
use Rattle.spec_text.specs.Least.{Least}
use Rattle.spec_text.specs.Lines.{Line}
use Rattle.spec_text.specs.Sections.{Breaks, SectionFault, breaks, unclosed, SectionLines}
use Rattle.spec_text.specs.Promise.{HasSections, HasSection, FirstSectionFault}
use Rattle.spec_text.specs.declared.section.Section.TheVariants.{Rex}
use Rattle.spec_text.specs.declared.section.Part.{Part}
use Rattle.spec_text.proofs.Least.{no_least}
use Rattle.spec_text.proofs.Parting.{part_fits, contains_at, some_at, first_part}
use Rattle.spec_text.proofs.SomeReading.{some_lines}

-- where no line is the first one that breaks the order, none does
none_breaks : (past : ℕ) (lines : List Line) → HasNo (SectionFault past lines) → (i : ℕ) → i < length lines → Breaks lines i → ⊥
none_breaks past lines none i less is = no_least BreaksWithin first (i + 1) i (omega arith) (less, is)
  where
    BreaksWithin : ℕ → Type 0
    BreaksWithin j = (j < length lines) × Breaks lines j

    first : (n : ℕ) → Least BreaksWithin n → ⊥
    first n least =
        let line = some_at lines n least.is.0 in
        none _ (breaks n line.0 line.1 least.is.1 (λ j before other.
        let within = least.is.0 in
        let after = least.least j (omega (arith, before, within), other) in omega (arith, before, after)))

pub some_sections : (file : List ℕ) → ((lines : List Line) (parts : List Part) → HasSections file lines parts → ⊥)
    → HasNo (FirstSectionFault file) → ⊥
some_sections file none_has none_fault = some_lines file (λ lines count read.
    let none : HasNo (SectionFault (count + 1) lines) =
    λ line fault. none_fault line (record { lines = lines; count = count; read = read; fault = fault }) in
    none (count + 1) (unclosed (none_breaks (count + 1) lines none) (λ parts are.
    none_has lines parts (record { count = count; read = read; are = are }))))

-- REX stands first
pub has_rex : (file : List ℕ) (lines : List Line) (parts : List Part) → HasSections file lines parts
    → (these : SectionLines) × HasSection file Rex these
has_rex file lines parts has =
    let first = first_part 0 lines parts has.are in
    let there = some_at parts 0 first.0 in
    let p = there.0 in
    let fits = part_fits 0 0 lines parts 0 p has.are there.1 in
    let head = some_at lines p.head (let h = fits.head in let o = fits.order in let w = fits.within in omega (arith, h, o, w)) in
    let these : SectionLines = record { head = head.0.number; inside = take (p.end - p.first) (drop p.first lines) } in (
      these,
      record {
        lines = lines;
        parts = parts;
        sections = has;
        part = p;
        among = contains_at parts 0 p there.1;
        is = first.1 p there.1;
        part_is = record { line = head.0; at = head.1; head = refl; are = refl };
      },
    )
