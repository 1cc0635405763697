-- Where the sections stand among the lines.
use Rattle.std.proofs.Common.{◌≡◌, ℕ, zero, suc, ◌+◌, ◌-◌, ◌<◌, ◌≤◌, ◌⊎◌, inl, inr, List, [], ◌∷◌, ◌++◌, length, take, drop, get_or, Contains, Some, All, refl, sym, ap, ◌∙◌, subst, arith, length-append}
use Rattle.std.specs.List.{slice_get, take-map, drop-map}
use Rattle.std.proofs.lemmas.List.Elements.{All-take, All-drop}
use Rattle.spec_text.specs.Lines.{Line}
use Rattle.spec_text.specs.Sections.{rank, part_from, Stand, closed, part, SectionLines}
use Rattle.spec_text.specs.Spans.{spans_in, spans_of, Spells, AreLinesOf}
use Rattle.spec_text.specs.Promise.{HasSection, AreSectionsOf, IsSectionOf}
use Rattle.spec_text.specs.declared.section.Section.{Section}
use Rattle.spec_text.specs.declared.section.Section.TheVariants.{Rex, Lalr, Ell, Ast, Ag, Puma, Beg}
use Rattle.spec_text.specs.declared.section.Part.{Part}
use Rattle.spec_text.specs.declared.section.Sections.{Sections}
use Rattle.spec_text.specs.declared.section.SectionText.{SectionText}
use Rattle.spec_text.specs.declared.line.SpecLine.{SpecLine}
use Rattle.spec_text.proofs.Lists.{order, get_at, get_fits}
use Rattle.spec_text.proofs.OneSections.{one_order}
use Rattle.spec_text.proofs.Views.{line_at, as_many}

-- a part lies within the lines
pub record Fits (at : ℕ) (lines : List Line) (p : Part) : Type 0 where
  pub after : at ≤ p.head
  pub head : p.head < p.first
  pub order : p.first ≤ p.end
  pub within : p.end < at + length lines

pub part_fits : (k at : ℕ) (lines : List Line) (parts : List Part) (i : ℕ) (p : Part) → Stand k at lines parts → slice_get parts i ≡ Some p → Fits at lines p
part_fits _ _ _ _ i p (closed k at line some end) there = cc
part_fits _ _ _ _ zero p (part k at s line inside rest parts is_rank head plain stand) there =
    let same : part_from s at (at + 1 + length inside) ≡ p = cc in
    let long = length-append inside rest in
    let more = some_line (k + 1) (at + 1 + length inside) rest parts stand in
    subst (λ q. Fits at (line ∷ (inside ++ rest)) q) same (record {
      after = omega arith;
      head = omega arith;
      order = omega arith;
      within = omega (arith, long, more);
    })
  where
    some_line : (k at : ℕ) (lines : List Line) (parts : List Part) → Stand k at lines parts → 0 < length lines
    some_line _ _ _ _ (closed k at line some end) = omega arith
    some_line _ _ _ _ (part k at s line inside rest parts is_rank head plain stand) = omega arith
part_fits _ _ _ _ (suc i) p (part k at s line inside rest parts is_rank head plain stand) there =
    let more = part_fits (k + 1) (at + 1 + length inside) rest parts i p stand there in
    let long = length-append inside rest in
    record {
      after = (let a = more.after in omega (arith, a));
      head = more.head;
      order = more.order;
      within = (let w = more.within in omega (arith, w, long));
    }

-- the lines of a part, as the program has them
pub part_of_lines : (file : List ℕ) (have : List SpecLine) (lines : List Line) (from n : ℕ) → AreLinesOf file have lines
    → AreLinesOf file (take n (drop from have)) (take n (drop from lines))
part_of_lines file have lines from n are = record {
  same =
      sym (take-map spans_in n (drop from have)) ∙ ap (take n) (sym (drop-map spans_in from have)) ∙ ap (λ l. take n (drop from l)) are.same
      ∙ ap (take n) (drop-map spans_of from lines) ∙ take-map spans_of n (drop from lines);
  spelled = All-take IsSpelledLine n (drop from lines) (All-drop IsSpelledLine from lines are.spelled);
}
  where
    IsSpelledLine : Line → Type 0
    IsSpelledLine line = All (Spells file) line.tokens

pub contains_at : {X : Type 0} (xs : List X) (i : ℕ) (x : X) → slice_get xs i ≡ Some x → Contains xs x
contains_at xs i x at = (i, get_fits xs i x at, by xs i at)
  where
    by : (xs : List _) (i : ℕ) → slice_get xs i ≡ Some x → get_or xs i x ≡ x
    by [] i at = cc
    by (y ∷ xs) zero at = cc
    by (y ∷ xs) (suc i) at = by xs i at

pub some_at : {X : Type 0} (xs : List X) (i : ℕ) → i < length xs → (x : X) × (slice_get xs i ≡ Some x)
some_at [] i less = absurd (omega (arith, less))
some_at (x ∷ xs) zero less = (x, refl)
some_at (x ∷ xs) (suc i) less = some_at xs i (omega (arith, less))

module _ (file : List ℕ) (s : Sections) (i : ℕ) (p : Part) (are : AreSectionsOf file s) (at : slice_get s.parts.items i ≡ Some p) where
  pub fits : (p.head < length s.lines.items) × (p.first ≤ p.end) × (p.end ≤ length s.lines.items)
  fits =
      let f = part_fits 0 0 are.lines s.parts.items i p are.sections.are at in
      let long = as_many file s.lines.items are.lines are.spans in
      let w = f.within in let h = f.head in let o = f.order in
      (omega (arith, w, h, o, long), o, omega (arith, w, long))

  pub found : (section : Section) (text : SectionText) → p.section ≡ section
      → ((line : SpecLine) → slice_get s.lines.items p.head ≡ Some line → text.head ≡ line.number)
      → text.lines.now ≡ take (p.end - p.first) (drop p.first s.lines.items) → IsSectionOf file section text
  found section text is head_is lines_are =
      let there = some_at s.lines.items p.head fits.0 in let first = there.1 in
      let head = line_at file s.lines.items are.lines p.head _ are.spans first in
      let these : SectionLines = record { head = head.there.number; inside = take (p.end - p.first) (drop p.first are.lines) } in
      record {
        these = these;
        has = record {
          lines = are.lines;
          parts = s.parts.items;
          sections = are.sections;
          part = p;
          among = contains_at s.parts.items i p at;
          is = is;
          part_is = record { line = head.there; at = head.at; head = refl; are = refl };
        };
        head = head_is _ first ∙ head.number;
        lines = rw lines_are (part_of_lines file s.lines.items are.lines p.first (p.end - p.first) are.spans);
      }

-- no part so far is of the section
abbrev pub NoneSoFar : List Part → Section → ℕ → Type 0
NoneSoFar parts section i = (j : ℕ) (p : Part) → j < i → slice_get parts j ≡ Some p → p.section ≡ section → ⊥

pub none_more : (parts : List Part) (section : Section) (i : ℕ) (p : Part) → NoneSoFar parts section i → slice_get parts i ≡ Some p
    → (p.section ≡ section → ⊥) → NoneSoFar parts section (i + 1)
none_more parts section i p none at other j q less at_j is = by (order j i)
  where
    by : (j < i) ⊎ ((i < j) ⊎ (j ≡ i)) → ⊥
    by (inl below) = none j q below at_j is
    by (inr (inl above)) = omega (arith, above, less)
    by (inr (inr same)) = let it : q ≡ p = (let a = rw same at at_j in let b = sym a ∙ at in cc) in other (rw it at is)

pub none_there : (file : List ℕ) (s : Sections) (section : Section) (i : ℕ) → i ≡ length s.parts.items → NoneSoFar s.parts.items section i
    → AreSectionsOf file s → (these : SectionLines) → HasSection file section these → ⊥
none_there file s section i end none are these has =
    let same = (one_order file are.lines has.lines s.parts.items has.parts are.sections has.sections).1 in
    let there : Contains s.parts.items has.part = rw same has.among in
    none there.0 has.part (let n = there.1 in omega (arith, n, end)) (get_at s.parts.items there.0 has.part there.1 ∙ ap (λ x. Some x) there.2) has.is

-- REX stands first
pub first_part : (at : ℕ) (lines : List Line) (parts : List Part) → Stand 0 at lines parts → (0 < length parts)
    × ((p : Part) → slice_get parts 0 ≡ Some p → p.section ≡ Rex)
first_part _ _ _ (closed _ at line some end) = absurd (omega (arith, some))
first_part _ _ _ (part _ at s line inside rest parts is_rank head plain stand) =
    (omega arith, λ p there. (let same : part_from s at (at + 1 + length inside) ≡ p = cc in sym (ap (λ q. q.section) same) ∙ is_rex s is_rank))
  where
    is_rex : (s : Section) → rank s ≡ 0 → s ≡ Rex
    is_rex Rex is = refl
    is_rex Lalr is = absurd (omega (arith, is))
    is_rex Ell is = absurd (omega (arith, is))
    is_rex Ast is = absurd (omega (arith, is))
    is_rex Ag is = absurd (omega (arith, is))
    is_rex Puma is = absurd (omega (arith, is))
    is_rex Beg is = absurd (omega (arith, is))
