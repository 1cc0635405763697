-- The sections of lines, and their first fault, are one.
use Rattle.std.proofs.Common.{◌≡◌, ℕ, zero, suc, ◌+◌, ◌<◌, ◌≤◌, ◌⊎◌, inl, inr, List, [], ◌∷◌, ◌++◌, length, drop, get_or, Contains, refl, sym, ap, ◌∙◌, arith}
use Rattle.std.proofs.lemmas.List.{take-append-drop}
use Rattle.spec_text.specs.Lines.{Line, FileLines}
use Rattle.spec_text.specs.Sections.{rank, Inside, part_from, Stand, closed, part, AreSections, SectionFault, breaks, unclosed, SectionLines, IsPart}
use Rattle.spec_text.specs.Promise.{HasSections, HasSection, FirstSectionFault, IsSectionFault}
use Rattle.spec_text.specs.SectionSteps.{IsFaultOf}
use Rattle.ck_base.specs.declared.fault.SpecFault.{SpecFault}
use Rattle.ck_base.specs.declared.fault.SpecFault.TheVariants.{Bad, NoMemory}
use Rattle.spec_text.specs.declared.section.Section.{Section}
use Rattle.spec_text.specs.declared.section.Part.{Part}
use Rattle.spec_text.proofs.Lists.{order, get_fits}
use Rattle.spec_text.proofs.OneFile.{one_file}
use Rattle.spec_text.proofs.SectionLines.{one_head, head_end, plain_in}

-- what is inside a section ends in one place
one_inside : (k at : ℕ) (a b x y : List Line) (p q : List Part) → Inside a → Inside b → Stand k at x p → Stand k at y q
    → a ++ x ≡ b ++ y → (a ≡ b) × (x ≡ y)
one_inside k at [] [] x y p q clean clean2 stand stand2 same = (refl, same)
one_inside k at [] (line ∷ b) x y p q clean clean2 stand stand2 same =
    absurd (plain_in k at line (b ++ y) p clean2.0 (rw same at stand))
one_inside k at (line ∷ a) [] x y p q clean clean2 stand stand2 same =
    absurd (plain_in k at line (a ++ x) q clean.0 (rw (← same) at stand2))
one_inside k at (line ∷ a) (line2 ∷ b) x y p q clean clean2 stand stand2 same =
    let first : line ≡ line2 = cc in
    let more = one_inside k at a b x y p q clean.1 clean2.1 stand stand2 (cc) in
    (rw (first, more.0) refl, more.1)

-- the place where what follows stands doesn't matter for that
moved : (k at to : ℕ) (lines : List Line) (parts : List Part) → Stand k at lines parts → (others : List Part) × Stand k to lines others
moved _ _ to _ _ (closed k at line some end) = ([], closed k to line some end)
moved _ _ to _ _ (part k at s line inside rest parts is_rank head plain stand) =
    let more = moved (k + 1) (at + 1 + length inside) (to + 1 + length inside) rest parts stand in
    (part_from s to (to + 1 + length inside) ∷ more.0, part k to s line inside rest more.0 is_rank head plain more.1)

pub one_stand : (k at : ℕ) (lines : List Line) (parts others : List Part) → Stand k at lines parts → Stand k at lines others → parts ≡ others
one_stand k at lines parts others stand stand2 = by k at lines lines parts others stand stand2 refl
  where
    by : (k at : ℕ) (lines copy : List Line) (parts others : List Part) → Stand k at lines parts → Stand k at copy others → lines ≡ copy
        → parts ≡ others
    by _ _ _ _ _ _ (closed k at line some end) (closed _ _ line2 some2 end2) same = refl
    by _ _ _ _ _ _ (closed k at line some end) (part _ _ s line2 inside rest parts is_rank head plain stand) same =
        let first : line ≡ line2 = cc in absurd (head_end s line2 head (rw first at end))
    by _ _ _ _ _ _ (part k at s line inside rest parts is_rank head plain stand) (closed _ _ line2 some end) same =
        let first : line ≡ line2 = cc in absurd (head_end s line2 (rw first at head) end)
    by _ _ _ _ _ _ (part k at s line inside rest parts is_rank head plain stand) (part _ _ t line2 inside2 rest2 others is_rank2 head2 plain2 stand2) same =
        let first : line ≡ line2 = cc in
        let section : s ≡ t = one_head s t line2 (rw first at head) head2 in
        let here = moved (k + 1) (at + 1 + length inside) 0 rest parts stand in
        let there = moved (k + 1) (at + 1 + length inside2) 0 rest2 others stand2 in
        let split = one_inside (k + 1) 0 inside inside2 rest rest2 here.0 there.0 plain plain2 here.1 there.1 (cc) in
        let long : length inside ≡ length inside2 = ap length split.0 in
        let more = by (k + 1) (at + 1 + length inside) rest rest2 parts others stand (rw (← long) at stand2) split.1 in
        rw (section, long, more) refl

pub one_order : (file : List ℕ) (lines others : List Line) (parts more : List Part) → HasSections file lines parts
    → HasSections file others more → (lines ≡ others) × (parts ≡ more)
one_order file lines others parts more has has2 =
    let same = (one_file file lines others has.count has2.count has.read has2.read).0 in
    (same, one_stand 0 0 others parts more (rw same at has.are) has2.are)

-- each section is among the parts once
later_rank : (k at : ℕ) (lines : List Line) (parts : List Part) (p : Part) → Stand k at lines parts → Contains parts p → k ≤ rank p.section
later_rank _ _ _ _ p (closed k at line some end) there = let n = there.1 in absurd (omega (arith, n))
later_rank _ _ _ _ p (part k at s line inside rest parts is_rank head plain stand) there =
    by there.0 there.1 there.2 (later_rank (k + 1) (at + 1 + length inside) rest parts p stand)
  where
    by : (i : ℕ) → i < length (part_from s at (at + 1 + length inside) ∷ parts) → get_or (part_from s at (at + 1 + length inside) ∷ parts) i p ≡ p
        → (Contains parts p → k + 1 ≤ rank p.section) → k ≤ rank p.section
    by zero less is later = let same : rank s ≡ rank p.section = ap (λ q. rank q.section) is in omega (arith, same, is_rank)
    by (suc i) less is later =
        let more = later (i, omega (arith, less), is) in omega (arith, more)

pub one_part : (k at : ℕ) (lines : List Line) (parts : List Part) (p q : Part) → Stand k at lines parts → Contains parts p → Contains parts q
    → p.section ≡ q.section → p ≡ q
one_part _ _ _ _ p q (closed k at line some end) there there2 same = let n = there.1 in absurd (omega (arith, n))
one_part _ _ _ _ p q (part k at s line inside rest parts is_rank head plain stand) there there2 same =
    by there.0 there2.0 there.1 there2.1 there.2 there2.2 (one_part (k + 1) (at + 1 + length inside) rest parts p q stand)
    (later_rank (k + 1) (at + 1 + length inside) rest parts p stand) (later_rank (k + 1) (at + 1 + length inside) rest parts q stand)
  where
    first : Part
    first = part_from s at (at + 1 + length inside)

    by : (i j : ℕ) → i < length (part_from s at (at + 1 + length inside) ∷ parts) → j < length (part_from s at (at + 1 + length inside) ∷ parts)
        → get_or (part_from s at (at + 1 + length inside) ∷ parts) i p ≡ p → get_or (part_from s at (at + 1 + length inside) ∷ parts) j q ≡ q
        → (Contains parts p → Contains parts q → p.section ≡ q.section → p ≡ q) → (Contains parts p → k + 1 ≤ rank p.section)
        → (Contains parts q → k + 1 ≤ rank q.section) → p ≡ q
    by zero zero less less2 is is2 more later later2 = sym is ∙ is2
    by zero (suc j) less less2 is is2 more later later2 =
        let one : rank s ≡ rank p.section = ap (λ r. rank r.section) is in
        let two : rank p.section ≡ rank q.section = ap rank same in
        let much = later2 (j, omega (arith, less2), is2) in absurd (omega (arith, one, two, much, is_rank))
    by (suc i) zero less less2 is is2 more later later2 =
        let one : rank s ≡ rank q.section = ap (λ r. rank r.section) is2 in
        let two : rank p.section ≡ rank q.section = ap rank same in
        let much = later (i, omega (arith, less), is) in absurd (omega (arith, one, two, much, is_rank))
    by (suc i) (suc j) less less2 is is2 more later later2 = more (i, omega (arith, less), is) (j, omega (arith, less2), is2) same

same_part : (lines : List Line) (p : Part) (these those : SectionLines) → IsPart lines p these → IsPart lines p those → these ≡ those
same_part lines p these those is is2 =
    let line : is.line ≡ is2.line = (let a = sym is.at ∙ is2.at in cc) in
    whole these those (is.head ∙ ap (λ l. l.number) line ∙ sym is2.head) (is.are ∙ sym is2.are)
  where
    whole : (these those : SectionLines) → these.head ≡ those.head → these.inside ≡ those.inside → these ≡ those
    whole these those head inside = ap (λ h. record { head = h; inside = these.inside }) head ∙ ap (λ l. record { head = those.head; inside = l }) inside

pub one_section : (file : List ℕ) (section : Section) (these those : SectionLines) → HasSection file section these
    → HasSection file section those → these ≡ those
one_section file section these those has has2 =
    let same = one_order file has.lines has2.lines has.parts has2.parts has.sections has2.sections in
    let p : has.part ≡ has2.part = one_part 0 0 has2.lines has2.parts has.part has2.part has2.sections.are
    (rw same.1 at has.among) has2.among (has.is ∙ sym has2.is) in
    same_part has2.lines has2.part these those (rw (same.0, p) at has.part_is) has2.part_is

-- one section fault at most, and none where the lines are sections
one_section_fault : (past : ℕ) (lines : List Line) (n m : ℕ) → SectionFault past lines n → SectionFault past lines m → n ≡ m
one_section_fault past lines _ _ (breaks i line at is none) (breaks j other at2 is2 none2) = same_place (order i j)
  where
    same_place : (i < j) ⊎ ((j < i) ⊎ (i ≡ j)) → line.number ≡ other.number
    same_place (inl less) = absurd (none2 i less is)
    same_place (inr (inl less)) = absurd (none j less is2)
    same_place (inr (inr same)) = let one : line ≡ other = (let a = rw same at at in let b = sym a ∙ at2 in cc) in ap (λ l. l.number) one
one_section_fault past lines _ _ (breaks i line at is none) (unclosed fine missing) = absurd (fine i (get_fits lines i line at) is)
one_section_fault past lines _ _ (unclosed fine missing) (breaks i line at is none) = absurd (fine i (get_fits lines i line at) is)
one_section_fault past lines _ _ (unclosed fine missing) (unclosed fine2 missing2) = refl

no_section_fault : (past : ℕ) (lines : List Line) (parts : List Part) (n : ℕ) → AreSections lines parts → SectionFault past lines n → ⊥
no_section_fault past lines parts _ are (breaks i line at is none) = is (drop (i + 1) lines) parts (rw (take-append-drop (i + 1) lines) are)
no_section_fault past lines parts _ are (unclosed fine missing) = missing parts are

pub one_fault_line : (file : List ℕ) (line other : ℕ) → FirstSectionFault file line → FirstSectionFault file other → line ≡ other
one_fault_line file line other first second =
    let same = one_file file first.lines second.lines first.count second.count first.read second.read in
    one_section_fault (second.count + 1) second.lines line other (rw (same.0, same.1) at first.fault) second.fault

pub none_beside : (file : List ℕ) (lines : List Line) (parts : List Part) (line : ℕ) → HasSections file lines parts
    → FirstSectionFault file line → ⊥
none_beside file lines parts line has first =
    let same = one_file file lines first.lines has.count first.count has.read first.read in
    no_section_fault (first.count + 1) first.lines parts line (rw same.0 at has.are) first.fault

pub section_fault : (file : List ℕ) (lines : List Line) (count : ℕ) (fault : SpecFault) → FileLines file lines count
    → IsFaultOf (count + 1) lines fault → IsSectionFault file fault
section_fault file lines count (Bad line kind) read is = (record { lines = lines; count = count; read = read; fault = is.0 }, is.1)
section_fault file lines count NoMemory read is = tt
