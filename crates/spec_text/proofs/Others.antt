-- The first section that isn't one of some.
use Rattle.std.proofs.Common.{◌≡◌, ℕ, ◌+◌, ◌<◌, ◌⊎◌, inl, inr, List, length, Contains, Some, sym, ap, ◌∙◌, arith}
use Rattle.std.specs.List.{slice_get}
use Rattle.ck_base.specs.Found.{HasNo}
use Rattle.spec_text.specs.Promise.{AreSectionsOf, IsFirstOther}
use Rattle.spec_text.specs.declared.section.Section.{Section}
use Rattle.spec_text.specs.declared.section.Part.{Part}
use Rattle.spec_text.specs.declared.section.Sections.{Sections}
use Rattle.spec_text.specs.declared.line.SpecLine.{SpecLine}
use Rattle.spec_text.proofs.Lists.{order, get_fits}
use Rattle.spec_text.proofs.OneSections.{one_order}
use Rattle.spec_text.proofs.Parting.{fits, some_at}
use Rattle.spec_text.proofs.Views.{line_at}

-- the parts before place i are of these sections
abbrev pub KnownSoFar : List Part → List Section → ℕ → Type 0
KnownSoFar parts these i = (j : ℕ) (p : Part) → j < i → slice_get parts j ≡ Some p → Contains these p.section

pub known_more : (parts : List Part) (these : List Section) (i : ℕ) (p : Part) → KnownSoFar parts these i → slice_get parts i ≡ Some p
    → Contains these p.section → KnownSoFar parts these (i + 1)
known_more parts these i p known at here j q less at_j = by (order j i)
  where
    by : (j < i) ⊎ ((i < j) ⊎ (j ≡ i)) → Contains these q.section
    by (inl below) = known j q below at_j
    by (inr (inl above)) = absurd (omega (arith, above, less))
    by (inr (inr same)) = let it : p ≡ q = (let a = rw same at at_j in let b = sym at ∙ a in cc) in rw (← it) here

-- the part at place i is the first one of another section
pub other_found : (file : List ℕ) (s : Sections) (these : List Section) (i : ℕ) (p : Part) (n : ℕ) → AreSectionsOf file s
    → slice_get s.parts.items i ≡ Some p → KnownSoFar s.parts.items these i → (Contains these p.section → ⊥)
    → ((line : SpecLine) → slice_get s.lines.items p.head ≡ Some line → n ≡ line.number) → IsFirstOther file these n
other_found file s these i p n are at known other number =
    let there = some_at s.lines.items p.head (fits file s i p are at).0 in
    let head = line_at file s.lines.items are.lines p.head _ are.spans there.1 in
    record {
      lines = are.lines;
      parts = s.parts.items;
      sections = are.sections;
      place = i;
      part = p;
      at = at;
      other = other;
      first = known;
      head = head.there;
      head_at = head.at;
      number = number _ there.1 ∙ head.number;
    }

-- no part is of another section
pub none_other : (file : List ℕ) (s : Sections) (these : List Section) (i : ℕ) → i ≡ length s.parts.items → KnownSoFar s.parts.items these i
    → AreSectionsOf file s → HasNo (IsFirstOther file these)
none_other file s these i end known are line found =
    let same = (one_order file are.lines found.lines s.parts.items found.parts are.sections found.sections).1 in
    let at = rw (← same) at found.at in
    found.other (known found.place found.part (let n = get_fits s.parts.items found.place found.part at in omega (arith, n, end)) at)

-- the first one of another section is one
pub one_other : (file : List ℕ) (these : List Section) (n m : ℕ) → IsFirstOther file these n → IsFirstOther file these m → n ≡ m
one_other file these n m a b =
    let same = one_order file a.lines b.lines a.parts b.parts a.sections b.sections in
    let b_at : slice_get a.parts b.place ≡ Some b.part = rw (← same.1) at b.at in
    let places : a.place ≡ b.place = first_place (order a.place b.place) b_at in
    let parts : a.part ≡ b.part = (let one = rw places at a.at in let x = sym one ∙ b_at in cc) in
    let head : slice_get a.lines b.part.head ≡ Some b.head = rw (← same.0) at b.head_at in
    let heads : a.head ≡ b.head = (let one = rw parts at a.head_at in let x = sym one ∙ head in cc) in
    a.number ∙ ap (λ line. line.number) heads ∙ sym b.number
  where
    first_place : (a.place < b.place) ⊎ ((b.place < a.place) ⊎ (a.place ≡ b.place)) → slice_get a.parts b.place ≡ Some b.part → a.place ≡ b.place
    first_place (inl before) b_at = absurd (a.other (b.first a.place a.part before
        (let same = one_order file a.lines b.lines a.parts b.parts a.sections b.sections in rw same.1 at a.at)))
    first_place (inr (inl after)) b_at = absurd (b.other (a.first b.place b.part after b_at))
    first_place (inr (inr same)) b_at = same
