-- The head of a section stands before its lines.
use Rattle.std.proofs.Common.{◌≡◌, ℕ, zero, suc, ◌+◌, ◌-◌, ◌<◌, List, [], ◌∷◌, take, drop, length, get_or, refl, Some, Contains, arith}
use Rattle.std.specs.List.{slice_get}
use Rattle.section_frame.specs.Declares.{Declared, DeclareAll, Notation, no_lines, one_line}
use Rattle.spec_text.specs.Lines.{Line}
use Rattle.spec_text.specs.Promise.{HasSection}
use Rattle.spec_text.specs.Sections.{SectionLines}
use Rattle.spec_text.specs.declared.section.Section.{Section}
use Rattle.spec_text.proofs.Numbers.{file_grows}
use Rattle.spec_text.proofs.Lists.{get_at}
use Rattle.spec_text.proofs.Parting.{part_fits}
use Rattle.node_spec.specs.AstShapes.{AstSaying}
use Rattle.node_spec.specs.within.AstSteps.{IsBefore}

get_in_take : {X : Type 0} (xs : List X) (n i : ℕ) (x : X) → slice_get (take n xs) i ≡ Some x → slice_get xs i ≡ Some x
get_in_take [] zero i x at = cc
get_in_take [] (suc n) i x at = cc
get_in_take (y ∷ xs) zero i x at = cc
get_in_take (y ∷ xs) (suc n) zero x at = at
get_in_take (y ∷ xs) (suc n) (suc i) x at = get_in_take xs n i x at

get_in_drop : {X : Type 0} (xs : List X) (from i : ℕ) (x : X) → slice_get (drop from xs) i ≡ Some x
    → slice_get xs (from + i) ≡ Some x
get_in_drop xs zero i x at = let same : 0 + i ≡ i = omega arith in rw same at
get_in_drop [] (suc from) i x at = cc
get_in_drop (y ∷ xs) (suc from) i x at =
    let same : suc from + i ≡ suc (from + i) = omega arith in rw same (get_in_drop xs from i x at)

-- the line of what is declared
line_of : (n : Notation AstSaying) (lines : List Line) (ds : List (Declared AstSaying)) (i : ℕ) (d : Declared AstSaying)
    → DeclareAll n.Shape lines ds → slice_get ds i ≡ Some d
    → (line : Line) × (slice_get lines i ≡ Some line) × (d.number ≡ line.number)
line_of n _ _ i d no_lines at = cc
line_of n _ _ zero d (one_line line lines e ds says more) at =
    let same : e ≡ d = cc in (line, refl, rw same at says.number)
line_of n _ _ (suc i) d (one_line line lines e ds says more) at = line_of n lines ds i d more at

at_contained : {X : Type 0} (xs : List X) (x : X) (among : Contains xs x) → slice_get xs among.0 ≡ Some x
at_contained xs x among = by xs among.0 among.1 among.2
  where
    by : (xs : List _) (i : ℕ) → i < length xs → get_or xs i x ≡ x → slice_get xs i ≡ Some x
    by xs i less same = rw (← same) (get_at xs i x less)

-- the number of the head is less than those of the lines inside
line_behind : (file : List ℕ) (section : Section) (these : SectionLines) → HasSection file section these → (i : ℕ) (line : Line)
    → slice_get these.inside i ≡ Some line → these.head < line.number
line_behind file section these has i line at =
    let fits = part_fits 0 0 has.lines has.parts has.among.0 has.part has.sections.are
    (at_contained has.parts has.part has.among) in
    let inside = rw has.part_is.are at at in
    let there = get_in_drop has.lines has.part.first i line
    (get_in_take (drop has.part.first has.lines) (has.part.end - has.part.first) i line inside) in
    let grows = file_grows file has.lines has.sections.count has.sections.read in
    let order = fits.head in
    let more = grows has.part.head (has.part.first + i) has.part_is.line line has.part_is.at there (omega (arith, order)) in
    let number = has.part_is.head in omega (arith, more, number)

pub head_before : (file : List ℕ) (section : Section) (these : SectionLines) → HasSection file section these
    → (n : Notation AstSaying) (head : ℕ) (ds : List (Declared AstSaying)) → head ≡ these.head → DeclareAll n.Shape these.inside ds
    → IsBefore head ds
head_before file section these has n head ds at_head all i d at =
    let it = line_of n these.inside ds i d all at in
    let less = line_behind file section these has i it.0 it.1 in
    let number = it.2 in omega (arith, less, number, at_head)
