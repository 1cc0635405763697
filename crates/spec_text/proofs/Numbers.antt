-- The numbers of lines grow, and there are no more lines than bytes.
use Rattle.std.proofs.Common.{◌≡◌, ℕ, zero, suc, ◌+◌, ◌-◌, ◌≤◌, List, [], ◌∷◌, length, take, drop, refl, ap, ◌∙◌, Option, Some, arith, length-append, length-take, length-drop}
use Rattle.std.specs.List.{slice_get}
use Rattle.ck_base.specs.declared.fault.Kind.{Kind}
use Rattle.spec_text.specs.Reading.{Placed}
use Rattle.spec_text.specs.TextLines.{TextLine, TextLines, no_lines, ended, unended}
use Rattle.spec_text.specs.Lines.{Line, ReadLines, none_read, silent, speaks, FileLines, LinesGrow}
use Rattle.spec_text.specs.Sections.{SectionLines}
use Rattle.spec_text.specs.Promise.{HasSection}
use Rattle.spec_text.specs.declared.section.Section.{Section}

-- each line has at least this number
abbrev NumbersFrom : ℕ → List TextLine → Type 0
NumbersFrom number [] = Unit {0}
NumbersFrom number (line ∷ lines) = (line.number ≡ number) × NumbersFrom (number + 1) lines

numbered : (number at : ℕ) (bytes : List ℕ) (texts : List TextLine) → TextLines number at bytes texts → NumbersFrom number texts
numbered _ _ _ _ (no_lines number at) = tt
numbered _ _ _ _ (ended number at bytes x rest lines are clean more) = (refl, numbered (number + 1) (at + length x + 1) rest lines more)
numbered _ _ _ _ (unended number at x some clean) = (refl, tt)

first_number : (number : ℕ) (line : Line) (bad : Option Kind) (tokens : List Placed)
    → Some (record { number = number; bad = bad; tokens = tokens }) ≡ Some line → number ≡ line.number
first_number number line bad tokens at =
    let same : record { number = number; bad = bad; tokens = tokens } ≡ line = cc in ap (λ l. l.number) same

lower : (number : ℕ) (texts : List TextLine) (lines : List Line) → ReadLines texts lines → NumbersFrom number texts
    → (i : ℕ) (line : Line) → slice_get lines i ≡ Some line → number ≤ line.number
lower number _ _ none_read from i line at = cc
lower number _ _ (silent x texts lines reads more) from i line at =
    let less = lower (number + 1) texts lines more from.1 i line at in omega (arith, less)
lower number _ _ (speaks x texts tokens bad lines reads says more) from zero line at =
    let same : x.number ≡ line.number = first_number x.number line bad tokens at in let first = from.0 in omega (arith, same, first)
lower number _ _ (speaks x texts tokens bad lines reads says more) from (suc i) line at =
    let less = lower (number + 1) texts lines more from.1 i line at in omega (arith, less)

grow : (number : ℕ) (texts : List TextLine) (lines : List Line) → ReadLines texts lines → NumbersFrom number texts → LinesGrow lines
grow number _ _ none_read from i j a b at_i at_j less = cc
grow number _ _ (silent x texts lines reads more) from i j a b at_i at_j less = grow (number + 1) texts lines more from.1 i j a b at_i at_j less
grow number _ _ (speaks x texts tokens bad lines reads says more) from zero zero a b at_i at_j less = absurd (omega (arith, less))
grow number _ _ (speaks x texts tokens bad lines reads says more) from zero (suc j) a b at_i at_j less =
    let same : x.number ≡ a.number = first_number x.number a bad tokens at_i in
    let first = from.0 in let much = lower (number + 1) texts lines more from.1 j b at_j in omega (arith, same, first, much)
grow number _ _ (speaks x texts tokens bad lines reads says more) from (suc i) zero a b at_i at_j less = absurd (omega (arith, less))
grow number _ _ (speaks x texts tokens bad lines reads says more) from (suc i) (suc j) a b at_i at_j less =
    grow (number + 1) texts lines more from.1 i j a b at_i at_j (omega (arith, less))

pub file_grows : (file : List ℕ) (lines : List Line) (count : ℕ) → FileLines file lines count → LinesGrow lines
file_grows file lines count read = grow 1 read.texts lines read.read (numbered 1 0 file read.texts read.are)

-- lines in the middle
get_in_take : {X : Type 0} (xs : List X) (n i : ℕ) (x : X) → slice_get (take n xs) i ≡ Some x → slice_get xs i ≡ Some x
get_in_take [] zero i x at = cc
get_in_take [] (suc n) i x at = cc
get_in_take (y ∷ xs) zero i x at = cc
get_in_take (y ∷ xs) (suc n) zero x at = at
get_in_take (y ∷ xs) (suc n) (suc i) x at = get_in_take xs n i x at

get_in_drop : {X : Type 0} (xs : List X) (from i : ℕ) (x : X) → slice_get (drop from xs) i ≡ Some x → slice_get xs (from + i) ≡ Some x
get_in_drop xs zero i x at = let same : 0 + i ≡ i = omega arith in rw same at
get_in_drop [] (suc from) i x at = cc
get_in_drop (y ∷ xs) (suc from) i x at = let same : suc from + i ≡ suc (from + i) = omega arith in rw same (get_in_drop xs from i x at)

pub part_grows : (lines : List Line) (from n : ℕ) → LinesGrow lines → LinesGrow (take n (drop from lines))
part_grows lines from n grows i j a b at_i at_j less =
    grows (from + i) (from + j) a b (get_in_drop lines from i a (get_in_take (drop from lines) n i a at_i)) (get_in_drop lines from j b (get_in_take (drop from lines) n j b at_j)) (omega (arith, less))

pub section_grows : (file : List ℕ) (section : Section) (these : SectionLines) → HasSection file section these → LinesGrow these.inside
section_grows file section these has =
    rw has.part_is.are (part_grows has.lines has.part.first (has.part.end - has.part.first)
    (file_grows file has.lines has.sections.count has.sections.read))

-- no more lines than bytes
texts_few : (number at : ℕ) (bytes : List ℕ) (texts : List TextLine) → TextLines number at bytes texts → length texts ≤ length bytes
texts_few _ _ _ _ (no_lines number at) = omega arith
texts_few _ _ _ _ (ended number at bytes x rest lines are clean more) =
    let less = texts_few (number + 1) (at + length x + 1) rest lines more in
    let long = ap length are ∙ length-append x (10 ∷ rest) in omega (arith, less, long)
texts_few _ _ _ _ (unended number at x some clean) = omega (arith, some)

lines_few : (texts : List TextLine) (lines : List Line) → ReadLines texts lines → length lines ≤ length texts
lines_few _ _ none_read = omega arith
lines_few _ _ (silent x texts lines reads more) = let less = lines_few texts lines more in omega (arith, less)
lines_few _ _ (speaks x texts tokens bad lines reads says more) = let less = lines_few texts lines more in omega (arith, less)

pub file_few : (file : List ℕ) (lines : List Line) (count : ℕ) → FileLines file lines count → length lines ≤ length file
file_few file lines count read =
    let a = lines_few read.texts lines read.read in let b = texts_few 1 0 file read.texts read.are in omega (arith, a, b)

-- no more lines in a section than bytes in the file
length_part : {X : Type 0} (xs : List X) (from n : ℕ) → length (take n (drop from xs)) ≤ length xs
length_part xs from n = let a = length-take n (drop from xs) in let b = length-drop from xs in omega (arith, a, b)

pub section_few : (file : List ℕ) (section : Section) (these : SectionLines) → HasSection file section these → length these.inside ≤ length file
section_few file section these has =
    let less = length_part has.lines has.part.first (has.part.end - has.part.first) in
    let few = file_few file has.lines has.sections.count has.sections.read in
    let same = ap length has.part_is.are in omega (arith, less, few, same)
