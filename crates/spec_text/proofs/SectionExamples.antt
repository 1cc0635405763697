-- The shortest file that has sections, and one that has none.
use Rattle.std.proofs.Common.{◌≡◌, ℕ, zero, suc, List, [], ◌∷◌, ◌++◌, Contains, refl, ap, Some, None, codes, arith}
use Rattle.std.specs.List.{slice_get}
use Rattle.ck_base.specs.Found.{HasNo}
use Rattle.spec_text.specs.Lexemes.{word, Begins, a_word}
use Rattle.spec_text.specs.Reading.{nothing, a_token}
use Rattle.spec_text.specs.TextLines.{no_lines, ended}
use Rattle.spec_text.specs.Lines.{Line, none_read, speaks, FileLines}
use Rattle.spec_text.specs.Sections.{part_from, closed, part}
use Rattle.spec_text.specs.Promise.{HasSections, HasSection, IsFirstOther, FirstSectionFault}
use Rattle.spec_text.specs.declared.section.Section.TheVariants.{Rex}
use Rattle.spec_text.specs.declared.section.Part.{Part}
use Rattle.spec_text.proofs.OneSections.{one_order}
use Rattle.spec_text.proofs.Examples.{empty}

-- REX and END, each alone on its line
abbrev pub rex_end_file : List ℕ
rex_end_file = codes "REX" ++ 10 ∷ (codes "END" ++ 10 ∷ [])

-- a line that is one word, with its number and its place
abbrev pub word_line : ℕ → ℕ → ℕ → List ℕ → Line
word_line n from to name =
    record { number = n; bad = None; tokens = record { said = word name; from = from; to = to } ∷ [] }

abbrev pub rex_end_lines : List Line
rex_end_lines = word_line 1 0 3 (codes "REX") ∷ word_line 2 4 7 (codes "END") ∷ []

abbrev pub rex_end_parts : List Part
rex_end_parts = part_from Rex 0 1 ∷ []

pub begins_rex : Begins (codes "REX") (word (codes "REX")) 3
begins_rex = record { fits = omega arith; is_token = a_word 82 (codes "EX") refl refl; longest = λ m other fits form. fits }

pub begins_end : Begins (codes "END") (word (codes "END")) 3
begins_end = record { fits = omega arith; is_token = a_word 69 (codes "ND") refl refl; longest = λ m other fits form. fits }

pub rex_end_read : FileLines rex_end_file rex_end_lines 2
rex_end_read = record {
  texts = record { number = 1; at = 0; bytes = codes "REX" } ∷ record { number = 2; at = 4; bytes = codes "END" } ∷ [];
  are = ended 1 0 rex_end_file (codes "REX") (codes "END" ++ 10 ∷ []) _ refl refl
      (ended 2 4 (codes "END" ++ 10 ∷ []) (codes "END") [] [] refl refl (no_lines 3 8));
  read = speaks _ _ _ None _ (a_token 0 3 (codes "REX") (word (codes "REX")) [] None begins_rex tt (nothing 3)) (λ is. let e = is.0 in cc)
      (speaks _ _ _ None _ (a_token 4 3 (codes "END") (word (codes "END")) [] None begins_end tt (nothing 7)) (λ is. let e = is.0 in cc) none_read);
  all = refl;
}

pub rex_end_sections : HasSections rex_end_file rex_end_lines rex_end_parts
rex_end_sections = record {
  count = 2;
  read = rex_end_read;
  are = part 0 0 Rex (word_line 1 0 3 (codes "REX")) [] (word_line 2 4 7 (codes "END") ∷ []) [] refl (record { good = refl; said = refl }) tt
      (closed 1 1 (word_line 2 4 7 (codes "END")) (omega arith) (record { good = refl; said = refl }));
}

-- its REX has no lines
pub rex_end_rex : HasSection rex_end_file Rex (record { head = 1; inside = [] })
rex_end_rex = record {
  lines = rex_end_lines;
  parts = rex_end_parts;
  sections = rex_end_sections;
  part = part_from Rex 0 1;
  among = (0, omega arith, refl);
  is = refl;
  part_is = record { line = word_line 1 0 3 (codes "REX"); at = refl; head = refl; are = refl };
}

-- it has no other section
pub rex_end_no_other : HasNo (IsFirstOther rex_end_file (Rex ∷ []))
rex_end_no_other line found =
    let same = (one_order rex_end_file found.lines rex_end_lines found.parts rex_end_parts found.sections rex_end_sections).1 in
    found.other (by found.place found.part (rw same at found.at))
  where
    by : (i : ℕ) (p : Part) → slice_get rex_end_parts i ≡ Some p → Contains (Rex ∷ []) p.section
    by zero p at = let it : part_from Rex 0 1 ≡ p = cc in (0, omega arith, ap (λ q. q.section) it)
    by (suc i) p at = cc

-- a file without a byte lacks END at line 1
pub empty_file : FirstSectionFault [] 1
empty_file = record {
  lines = [];
  count = 0;
  read = record { texts = []; are = no_lines 1 0; read = none_read; all = refl };
  fault = empty;
}
