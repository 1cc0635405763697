-- Lines and sections, tried where the nearest wrong reading differs.
use Rattle.std.proofs.Common.{◌≡◌, ℕ, zero, suc, ◌<◌, List, [], ◌∷◌, take, slice_index_or, refl, Some, None, codes, arith}
use Rattle.ck_base.specs.declared.fault.Kind.TheVariants.{Syntax, Limit}
use Rattle.spec_text.specs.Bytes.{is_word_byte}
use Rattle.spec_text.specs.Lexemes.{word, number, text, Form, a_word, a_number, Begins}
use Rattle.spec_text.specs.Reading.{Placed, Reads, nothing, a_token, too_large, no_token, most}
use Rattle.spec_text.specs.TextLines.{ended, unended}
use Rattle.spec_text.specs.Lines.{Line, none_read, silent, speaks, FileLines}
use Rattle.spec_text.specs.Sections.{IsHead, SectionFault, part_from}
use Rattle.spec_text.specs.Sizes.{line_bytes}
use Rattle.spec_text.specs.Spans.{IsLineOf, Spells, spans_in, spans_of}
use Rattle.spec_text.specs.declared.line.SpecLine.{SpecLine}
use Rattle.spec_text.specs.declared.order.State.TheVariants.{Start, Open}
use Rattle.spec_text.specs.declared.section.Section.TheVariants.{Rex, Lalr, Ell}
use Rattle.spec_text.proofs.Begin.{no_longer, first_of_form, begins_none}
use Rattle.spec_text.proofs.Examples.{alone}
use Rattle.spec_text.proofs.Forms.{as_word}
use Rattle.spec_text.proofs.SectionExamples.{rex_end_file, word_line, begins_rex}
use Rattle.spec_text.proofs.SectionLines.{no_lines_yet, next_line, start_head, open_head, open_other, broken_here}

-- a byte 0x01 behind `a` makes the line bad, and leaves it the token before
begins_a : Begins (97 ∷ 1 ∷ []) (word (codes "a")) 1
begins_a = record {
  fits = omega arith;
  is_token = a_word 97 [] refl refl;
  longest = λ m other fits form.
      no_longer is_word_byte (97 ∷ 1 ∷ []) m fits
      (as_word (take m (97 ∷ 1 ∷ [])) other form (rw (first_of_form m (97 ∷ 1 ∷ []) other form) refl)).0;
}

pub token_before_fault : Reads 0 (97 ∷ 1 ∷ []) (record { said = word (codes "a"); from = 0; to = 1 } ∷ []) (Some Syntax)
token_before_fault = a_token 0 1 (97 ∷ 1 ∷ []) (word (codes "a")) [] (Some Syntax) begins_a tt
    (no_token 1 1 [] refl (λ is. omega (arith, is))
    (begins_none 1 [] (record { letter = refl; digit = refl; quote = λ is. omega (arith, is); bracket = λ is. omega (arith, is) }) refl refl))

-- 2^63 - 1 may stand, and 2^63 not
pub greatest_fits : Reads 0 (codes "9223372036854775807") (record { said = number most; from = 0; to = 19 } ∷ []) None
greatest_fits = a_token 0 19 (codes "9223372036854775807") (number most) [] None
    (record { fits = omega arith; is_token = a_number 57 (codes "223372036854775807") refl refl; longest = λ m other fits form. fits })
    (omega arith) (nothing 19)

pub one_more_is_too_large : Reads 0 (codes "9223372036854775808") [] (Some Limit)
one_more_is_too_large = too_large 0 19 9223372036854775808 (codes "9223372036854775808")
    (record { fits = omega arith; is_token = a_number 57 (codes "223372036854775808") refl refl; longest = λ m other fits form. fits })
    (omega arith)

-- an empty line is counted, and the next one has the number 2
pub empty_line_counts : FileLines (10 ∷ codes "REX") (word_line 2 1 4 (codes "REX") ∷ []) 2
empty_line_counts = record {
  texts = record { number = 1; at = 0; bytes = [] } ∷ record { number = 2; at = 1; bytes = codes "REX" } ∷ [];
  are = ended 1 0 (10 ∷ codes "REX") [] (codes "REX") _ refl refl (unended 2 1 (codes "REX") (omega arith) refl);
  read = silent _ _ _ (nothing 0)
      (speaks _ _ _ None _ (a_token 1 3 (codes "REX") (word (codes "REX")) [] None begins_rex tt (nothing 4)) (λ is. let e = is.0 in cc) none_read);
  all = refl;
}

-- a line that begins with REX and says more is no head, nor is a bad one
pub more_than_rex : (token : Placed)
    → IsHead Rex (record { number = 1; bad = None; tokens = record { said = word (codes "REX"); from = 0; to = 3 } ∷ token ∷ [] }) → ⊥
more_than_rex token head = let e = head.said in cc

pub bad_rex : IsHead Rex (record { number = 1; bad = Some Syntax; tokens = record { said = word (codes "REX"); from = 0; to = 3 } ∷ [] }) → ⊥
bad_rex head = let e = head.good in cc

-- ELL may not stand behind LALR: the fault is at its line
abbrev pub lalr_and_ell : List Line
lalr_and_ell = alone 1 (codes "REX") ∷ alone 2 (codes "LALR") ∷ alone 3 (codes "ELL") ∷ []

pub ell_behind_lalr : SectionFault 4 lalr_and_ell 3
ell_behind_lalr = broken_here 4 lalr_and_ell 2 (Open Lalr 1) (part_from Rex 0 1 ∷ []) (alone 3 (codes "ELL"))
    (next_line lalr_and_ell 1 (Open Rex 0) (Open Lalr 1) [] (part_from Rex 0 1 ∷ []) (part_from Rex 0 1 ∷ []) (alone 2 (codes "LALR"))
    (next_line lalr_and_ell 0 Start (Open Rex 0) [] [] [] (alone 1 (codes "REX")) (no_lines_yet lalr_and_ell [] refl) refl
    (start_head Rex 0 (alone 1 (codes "REX")) (record { good = refl; said = refl }) refl) refl)
    refl (open_head Rex Lalr 0 1 (alone 2 (codes "LALR")) (record { good = refl; said = refl }) refl) refl)
    refl (open_other Lalr Ell 1 2 (alone 3 (codes "ELL")) (record { good = refl; said = refl }) (λ is. omega (arith, is)))

-- a line with the spans of REX is that of the file, and none that says another word
pub rex_is_there : (have : SpecLine) → spans_in have ≡ spans_of (word_line 1 0 3 (codes "REX"))
    → IsLineOf rex_end_file have (word_line 1 0 3 (codes "REX"))
rex_is_there have same = record { same = same; spelled = spelled }
  where
    spelled : (k : ℕ) (d : Placed) → k < 1 → Spells rex_end_file (slice_index_or (record { said = word (codes "REX"); from = 0; to = 3 } ∷ []) k d)
    spelled zero d less = record { order = omega arith; fits = omega arith; form = a_word 82 (codes "EX") refl refl; small = tt }
    spelled (suc k) d less = absurd (omega (arith, less))

pub another_word_is_not : (have : SpecLine) → IsLineOf rex_end_file have (word_line 1 0 3 (codes "AST")) → ⊥
another_word_is_not have is = by (is.spelled 0 (record { said = word []; from = 0; to = 0 }) (omega arith)).form
  where
    by : Form (codes "REX") (word (codes "AST")) → ⊥
    by form = let same = (as_word (codes "REX") (word (codes "AST")) form refl).1 in
        let code : ◌≡◌ {A = ℕ} 65 82 = cc in omega (arith, code)

-- the line `a "b"` behind three bytes has tokens of 4 bytes: the quotes count, the gap doesn't
pub bytes_of_tokens : line_bytes (record { number = 2; bad = None; tokens = record { said = word (codes "a"); from = 3; to = 4 } ∷ record { said = text (codes "b"); from = 5; to = 8 } ∷ [] } ∷ []) ≡ 4
bytes_of_tokens = refl
