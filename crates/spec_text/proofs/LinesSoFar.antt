-- The lines so far stand before those of the rest.
use Rattle.std.proofs.Common.{◌≡◌, ℕ, ◌+◌, ◌-◌, ◌<◌, ◌≤◌, List, [], ◌∷◌, ◌++◌, length, map, refl, sym, ap, ◌∙◌, Option, Some, None, true, false, ◌==◌, rules, arith, append_assoc, length-append}
use Rattle.std.proofs.lemmas.List.{append-nil, map-append}
use Rattle.spec_text.specs.TextLines.{TextLine, TextLines, no_lines}
use Rattle.spec_text.specs.Lines.{Line, ReadLines, none_read, silent, speaks}
use Rattle.spec_text.specs.Spans.{spans_in, spans_of}
use Rattle.spec_text.specs.Steps.{BeginsLine, IsLine, lines_in, AreFileLines}
use Rattle.spec_text.specs.declared.line.SpecLine.{SpecLine}

-- the lines of the file, once those of the rest are known
pub record AllLines (file : List ℕ) (count : ℕ) (texts : List TextLine) (lines : List Line) : Type 0 where
  pub all : List TextLine
  pub are : TextLines 1 0 file all
  pub read : ReadLines all lines
  pub number : length all ≡ count + length texts

pub record LinesSoFar (file rest : List ℕ) (found : List SpecLine) (count : ℕ) : Type 0 where
  pub seen : List Line
  pub are : map spans_in found ≡ map spans_of seen
  pub within : count + length rest ≤ length file
  pub few : length found ≤ count
  pub before : (texts : List TextLine) (lines : List Line) → TextLines (count + 1) (length file - length rest) rest texts
      → ReadLines texts lines → AllLines file count texts (seen ++ lines)

module _ (file rest after text : List ℕ) (found : List SpecLine) (count : ℕ) (so : LinesSoFar file rest found count)
    (begins : BeginsLine rest text after) (shorter : length after < length rest) where
  -- one line more
  next_texts : (texts : List TextLine) → TextLines (count + 1 + 1) (length file - length after) after texts
      → TextLines (count + 1) (length file - length rest) rest
      (record { number = count + 1; at = length file - length rest; bytes = text } ∷ texts)
  next_texts texts are =
      let there : length file - length rest + (length rest - length after) ≡ length file - length after =
      (let w = so.within in omega (arith, w, shorter)) in
      begins (count + 1) (length file - length rest) texts (rw there are)

  pub one_line : (line : Option SpecLine) (new : List SpecLine) → IsLine (length file - length rest) text (count + 1) line
      → new ≡ found ++ lines_in line → LinesSoFar file after new (count + 1)
  one_line None new is are = record {
    seen = so.seen;
    are = ap (λ l. map spans_in l) (are ∙ append-nil found) ∙ so.are;
    within = let w = so.within in omega (arith, w, shorter);
    few = let f = so.few in let long = ap length (are ∙ append-nil found) in omega (arith, f, long);
    before = λ texts lines texts_are read.
        let whole = so.before _ lines (next_texts texts texts_are) (silent _ texts lines is read) in
        record { all = whole.all; are = whole.are; read = whole.read; number = (let n = whole.number in omega (arith, n)) };
  }
  one_line (Some line) new is are =
      let this : Line = record { number = count + 1; bad = is.bad; tokens = is.tokens } in
      record {
        seen = so.seen ++ this ∷ [];
        are = ap (λ l. map spans_in l) are ∙ map-append spans_in found (line ∷ [])
            ∙ ap (λ l. l ++ map spans_in (line ∷ [])) so.are ∙ ap (λ s. map spans_of so.seen ++ s ∷ []) is.are
            ∙ sym (map-append spans_of so.seen (this ∷ []));
        within = let w = so.within in omega (arith, w, shorter);
        few = let f = so.few in let long = ap length are ∙ length-append found (line ∷ []) in omega (arith, f, long);
        before = λ texts lines texts_are read.
            let whole = so.before _ (this ∷ lines) (next_texts texts texts_are) (speaks _ texts is.tokens is.bad lines is.reads is.speaks read) in
            record {
              all = whole.all;
              are = whole.are;
              read = rw (append_assoc so.seen (this ∷ []) lines) whole.read;
              number = (let n = whole.number in omega (arith, n));
            };
      }

pub all_lines : (file rest : List ℕ) (found : List SpecLine) (count : ℕ) → LinesSoFar file rest found count → length rest ≡ 0
    → AreFileLines file found count
all_lines file [] found count so empty =
    let whole = so.before [] [] (no_lines (count + 1) (length file - 0)) none_read in
    record {
      lines = so.seen;
      read = record { texts = whole.all; are = whole.are; read = rw append-nil at whole.read; all = (let n = whole.number in omega (arith, n)) };
      are = so.are;
    }
all_lines file (byte ∷ rest) found count so empty = absurd (omega (arith, empty))

pub is_empty : (rest : List ℕ) → (length rest == 0) ≡ true → length rest ≡ 0
is_empty [] is = refl
is_empty (byte ∷ rest) is = absurd (let more : (length (byte ∷ rest) == 0) ≡ false = search rules in cc)
