-- A line has a reading, and a file has lines: it can't be that there are none.
use Rattle.std.proofs.Common.{◌≡◌, ℕ, zero, suc, ◌+◌, ◌<◌, ◌≤◌, ◌⊎◌, inl, inr, Bool, true, false, List, [], ◌∷◌, ◌++◌, length, drop, Option, None, Some, refl, ap, arith, length-drop}
use Rattle.std.specs.List.{list_all}
use Rattle.std.proofs.lemmas.Bool.{cases_lt}
use Rattle.ck_base.specs.Found.{HasNo}
use Rattle.ck_base.specs.declared.fault.Kind.{Kind}
use Rattle.ck_base.specs.declared.fault.Kind.TheVariants.{Syntax, Limit}
use Rattle.spec_text.specs.Bytes.{is_blank}
use Rattle.spec_text.specs.Lexemes.{Lexeme, word, number, text, class, sign, Begins}
use Rattle.spec_text.specs.Reading.{Placed, most, IsSmall, Reads, nothing, gap, comment, a_token, too_large, no_token}
use Rattle.spec_text.specs.TextLines.{TextLine, TextLines, is_no_feed, no_lines, ended, unended}
use Rattle.spec_text.specs.Lines.{Line, ReadLines, none_read, silent, speaks, FileLines}
use Rattle.spec_text.proofs.OneReading.{some_begin}
use Rattle.spec_text.proofs.FirstLine.{a_feed}

-- the line has no reading
abbrev pub NoReads : ℕ → List ℕ → Type 0
NoReads at line = (tokens : List Placed) (bad : Option Kind) → Reads at line tokens bad → ⊥

-- a line that begins with a token is read behind it, unless the token is a number above the greatest one
begun : (at n : ℕ) (line : List ℕ) (said : Lexeme) → Begins line said n → (NoReads (at + n) (drop n line) → ⊥) → NoReads at line → ⊥
begun at n line said begins behind none = by said begins
  where
    small : (said : Lexeme) → Begins line said n → IsSmall said → ⊥
    small said begins is = behind (λ tokens bad reads.
        none (record { said = said; from = at; to = at + n } ∷ tokens) bad (a_token at n line said tokens bad begins is reads))

    by : (said : Lexeme) → Begins line said n → ⊥
    by (word bytes) begins = small (word bytes) begins tt
    by (number value) begins = elim (cases_lt most value) [
      | inl large ↦ none [] (Some Limit) (too_large at n value line begins large)
      | inr is ↦ small (number value) begins is
    ]
    by (text bytes) begins = small (text bytes) begins tt
    by (class set) begins = small (class set) begins tt
    by (sign bytes) begins = small (sign bytes) begins tt

reading_within : (steps at : ℕ) (line : List ℕ) → length line ≤ steps → NoReads at line → ⊥
reading_within steps at [] within none = none [] None (nothing at)
reading_within zero at (byte ∷ rest) within none = omega (arith, within)
reading_within (suc steps) at (byte ∷ rest) within none = by (is_blank byte) refl (reading_within steps)
  where
    by : (blank : Bool) → is_blank byte ≡ blank → ((to : ℕ) (line : List ℕ) → length line ≤ steps → NoReads to line → ⊥) → ⊥
    by true is shorter = shorter (at + 1) rest (omega (arith, within)) (λ tokens bad reads. none tokens bad (gap at byte rest tokens bad is reads))
    by false is shorter = none [] (Some Syntax) (no_token at byte rest is
        (λ hash. let it = comment at byte rest hash in none [] _ it)
        (λ said n begins.
        let some = some_begin (byte ∷ rest) said n begins in
        let left = length-drop n (byte ∷ rest) in
        begun at n (byte ∷ rest) said begins (shorter (at + n) (drop n (byte ∷ rest)) (omega (arith, within, some.0, left))) none))

-- each line has a reading
pub some_reading : (at : ℕ) (line : List ℕ) → NoReads at line → ⊥
some_reading at line none = reading_within (length line) at line (omega arith) none

-- the bytes have a line feed, and this is the first
record Split (bytes : List ℕ) : Type 0 where
  text : List ℕ
  rest : List ℕ
  are : bytes ≡ text ++ 10 ∷ rest
  clean : list_all is_no_feed text ≡ true
  shorter : length rest < length bytes

split : (bytes : List ℕ) → (list_all is_no_feed bytes ≡ true) ⊎ Split bytes
split [] = inl refl
split (byte ∷ bytes) = by (is_no_feed byte) refl (split bytes)
  where
    by : (b : Bool) → is_no_feed byte ≡ b → (list_all is_no_feed bytes ≡ true) ⊎ Split bytes
        → (list_all is_no_feed (byte ∷ bytes) ≡ true) ⊎ Split (byte ∷ bytes)
    by true is (inl clean) = inl (rw (is, clean) refl)
    by true is (inr s) = inr (record {
      text = byte ∷ s.text;
      rest = s.rest;
      are = ap (λ l. byte ∷ l) s.are;
      clean = rw is s.clean;
      shorter = let less = s.shorter in omega (arith, less);
    })
    by false is more = inr (record {
      text = [];
      rest = bytes;
      are = ap (λ b. b ∷ bytes) (a_feed byte is);
      clean = refl;
      shorter = omega arith;
    })

-- bytes have text lines
texts_within : (steps first at : ℕ) (bytes : List ℕ) → length bytes ≤ steps → (lines : List TextLine) × TextLines first at bytes lines
texts_within steps first at [] within = ([], no_lines first at)
texts_within zero first at (byte ∷ rest) within = absurd (omega (arith, within))
texts_within (suc steps) first at (byte ∷ rest) within = by (split (byte ∷ rest)) (texts_within steps)
  where
    by : (list_all is_no_feed (byte ∷ rest) ≡ true) ⊎ Split (byte ∷ rest)
        → ((n to : ℕ) (bytes : List ℕ) → length bytes ≤ steps → (lines : List TextLine) × TextLines n to bytes lines)
        → (lines : List TextLine) × TextLines first at (byte ∷ rest) lines
    by (inl clean) shorter = (_, unended first at (byte ∷ rest) (omega arith) clean)
    by (inr s) shorter =
        let more = shorter (first + 1) (at + length s.text + 1) s.rest (let less = s.shorter in omega (arith, less, within)) in
        (_, ended first at (byte ∷ rest) s.text s.rest more.0 s.are s.clean more.1)

-- text lines have readings
some_read : (texts : List TextLine) → HasNo (ReadLines texts) → ⊥
some_read [] none = none [] none_read
some_read (line ∷ texts) none = some_reading line.at line.bytes (λ tokens bad reads.
    some_read texts (λ lines read. by tokens bad lines reads read))
  where
    by : (tokens : List Placed) (bad : Option Kind) (lines : List Line) → Reads line.at line.bytes tokens bad → ReadLines texts lines → ⊥
    by [] None lines reads read = none lines (silent line texts lines reads read)
    by [] (Some kind) lines reads read = none _ (speaks line texts [] (Some kind) lines reads (λ is. let e = is.1 in cc) read)
    by (token ∷ tokens) bad lines reads read = none _ (speaks line texts (token ∷ tokens) bad lines reads (λ is. let e = is.0 in cc) read)

-- each file has lines
pub some_lines : (file : List ℕ) → ((lines : List Line) (count : ℕ) → FileLines file lines count → ⊥) → ⊥
some_lines file none =
    let texts = texts_within (length file) 1 0 file (omega arith) in
    some_read texts.0 (λ lines read. none lines (length texts.0) (record { texts = texts.0; are = texts.1; read = read; all = refl }))
