-- A file has its lines in one way.
use Rattle.std.proofs.Common.{◌≡◌, ℕ, ◌+◌, true, List, [], ◌∷◌, ◌++◌, length, refl, sym, ap, ◌∙◌, None, arith}
use Rattle.std.specs.List.{list_all}
use Rattle.std.proofs.lemmas.Bool.{and_parts}
use Rattle.spec_text.specs.TextLines.{TextLine, TextLines, is_no_feed, no_lines, ended, unended}
use Rattle.spec_text.specs.Lines.{Line, ReadLines, none_read, silent, speaks, FileLines}
use Rattle.spec_text.proofs.OneReading.{one_reading}

no_feed_here : (byte : ℕ) → byte ≡ 10 → is_no_feed byte ≡ true → ⊥
no_feed_here byte at is = let e = rw at at is in cc

-- the first line feed is in one place
split_once : (a b x y : List ℕ) → list_all is_no_feed a ≡ true → list_all is_no_feed b ≡ true → a ++ 10 ∷ x ≡ b ++ 10 ∷ y
    → (a ≡ b) × (x ≡ y)
split_once [] [] x y clean clean2 same = (refl, cc)
split_once [] (byte ∷ b) x y clean clean2 same =
    let at : byte ≡ 10 = cc in absurd (no_feed_here byte at (and_parts (is_no_feed byte) (list_all is_no_feed b) clean2).0)
split_once (byte ∷ a) [] x y clean clean2 same =
    let at : byte ≡ 10 = cc in absurd (no_feed_here byte at (and_parts (is_no_feed byte) (list_all is_no_feed a) clean).0)
split_once (byte ∷ a) (byte2 ∷ b) x y clean clean2 same =
    let first : byte ≡ byte2 = cc in
    let more = split_once a b x y (and_parts (is_no_feed byte) (list_all is_no_feed a) clean).1
    (and_parts (is_no_feed byte2) (list_all is_no_feed b) clean2).1 (cc) in
    (rw (first, more.0) refl, more.1)

feed_in : (a x bytes : List ℕ) → list_all is_no_feed bytes ≡ true → bytes ≡ a ++ 10 ∷ x → ⊥
feed_in [] x [] clean same = cc
feed_in [] x (byte ∷ bytes) clean same =
    let at : byte ≡ 10 = cc in no_feed_here byte at (and_parts (is_no_feed byte) (list_all is_no_feed bytes) clean).0
feed_in (b ∷ a) x [] clean same = cc
feed_in (b ∷ a) x (byte ∷ bytes) clean same = feed_in a x bytes (and_parts (is_no_feed byte) (list_all is_no_feed bytes) clean).1 (cc)

nothing_there : (a x : List ℕ) → [] ≡ a ++ 10 ∷ x → ⊥
nothing_there [] x same = cc
nothing_there (b ∷ a) x same = cc

one_texts : (number at : ℕ) (bytes : List ℕ) (lines others : List TextLine) → TextLines number at bytes lines
    → TextLines number at bytes others → lines ≡ others
one_texts _ _ _ _ _ (no_lines number at) (no_lines _ _) = refl
one_texts _ _ _ _ _ (no_lines number at) (ended _ _ _ x rest lines are clean more) = absurd (nothing_there x rest are)
one_texts _ _ _ _ _ (no_lines number at) (unended _ _ _ some clean) = absurd (omega (arith, some))
one_texts _ _ _ _ _ (ended _ _ _ x rest lines are clean more) (no_lines number at) = absurd (nothing_there x rest are)
one_texts _ _ _ _ _ (ended number at bytes x rest lines are clean more) (ended _ _ _ y rest2 others are2 clean2 more2) =
    let same = split_once x y rest rest2 clean clean2 (sym are ∙ are2) in
    let next = one_texts (number + 1) (at + length x + 1) rest lines others more (rw (same.0, same.1) more2) in
    rw (same.0, next) refl
one_texts _ _ _ _ _ (ended number at _ x rest lines are clean more) (unended _ _ bytes some clean2) = absurd (feed_in x rest bytes clean2 are)
one_texts _ _ _ _ _ (unended _ _ _ some clean) (no_lines number at) = absurd (omega (arith, some))
one_texts _ _ _ _ _ (unended _ _ bytes some clean) (ended _ _ _ x rest lines are clean2 more) = absurd (feed_in x rest bytes clean are)
one_texts _ _ _ _ _ (unended number at bytes some clean) (unended _ _ _ some2 clean2) = refl

one_lines : (texts : List TextLine) (lines others : List Line) → ReadLines texts lines → ReadLines texts others → lines ≡ others
one_lines _ _ _ none_read none_read = refl
one_lines _ _ _ (silent line texts lines reads more) (silent _ _ others reads2 more2) = one_lines texts lines others more more2
one_lines _ _ _ (silent line texts lines reads more) (speaks _ _ tokens bad others reads2 says more2) =
    let same = one_reading line.at line.bytes [] tokens None bad reads reads2 in absurd (says (sym same.0, sym same.1))
one_lines _ _ _ (speaks line texts tokens bad lines reads says more) (silent _ _ others reads2 more2) =
    let same = one_reading line.at line.bytes [] tokens None bad reads2 reads in absurd (says (sym same.0, sym same.1))
one_lines _ _ _ (speaks line texts tokens bad lines reads says more) (speaks _ _ tokens2 bad2 others reads2 says2 more2) =
    let same = one_reading line.at line.bytes tokens tokens2 bad bad2 reads reads2 in
    rw (same.0, same.1, one_lines texts lines others more more2) refl

pub one_file : (file : List ℕ) (lines others : List Line) (n m : ℕ) → FileLines file lines n → FileLines file others m
    → (lines ≡ others) × (n ≡ m)
one_file file lines others n m read read2 =
    let same = one_texts 1 0 file read.texts read2.texts read.are read2.are in
    (one_lines read2.texts lines others (rw same at read.read) read2.read, read.all ∙ ap length same ∙ sym read2.all)
