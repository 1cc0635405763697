-- The bytes at a token's place are the token.
use Rattle.std.proofs.Common.{◌≡◌, ℕ, ◌+◌, ◌-◌, ◌==◌, Bool, true, false, List, [], ◌∷◌, ◌++◌, length, take, drop, refl, sym, ap, ◌∙◌, Option, All, arith, append_assoc, length-drop, length-append}
use Rattle.std.specs.Str.Lines.{strip_carriage_return}
use Rattle.std.specs.List.{slice_index}
use Rattle.std.proofs.lemmas.List.{drop-drop, take-append-drop, take-append-le, drop-append-le, append-nil}
use Rattle.std.proofs.Math.Seq.{drop-append-add}
use Rattle.std.proofs.lemmas.List.Elements.{All-cons, All-nil, All-head, All-tail}
use Rattle.ck_base.specs.declared.fault.Kind.{Kind}
use Rattle.spec_text.specs.Lexemes.{Lexeme, Begins}
use Rattle.spec_text.specs.Reading.{Placed, Reads, nothing, gap, comment, a_token, too_large, no_token, IsSmall}
use Rattle.spec_text.specs.TextLines.{TextLine, TextLines, no_lines, ended, unended}
use Rattle.spec_text.specs.Lines.{Line, ReadLines, none_read, silent, speaks}
use Rattle.spec_text.specs.Spans.{bytes_from, Spells, AreLinesOf}
use Rattle.spec_text.specs.Steps.{AreFileLines}
use Rattle.spec_text.specs.declared.line.SpecLine.{SpecLine}
use Rattle.spec_text.proofs.OneReading.{some_begin}

-- the bytes stand at the place, and those behind
abbrev Stands : List ℕ → ℕ → List ℕ → List ℕ → Type 0
Stands file at bytes behind = drop at file ≡ bytes ++ behind

spelled_token : (file : List ℕ) (at n : ℕ) (line behind : List ℕ) (said : Lexeme) → Stands file at line behind → Begins line said n
    → IsSmall said → Spells file (record { said = said; from = at; to = at + n })
spelled_token file at n line behind said stands begins small =
    let some = some_begin line said n begins in
    let long = ap length stands in
    let a = length-drop at file in let b = length-append line behind in
    let here : at + n - at ≡ n = omega arith in
    let bytes : bytes_from file at (at + n) ≡ take n line = rw (here, stands) (take-append-le n line behind some.1) in
    record {
      order = omega arith;
      fits = omega (arith, long, a, b, some.0, some.1);
      form = rw bytes begins.is_token;
      small = small;
    }

spelled_line : (at : ℕ) (line : List ℕ) (tokens : List Placed) (bad : Option Kind) → Reads at line tokens bad
    → (file behind : List ℕ) → Stands file at line behind → All (Spells file) tokens
spelled_line _ _ _ _ (nothing at) file behind stands = All-nil (Spells file)
spelled_line _ _ _ _ (gap at byte rest tokens bad is reads) file behind stands =
    spelled_line (at + 1) rest tokens bad reads file behind (sym (drop-drop 1 at file) ∙ ap (λ l. drop 1 l) stands)
spelled_line _ _ _ _ (comment at hash rest is) file behind stands = All-nil (Spells file)
spelled_line _ _ _ _ (a_token at n line said tokens bad begins small reads) file behind stands =
    let some = some_begin line said n begins in
    All-cons (Spells file) (record { said = said; from = at; to = at + n }) tokens
    (spelled_token file at n line behind said stands begins small)
    (spelled_line (at + n) (drop n line) tokens bad reads file behind
    (sym (drop-drop n at file) ∙ ap (λ l. drop n l) stands ∙ drop-append-le n line behind some.1))
spelled_line _ _ _ _ (too_large at n value line begins large) file behind stands = All-nil (Spells file)
spelled_line _ _ _ _ (no_token at byte rest no_blank no_hash none) file behind stands = All-nil (Spells file)

-- a line's bytes stand at its place
abbrev IsPlaced : List ℕ → TextLine → Type 0
IsPlaced file line = (behind : List ℕ) × Stands file line.at line.bytes behind

pub stripped : (bytes : List ℕ) → (end : List ℕ) × (bytes ≡ strip_carriage_return bytes ++ end)
stripped bytes = by (slice_index bytes (length bytes - 1) == 13) refl
  where
    by : (b : Bool) → (slice_index bytes (length bytes - 1) == 13) ≡ b → (end : List ℕ) × (bytes ≡ strip_carriage_return bytes ++ end)
    by true is = (drop (length bytes - 1) bytes, rw is (sym (take-append-drop (length bytes - 1) bytes)))
    by false is = ([], rw is (sym (append-nil bytes)))

placed_lines : (number at : ℕ) (bytes : List ℕ) (lines : List TextLine) → TextLines number at bytes lines
    → (file : List ℕ) → drop at file ≡ bytes → All (IsPlaced file) lines
placed_lines _ _ _ _ (no_lines number at) file stands = All-nil (IsPlaced file)
placed_lines _ _ _ _ (ended number at bytes x rest lines are clean more) file stands =
    let end = stripped x in
    let whole : drop at file ≡ strip_carriage_return x ++ (end.0 ++ 10 ∷ rest) =
    stands ∙ are ∙ ap (λ l. l ++ 10 ∷ rest) end.1 ∙ append_assoc (strip_carriage_return x) end.0 (10 ∷ rest) in
    let next : drop (at + length x + 1) file ≡ rest =
    (let there : at + length x + 1 ≡ at + (length x + 1) = omega arith in
    rw there (sym (drop-drop (length x + 1) at file) ∙ ap (λ l. drop (length x + 1) l) (stands ∙ are) ∙ drop-append-add x (10 ∷ rest) 1)) in
    All-cons (IsPlaced file) (record { number = number; at = at; bytes = strip_carriage_return x }) lines
    (end.0 ++ 10 ∷ rest, whole) (placed_lines (number + 1) (at + length x + 1) rest lines more file next)
placed_lines _ _ _ _ (unended number at bytes some clean) file stands =
    All-cons (IsPlaced file) (record { number = number; at = at; bytes = bytes }) [] ([], stands ∙ sym (append-nil bytes)) (All-nil (IsPlaced file))

abbrev IsSpelledLine : List ℕ → Line → Type 0
IsSpelledLine file line = All (Spells file) line.tokens

spelled_lines : (file : List ℕ) (texts : List TextLine) (lines : List Line) → ReadLines texts lines → All (IsPlaced file) texts
    → All (IsSpelledLine file) lines
spelled_lines file _ _ none_read all = All-nil (IsSpelledLine file)
spelled_lines file _ _ (silent line texts lines reads more) all = spelled_lines file texts lines more (All-tail (IsPlaced file) line texts all)
spelled_lines file _ _ (speaks line texts tokens bad lines reads says more) all =
    let stands = All-head (IsPlaced file) line texts all in
    All-cons (IsSpelledLine file) (record { number = line.number; bad = bad; tokens = tokens }) lines
    (spelled_line line.at line.bytes tokens bad reads file stands.0 stands.1)
    (spelled_lines file texts lines more (All-tail (IsPlaced file) line texts all))

pub lines_spelled : (file : List ℕ) (have : List SpecLine) (count : ℕ) (found : AreFileLines file have count) → AreLinesOf file have found.lines
lines_spelled file have count found = record {
  same = found.are;
  spelled = spelled_lines file found.read.texts found.lines found.read.read
      (placed_lines 1 0 file found.read.texts found.read.are file refl);
}
