-- The program's lines and tokens, and those of the file that they are.
use Rattle.std.proofs.Common.{◌≡◌, ℕ, zero, suc, ◌+◌, ◌-◌, ◌≤◌, ◌⊎◌, inl, inr, List, [], ◌∷◌, ◌++◌, length, take, drop, map, get_or, refl, sym, ap, ◌∙◌, subst, Option, Some, None, All, Bool, true, false, codes, arith}
use Rattle.std.specs.List.{slice_get, list_all}
use Rattle.std.specs.Option.{is_some}
use Rattle.ck_base.specs.declared.fault.Kind.{Kind}
use Rattle.std.specs.Str.Parse.{digits_value}
use Rattle.spec_text.specs.Bytes.{is_digit}
use Rattle.std.proofs.lemmas.List.{map-append, append_cancel_right, take_rest}
use Rattle.spec_text.specs.Lexemes.{Lexeme, word, number, text, class, Form, a_word, a_number, a_text, a_class, a_sign, a_pair, Quoted}
use Rattle.spec_text.specs.Reading.{Placed, IsSmall, most}
use Rattle.spec_text.specs.Lines.{Line, said_by}
use Rattle.spec_text.specs.Sections.{IsAlone, IsPlain, name_of}
use Rattle.spec_text.specs.SectionSteps.{IsMark, IsMarkOf}
use Rattle.spec_text.specs.Seen.{seen}
use Rattle.spec_text.specs.Spans.{sort_of, span_of, spans_in, spans_of, bytes_from, Spells, IsLineOf, AreLinesOf}
use Rattle.spec_text.specs.Steps.{IsSpelled, IsTextToken, IsClassToken}
use Rattle.spec_text.specs.declared.token.SpecSort.{SpecSort}
use Rattle.spec_text.specs.declared.token.SpecSort.TheVariants.{Word, Number as NumberSort, Text as TextSort, Class as ClassSort, Sign as SignSort}
use Rattle.spec_text.specs.declared.token.SpecToken.{SpecToken}
use Rattle.spec_text.specs.declared.line.SpecLine.{SpecLine}
use Rattle.spec_text.specs.declared.order.Mark.{Mark}
use Rattle.spec_text.specs.declared.order.Mark.TheVariants.{Head, End, Plain}
use Rattle.spec_text.specs.declared.view.Token.{Token}
use Rattle.spec_text.specs.Classes.{set_of, IsSetAt}
use Rattle.spec_text.proofs.OneClass.{one_class}
use Rattle.spec_text.proofs.Forms.{one_form, as_text, as_class}
use Rattle.spec_text.proofs.TokensSoFar.{number_of}
use Rattle.spec_text.proofs.Lists.{take_step, all_at, same_at, same_length}

-- the line at a place
pub record LineAt (file : List ℕ) (line : SpecLine) (lines : List Line) (i : ℕ) : Type 0 where
  pub there : Line
  pub at : slice_get lines i ≡ Some there
  pub is : IsLineOf file line there
  pub number : line.number ≡ there.number

pub line_at : (file : List ℕ) (have : List SpecLine) (lines : List Line) (i : ℕ) (line : SpecLine) → AreLinesOf file have lines
    → slice_get have i ≡ Some line → LineAt file line lines i
line_at file have lines i line are at =
    let same = same_at spans_in spans_of have lines i line are.same at in
    record {
      there = same.0;
      at = same.1;
      is = record { same = same.2; spelled = all_at (λ l. All (Spells file) l.tokens) lines i same.0 are.spelled same.1 };
      number = ap (λ l. l.number) same.2;
    }

pub as_many : (file : List ℕ) (have : List SpecLine) (lines : List Line) → AreLinesOf file have lines → length have ≡ length lines
as_many file have lines are = same_length spans_in spans_of have lines are.same

-- the token at a place
pub record TokenAt (file : List ℕ) (span : SpecToken) (tokens : List Placed) (i : ℕ) : Type 0 where
  pub there : Placed
  pub at : slice_get tokens i ≡ Some there
  pub same : span ≡ span_of there
  pub spells : Spells file there

pub token_at : (file : List ℕ) (line : SpecLine) (is : Line) (i : ℕ) (span : SpecToken) → IsLineOf file line is
    → slice_get line.tokens.items i ≡ Some span → TokenAt file span is.tokens i
token_at file line is i span it at =
    let spans = ap (λ l. l.spans) it.same in
    let same = same_at (λ s. s) span_of line.tokens.items is.tokens i span (plain line.tokens.items ∙ spans) at in
    record { there = same.0; at = same.1; same = same.2; spells = all_at (Spells file) is.tokens i same.0 it.spelled same.1 }
  where
    plain : (spans : List SpecToken) → map (λ s. s) spans ≡ spans
    plain [] = refl
    plain (s ∷ spans) = ap (λ l. s ∷ l) (plain spans)

pub is_spelled : (file : List ℕ) (line : SpecLine) (is : Line) (i : ℕ) (span : SpecToken) → IsLineOf file line is
    → slice_get line.tokens.items i ≡ Some span → IsSpelled file span
is_spelled file line is i span it at =
    let token = token_at file line is i span it at in record { token = token.there; same = token.same; spells = token.spells }

-- what is seen of the tokens so far
abbrev pub SeenSoFar : List ℕ → SpecLine → List Token → ℕ → Type 0
SeenSoFar file line tokens i = (is : Line) → IsLineOf file line is → map seen tokens ≡ take i (said_by is)

pub one_seen : (file : List ℕ) (line : SpecLine) (tokens new : List Token) (i : ℕ) (span : SpecToken) (says : Token)
    → SeenSoFar file line tokens i → slice_get line.tokens.items i ≡ Some span
    → Form (bytes_from file span.from span.to) (seen says) → new ≡ tokens ++ says ∷ [] → SeenSoFar file line new (i + 1)
one_seen file line tokens new i span says so at form are is it =
    let token = token_at file line is i span it at in
    let placed : Form (bytes_from file span.from span.to) token.there.said =
    subst (λ s. Form (bytes_from file s.from s.to) token.there.said) (sym token.same) token.spells.form in
    let said : seen says ≡ token.there.said = one_form (bytes_from file span.from span.to) (seen says) token.there.said form placed in
    ap (λ l. map seen l) are ∙ map-append seen tokens (says ∷ []) ∙ ap (λ l. l ++ seen says ∷ []) (so is it)
    ∙ ap (λ s. take i (said_by is) ++ s ∷ []) said ∙ sym (take_step (said_by is) i token.there.said (said_at is.tokens i token.there token.at))
  where
    said_at : (tokens : List Placed) (i : ℕ) (t : Placed) → slice_get tokens i ≡ Some t → slice_get (map (λ token. token.said) tokens) i ≡ Some t.said
    said_at [] i t at = cc
    said_at (x ∷ tokens) zero t at = let it : x ≡ t = cc in rw it refl
    said_at (x ∷ tokens) (suc i) t at = said_at tokens i t at

-- what kind of section line a line is
word_said : (bytes : List ℕ) (said : Lexeme) → Form bytes said → sort_of said ≡ Word → said ≡ word bytes
word_said _ _ (a_word byte rest first others) is = refl
word_said _ _ (a_number byte rest first others) is = cc
word_said _ _ (a_text quote inside meant at quoted) is = cc
word_said _ _ (a_class bracket inside set at says) is = cc
word_said _ _ (a_sign byte first) is = cc
word_said _ _ (a_pair first second pair) is = cc

-- a line is no section line where it is bad, or has another count of tokens, or another token
pub plain_line : (is : Line) → ((name : List ℕ) → IsAlone name is → ⊥) → IsPlain is
plain_line is none = record { no_head = λ section head. none (name_of section) head; no_end = λ end. none (codes "END") end }

-- the line is one token
pub record IsOneToken (file : List ℕ) (line : SpecLine) (span : SpecToken) (is : Line) : Type 0 where
  pub token : Placed
  pub alone : is.tokens ≡ token ∷ []
  pub same : span ≡ span_of token
  pub spells : Spells file token

pub one_token : (file : List ℕ) (line : SpecLine) (span : SpecToken) (is : Line) → IsLineOf file line is → length line.tokens.items ≡ 1
    → slice_get line.tokens.items 0 ≡ Some span → IsOneToken file line span is
one_token file line span is it long at =
    let spans = ap (λ l. length l.spans) it.same in
    let token = token_at file line is 0 span it at in
    record {
      token = token.there;
      alone = by is.tokens token.there (sym (count is.tokens) ∙ sym spans ∙ long) token.at;
      same = token.same;
      spells = token.spells;
    }
  where
    count : (tokens : List Placed) → length (map span_of tokens) ≡ length tokens
    count [] = refl
    count (t ∷ tokens) = ap suc (count tokens)

    by : (tokens : List Placed) (token : Placed) → length tokens ≡ 1 → slice_get tokens 0 ≡ Some token → tokens ≡ token ∷ []
    by [] token long at = cc
    by (t ∷ []) token long at = cc
    by (t ∷ u ∷ tokens) token long at = absurd (omega (arith, long))

pub other_plain : (file : List ℕ) (line : SpecLine) (span : SpecToken) (is : Line) → IsLineOf file line is → length line.tokens.items ≡ 1
    → slice_get line.tokens.items 0 ≡ Some span → (span.sort ≡ Word → ⊥) → IsPlain is
other_plain file line span is it long at other = plain_line is (λ name alone.
    let one = one_token file line span is it long at in
    let said : one.token.said ≡ word name = (let a = rw one.alone at alone.said in cc) in
    other (ap (λ s. s.sort) one.same ∙ ap sort_of said))

pub word_mark : (file : List ℕ) (line : SpecLine) (span : SpecToken) (is : Line) (mark : Mark) → IsLineOf file line is
    → length line.tokens.items ≡ 1 → slice_get line.tokens.items 0 ≡ Some span → line.bad ≡ None → span.sort ≡ Word
    → IsMarkOf (bytes_from file span.from span.to) mark → IsMark is mark
word_mark file line span is mark it long at good sort its =
    let one = one_token file line span is it long at in
    let form : Form (bytes_from file span.from span.to) one.token.said =
    subst (λ s. Form (bytes_from file s.from s.to) one.token.said) (sym one.same) one.spells.form in
    let said : one.token.said ≡ word (bytes_from file span.from span.to) =
    word_said (bytes_from file span.from span.to) one.token.said form (sym (ap (λ s. s.sort) one.same) ∙ sort) in
    let whole : said_by is ≡ word (bytes_from file span.from span.to) ∷ [] = rw one.alone (ap (λ s. s ∷ []) said) in
    by mark (sym (ap (λ l. l.bad) it.same) ∙ good) (bytes_from file span.from span.to) whole its
  where
    same : (a b : List ℕ) → word a ∷ [] ≡ word b ∷ [] → a ≡ b
    same a b e = cc

    by : (mark : Mark) → is.bad ≡ None → (bytes : List ℕ) → said_by is ≡ word bytes ∷ [] → IsMarkOf bytes mark → IsMark is mark
    by (Head section) fine bytes whole its = record { good = fine; said = whole ∙ ap (λ b. word b ∷ []) its }
    by End fine bytes whole its = record { good = fine; said = whole ∙ ap (λ b. word b ∷ []) its }
    by Plain fine bytes whole its = record {
      no_head = λ section head. its.0 section (same bytes (name_of section) (sym whole ∙ head.said));
      no_end = λ end. its.1 (same bytes (codes "END") (sym whole ∙ end.said));
    }

-- what the bytes of a token say, by its sort
pub form_at : (file : List ℕ) (span : SpecToken) (is : IsSpelled file span) → Form (bytes_from file span.from span.to) is.token.said
form_at file span is = subst (λ s. Form (bytes_from file s.from s.to) is.token.said) (sym is.same) is.spells.form

pub number_at : (file : List ℕ) (span : SpecToken) → IsSpelled file span → span.sort ≡ NumberSort
    → (list_all is_digit (bytes_from file span.from span.to) ≡ true) × (digits_value 10 (bytes_from file span.from span.to) ≤ most)
    × Form (bytes_from file span.from span.to) (number (digits_value 10 (bytes_from file span.from span.to)))
number_at file span is sort =
    let form = form_at file span is in
    let both = number_of (bytes_from file span.from span.to) is.token.said form (sym sort ∙ ap (λ s. s.sort) is.same) in
    (both.0, small is.token.said (digits_value 10 (bytes_from file span.from span.to)) both.1 is.spells.small, rw both.1 at form)
  where
    small : (said : Lexeme) (n : ℕ) → said ≡ number n → IsSmall said → n ≤ most
    small said n same is_small = rw same at is_small

text_said : (bytes : List ℕ) (said : Lexeme) → Form bytes said → sort_of said ≡ TextSort → IsTextToken bytes
text_said _ _ (a_word byte rest first others) is = cc
text_said _ _ (a_number byte rest first others) is = cc
text_said _ _ (a_text quote inside meant at quoted) is = record { meant = meant; form = a_text quote inside meant at quoted }
text_said _ _ (a_class bracket inside set at says) is = cc
text_said _ _ (a_sign byte first) is = cc
text_said _ _ (a_pair first second pair) is = cc

pub text_at : (file : List ℕ) (span : SpecToken) → IsSpelled file span → span.sort ≡ TextSort → IsTextToken (bytes_from file span.from span.to)
text_at file span is sort =
    text_said (bytes_from file span.from span.to) is.token.said (form_at file span is) (sym (ap (λ s. s.sort) is.same) ∙ sort)

-- the bytes between the quotes mean one thing
pub text_form : (bytes inside meant : List ℕ) → IsTextToken bytes → bytes ≡ 34 ∷ (inside ++ 34 ∷ [])
    → ((m : List ℕ) → Quoted inside m → meant ≡ m) → Form bytes (text meant)
text_form bytes inside meant is are means =
    let t = as_text bytes (text is.meant) is.form (rw are refl) in
    let same : inside ≡ t.inside = (let e = sym are ∙ t.are in snoc inside t.inside (cc)) in
    let m : meant ≡ t.meant = means t.meant (rw same t.quoted) in
    let said : text is.meant ≡ text t.meant = t.says in
    rw (m ∙ sym (text_is is.meant t.meant said)) is.form
  where
    text_is : (a b : List ℕ) → text a ≡ text b → a ≡ b
    text_is a b e = cc

    snoc : (a b : List ℕ) → a ++ 34 ∷ [] ≡ b ++ 34 ∷ [] → a ≡ b
    snoc a b e = append_cancel_right a b (34 ∷ []) e

pub good_line : (bad : Option Kind) → is_some bad ≡ false → bad ≡ None
good_line None is = refl
good_line (Some kind) is = cc

pub not_word : (s : SpecSort) → ((s ≡ NumberSort) ⊎ ((s ≡ TextSort) ⊎ ((s ≡ ClassSort) ⊎ (s ≡ SignSort)))) → s ≡ Word → ⊥
not_word s (inl is) other = cc
not_word s (inr (inl is)) other = cc
not_word s (inr (inr (inl is))) other = cc
not_word s (inr (inr (inr is))) other = cc

-- the class behind the bracket
class_inside : (bytes inside inner : List ℕ) → bytes ≡ 91 ∷ (inside ++ 93 ∷ []) → inner ≡ take (length bytes - 1) (drop 1 bytes)
    → inner ≡ inside ++ 93 ∷ []
class_inside bytes inside inner are is = is ∙ take_rest bytes 1 ∙ ap (λ l. drop 1 l) are

pub set_said : (bytes words rest inner : List ℕ) → IsClassToken bytes → inner ≡ take (length bytes - 1) (drop 1 bytes) → IsSetAt inner words rest
    → Form bytes (class (set_of words))
set_said bytes words rest inner is at found =
    let t = as_class bytes (class is.set) is.form (class_first bytes is.set is.form) in
    let same : t.inside ++ 93 ∷ [] ≡ found.inside ++ 93 ∷ rest = sym (class_inside bytes t.inside inner t.are at) ∙ found.are in
    let sets : t.set ≡ set_of words = (one_class [] rest t.inside found.inside t.set (set_of words) t.says found.says same).0 in
    rw (← sets) (subst (λ s. Form bytes s) t.is is.form)
  where
    class_first : (bytes : List ℕ) (set : ℕ → Bool) → Form bytes (class set) → get_or bytes 0 0 ≡ 91
    class_first _ _ (a_class bracket inside set at says) = at
