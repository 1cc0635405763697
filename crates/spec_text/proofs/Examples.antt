-- The definitions, tried where the nearest wrong reading differs.
use Rattle.std.proofs.Common.{◌≡◌, ℕ, ◌&&◌, true, List, [], ◌∷◌, ◌++◌, refl, sym, Some, None, codes, arith}
use Rattle.std.specs.Prelude.{nat_lt, not}
use Rattle.ck_base.specs.declared.fault.Kind.TheVariants.{Syntax}
use Rattle.spec_text.specs.Lexemes.{word, number, text, class, Form, a_number, a_text, a_class, nothing, itself, escaped, coded, Begins}
use Rattle.spec_text.specs.Classes.{plain, by_name, Span, Listed, no_spans, single, range, these, others, set_of_spans}
use Rattle.spec_text.specs.Reading.{Reads, comment}
use Rattle.spec_text.specs.TextLines.{TextLines, no_lines, ended, unended}
use Rattle.spec_text.specs.Lines.{Line}
use Rattle.spec_text.specs.Sections.{IsHead, part_from, Stand, closed, part, AreSections, Breaks, SectionFault, unclosed}
use Rattle.spec_text.specs.declared.section.Section.TheVariants.{Rex, Lalr, Ell, Ast, Ag, Puma, Beg}
use Rattle.spec_text.specs.declared.section.Part.{Part}
use Rattle.spec_text.specs.Steps.{HasNo2}
use Rattle.spec_text.proofs.BeginClass.{no_class_there, no_these}
use Rattle.spec_text.proofs.OneClass.{one_char, no_dash}

-- a number is decimal, leading zeros and all
pub nine : Form (codes "0009") (number 9)
nine = a_number 48 (codes "009") refl refl

-- `"\x41\\"` means `A\`
pub escapes : Form (codes "\"\\x41\\\\\"") (text (codes "A\\"))
escapes = a_text 34 (codes "\\x41\\\\") (codes "A\\") refl
    (coded 92 120 52 49 (codes "\\\\") (codes "\\") refl refl refl refl (escaped 92 92 [] [] refl refl nothing))

-- `#` in a string is no comment
pub hash_in_text : Form (codes "\"#\"") (text (codes "#"))
hash_in_text = a_text 34 (codes "#") (codes "#") refl (itself 35 [] [] refl nothing)

-- `[\]]` has `]` alone; it doesn't end at the first `]`
pub bracket_in_class : Form (codes "[\\]]") (class (set_of_spans (record { low = 93; high = 93 } ∷ [])))
bracket_in_class = a_class 91 (codes "\\]") (set_of_spans (record { low = 93; high = 93 } ∷ [])) refl
    (these (codes "\\]") (record { low = 93; high = 93 } ∷ [])
    (single (codes "\\]") [] 93 [] (by_name 92 93 [] refl refl) no_spans) (omega arith) (λ hat. omega (arith, hat)))

-- `[^^]` has all bytes but `^`
pub all_but_hat : Form (codes "[^^]") (class (λ byte. nat_lt byte 256 && not (set_of_spans (record { low = 94; high = 94 } ∷ []) byte)))
all_but_hat = a_class 91 (codes "^^") (λ byte. nat_lt byte 256 && not (set_of_spans (record { low = 94; high = 94 } ∷ []) byte)) refl
    (others 94 (codes "^") (record { low = 94; high = 94 } ∷ []) refl
    (single (codes "^") [] 94 [] (plain 94 [] refl) no_spans) (omega arith))

-- `[a-c]` has what stands between
abbrev pub a_to_c : List Span
a_to_c = record { low = 97; high = 99 } ∷ []

pub range_in_class : Form (codes "[a-c]") (class (set_of_spans a_to_c)) × (set_of_spans a_to_c 98 ≡ true)
range_in_class = (
  a_class 91 (codes "a-c") (set_of_spans a_to_c) refl
      (these (codes "a-c") a_to_c
      (range (codes "a-c") (codes "c") [] 97 99 45 [] (plain 97 (codes "-c") refl) refl (plain 99 [] refl) (omega arith) no_spans)
      (omega arith) (λ hat. omega (arith, hat))),
  refl,
)

-- `[b-a]` is no class, so no token begins there
pub no_range_back : HasNo2 (Begins (codes "[b-a]"))
no_range_back = no_class_there (codes "b-a]") (no_these (codes "b-a]") 98 (codes "-a]") refl (λ hat. omega (arith, hat))
    (λ inside rest spans are some listed. by inside rest spans listed (sym are)))
  where
    by : (inside rest : List ℕ) (spans : List Span) → Listed inside spans → inside ++ 93 ∷ rest ≡ codes "b-a]" → ⊥
    by _ rest _ no_spans same = let e : ◌≡◌ {A = ℕ} 93 98 = cc in omega (arith, e)
    by _ rest _ (single inside after byte spans is listed) same =
        let first = one_char rest [] inside (codes "b-a") after (codes "-a") byte 98 is (plain 98 (codes "-a") refl) same in
        no_dash rest after (codes "a]") spans 45 refl listed first.1
    by _ rest _ (range inside behind after low high dash spans is at is2 order listed) same =
        let first = one_char rest [] inside (codes "b-a") (dash ∷ behind) (codes "-a") low 98 is (plain 98 (codes "-a") refl) same in
        let tail : behind ++ 93 ∷ rest ≡ codes "a]" = (let e = first.1 in cc) in
        let second = one_char rest [] behind (codes "a") after [] high 97 is2 (plain 97 [] refl) tail in
        let x = first.0 in let y = second.0 in omega (arith, order, x, y)

-- a byte 0x01 in a comment makes the line bad, behind its tokens
pub bad_comment : Reads 0 (35 ∷ 1 ∷ []) [] (Some Syntax)
bad_comment = comment 0 35 (1 ∷ []) refl

-- 0x0D is dropped once, and only directly before 0x0A
pub one_return : TextLines 1 0 (13 ∷ 13 ∷ 10 ∷ 13 ∷ []) (record { number = 1; at = 0; bytes = 13 ∷ [] } ∷ record { number = 2; at = 3; bytes = 13 ∷ [] } ∷ [])
one_return = ended 1 0 (13 ∷ 13 ∷ 10 ∷ 13 ∷ []) (13 ∷ 13 ∷ []) (13 ∷ []) (record { number = 2; at = 3; bytes = 13 ∷ [] } ∷ []) refl refl
    (unended 2 3 (13 ∷ []) (omega arith) refl)

-- 0x0A at the end begins no further line
pub one_line : TextLines 1 0 (97 ∷ 10 ∷ []) (record { number = 1; at = 0; bytes = 97 ∷ [] } ∷ [])
one_line = ended 1 0 (97 ∷ 10 ∷ []) (97 ∷ []) [] [] refl refl (no_lines 2 2)

abbrev pub alone : ℕ → List ℕ → Line
alone n name = record { number = n; bad = None; tokens = record { said = word name; from = 0; to = 0 } ∷ [] }

-- REX and END alone are sections
pub rex_end : AreSections (alone 1 (codes "REX") ∷ alone 2 (codes "END") ∷ []) (part_from Rex 0 1 ∷ [])
rex_end = part 0 0 Rex (alone 1 (codes "REX")) [] (alone 2 (codes "END") ∷ []) [] refl (record { good = refl; said = refl }) tt
    (closed 1 1 (alone 2 (codes "END")) (omega arith) (record { good = refl; said = refl }))

-- what begins otherwise than with REX breaks at its first line
pub not_rex : (line : Line) (lines : List Line) → (IsHead Rex line → ⊥) → Breaks (line ∷ lines) 0
not_rex line lines no_rex more parts is = first line more parts no_rex is
  where
    first : (line : Line) (more : List Line) (parts : List Part) → (IsHead Rex line → ⊥) → Stand 0 0 (line ∷ more) parts → ⊥
    first line _ _ no_rex (closed _ _ _ some ends) = omega (arith, some)
    first line _ _ no_rex (part _ _ Rex _ inside rest parts at head within stand) = no_rex head
    first line _ _ no_rex (part _ _ Lalr _ inside rest parts at head within stand) = omega (arith, at)
    first line _ _ no_rex (part _ _ Ell _ inside rest parts at head within stand) = omega (arith, at)
    first line _ _ no_rex (part _ _ Ast _ inside rest parts at head within stand) = omega (arith, at)
    first line _ _ no_rex (part _ _ Ag _ inside rest parts at head within stand) = omega (arith, at)
    first line _ _ no_rex (part _ _ Puma _ inside rest parts at head within stand) = omega (arith, at)
    first line _ _ no_rex (part _ _ Beg _ inside rest parts at head within stand) = omega (arith, at)

-- a file without a line lacks END at line 1
pub empty : SectionFault 1 [] 1
empty = unclosed (λ i less broken. omega (arith, less)) (λ parts is. elim is [ ])
