-- The strings of an expression have no more bytes than the tokens that it is read from.
use Rattle.std.proofs.Common.{◌≡◌, ap, arith, ℕ, suc, ◌+◌, ◌-◌, ◌≤◌, List, [], ◌∷◌, length, drop, map, All, codes}
use Rattle.std.proofs.lemmas.List.{length-append, length-take-le, length-drop}
use Rattle.std.proofs.lemmas.List.Elements.{All-head, All-tail}
use Rattle.spec_text.specs.Lexemes.{Lexeme, Form, Quoted, word, number, text, class, sign, nothing, itself, escaped, coded, a_word, a_text, a_class, a_sign}
use Rattle.spec_text.specs.Lexemes as lex
use Rattle.spec_text.specs.Reading.{Placed}
use Rattle.spec_text.specs.Spans.{Spells, bytes_from}
use Rattle.expr_read.specs.Notation.{AtLevel, Arguments, Listed, IsSpoken, glyph_of, left_of, tighter, an_if, joined, a_negative, a_negated, a_number, a_truth, a_falsehood, a_string, a_name, a_dollar, a_pair, an_application, a_group, no_arguments, some_arguments, last, next}
use Rattle.expr_read.specs.Spoken.{Spoken, SpokenList}
use Rattle.expr_read.specs.Strings.{string_bytes, listed_bytes}
use Rattle.spec_text.specs.Sizes.{token_bytes}

-- the bytes that a token means, where it is a string
abbrev pub meant_bytes : Lexeme → ℕ
meant_bytes (word w) = 0
meant_bytes (number n) = 0
meant_bytes (text bytes) = length bytes
meant_bytes (class set) = 0
meant_bytes (sign bytes) = 0

abbrev pub all_meant : List Lexeme → ℕ
all_meant [] = 0
all_meant (x ∷ tokens) = meant_bytes x + all_meant tokens

mutual
  pub level_bytes : (p : ℕ) (tokens : List Lexeme) (e : Spoken) (rest : List Lexeme) → AtLevel p tokens e rest
      → string_bytes e + all_meant rest ≤ all_meant tokens
  level_bytes _ _ _ _ (tighter p tokens rest e at) = level_bytes (suc p) tokens e rest at
  level_bytes _ _ _ _ (an_if p tokens after_if after_then after_else rest c a b _ is first second third) =
      let begins = ap all_meant is in
      let x = level_bytes 0 after_if c (word (codes "then") ∷ after_then) first in
      let y = level_bytes 0 after_then a (word (codes "else") ∷ after_else) second in
      let z = level_bytes 0 after_else b rest third in omega (arith, begins, x, y, z)
  level_bytes _ _ _ _ (joined o p tokens after rest a b _ left right) =
      let x = level_bytes (left_of p) tokens a (sign (glyph_of o) ∷ after) left in
      let y = level_bytes (suc p) after b rest right in omega (arith, x, y)
  level_bytes _ _ _ _ (a_negative p tokens after rest a _ is at) =
      let begins = ap all_meant is in let x = level_bytes 6 after a rest at in omega (arith, begins, x)
  level_bytes _ _ _ _ (a_negated p tokens after rest a _ is at) =
      let begins = ap all_meant is in let x = level_bytes 6 after a rest at in omega (arith, begins, x)
  level_bytes _ _ _ _ (a_number p n tokens rest _ is) = let begins = ap all_meant is in omega (arith, begins)
  level_bytes _ _ _ _ (a_truth p tokens rest _ is) = let begins = ap all_meant is in omega (arith, begins)
  level_bytes _ _ _ _ (a_falsehood p tokens rest _ is) = let begins = ap all_meant is in omega (arith, begins)
  level_bytes _ _ _ _ (a_string p bytes tokens rest _ is) = let begins = ap all_meant is in omega (arith, begins)
  level_bytes _ _ _ _ (a_name p w tokens rest _ _ is) = let begins = ap all_meant is in omega (arith, begins)
  level_bytes _ _ _ _ (a_dollar p n tokens rest _ is) = let begins = ap all_meant is in omega (arith, begins)
  level_bytes _ _ _ _ (a_pair p v w tokens rest _ _ _ is) = let begins = ap all_meant is in omega (arith, begins)
  level_bytes _ _ _ _ (an_application p w tokens after rest args _ _ is at) =
      let begins = ap all_meant is in
      let x = arguments_bytes after args (sign (codes ")") ∷ rest) at in omega (arith, begins, x)
  level_bytes _ _ _ _ (a_group p tokens after rest a _ is at) =
      let begins = ap all_meant is in
      let x = level_bytes 0 after a (sign (codes ")") ∷ rest) at in omega (arith, begins, x)

  arguments_bytes : (tokens : List Lexeme) (args : SpokenList) (rest : List Lexeme) → Arguments tokens args rest
      → listed_bytes args + all_meant rest ≤ all_meant tokens
  arguments_bytes _ _ _ (no_arguments tokens) = omega arith
  arguments_bytes _ _ _ (some_arguments tokens rest args at) = listed_tokens tokens args rest at

  listed_tokens : (tokens : List Lexeme) (args : SpokenList) (rest : List Lexeme) → Listed tokens args rest
      → listed_bytes args + all_meant rest ≤ all_meant tokens
  listed_tokens _ _ _ (last tokens rest a at) = let x = level_bytes 0 tokens a rest at in omega (arith, x)
  listed_tokens _ _ _ (next tokens after rest a more at all) =
      let x = level_bytes 0 tokens a (sign (codes ",") ∷ after) at in
      let y = listed_tokens after more rest all in omega (arith, x, y)

-- each byte of a string is written by one byte or more
quoted_bytes : (inside meant : List ℕ) → Quoted inside meant → length meant ≤ length inside
quoted_bytes _ _ nothing = omega arith
quoted_bytes _ _ (itself byte rest meant _ is) = let x = quoted_bytes rest meant is in omega (arith, x)
quoted_bytes _ _ (escaped slash letter rest meant _ _ is) = let x = quoted_bytes rest meant is in omega (arith, x)
quoted_bytes _ _ (coded slash x high low rest meant _ _ _ _ is) = let less = quoted_bytes rest meant is in omega (arith, less)

form_bytes : (bytes : List ℕ) (said : Lexeme) → Form bytes said → meant_bytes said ≤ length bytes
form_bytes _ _ (a_word byte rest _ _) = omega arith
form_bytes _ _ (lex.a_number byte rest _ _) = omega arith
form_bytes _ _ (a_text quote inside meant _ is) =
    let less = quoted_bytes inside meant is in let long = length-append inside (34 ∷ []) in omega (arith, less, long)
form_bytes _ _ (a_class bracket inside set _ _) = omega arith
form_bytes _ _ (a_sign byte _) = omega arith
form_bytes _ _ (lex.a_pair first second _) = omega arith

spelled_bytes : (file : List ℕ) (token : Placed) → Spells file token → meant_bytes token.said ≤ token.to - token.from
spelled_bytes file token is =
    let less = form_bytes (bytes_from file token.from token.to) token.said is.form in
    let fits = is.fits in
    let left = length-drop token.from file in
    let long = length-take-le (token.to - token.from) (drop token.from file) (omega (arith, left, fits)) in omega (arith, less, long)

pub all_spelled : (file : List ℕ) (tokens : List Placed) → All (Spells file) tokens
    → all_meant (map (λ token. token.said) tokens) ≤ token_bytes tokens
all_spelled file [] all = omega arith
all_spelled file (token ∷ tokens) all =
    let one = spelled_bytes file token (All-head (Spells file) token tokens all) in
    let more = all_spelled file tokens (All-tail (Spells file) token tokens all) in omega (arith, one, more)

-- of the tokens that an expression begins
pub spoken_bytes : (file : List ℕ) (tokens : List Placed) (said : List Lexeme) (e : Spoken) (rest : List Lexeme) → All (Spells file) tokens
    → said ≡ map (λ token. token.said) tokens → IsSpoken said e rest → string_bytes e ≤ token_bytes tokens
spoken_bytes file tokens said e rest all same is =
    let few = level_bytes 0 said e rest is.at_level in
    let many = all_spelled file tokens all in
    let here = ap all_meant same in omega (arith, few, many, here)
