-- What may stand as a token, and what it means.
use Rattle.std.specs.Prelude.{◌≡◌, ℕ, ◌+◌, ◌*◌, ◌≤◌, Bool, true, List, [], ◌∷◌, ◌++◌, length, take}
use Rattle.std.specs.List.{list_all}
use Rattle.std.specs.Str.Parse.{digits_value}
use Rattle.std.specs.Char.{digit_value}
use Rattle.spec_text.specs.Escapes.{is_named, named, is_hex}
use Rattle.spec_text.specs.Classes.{ClassSays}
use Rattle.spec_text.specs.Bytes.{is_letter, is_digit, is_word_byte, is_text_byte, is_sign_byte, is_sign_pair}

-- what a token says: a word, a number, a string's bytes, a sign
pub data Lexeme : Type 0 where
  word : List ℕ → Lexeme
  number : ℕ → Lexeme
  text : List ℕ → Lexeme
  class : (ℕ → Bool) → Lexeme
  sign : List ℕ → Lexeme

-- what stands between the quotes of a string, and the bytes that it means
pub data Quoted : List ℕ → List ℕ → Type 0 where
  nothing : Quoted [] []
  itself : (byte : ℕ) (rest meant : List ℕ) → is_text_byte byte ≡ true → Quoted rest meant → Quoted (byte ∷ rest) (byte ∷ meant)
  escaped : (slash letter : ℕ) (rest meant : List ℕ) → slash ≡ 92 → is_named letter ≡ true → Quoted rest meant
      → Quoted (slash ∷ letter ∷ rest) (named letter ∷ meant)
  coded : (slash x high low : ℕ) (rest meant : List ℕ) → slash ≡ 92 → x ≡ 120 → is_hex high ≡ true → is_hex low ≡ true
      → Quoted rest meant → Quoted (slash ∷ x ∷ high ∷ low ∷ rest) ((digit_value high * 16 + digit_value low) ∷ meant)

-- these bytes are a token and say this
pub data Form : List ℕ → Lexeme → Type 0 where
  a_word : (byte : ℕ) (rest : List ℕ) → is_letter byte ≡ true → list_all is_word_byte rest ≡ true → Form (byte ∷ rest) (word (byte ∷ rest))
  a_number : (byte : ℕ) (rest : List ℕ) → is_digit byte ≡ true → list_all is_digit rest ≡ true
      → Form (byte ∷ rest) (number (digits_value 10 (byte ∷ rest)))
  a_text : (quote : ℕ) (inside meant : List ℕ) → quote ≡ 34 → Quoted inside meant → Form (quote ∷ (inside ++ 34 ∷ [])) (text meant)
  a_class : (bracket : ℕ) (inside : List ℕ) (set : ℕ → Bool) → bracket ≡ 91 → ClassSays inside set → Form (bracket ∷ (inside ++ 93 ∷ [])) (class set)
  a_sign : (byte : ℕ) → is_sign_byte byte ≡ true → Form (byte ∷ []) (sign (byte ∷ []))
  a_pair : (first second : ℕ) → is_sign_pair first second ≡ true → Form (first ∷ second ∷ []) (sign (first ∷ second ∷ []))

-- the line begins with the token of n bytes, and with no longer one
pub record Begins (line : List ℕ) (said : Lexeme) (n : ℕ) : Type 0 where
  pub fits : n ≤ length line
  pub is_token : Form (take n line) said
  pub longest : (m : ℕ) (other : Lexeme) → m ≤ length line → Form (take m line) other → m ≤ n
