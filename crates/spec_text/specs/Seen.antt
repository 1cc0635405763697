-- What a token of the program says.
use Rattle.std.specs.Prelude.{ℕ, List, Option, Some, None}
use Rattle.std.specs.Borrow.{Bor}
use Rattle.spec_text.specs.Classes.{set_of}
use Rattle.spec_text.specs.Lexemes.{Lexeme, word, number, text, class, sign}
use Rattle.spec_text.specs.declared.view.Token.{Token}
use Rattle.spec_text.specs.declared.view.Token.TheVariants.{Word, Number, Text, Class, Sign}

-- the pure form of a token
abbrev pub seen : Token → Lexeme
seen (Word bytes) = word bytes.now
seen (Number n) = number n
seen (Text bytes) = text bytes.now
seen (Class words) = class (set_of words)
seen (Sign bytes) = sign bytes.now

-- the bytes of a name
abbrev pub bytes_of : Bor (List ℕ) → List ℕ
bytes_of bytes = bytes.now

-- the bytes of a name, where there is one
abbrev pub name_in : Option (Bor (List ℕ)) → Option (List ℕ)
name_in None = None
name_in (Some name) = Some name.now
