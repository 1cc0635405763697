-- An expression at a place among tokens of the specification, and what it means by the names of a scope.
use Rattle.std.specs.Prelude.{◌≡◌, ℕ, ◌-◌, ◌≤◌, true, false, List, length, map, take, drop, All}
use Rattle.value_store.specs.declared.value.ValType.{ValType}
use Rattle.ck_base.specs.declared.fault.Kind.{Kind}
use Rattle.ck_base.specs.declared.fault.Kind.TheVariants.{Syntax, Unknown, Typing}
use Rattle.spec_text.specs.Lexemes.{Lexeme}
use Rattle.section_frame.specs.Parts.{NoReading}
use Rattle.spec_text.specs.Reading.{Placed}
use Rattle.spec_text.specs.Sizes.{token_bytes}
use Rattle.spec_text.specs.Spans.{Spells, span_of}
use Rattle.spec_text.specs.declared.token.SpecToken.{SpecToken}
use Rattle.expr_lang.specs.Expression.{Expression}
use Rattle.expr_lang.specs.Typing.{Context}
use Rattle.expr_read.specs.Notation.{IsSpoken, MayFollow}
use Rattle.expr_read.specs.Resolving.{Vocabulary, Dotted, Means, MeansNothing, has_unknown}
use Rattle.expr_read.specs.Spoken.{Spoken}
use Rattle.expr_read.specs.declared.fault.ExprFault.{ExprFault}
use Rattle.expr_read.specs.declared.fault.ExprFault.TheVariants.{Bad, NoMemory}
use Rattle.expr_read.specs.declared.scope.NameScope.{NameScope}

-- the program's tokens are these of the file
pub record AreTokensOf (file : List ℕ) (have : List SpecToken) (tokens : List Placed) : Type 0 where
  pub same : have ≡ map span_of tokens
  pub spelled : All (Spells file) tokens

-- what tokens say
abbrev pub said_in : List Placed → List Lexeme
said_in tokens = map (λ token. token.said) tokens

-- a dotted variable by its parts
abbrev pub dotted_in : (List ℕ × List ℕ × ℕ) → Dotted
dotted_in d = record { before = d.0; after = d.1; variable = d.2 }

-- what an expression may name in the scope: the first names are those of variables, the others those of makers
abbrev pub vocabulary_of : NameScope → Vocabulary
vocabulary_of s = record {
  variables = take (length s.scope.vars.now) s.names.now;
  makers = drop (length s.scope.vars.now) s.names.now;
  types = map (λ m. m.ty) s.scope.makers.now;
  dotted = map dotted_in s.dotted.now;
}

-- from the one place on, up to before the next, the tokens are this expression, and what follows may follow one
pub record StandsAt (tokens : List Lexeme) (at next : ℕ) (e : Spoken) : Type 0 where
  pub within : next ≤ length tokens
  pub is : IsSpoken (drop at tokens) e (drop next tokens)
  pub follows : MayFollow (drop next tokens)

-- the bytes of the tokens from the one place on, up to before the next
abbrev pub bytes_between : List Placed → ℕ → ℕ → ℕ
bytes_between said at next = token_bytes (take (next - at) (drop at said))

-- the bytes of the tokens from the place on, up to where the fault tells that they end, if it tells that
abbrev pub bytes_told : List Placed → ℕ → ExprFault → ℕ
bytes_told said at (Bad kind next) = bytes_between said at next
bytes_told said at NoMemory = token_bytes (drop at said)

-- what stands at the place means this expression, of this type
pub record IsFound (words : Vocabulary) (context : Context) (tokens : List Lexeme) (at : ℕ) (x : Expression) (t : ValType) (next : ℕ) : Type 0 where
  pub written : Spoken
  pub stands : StandsAt tokens at next written
  pub means : Means words context written x t

-- there is no expression at the place; or it has an unknown name before parentheses; or it has none and means nothing
pub data IsFaultAt (words : Vocabulary) (context : Context) (tokens : List Lexeme) (at : ℕ) : Kind → ℕ → Type 0 where
  no_expression : NoReading IsSpoken MayFollow (drop at tokens) → IsFaultAt words context tokens at Syntax at
  unknown_name : (e : Spoken) (next : ℕ) → StandsAt tokens at next e → has_unknown words.makers e ≡ true
      → IsFaultAt words context tokens at Unknown next
  no_meaning : (e : Spoken) (next : ℕ) → StandsAt tokens at next e → has_unknown words.makers e ≡ false
      → MeansNothing words context e → IsFaultAt words context tokens at Typing next

-- why tokens are no expression, or that memory was wanted
abbrev pub IsExprFault : Vocabulary → Context → List Lexeme → ℕ → ExprFault → Type 0
IsExprFault words context tokens at (Bad kind next) = IsFaultAt words context tokens at kind next
IsExprFault words context tokens at NoMemory = Unit {0}
