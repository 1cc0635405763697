-- The spans of a source's tokens.
use Rattle.value_store.specs.declared.text.Text.{Text}
use Rattle.value_store.specs.declared.text.TextOf.TheVariants.{Source}
use Rattle.parse_driver.specs.declared.tokens.TokenRef.{TokenRef}

-- the span of a token
abbrev pub span_of : TokenRef → Text
span_of t = record { of = Source; from = t.from; to = t.to }
