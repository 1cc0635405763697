-- Tokens begin with one expression at most, wherever that may end.
use Rattle.std.proofs.Common.{◌≡◌, List}
use Rattle.spec_text.specs.Lexemes.{Lexeme}
use Rattle.expr_read.specs.Spoken.{Spoken}
use Rattle.expr_read.specs.Notation.{IsSpoken, MayFollow}
use Rattle.expr_read.proofs.OneWhole.{one_whole}
use Rattle.expr_read.proofs.ToWhole.{line_whole}

pub one_spoken : (tokens rest more : List Lexeme) (e f : Spoken) → MayFollow rest → MayFollow more → IsSpoken tokens e rest → IsSpoken tokens f more → (e ≡ f) × (rest ≡ more)
one_spoken tokens rest more e f ends stops is it =
    one_whole 0 tokens rest more e f (line_whole tokens rest e is.at_level ends) (line_whole tokens more f it.at_level stops)
