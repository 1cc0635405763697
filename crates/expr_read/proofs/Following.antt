-- What may follow an expression of a line, by the next token.
use Rattle.std.proofs.Common.{◌≡◌, ℕ, List, [], ◌∷◌, length, map, arith, Contains, codes, sym}
use Rattle.spec_text.specs.Seen.{seen}
use Rattle.spec_text.specs.declared.view.Token.{Token}
use Rattle.spec_text.specs.Lexemes.{Lexeme, word, sign}
use Rattle.expr_read.specs.Notation.{MayFollow, nothing_follows, closing, comma, arrow, a_word_behind, words_behind}

pub word_follows : (tokens : List Lexeme) (w : List ℕ) (rest : List Lexeme) → tokens ≡ word w ∷ rest → MayFollow tokens → Contains words_behind w
word_follows _ w rest at nothing_follows = cc
word_follows _ w rest at (closing more) = cc
word_follows _ w rest at (comma more) = cc
word_follows _ w rest at (arrow more) = cc
word_follows _ w rest at (a_word_behind v more among) = let same : v ≡ w = cc in rw (sym same) among

pub other_token : (tokens : List Lexeme) (token : Lexeme) (rest : List Lexeme) → tokens ≡ token ∷ rest → ((w : List ℕ) → token ≡ word w → ⊥)
    → (token ≡ sign (codes ")") → ⊥) → (token ≡ sign (codes ",") → ⊥) → (token ≡ sign (codes "=>") → ⊥) → MayFollow tokens → ⊥
other_token _ token rest at no_word no_close no_comma no_arrow nothing_follows = cc
other_token _ token rest at no_word no_close no_comma no_arrow (closing more) = no_close cc
other_token _ token rest at no_word no_close no_comma no_arrow (comma more) = no_comma cc
other_token _ token rest at no_word no_close no_comma no_arrow (arrow more) = no_arrow cc
other_token _ token rest at no_word no_close no_comma no_arrow (a_word_behind w more among) = no_word w cc

pub arrow_left : (tokens : List Lexeme) (token : Lexeme) (rest : List Lexeme) → tokens ≡ token ∷ rest → ((w : List ℕ) → token ≡ word w → ⊥)
    → (token ≡ sign (codes ")") → ⊥) → (token ≡ sign (codes ",") → ⊥) → MayFollow tokens → token ≡ sign (codes "=>")
arrow_left _ token rest at no_word no_close no_comma nothing_follows = cc
arrow_left _ token rest at no_word no_close no_comma (closing more) = absurd (no_close cc)
arrow_left _ token rest at no_word no_close no_comma (comma more) = absurd (no_comma cc)
arrow_left _ token rest at no_word no_close no_comma (arrow more) = cc
arrow_left _ token rest at no_word no_close no_comma (a_word_behind w more among) = absurd (no_word w cc)

pub end_follows : (tokens : List Token) → length tokens ≡ 0 → MayFollow (map seen tokens)
end_follows [] none = nothing_follows
end_follows (token ∷ rest) none = absurd (omega (arith, none))
