-- Expressions at a place among tokens, tried where the nearest wrong reading differs.
use Rattle.std.proofs.Common.{◌≡◌, ℕ, zero, suc, ◌<◌, true, false, List, [], ◌∷◌, drop, get_or, refl, ap, ◌∙◌, arith, codes}
use Rattle.ck_base.specs.declared.fault.Kind.TheVariants.{Unknown, Typing}
use Rattle.expr_lang.specs.Typing.{Context}
use Rattle.spec_text.specs.Lexemes as lex
use Rattle.spec_text.specs.Lexemes.{Lexeme, word, sign, a_word}
use Rattle.spec_text.specs.Reading.{Placed}
use Rattle.spec_text.specs.Spans.{Spells}
use Rattle.spec_text.specs.declared.token.SpecToken.{SpecToken}
use Rattle.spec_text.specs.declared.token.SpecSort.TheVariants.{Word}
use Rattle.expr_read.specs.Spoken.{Spoken, number, applied, no_spoken}
use Rattle.expr_read.specs.Notation.{IsSpoken, tighter, nothing_follows, closing, an_application, no_arguments, own_words, words_behind}
use Rattle.expr_read.specs.Resolving.{Vocabulary, has_unknown}
use Rattle.expr_read.specs.Written.{AreTokensOf, StandsAt, bytes_between, IsFaultAt, unknown_name, no_meaning}
use Rattle.spec_text.proofs.Lists.{not_among}
use Rattle.expr_read.proofs.ExpressionExamples.{at_0, no_operator_follows}
use Rattle.expr_read.proofs.OneSpoken.{one_spoken}

-- of the file `ab` the token is this word with these places, and with no other ones
abbrev ab : Placed
ab = record { said = word (codes "ab"); from = 0; to = 2 }

abbrev spanning : ℕ → SpecToken
spanning to = record { sort = Word; from = 0; to = to }

pub one_token : AreTokensOf (codes "ab") (spanning 2 ∷ []) (ab ∷ [])
one_token = record {
  same = refl;
  spelled = λ i d within. by i d within;
}
  where
    spells : Spells (codes "ab") ab
    spells = record { order = omega arith; fits = omega arith; form = a_word 97 (codes "b") refl refl; small = tt }

    by : (i : ℕ) (d : Placed) → i < 1 → Spells (codes "ab") (get_or (ab ∷ []) i d)
    by zero d within = spells
    by (suc i) d within = absurd (omega (arith, within))

pub other_place : AreTokensOf (codes "ab") (spanning 1 ∷ []) (ab ∷ []) → ⊥
other_place are = let to = ap last_place are.same in omega (arith, to)
  where
    last_place : List SpecToken → ℕ
    last_place [] = 0
    last_place (token ∷ tokens) = token.to

-- in `(1)` a 1 stands at place 1, and ends at place 2; in `1 < 2` none ends before `<`
pub within_group : StandsAt (sign (codes "(") ∷ lex.number 1 ∷ sign (codes ")") ∷ []) 1 2 (number 1)
within_group = record {
  within = omega arith;
  is = record { at_level = at_0 1 (sign (codes ")") ∷ []); few = omega arith };
  follows = closing [];
}

pub before_an_operator : (e : Spoken) → StandsAt (lex.number 1 ∷ sign (codes "<") ∷ lex.number 2 ∷ []) 0 1 e → ⊥
before_an_operator e stands = no_operator_follows (lex.number 2 ∷ []) stands.follows

-- `Q()`, without a maker Q, is of kind unknown, and not of kind type
abbrev no_words : Vocabulary
no_words = record { variables = []; makers = []; types = []; dotted = [] }

abbrev call_of_q : List Lexeme
call_of_q = word (codes "Q") ∷ sign (codes "(") ∷ sign (codes ")") ∷ []

abbrev q : Spoken
q = applied (codes "Q") no_spoken

spoken_q : IsSpoken call_of_q q []
spoken_q = record {
  at_level = tighter 0 _ [] q (tighter 1 _ [] q (tighter 2 _ [] q (tighter 3 _ [] q (tighter 4 _ [] q (tighter 5 _ [] q (tighter 6 _ [] q
      (an_application 7 (codes "Q") _ (sign (codes ")") ∷ []) [] no_spoken refl
      (record { not_own = not_among own_words (codes "Q") refl; not_behind = not_among words_behind (codes "Q") refl }) refl
      (no_arguments (sign (codes ")") ∷ [])))))))));
  few = omega arith;
}

pub q_is_unknown : (context : Context) → IsFaultAt no_words context call_of_q 0 Unknown 3
q_is_unknown context =
    unknown_name q 3 (record { within = omega arith; is = spoken_q; follows = nothing_follows }) refl

pub q_has_no_typing : (context : Context) (next : ℕ) → IsFaultAt no_words context call_of_q 0 Typing next → ⊥
q_has_no_typing context next (no_meaning e _ stands known none) =
    let same = (one_spoken call_of_q [] (drop next call_of_q) q e nothing_follows stands.follows spoken_q stands.is).0 in
    let both : true ≡ false = ap (has_unknown []) same ∙ known in cc

-- of tokens of 1, 2 and 4 bytes those from the first one up to before the last one have 3
abbrev of_length : ℕ → Placed
of_length n = record { said = word (codes "a"); from = 0; to = n }

pub up_to_the_end : bytes_between (of_length 1 ∷ of_length 2 ∷ of_length 4 ∷ []) 0 2 ≡ 3
up_to_the_end = refl
