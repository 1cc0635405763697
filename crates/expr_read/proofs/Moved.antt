-- An expression is one wherever its tokens stand, whatever is behind them.
use Rattle.std.proofs.Common.{◌≡◌, ap, refl, sym, ◌∙◌, subst, arith, ℕ, suc, ◌<◌, List, [], ◌∷◌, ◌++◌, length, append_assoc, length-append, codes}
use Rattle.spec_text.specs.Lexemes.{Lexeme, word, sign}
use Rattle.spec_text.specs.Lexemes as lex
use Rattle.expr_read.specs.Spoken.{Spoken, SpokenList, no_spoken}
use Rattle.expr_read.specs.Notation.{AtLevel, Arguments, Listed, MayFollow, nothing_follows, closing, comma, arrow, a_word_behind, glyph_of, left_of, tighter, an_if, joined, a_negative, a_negated, a_number, a_truth, a_falsehood, a_string, a_name, a_dollar, a_pair, an_application, a_group, no_arguments, some_arguments, last, next}

-- the tokens are those of an expression, one at least, and the rest; before other ones they are the same expression
pub record IsMovedLevel (p : ℕ) (tokens : List Lexeme) (e : Spoken) (rest : List Lexeme) : Type 0 where
  pub own : List Lexeme
  pub are : tokens ≡ own ++ rest
  pub some : 0 < length own
  pub again : (ts more : List Lexeme) → ts ≡ own ++ more → AtLevel p ts e more

record IsMovedRow (tokens : List Lexeme) (args : SpokenList) (rest : List Lexeme) : Type 0 where
  pub own : List Lexeme
  pub are : tokens ≡ own ++ rest
  pub again : (ts more : List Lexeme) → ts ≡ own ++ more → Arguments ts args more

record IsMovedList (tokens : List Lexeme) (args : SpokenList) (rest : List Lexeme) : Type 0 where
  pub own : List Lexeme
  pub are : tokens ≡ own ++ rest
  pub again : (ts more : List Lexeme) → ts ≡ own ++ more → Listed ts args more

-- what is behind own tokens and one more is behind all of them
between : (own : List Lexeme) (x : Lexeme) (after more : List Lexeme) → (own ++ x ∷ after) ++ more ≡ own ++ x ∷ (after ++ more)
between own x after more = append_assoc own (x ∷ after) more

-- tokens that begin with this one
begins : (x : Lexeme) (tokens after own rest : List Lexeme) → tokens ≡ x ∷ after → after ≡ own ++ rest → tokens ≡ (x ∷ own) ++ rest
begins x tokens after own rest is are = is ∙ ap (λ l. x ∷ l) are

-- tokens with one between two runs of them
joins : (x : Lexeme) (tokens after own other rest : List Lexeme) → tokens ≡ own ++ x ∷ after → after ≡ other ++ rest
    → tokens ≡ (own ++ x ∷ other) ++ rest
joins x tokens after own other rest is are = is ∙ ap (λ l. own ++ x ∷ l) are ∙ sym (between own x other rest)

mutual
  pub moved_level : (p : ℕ) (tokens : List Lexeme) (e : Spoken) (rest : List Lexeme) → AtLevel p tokens e rest → IsMovedLevel p tokens e rest
  moved_level _ _ _ _ (tighter p tokens rest e at) =
      let it = moved_level (suc p) tokens e rest at in record {
        own = it.own;
        are = it.are;
        some = it.some;
        again = λ ts more is. tighter p ts more e (it.again ts more is);
      }
  moved_level _ _ _ _ (an_if p tokens after_if after_then after_else rest c a b level is first second third) =
      let x = moved_level 0 after_if c (word (codes "then") ∷ after_then) first in
      let y = moved_level 0 after_then a (word (codes "else") ∷ after_else) second in
      let z = moved_level 0 after_else b rest third in
      let if_word : Lexeme = word (codes "if") in
      let then_word : Lexeme = word (codes "then") in
      let else_word : Lexeme = word (codes "else") in
      let last_own : List Lexeme = y.own ++ else_word ∷ z.own in
      let inner : List Lexeme = x.own ++ then_word ∷ last_own in record {
        own = if_word ∷ inner;
        are = begins if_word tokens after_if inner rest is (joins then_word after_if after_then x.own last_own rest x.are
            (joins else_word after_then after_else y.own z.own rest y.are z.are));
        some = omega arith;
        again = λ ts more same.
            let behind_else : List Lexeme = z.own ++ more in
            let behind_then : List Lexeme = y.own ++ else_word ∷ behind_else in
            let behind_if : List Lexeme = x.own ++ then_word ∷ behind_then in
            let here : ts ≡ if_word ∷ behind_if = same ∙ ap (λ l. if_word ∷ l) (between x.own then_word last_own more
            ∙ ap (λ l. x.own ++ then_word ∷ l) (between y.own else_word z.own more)) in
            an_if p ts behind_if behind_then behind_else more c a b level here
            (x.again behind_if (then_word ∷ behind_then) refl) (y.again behind_then (else_word ∷ behind_else) refl)
            (z.again behind_else more refl);
      }
  moved_level _ _ _ _ (joined o p tokens after rest a b level left right) =
      let x = moved_level (left_of p) tokens a (sign (glyph_of o) ∷ after) left in
      let y = moved_level (suc p) after b rest right in
      let op : Lexeme = sign (glyph_of o) in record {
        own = x.own ++ op ∷ y.own;
        are = joins op tokens after x.own y.own rest x.are y.are;
        some = (let long = length-append x.own (op ∷ y.own) in omega (arith, long));
        again = λ ts more same.
            joined o p ts (y.own ++ more) more a b level
            (x.again ts (op ∷ (y.own ++ more)) (same ∙ between x.own op y.own more)) (y.again (y.own ++ more) more refl);
      }
  moved_level _ _ _ _ (a_negative p tokens after rest a level is at) =
      let it = moved_level 6 after a rest at in
      let minus : Lexeme = sign (codes "-") in record {
        own = minus ∷ it.own;
        are = begins minus tokens after it.own rest is it.are;
        some = omega arith;
        again = λ ts more same. a_negative p ts (it.own ++ more) more a level same (it.again (it.own ++ more) more refl);
      }
  moved_level _ _ _ _ (a_negated p tokens after rest a level is at) =
      let it = moved_level 6 after a rest at in
      let mark : Lexeme = sign (codes "!") in record {
        own = mark ∷ it.own;
        are = begins mark tokens after it.own rest is it.are;
        some = omega arith;
        again = λ ts more same. a_negated p ts (it.own ++ more) more a level same (it.again (it.own ++ more) more refl);
      }
  moved_level _ _ _ _ (a_number p n tokens rest level is) =
      record { own = lex.number n ∷ []; are = is; some = omega arith; again = λ ts more same. a_number p n ts more level same }
  moved_level _ _ _ _ (a_truth p tokens rest level is) =
      record { own = word (codes "true") ∷ []; are = is; some = omega arith; again = λ ts more same. a_truth p ts more level same }
  moved_level _ _ _ _ (a_falsehood p tokens rest level is) =
      record { own = word (codes "false") ∷ []; are = is; some = omega arith; again = λ ts more same. a_falsehood p ts more level same }
  moved_level _ _ _ _ (a_string p bytes tokens rest level is) =
      record { own = lex.text bytes ∷ []; are = is; some = omega arith; again = λ ts more same. a_string p bytes ts more level same }
  moved_level _ _ _ _ (a_name p w tokens rest level named is) =
      record { own = word w ∷ []; are = is; some = omega arith; again = λ ts more same. a_name p w ts more level named same }
  moved_level _ _ _ _ (a_dollar p n tokens rest level is) =
      record { own = sign (codes "$") ∷ lex.number n ∷ []; are = is; some = omega arith; again = λ ts more same. a_dollar p n ts more level same }
  moved_level _ _ _ _ (a_pair p v w tokens rest level one other is) =
      record {
        own = word v ∷ sign (codes ".") ∷ word w ∷ [];
        are = is;
        some = omega arith;
        again = λ ts more same. a_pair p v w ts more level one other same;
      }
  moved_level _ _ _ _ (an_application p w tokens after rest args level named is at) =
      let it = moved_arguments after args (sign (codes ")") ∷ rest) at in
      let open_sign : Lexeme = sign (codes "(") in
      let close_sign : Lexeme = sign (codes ")") in
      let inner : List Lexeme = it.own ++ close_sign ∷ [] in record {
        own = word w ∷ open_sign ∷ inner;
        are = is ∙ ap (λ l. word w ∷ open_sign ∷ l) (joins close_sign after rest it.own [] rest it.are refl);
        some = omega arith;
        again = λ ts more same.
            let behind : List Lexeme = it.own ++ close_sign ∷ more in
            an_application p w ts behind more args level named
            (same ∙ ap (λ l. word w ∷ open_sign ∷ l) (between it.own close_sign [] more)) (it.again behind (close_sign ∷ more) refl);
      }
  moved_level _ _ _ _ (a_group p tokens after rest a level is at) =
      let it = moved_level 0 after a (sign (codes ")") ∷ rest) at in
      let open_sign : Lexeme = sign (codes "(") in
      let close_sign : Lexeme = sign (codes ")") in
      let inner : List Lexeme = it.own ++ close_sign ∷ [] in record {
        own = open_sign ∷ inner;
        are = is ∙ ap (λ l. open_sign ∷ l) (joins close_sign after rest it.own [] rest it.are refl);
        some = omega arith;
        again = λ ts more same.
            let behind : List Lexeme = it.own ++ close_sign ∷ more in
            a_group p ts behind more a level (same ∙ ap (λ l. open_sign ∷ l) (between it.own close_sign [] more))
            (it.again behind (close_sign ∷ more) refl);
      }

  moved_arguments : (tokens : List Lexeme) (args : SpokenList) (rest : List Lexeme) → Arguments tokens args rest → IsMovedRow tokens args rest
  moved_arguments _ _ _ (no_arguments tokens) =
      record {
        own = [];
        are = refl;
        again = λ ts more same. subst (λ t. Arguments t no_spoken more) (sym same) (no_arguments more);
      }
  moved_arguments _ _ _ (some_arguments tokens rest args at) =
      let it = moved_list tokens args rest at in
      record { own = it.own; are = it.are; again = λ ts more same. some_arguments ts more args (it.again ts more same) }

  moved_list : (tokens : List Lexeme) (args : SpokenList) (rest : List Lexeme) → Listed tokens args rest → IsMovedList tokens args rest
  moved_list _ _ _ (last tokens rest a at) =
      let it = moved_level 0 tokens a rest at in
      record { own = it.own; are = it.are; again = λ ts more same. last ts more a (it.again ts more same) }
  moved_list _ _ _ (next tokens after rest a more_args at behind) =
      let x = moved_level 0 tokens a (sign (codes ",") ∷ after) at in
      let y = moved_list after more_args rest behind in
      let comma_sign : Lexeme = sign (codes ",") in record {
        own = x.own ++ comma_sign ∷ y.own;
        are = joins comma_sign tokens after x.own y.own rest x.are y.are;
        again = λ ts more same.
            next ts (y.own ++ more) more a more_args (x.again ts (comma_sign ∷ (y.own ++ more)) (same ∙ between x.own comma_sign y.own more))
            (y.again (y.own ++ more) more refl);
      }

-- what may follow may follow with more behind it
pub follows_longer : (tokens more : List Lexeme) → 0 < length tokens → MayFollow tokens → MayFollow (tokens ++ more)
follows_longer _ more some nothing_follows = absurd (omega (arith, some))
follows_longer _ more some (closing rest) = closing (rest ++ more)
follows_longer _ more some (comma rest) = comma (rest ++ more)
follows_longer _ more some (arrow rest) = arrow (rest ++ more)
follows_longer _ more some (a_word_behind w rest among) = a_word_behind w (rest ++ more) among
