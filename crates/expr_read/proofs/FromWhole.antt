-- What is whole is said by its level.
use Rattle.std.proofs.Common.{◌≡◌, ℕ, suc, ◌⊎◌, inl, inr, List, [], ◌∷◌, if◌then◌else◌, Bool, true, false, Option, Some, None, codes, refl, sym, ap, ◌∙◌, arith}
use Rattle.std.specs.Str.{bytes_eq}
use Rattle.std.proofs.lemmas.Option.{same_Some}
use Rattle.std.proofs.lemmas.Slice.Eq.{bytes_eq-Decides}
use Rattle.expr_lang.specs.declared.expr.Op.{Op}
use Rattle.spec_text.specs.Lexemes as lex
use Rattle.spec_text.specs.Lexemes.{Lexeme, word, sign}
use Rattle.expr_read.specs.declared.prefix.Prefix.{Prefix}
use Rattle.expr_read.specs.declared.prefix.Prefix.TheVariants as prefix
use Rattle.expr_read.specs.Spoken.{Spoken, SpokenList, binary, and_spoken, truth, number, string, dollar}
use Rattle.expr_read.specs.Notation.{IsName, glyph_of, precedence, left_of, AtLevel, tighter, an_if, joined, a_negative, a_negated, a_number, a_truth, a_falsehood, a_string, a_name, a_dollar, a_pair, an_application, Arguments, no_arguments, some_arguments, Listed, last, next}
use Rattle.expr_read.specs.Notation as notation
use Rattle.expr_read.specs.within.Wholes.{leaf_of, dollar_of, with_prefix, prefix_glyph, NoOperator, Whole, loosest, chained, prefixed, primary, Loosest, conditional, no_conditional, Goes, ends, goes, Prefixed, behind_prefix, no_prefix, Primary, a_leaf, a_group, named, Named, alone, paired, called, Inside, none_inside, some_inside, Row, one, Others, closed, others}
use Rattle.expr_read.proofs.ToWhole.{sides}

-- a leaf
ended : Spoken → List Lexeme → Option (Spoken × List Lexeme)
ended e rest = Some (e, rest)

same_end : (e f : Spoken) (rest more : List Lexeme) → ended e rest ≡ ended f more → (e ≡ f) × (rest ≡ more)
unfolding ended
same_end e f rest more same = let both = same_Some (e, rest) (f, more) same in (ap (λ z. z.0) both, ap (λ z. z.1) both)

not_ended : (e : Spoken) (rest : List Lexeme) → None ≡ ended e rest → ⊥
unfolding ended
not_ended e rest same = cc

leaf_at : (e f : Spoken) (tokens rest more : List Lexeme) → AtLevel 7 tokens e rest → ended e rest ≡ ended f more → AtLevel 7 tokens f more
leaf_at e f tokens rest more is same = let both = same_end e f rest more same in rw (sym both.0, sym both.1) is

dollar_level : (rest more : List Lexeme) (e : Spoken) → dollar_of rest ≡ ended e more → AtLevel 7 (sign (codes "$") ∷ rest) e more
unfolding ended
dollar_level [] more e is = absurd (not_ended e more is)
dollar_level (lex.number n ∷ rest) more e is = leaf_at (dollar n) e _ rest more (a_dollar 7 n _ rest refl refl) is
dollar_level (lex.word w ∷ rest) more e is = absurd (not_ended e more is)
dollar_level (lex.text bytes ∷ rest) more e is = absurd (not_ended e more is)
dollar_level (lex.class set ∷ rest) more e is = absurd (not_ended e more is)
dollar_level (lex.sign glyph ∷ rest) more e is = absurd (not_ended e more is)

is_equal : (w v : List ℕ) → bytes_eq w v ≡ true → w ≡ v
is_equal w v is = (bytes_eq-Decides w v).0 is

sign_level : (glyph : List ℕ) (rest more : List Lexeme) (e : Spoken) (b : Bool) → bytes_eq glyph (codes "$") ≡ b → (if b then dollar_of rest else None) ≡ ended e more
    → AtLevel 7 (sign glyph ∷ rest) e more
sign_level glyph rest more e true same is = rw (is_equal glyph (codes "$") same) (dollar_level rest more e is)
sign_level glyph rest more e false same is = absurd (not_ended e more is)

word_level : (w : List ℕ) (rest more : List Lexeme) (e : Spoken) (b c : Bool) → bytes_eq w (codes "true") ≡ b → bytes_eq w (codes "false") ≡ c
    → (if b then ended (truth true) rest else if c then ended (truth false) rest else None) ≡ ended e more → AtLevel 7 (word w ∷ rest) e more
word_level w rest more e true c same other is = leaf_at (truth true) e _ rest more (a_truth 7 _ rest refl (ap (λ v. word v ∷ rest) (is_equal w (codes "true") same))) is
word_level w rest more e false true same other is = leaf_at (truth false) e _ rest more (a_falsehood 7 _ rest refl (ap (λ v. word v ∷ rest) (is_equal w (codes "false") other))) is
word_level w rest more e false false same other is = absurd (not_ended e more is)

leaf_level : (tokens more : List Lexeme) (e : Spoken) → leaf_of tokens ≡ ended e more → AtLevel 7 tokens e more
unfolding ended
leaf_level [] more e is = absurd (not_ended e more is)
leaf_level (lex.number n ∷ rest) more e is = leaf_at (number n) e _ rest more (a_number 7 n _ rest refl refl) is
leaf_level (lex.text bytes ∷ rest) more e is = leaf_at (string bytes) e _ rest more (a_string 7 bytes _ rest refl refl) is
leaf_level (lex.class set ∷ rest) more e is = absurd (not_ended e more is)
leaf_level (lex.sign glyph ∷ rest) more e is = sign_level glyph rest more e (bytes_eq glyph (codes "$")) refl is
leaf_level (lex.word w ∷ rest) more e is = word_level w rest more e (bytes_eq w (codes "true")) (bytes_eq w (codes "false")) refl refl is

leaf_read : (tokens more : List Lexeme) (e : Spoken) → leaf_of tokens ≡ Some (e, more) → AtLevel 7 tokens e more
unfolding ended
leaf_read tokens more e is = leaf_level tokens more e is

-- a left operand of a comparison is tighter, unless a comparison is the last that there is
abbrev Side : ℕ → List Lexeme → Spoken → List Lexeme → Type 0
Side p tokens a between = p ≡ 3 → AtLevel 4 tokens a between ⊎ NoOperator 3 between

-- an operator and its right operand
module _ (o : Op) (p : ℕ) (a b : Spoken) (tokens between after rest : List Lexeme) (level : p ≡ precedence o) (is : between ≡ sign (glyph_of o) ∷ after)
    (right : AtLevel (suc p) after b rest) where
  join_at : (q : ℕ) → left_of p ≡ q → AtLevel q tokens a between → AtLevel p tokens (binary o a b) rest
  join_at q here left = joined o p tokens after rest a b level (rw (here, sym is) left) right

  join_compared : p ≡ 3 → AtLevel 4 tokens a between ⊎ NoOperator 3 between → AtLevel p tokens (binary o a b) rest
  join_compared three (inl left) = join_at 4 (rw three refl) left
  join_compared three (inr none) = absurd (none o after (sym three ∙ level) is)

  join : AtLevel p tokens a between → Side p tokens a between → AtLevel p tokens (binary o a b) rest
  join left side = elim (sides o) [ inl three ↦ join_compared (level ∙ three) (side (level ∙ three)) | inr same ↦ join_at p (rw level same) left ]

prefix_level : (s : Prefix) (tokens after rest : List Lexeme) (a : Spoken) → tokens ≡ sign (prefix_glyph s) ∷ after → AtLevel 6 after a rest → AtLevel 6 tokens (with_prefix s a) rest
prefix_level prefix.Minus tokens after rest a at is = a_negative 6 tokens after rest a refl at is
prefix_level prefix.Not tokens after rest a at is = a_negated 6 tokens after rest a refl at is

tighter_side : (p : ℕ) (tokens between : List Lexeme) (a : Spoken) → AtLevel (suc p) tokens a between → Side p tokens a between
tighter_side p tokens between a is = λ three. inl (let four : suc p ≡ 4 = omega (arith, three) in rw (sym four) is)

mutual
  pub from_whole : (p : ℕ) (tokens rest : List Lexeme) (e : Spoken) → Whole p tokens e rest → AtLevel p tokens e rest
  from_whole _ _ _ _ (loosest p tokens rest e none is) = rw none (from_loosest tokens rest e is)
  from_whole _ _ _ _ (chained p tokens between rest a e low high is on) =
      let left = from_whole (suc p) tokens between a is in
      from_goes p a e between rest on tokens (tighter p tokens between a left) (tighter_side p tokens between a left)
  from_whole _ _ _ _ (prefixed p tokens rest e six is) = rw six (from_prefixed tokens rest e is)
  from_whole _ _ _ _ (primary p tokens rest e seven is) = rw seven (from_primary tokens rest e is)

  from_loosest : (tokens rest : List Lexeme) (e : Spoken) → Loosest tokens e rest → AtLevel 0 tokens e rest
  from_loosest _ _ _ (conditional tokens x y z rest c a b at test first second) =
      an_if 0 tokens x y z rest c a b refl at (from_whole 0 x (word (codes "then") ∷ y) c test) (from_whole 0 y (word (codes "else") ∷ z) a first) (from_whole 0 z rest b second)
  from_loosest _ _ _ (no_conditional tokens rest e none is) = tighter 0 tokens rest e (from_whole 1 tokens rest e is)

  from_goes : (p : ℕ) (a e : Spoken) (between rest : List Lexeme) → Goes p a between e rest → (tokens : List Lexeme) → AtLevel p tokens a between → Side p tokens a between
      → AtLevel p tokens e rest
  from_goes _ _ _ _ _ (ends p a between stops) tokens left side = left
  from_goes _ _ _ _ _ (goes o p a b e between after further rest level is right single on) tokens left side =
      from_goes p (binary o a b) e further rest on tokens
      (join o p a b tokens between after further level is (from_whole (suc p) after further b right) left side)
      (λ three. inr (single three))

  from_prefixed : (tokens rest : List Lexeme) (e : Spoken) → Prefixed tokens e rest → AtLevel 6 tokens e rest
  from_prefixed _ _ _ (behind_prefix s tokens after rest a at is) = prefix_level s tokens after rest a at (from_whole 6 after rest a is)
  from_prefixed _ _ _ (no_prefix tokens rest e none is) = tighter 6 tokens rest e (from_whole 7 tokens rest e is)

  from_primary : (tokens rest : List Lexeme) (e : Spoken) → Primary tokens e rest → AtLevel 7 tokens e rest
  from_primary _ _ _ (a_leaf tokens rest e is) = leaf_read tokens rest e is
  from_primary _ _ _ (a_group tokens after rest a at is) = notation.a_group 7 tokens after rest a refl at (from_whole 0 after (sign (codes ")") ∷ rest) a is)
  from_primary _ _ _ (named w tokens behind rest e ok at is) = from_named w behind rest e is tokens ok at

  from_named : (w : List ℕ) (behind rest : List Lexeme) (e : Spoken) → Named w behind e rest → (tokens : List Lexeme) → IsName w → tokens ≡ word w ∷ behind → AtLevel 7 tokens e rest
  from_named _ _ _ _ (alone w behind dot open_behind) tokens ok at = a_name 7 w tokens behind refl ok at
  from_named _ _ _ _ (paired w v behind rest good is) tokens ok at = a_pair 7 w v tokens rest refl ok good (at ∙ ap (λ l. word w ∷ l) is)
  from_named _ _ _ _ (called w behind after rest args is inside) tokens ok at =
      an_application 7 w tokens after rest args refl ok (at ∙ ap (λ l. word w ∷ l) is) (from_inside after rest args inside)

  from_inside : (tokens rest : List Lexeme) (args : SpokenList) → Inside tokens args rest → Arguments tokens args (sign (codes ")") ∷ rest)
  from_inside _ _ _ (none_inside tokens rest is) = rw is (no_arguments (sign (codes ")") ∷ rest))
  from_inside _ _ _ (some_inside tokens rest args none row) = some_arguments tokens (sign (codes ")") ∷ rest) args (from_row tokens rest args row)

  from_row : (tokens rest : List Lexeme) (args : SpokenList) → Row tokens args rest → Listed tokens args (sign (codes ")") ∷ rest)
  from_row _ _ _ (one tokens between rest a more is on) = from_others between rest more on tokens a (from_whole 0 tokens between a is)

  from_others : (between rest : List Lexeme) (more : SpokenList) → Others between more rest → (tokens : List Lexeme) (a : Spoken) → AtLevel 0 tokens a between
      → Listed tokens (and_spoken a more) (sign (codes ")") ∷ rest)
  from_others _ _ _ (closed between rest is) tokens a left = last tokens (sign (codes ")") ∷ rest) a (rw (sym is) left)
  from_others _ _ _ (others between after rest more is row) tokens a left =
      next tokens after (sign (codes ")") ∷ rest) a more (rw (sym is) left) (from_row after rest more row)
