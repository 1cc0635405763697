-- What a level says and nothing goes on with is whole.
use Rattle.std.proofs.Common.{◌≡◌, ℕ, zero, suc, ◌<◌, ◌≤◌, ◌⊎◌, inl, inr, List, ◌∷◌, codes, refl, sym, ◌∙◌, arith}
use Rattle.expr_lang.specs.declared.expr.Op.{Op}
use Rattle.expr_lang.specs.declared.expr.Op.TheVariants as op
use Rattle.spec_text.specs.Lexemes.{Lexeme, word, sign}
use Rattle.expr_read.specs.declared.prefix.Prefix.TheVariants as prefix
use Rattle.expr_read.specs.Spoken.{Spoken, SpokenList, binary}
use Rattle.expr_read.specs.Notation.{IsName, glyph_of, precedence, left_of, AtLevel, tighter, an_if, joined, a_negative, a_negated, a_number, a_truth, a_falsehood, a_string, a_name, a_dollar, a_pair, an_application, Arguments, no_arguments, some_arguments, Listed, last, next, MayFollow}
use Rattle.expr_read.specs.Notation as notation
use Rattle.expr_read.specs.within.Wholes.{NoOperator, Whole, loosest, chained, prefixed, primary, conditional, no_conditional, Goes, ends, goes, behind_prefix, no_prefix, Primary, a_leaf, a_group, named, alone, paired, called, Inside, none_inside, some_inside, Row, one, closed, others}
use Rattle.expr_read.proofs.Glyphs.{precedences}
use Rattle.expr_read.proofs.WholeParts.{goes_end}
use Rattle.expr_read.proofs.Starts.{level_most, no_if, no_prefix_first, no_close, bond, bond_is, no_operator, no_dot, no_opening, stops_line}

-- where the levels stand
data Place (p : ℕ) : Type 0 where
  outermost : p ≡ 0 → Place p
  of_operators : 1 ≤ p → p ≤ 5 → Place p
  of_prefixes : p ≡ 6 → Place p

place : (p : ℕ) → p ≤ 6 → Place p
place zero few = outermost refl
place (suc zero) few = of_operators (omega arith) (omega arith)
place (suc (suc zero)) few = of_operators (omega arith) (omega arith)
place (suc (suc (suc zero))) few = of_operators (omega arith) (omega arith)
place (suc (suc (suc (suc zero)))) few = of_operators (omega arith) (omega arith)
place (suc (suc (suc (suc (suc zero))))) few = of_operators (omega arith) (omega arith)
place (suc (suc (suc (suc (suc (suc n)))))) few = of_prefixes (omega (arith, few))

-- behind an expression of the level stands nothing, or an operator of the level
record Open (p : ℕ) (rest : List Lexeme) : Type 0 where
  below : bond rest ≤ p
  single : p ≡ 3 → bond rest ≤ 2
  short : bond rest ≤ 6

open_next : (p : ℕ) (rest : List Lexeme) → Open p rest → Open (suc p) rest
open_next p rest is =
    let below = is.below in
    record { below = omega (arith, below); single = λ e. omega (arith, e, below); short = is.short }

open_at : (p n : ℕ) (rest : List Lexeme) → Open p rest → p ≡ n → Open n rest
open_at p n rest is e = rw (sym e) is

-- nothing binds
open_free : (p : ℕ) (rest : List Lexeme) → bond rest ≡ 0 → Open p rest
open_free p rest free = record { below = omega (arith, free); single = λ e. omega (arith, free); short = omega (arith, free) }

ends_at : (p : ℕ) (a : Spoken) (rest : List Lexeme) → bond rest < p → Goes p a rest a rest
ends_at p a rest less = ends p a rest (no_operator p rest less)

ends_next : (p : ℕ) (a : Spoken) (rest : List Lexeme) → Open p rest → Goes (suc p) a rest a rest
ends_next p a rest is = let below = is.below in ends_at (suc p) a rest (omega (arith, below))

-- no operator is of these levels
no_operators : (p : ℕ) (rest : List Lexeme) → (1 ≤ p → p ≤ 5 → ⊥) → NoOperator p rest
no_operators p rest none = λ o after level at.
    let its = precedences o in
    none (let low = its.0 in omega (arith, low, level)) (let high = its.1 in omega (arith, high, level))

ends_free : (p : ℕ) (a : Spoken) (rest : List Lexeme) → (1 ≤ p → p ≤ 5 → ⊥) → Goes p a rest a rest
ends_free p a rest none = ends p a rest (no_operators p rest none)

whole_end : (p : ℕ) (tokens rest more : List Lexeme) (e f : Spoken) → (1 ≤ p → p ≤ 5 → ⊥) → Whole p tokens e rest → Goes p e rest f more → Whole p tokens f more
whole_end p tokens rest more e f none whole on =
    let same = goes_end p e f rest more (no_operators p rest none) on in rw (sym same.0, sym same.1) whole

-- a tighter level
loosen : (p : ℕ) (tokens rest more : List Lexeme) (e f : Spoken) → p ≤ 6 → AtLevel (suc p) tokens e rest → Whole (suc p) tokens e rest → Goes p e rest f more
    → Whole p tokens f more
loosen p tokens rest more e f few is whole on = by (place p few)
  where
    by : Place p → Whole p tokens f more
    by (outermost none) =
        let here : AtLevel 1 tokens e rest = (let one_is : suc p ≡ 1 = omega (arith, none) in rw (sym one_is) is) in
        let this : Whole 1 tokens e rest = (let one_is : suc p ≡ 1 = omega (arith, none) in rw (sym one_is) whole) in
        whole_end p tokens rest more e f (λ low high. omega (arith, low, none)) (loosest p tokens rest e none (no_conditional tokens rest e (no_if tokens rest e here) this)) on
    by (of_operators low high) = chained p tokens rest more e f low high whole on
    by (of_prefixes six) =
        let here : AtLevel 7 tokens e rest = (let seven : suc p ≡ 7 = omega (arith, six) in rw (sym seven) is) in
        let this : Whole 7 tokens e rest = (let seven : suc p ≡ 7 = omega (arith, six) in rw (sym seven) whole) in
        whole_end p tokens rest more e f (λ low high. omega (arith, high, six)) (prefixed p tokens rest e six (no_prefix tokens rest e (no_prefix_first tokens rest e here) this)) on

-- comparisons have a tighter left operand, all other operators one of their level
pub sides : (o : Op) → (precedence o ≡ 3) ⊎ (left_of (precedence o) ≡ precedence o)
sides op.Or = inr refl
sides op.And = inr refl
sides op.Equal = inl refl
sides op.Differ = inl refl
sides op.Less = inl refl
sides op.AtMost = inl refl
sides op.Greater = inl refl
sides op.AtLeast = inl refl
sides op.Plus = inr refl
sides op.Minus = inr refl
sides op.Times = inr refl
sides op.Quotient = inr refl
sides op.Remainder = inr refl

pub not_three : (o : Op) → left_of (precedence o) ≡ precedence o → precedence o ≡ 3 → ⊥
not_three op.Or same is = omega (arith, is)
not_three op.And same is = omega (arith, is)
not_three op.Equal same is = omega (arith, same)
not_three op.Differ same is = omega (arith, same)
not_three op.Less same is = omega (arith, same)
not_three op.AtMost same is = omega (arith, same)
not_three op.Greater same is = omega (arith, same)
not_three op.AtLeast same is = omega (arith, same)
not_three op.Plus same is = omega (arith, is)
not_three op.Minus same is = omega (arith, is)
not_three op.Times same is = omega (arith, is)
not_three op.Quotient same is = omega (arith, is)
not_three op.Remainder same is = omega (arith, is)

-- what the left operand of an operator goes on with, and what its whole is then part of
record LeftOf (o : Op) (p : ℕ) (a : Spoken) (after : List Lexeme) (f : Spoken) (more : List Lexeme) : Type 0 where
  e : Spoken
  end : List Lexeme
  open_behind : Open (left_of p) (sign (glyph_of o) ∷ after)
  on : Goes (left_of p) a (sign (glyph_of o) ∷ after) e end
  whole : (tokens : List Lexeme) → Whole (left_of p) tokens e end → Whole p tokens f more

module _ (o : Op) (p : ℕ) (a b f : Spoken) (after rest more : List Lexeme) (level : p ≡ precedence o) (right : Whole (suc p) after b rest)
    (single : p ≡ 3 → NoOperator 3 rest) (on : Goes p (binary o a b) rest f more) where
  further : Goes p a (sign (glyph_of o) ∷ after) f more
  further = goes o p a b f (sign (glyph_of o) ∷ after) after rest more level refl right single on

  left_compared : precedence o ≡ 3 → LeftOf o p a after f more
  left_compared is_three =
      let three : p ≡ 3 = level ∙ is_three in
      let four : left_of p ≡ 4 = rw three refl in
      let its : bond (sign (glyph_of o) ∷ after) ≡ 3 = bond_is o after ∙ is_three in
      let next_level : left_of p ≡ suc p = omega (arith, four, three) in
      record {
        e = a;
        end = sign (glyph_of o) ∷ after;
        open_behind = record { below = omega (arith, its, four); single = λ e. omega (arith, e, four); short = omega (arith, its) };
        on = ends_at (left_of p) a (sign (glyph_of o) ∷ after) (omega (arith, its, four));
        whole = λ tokens is. chained p tokens (sign (glyph_of o) ∷ after) more a f (omega (arith, three)) (omega (arith, three)) (rw (sym next_level) is) further;
      }

  left_chained : left_of (precedence o) ≡ precedence o → LeftOf o p a after f more
  left_chained same =
      let here : left_of p ≡ p = rw level same in
      let its = bond_is o after in
      let few = precedences o in
      let most = few.1 in
      let other : p ≡ 3 → ⊥ = λ e. not_three o same (sym level ∙ e) in
      record {
        e = f;
        end = more;
        open_behind = record {
          below = omega (arith, its, here, level);
          single = λ e. absurd (other (sym here ∙ e));
          short = omega (arith, its, most);
        };
        on = rw here further;
        whole = λ tokens is. rw (sym here) is;
      }

  left_of_operator : LeftOf o p a after f more
  left_of_operator = elim (sides o) [ inl three ↦ left_compared three | inr same ↦ left_chained same ]

as_primary : (p : ℕ) (tokens rest more : List Lexeme) (e f : Spoken) → p ≡ 7 → Primary tokens e rest → Goes p e rest f more → Whole p tokens f more
as_primary p tokens rest more e f seven is on = whole_end p tokens rest more e f (λ low high. omega (arith, high, seven)) (primary p tokens rest e seven is) on

mutual
  -- where nothing but operators of the level stands behind, the whole is what they make of it
  to_whole : (p : ℕ) (tokens rest more : List Lexeme) (e f : Spoken) → AtLevel p tokens e rest → Open p rest → Goes p e rest f more → Whole p tokens f more
  to_whole _ _ _ more _ f (tighter p tokens rest e is) behind on =
      let few : p ≤ 6 = (let most = level_most (suc p) tokens rest e is in omega (arith, most)) in
      loosen p tokens rest more e f few is (to_whole (suc p) tokens rest rest e e is (open_next p rest behind) (ends_next p e rest behind)) on
  to_whole _ _ _ more _ f (an_if p tokens x y z rest c a b none at test first second) behind on =
      whole_end p tokens rest more _ f (λ low high. omega (arith, low, none))
      (loosest p tokens rest _ none (conditional tokens x y z rest c a b at
      (to_whole 0 x (word (codes "then") ∷ y) (word (codes "then") ∷ y) c c test (open_free 0 _ refl) (ends_free 0 c _ (λ low high. omega (arith, low))))
      (to_whole 0 y (word (codes "else") ∷ z) (word (codes "else") ∷ z) a a first (open_free 0 _ refl) (ends_free 0 a _ (λ low high. omega (arith, low))))
      (to_whole 0 z rest rest b b second (open_at p 0 rest behind none) (ends_free 0 b rest (λ low high. omega (arith, low)))))) on
  to_whole _ _ _ more _ f (joined o p tokens after rest a b level left right) behind on =
      let whole = to_whole (suc p) after rest rest b b right (open_next p rest behind) (ends_next p b rest behind) in
      let single : p ≡ 3 → NoOperator 3 rest = λ three. no_operator 3 rest (let few = behind.single three in omega (arith, few)) in
      let its = left_of_operator o p a b f after rest more level whole single on in
      its.whole tokens (to_whole (left_of p) tokens (sign (glyph_of o) ∷ after) its.end a its.e left its.open_behind its.on)
  to_whole _ _ _ more _ f (a_negative p tokens after rest a six at is) behind on =
      whole_end p tokens rest more _ f (λ low high. omega (arith, high, six))
      (prefixed p tokens rest _ six (behind_prefix prefix.Minus tokens after rest a at
      (to_whole 6 after rest rest a a is (open_at p 6 rest behind six) (ends_free 6 a rest (λ low high. omega (arith, high)))))) on
  to_whole _ _ _ more _ f (a_negated p tokens after rest a six at is) behind on =
      whole_end p tokens rest more _ f (λ low high. omega (arith, high, six))
      (prefixed p tokens rest _ six (behind_prefix prefix.Not tokens after rest a at
      (to_whole 6 after rest rest a a is (open_at p 6 rest behind six) (ends_free 6 a rest (λ low high. omega (arith, high)))))) on
  to_whole _ _ _ more _ f (a_number p n tokens rest seven at) behind on = as_primary p tokens rest more _ f seven (a_leaf tokens rest _ (rw at refl)) on
  to_whole _ _ _ more _ f (a_truth p tokens rest seven at) behind on = as_primary p tokens rest more _ f seven (a_leaf tokens rest _ (rw at refl)) on
  to_whole _ _ _ more _ f (a_falsehood p tokens rest seven at) behind on = as_primary p tokens rest more _ f seven (a_leaf tokens rest _ (rw at refl)) on
  to_whole _ _ _ more _ f (a_string p bytes tokens rest seven at) behind on = as_primary p tokens rest more _ f seven (a_leaf tokens rest _ (rw at refl)) on
  to_whole _ _ _ more _ f (a_name p w tokens rest seven ok at) behind on =
      as_primary p tokens rest more _ f seven (named w tokens rest rest _ ok at (alone w rest (no_dot rest behind.short) (no_opening rest behind.short))) on
  to_whole _ _ _ more _ f (a_dollar p n tokens rest seven at) behind on = as_primary p tokens rest more _ f seven (a_leaf tokens rest _ (rw at refl)) on
  to_whole _ _ _ more _ f (a_pair p v w tokens rest seven ok good at) behind on =
      as_primary p tokens rest more _ f seven (named v tokens (sign (codes ".") ∷ word w ∷ rest) rest _ ok at (paired v w _ rest good refl)) on
  to_whole _ _ _ more _ f (an_application p w tokens after rest args seven ok at is) behind on =
      as_primary p tokens rest more _ f seven (named w tokens (sign (codes "(") ∷ after) rest _ ok at (called w _ after rest args refl (to_inside after _ rest args is refl))) on
  to_whole _ _ _ more _ f (notation.a_group p tokens after rest a seven at is) behind on =
      as_primary p tokens rest more _ f seven (a_group tokens after rest a at
      (to_whole 0 after (sign (codes ")") ∷ rest) (sign (codes ")") ∷ rest) a a is (open_free 0 _ refl) (ends_free 0 a _ (λ low high. omega (arith, low))))) on

  to_inside : (tokens end rest : List Lexeme) (args : SpokenList) → Arguments tokens args end → end ≡ sign (codes ")") ∷ rest → Inside tokens args rest
  to_inside _ _ rest _ (no_arguments tokens) close = none_inside tokens rest close
  to_inside _ _ rest _ (some_arguments tokens end args is) close = some_inside tokens rest args (no_close tokens end args is) (to_row tokens end rest args is close)

  to_row : (tokens end rest : List Lexeme) (args : SpokenList) → Listed tokens args end → end ≡ sign (codes ")") ∷ rest → Row tokens args rest
  to_row _ _ rest _ (last tokens end a is) close =
      one tokens end rest a _ (to_whole 0 tokens end end a a is (open_free 0 end (rw close refl)) (ends_free 0 a end (λ low high. omega (arith, low)))) (closed end rest close)
  to_row _ _ rest _ (next tokens after end a more is row) close =
      one tokens (sign (codes ",") ∷ after) rest a more
      (to_whole 0 tokens (sign (codes ",") ∷ after) (sign (codes ",") ∷ after) a a is (open_free 0 _ refl) (ends_free 0 a _ (λ low high. omega (arith, low))))
      (others (sign (codes ",") ∷ after) after rest more refl (to_row after end rest more row close))

-- an expression of a line is whole
pub line_whole : (tokens rest : List Lexeme) (e : Spoken) → AtLevel 0 tokens e rest → MayFollow rest → Whole 0 tokens e rest
line_whole tokens rest e is follows =
    let free : bond rest ≡ 0 = (let stops = stops_line rest follows in omega (arith, stops)) in
    to_whole 0 tokens rest rest e e is (open_free 0 rest free) (ends_free 0 e rest (λ low high. omega (arith, low)))
