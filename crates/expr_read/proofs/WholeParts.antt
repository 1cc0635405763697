-- What a whole expression is made of, by the tokens that are next.
use Rattle.std.proofs.Common.{◌≡◌, ℕ, suc, ◌≤◌, List, [], ◌∷◌, false, Some, None, codes, refl, sym, ap, ◌∙◌, arith}
use Rattle.std.specs.Str.{bytes_eq}
use Rattle.std.proofs.lemmas.Bool.{false_from_ne_true}
use Rattle.std.proofs.lemmas.Option.{same_Some}
use Rattle.std.proofs.lemmas.Slice.Eq.{bytes_eq-Decides}
use Rattle.expr_lang.specs.declared.expr.Op.{Op}
use Rattle.spec_text.specs.Lexemes.{Lexeme, word, sign}
use Rattle.section_frame.specs.Parts.{NotFirst}
use Rattle.expr_read.specs.declared.prefix.Prefix.{Prefix}
use Rattle.expr_read.specs.Spoken.{Spoken, SpokenList, name, pair, binary, if_then, applied, grouped, no_spoken, and_spoken}
use Rattle.expr_read.specs.Notation.{IsName, glyph_of, precedence}
use Rattle.expr_read.specs.within.Wholes.{leaf_of, prefix_glyph, with_prefix, NoOperator, NoPrefix, Whole, loosest, chained, prefixed, primary, Loosest, conditional, no_conditional, Goes, ends, goes, Prefixed, behind_prefix, no_prefix, Primary, a_leaf, a_group, named, Named, alone, paired, called, Inside, none_inside, some_inside, Row, one, Others, closed, others}
use Rattle.expr_read.proofs.Glyphs.{same_rest, one_glyph, one_prefix}

-- two ends of one shape
abbrev pub Same : Spoken → Spoken → List Lexeme → List Lexeme → Type 0
Same e f rest more = (e ≡ f) × (rest ≡ more)

abbrev pub SameList : SpokenList → SpokenList → List Lexeme → List Lexeme → Type 0
SameList a b rest more = (a ≡ b) × (rest ≡ more)

-- what stands behind the same token is the same
pub behind : (token : Lexeme) (tokens rest more : List Lexeme) → tokens ≡ token ∷ rest → tokens ≡ token ∷ more → rest ≡ more
behind token tokens rest more is it = same_rest token token rest more (sym is ∙ it)

pub other_sign : (a b : ℕ) (tokens rest more : List Lexeme) → (a ≡ b → ⊥) → tokens ≡ sign (a ∷ []) ∷ rest → tokens ≡ sign (b ∷ []) ∷ more → ⊥
other_sign a b tokens rest more differ is it =
    differ (let e : sign (a ∷ []) ∷ rest ≡ sign (b ∷ []) ∷ more = sym is ∙ it in let same : a ≡ b = cc in same)

pub word_no_sign : (w glyph : List ℕ) (tokens rest more : List Lexeme) → tokens ≡ word w ∷ rest → tokens ≡ sign glyph ∷ more → ⊥
word_no_sign w glyph tokens rest more is it = let e : word w ∷ rest ≡ sign glyph ∷ more = sym is ∙ it in cc

-- by the level
pub loosest_at : (p : ℕ) (tokens rest : List Lexeme) (e : Spoken) → p ≡ 0 → Whole p tokens e rest → Loosest tokens e rest
loosest_at _ _ _ _ at (loosest p tokens rest e zero is) = is
loosest_at _ _ _ _ at (chained p tokens between rest a e some few is more) = absurd (omega (arith, at, some))
loosest_at _ _ _ _ at (prefixed p tokens rest e six is) = absurd (omega (arith, at, six))
loosest_at _ _ _ _ at (primary p tokens rest e seven is) = absurd (omega (arith, at, seven))

pub prefixed_at : (p : ℕ) (tokens rest : List Lexeme) (e : Spoken) → p ≡ 6 → Whole p tokens e rest → Prefixed tokens e rest
prefixed_at _ _ _ _ at (loosest p tokens rest e zero is) = absurd (omega (arith, at, zero))
prefixed_at _ _ _ _ at (chained p tokens between rest a e some few is more) = absurd (omega (arith, at, few))
prefixed_at _ _ _ _ at (prefixed p tokens rest e six is) = is
prefixed_at _ _ _ _ at (primary p tokens rest e seven is) = absurd (omega (arith, at, seven))

pub primary_at : (p : ℕ) (tokens rest : List Lexeme) (e : Spoken) → p ≡ 7 → Whole p tokens e rest → Primary tokens e rest
primary_at _ _ _ _ at (loosest p tokens rest e zero is) = absurd (omega (arith, at, zero))
primary_at _ _ _ _ at (chained p tokens between rest a e some few is more) = absurd (omega (arith, at, few))
primary_at _ _ _ _ at (prefixed p tokens rest e six is) = absurd (omega (arith, at, six))
primary_at _ _ _ _ at (primary p tokens rest e seven is) = is

-- a left operand and what goes on behind it
pub record Chain (p : ℕ) (tokens : List Lexeme) (e : Spoken) (rest : List Lexeme) : Type 0 where
  pub left : Spoken
  pub between : List Lexeme
  pub is : Whole (suc p) tokens left between
  pub more : Goes p left between e rest

pub chain_at : (p : ℕ) (tokens rest : List Lexeme) (e : Spoken) → 1 ≤ p → p ≤ 5 → Whole p tokens e rest → Chain p tokens e rest
chain_at _ _ _ _ low high (loosest p tokens rest e zero is) = absurd (omega (arith, low, zero))
chain_at _ _ _ _ low high (chained p tokens between rest a e some few is more) = record { left = a; between = between; is = is; more = more }
chain_at _ _ _ _ low high (prefixed p tokens rest e six is) = absurd (omega (arith, high, six))
chain_at _ _ _ _ low high (primary p tokens rest e seven is) = absurd (omega (arith, high, seven))

-- behind `if`
pub record IfParts (after : List Lexeme) (e : Spoken) (rest : List Lexeme) : Type 0 where
  pub c : Spoken
  pub a : Spoken
  pub b : Spoken
  pub after_then : List Lexeme
  pub after_else : List Lexeme
  pub is : e ≡ if_then c a b
  pub test : Whole 0 after c (word (codes "then") ∷ after_then)
  pub first : Whole 0 after_then a (word (codes "else") ∷ after_else)
  pub second : Whole 0 after_else b rest

pub if_parts : (tokens after rest : List Lexeme) (e : Spoken) → tokens ≡ word (codes "if") ∷ after → Loosest tokens e rest → IfParts after e rest
if_parts _ after _ _ at (conditional tokens x y z rest c a b is test first second) =
    let same : x ≡ after = behind (word (codes "if")) tokens x after is at in
    record { c = c; a = a; b = b; after_then = y; after_else = z; is = refl; test = rw (sym same) test; first = first; second = second }
if_parts _ after _ _ at (no_conditional tokens rest e other is) = absurd (other after at)

pub no_if_parts : (tokens rest : List Lexeme) (e : Spoken) → NotFirst (word (codes "if")) tokens → Loosest tokens e rest → Whole 1 tokens e rest
no_if_parts _ _ _ none (conditional tokens x y z rest c a b is test first second) = absurd (none x is)
no_if_parts _ _ _ none (no_conditional tokens rest e other is) = is

-- behind a left operand
pub goes_end : (p : ℕ) (a e : Spoken) (tokens rest : List Lexeme) → NoOperator p tokens → Goes p a tokens e rest → Same a e tokens rest
goes_end _ _ _ _ _ none (ends p a tokens stops) = (refl, refl)
goes_end _ _ _ _ _ none (goes o p a b e tokens after between rest at is right single on) = absurd (none o after at is)

pub record Step (o : Op) (p : ℕ) (a : Spoken) (after : List Lexeme) (e : Spoken) (rest : List Lexeme) : Type 0 where
  pub b : Spoken
  pub between : List Lexeme
  pub right : Whole (suc p) after b between
  pub single : p ≡ 3 → NoOperator 3 between
  pub more : Goes p (binary o a b) between e rest

pub goes_step : (o : Op) (p : ℕ) (a e : Spoken) (tokens after rest : List Lexeme) → p ≡ precedence o → tokens ≡ sign (glyph_of o) ∷ after
    → Goes p a tokens e rest → Step o p a after e rest
goes_step o _ _ _ _ after _ at here (ends p a tokens stops) = absurd (stops o after at here)
goes_step o _ _ _ _ after _ at here (goes q p a b e tokens x between rest level is right single on) =
    let same : after ≡ x = same_rest _ _ after x (sym here ∙ is) in
    let same_op : o ≡ q = one_glyph o q after x (sym here ∙ is) in
    record { b = b; between = between; right = rw same right; single = single; more = rw same_op on }

-- behind a prefix
pub record PrefixParts (s : Prefix) (after : List Lexeme) (e : Spoken) (rest : List Lexeme) : Type 0 where
  pub a : Spoken
  pub is : e ≡ with_prefix s a
  pub whole : Whole 6 after a rest

pub prefix_parts : (s : Prefix) (tokens after rest : List Lexeme) (e : Spoken) → tokens ≡ sign (prefix_glyph s) ∷ after → Prefixed tokens e rest → PrefixParts s after e rest
prefix_parts s _ after _ _ at (behind_prefix t tokens x rest a is whole) =
    let same : after ≡ x = same_rest _ _ after x (sym at ∙ is) in
    let same_prefix : s ≡ t = one_prefix s t after x (sym at ∙ is) in
    record { a = a; is = rw same_prefix refl; whole = rw same whole }
prefix_parts s _ after _ _ at (no_prefix tokens rest e none whole) = absurd (none s after at)

pub no_prefix_parts : (tokens rest : List Lexeme) (e : Spoken) → NoPrefix tokens → Prefixed tokens e rest → Whole 7 tokens e rest
no_prefix_parts _ _ _ none (behind_prefix t tokens x rest a is whole) = absurd (none t x is)
no_prefix_parts _ _ _ none (no_prefix tokens rest e other whole) = whole

-- names are no leaves, nor is `(` one
pub is_other : (w v : List ℕ) → (w ≡ v → ⊥) → bytes_eq w v ≡ false
is_other w v differ = false_from_ne_true (bytes_eq w v) (λ is. differ ((bytes_eq-Decides w v).0 is))

pub name_no_leaf : (w : List ℕ) (rest : List Lexeme) → IsName w → leaf_of (word w ∷ rest) ≡ None
name_no_leaf w rest is =
    rw (is_other w (codes "true") (λ e. is.not_own (3, omega arith, sym e)), is_other w (codes "false") (λ e. is.not_own (4, omega arith, sym e))) refl

no_leaf : (tokens rest : List Lexeme) (e : Spoken) → leaf_of tokens ≡ None → leaf_of tokens ≡ Some (e, rest) → ⊥
no_leaf tokens rest e none some = let both : Some (e, rest) ≡ None = sym some ∙ none in cc

group_no_leaf : (tokens after rest : List Lexeme) (e : Spoken) → tokens ≡ sign (codes "(") ∷ after → leaf_of tokens ≡ Some (e, rest) → ⊥
group_no_leaf tokens after rest e at some = no_leaf tokens rest e (rw at refl) some

named_no_leaf : (w : List ℕ) (tokens behind rest : List Lexeme) (e : Spoken) → IsName w → tokens ≡ word w ∷ behind → leaf_of tokens ≡ Some (e, rest) → ⊥
named_no_leaf w tokens behind rest e ok at some = no_leaf tokens rest e (rw at (name_no_leaf w behind ok)) some

pub leaf_same : (tokens rest more : List Lexeme) (e f : Spoken) → leaf_of tokens ≡ Some (e, rest) → leaf_of tokens ≡ Some (f, more) → Same e f rest more
leaf_same tokens rest more e f first second =
    let both = same_Some (e, rest) (f, more) (sym first ∙ second) in (ap (λ z. z.0) both, ap (λ z. z.1) both)

pub leaf_parts : (tokens rest more : List Lexeme) (e f : Spoken) → leaf_of tokens ≡ Some (e, rest) → Primary tokens f more → Same e f rest more
leaf_parts _ rest _ e _ leaf (a_leaf tokens more f is) = leaf_same tokens rest more e f leaf is
leaf_parts _ rest _ e _ leaf (a_group tokens after more a at whole) = absurd (group_no_leaf tokens after rest e at leaf)
leaf_parts _ rest _ e _ leaf (named w tokens behind more f ok at is) = absurd (named_no_leaf w tokens behind rest e ok at leaf)

pub record GroupParts (after : List Lexeme) (e : Spoken) (rest : List Lexeme) : Type 0 where
  pub a : Spoken
  pub is : e ≡ grouped a
  pub whole : Whole 0 after a (sign (codes ")") ∷ rest)

pub group_parts : (tokens after rest : List Lexeme) (e : Spoken) → tokens ≡ sign (codes "(") ∷ after → Primary tokens e rest → GroupParts after e rest
group_parts _ after _ _ opens (a_leaf tokens more f is) = absurd (group_no_leaf tokens after more f opens is)
group_parts _ after _ _ opens (a_group tokens x more a at whole) =
    let same : after ≡ x = behind (sign (codes "(")) tokens after x opens at in record { a = a; is = refl; whole = rw same whole }
group_parts _ after _ _ opens (named w tokens behind more f ok at is) = absurd (word_no_sign w (codes "(") tokens behind after at opens)

pub named_parts : (w : List ℕ) (tokens after rest : List Lexeme) (e : Spoken) → IsName w → tokens ≡ word w ∷ after → Primary tokens e rest → Named w after e rest
named_parts w _ after _ _ ok first (a_leaf tokens more f is) = absurd (named_no_leaf w tokens after more f ok first is)
named_parts w _ after _ _ ok first (a_group tokens x more a at whole) = absurd (word_no_sign w (codes "(") tokens after x first at)
named_parts w _ after _ _ ok first (named v tokens x more f good at is) =
    let both : word w ∷ after ≡ word v ∷ x = sym first ∙ at in
    let same_word : w ≡ v = cc in
    let same : after ≡ x = cc in
    rw (same_word, same) is

-- behind a name
pub alone_parts : (w : List ℕ) (tokens rest : List Lexeme) (e : Spoken) → NotFirst (sign (codes ".")) tokens → NotFirst (sign (codes "(")) tokens → Named w tokens e rest
    → Same (name w) e tokens rest
alone_parts _ _ _ _ dot opens (alone w tokens no_dot no_open) = (refl, refl)
alone_parts _ _ _ _ dot opens (paired w v tokens rest ok is) = absurd (dot (word v ∷ rest) is)
alone_parts _ _ _ _ dot opens (called w tokens after rest args is inside) = absurd (opens after is)

pub record PairParts (w : List ℕ) (after : List Lexeme) (e : Spoken) (rest : List Lexeme) : Type 0 where
  pub v : List ℕ
  pub is : e ≡ pair w v
  pub ok : IsName v
  pub at : after ≡ word v ∷ rest

pub pair_parts : (w : List ℕ) (tokens after rest : List Lexeme) (e : Spoken) → tokens ≡ sign (codes ".") ∷ after → Named w tokens e rest → PairParts w after e rest
pair_parts _ _ after _ _ dot (alone w tokens no_dot no_open) = absurd (no_dot after dot)
pair_parts _ _ after _ _ dot (paired w v tokens rest ok is) =
    record { v = v; is = refl; ok = ok; at = behind (sign (codes ".")) tokens after (word v ∷ rest) dot is }
pair_parts _ _ after _ _ dot (called w tokens x rest args is inside) = absurd (other_sign 46 40 tokens after x (λ e. omega (arith, e)) dot is)

pub record CallParts (w : List ℕ) (after : List Lexeme) (e : Spoken) (rest : List Lexeme) : Type 0 where
  pub args : SpokenList
  pub is : e ≡ applied w args
  pub inside : Inside after args rest

pub call_parts : (w : List ℕ) (tokens after rest : List Lexeme) (e : Spoken) → tokens ≡ sign (codes "(") ∷ after → Named w tokens e rest → CallParts w after e rest
call_parts _ _ after _ _ opens (alone w tokens no_dot no_open) = absurd (no_open after opens)
call_parts _ _ after _ _ opens (paired w v tokens rest ok is) = absurd (other_sign 40 46 tokens after (word v ∷ rest) (λ e. omega (arith, e)) opens is)
call_parts _ _ after _ _ opens (called w tokens x rest args is inside) =
    let same : after ≡ x = behind (sign (codes "(")) tokens after x opens is in record { args = args; is = refl; inside = rw same inside }

-- arguments
pub none_parts : (tokens after rest : List Lexeme) (args : SpokenList) → tokens ≡ sign (codes ")") ∷ after → Inside tokens args rest → SameList no_spoken args after rest
none_parts _ after _ _ close (none_inside tokens rest is) = (refl, behind (sign (codes ")")) tokens after rest close is)
none_parts _ after _ _ close (some_inside tokens rest args other row) = absurd (other after close)

pub some_parts : (tokens rest : List Lexeme) (args : SpokenList) → NotFirst (sign (codes ")")) tokens → Inside tokens args rest → Row tokens args rest
some_parts _ _ _ none (none_inside tokens rest is) = absurd (none rest is)
some_parts _ _ _ none (some_inside tokens rest args other row) = row

pub record RowParts (tokens : List Lexeme) (args : SpokenList) (rest : List Lexeme) : Type 0 where
  pub a : Spoken
  pub more : SpokenList
  pub between : List Lexeme
  pub is : args ≡ and_spoken a more
  pub whole : Whole 0 tokens a between
  pub behind : Others between more rest

pub row_parts : (tokens rest : List Lexeme) (args : SpokenList) → Row tokens args rest → RowParts tokens args rest
row_parts _ _ _ (one tokens between rest a more whole on) = record { a = a; more = more; between = between; is = refl; whole = whole; behind = on }

pub closed_parts : (tokens after rest : List Lexeme) (args : SpokenList) → tokens ≡ sign (codes ")") ∷ after → Others tokens args rest → SameList no_spoken args after rest
closed_parts _ after _ _ close (closed tokens rest is) = (refl, behind (sign (codes ")")) tokens after rest close is)
closed_parts _ after _ _ close (others tokens x rest args is row) = absurd (other_sign 41 44 tokens after x (λ e. omega (arith, e)) close is)

pub others_parts : (tokens after rest : List Lexeme) (args : SpokenList) → tokens ≡ sign (codes ",") ∷ after → Others tokens args rest → Row after args rest
others_parts _ after _ _ comma (closed tokens rest is) = absurd (other_sign 44 41 tokens after rest (λ e. omega (arith, e)) comma is)
others_parts _ after _ _ comma (others tokens x rest args is row) = let same : after ≡ x = behind (sign (codes ",")) tokens after x comma is in rw same row
