-- Tokens begin with one whole expression of a level at most.
use Rattle.std.proofs.Common.{◌≡◌, ℕ, suc, List, ◌∷◌, codes, sym, ap, ap₂, ◌∙◌}
use Rattle.spec_text.specs.Lexemes.{Lexeme, word, sign}
use Rattle.expr_read.specs.Spoken.{Spoken, SpokenList, pair, binary, if_then, applied, grouped, and_spoken}
use Rattle.expr_read.specs.within.Wholes.{with_prefix, Whole, loosest, chained, prefixed, primary, Loosest, conditional, no_conditional, Goes, ends, goes, Prefixed, behind_prefix, no_prefix, Primary, a_leaf, a_group, named, Named, alone, paired, called, Inside, none_inside, some_inside, Row, one, Others, closed, others}
use Rattle.expr_read.proofs.Glyphs.{same_rest}
use Rattle.expr_read.proofs.WholeParts.{Same, SameList, loosest_at, prefixed_at, primary_at, chain_at, if_parts, no_if_parts, goes_end, goes_step, prefix_parts, no_prefix_parts, leaf_parts, group_parts, named_parts, alone_parts, pair_parts, call_parts, none_parts, some_parts, row_parts, closed_parts, others_parts}

-- the same parts make the same whole
same_if : (c c2 a a2 b b2 f : Spoken) → c ≡ c2 → a ≡ a2 → b ≡ b2 → f ≡ if_then c2 a2 b2 → if_then c a b ≡ f
same_if c c2 a a2 b b2 f test first second is = rw (test, first, second) (sym is)

one_pair : (v w : List ℕ) (rest more : List Lexeme) → word v ∷ rest ≡ word w ∷ more → (v ≡ w) × (rest ≡ more)
one_pair v w rest more both = (cc, cc)

mutual
  pub one_whole : (p : ℕ) (tokens rest more : List Lexeme) (e f : Spoken) → Whole p tokens e rest → Whole p tokens f more → Same e f rest more
  one_whole _ _ _ more _ f (loosest p tokens rest e zero is) it = one_loosest tokens rest more e f is (loosest_at p tokens more f zero it)
  one_whole _ _ _ more _ f (chained p tokens between rest a e some few is on) it =
      let its = chain_at p tokens more f some few it in
      let same = one_whole (suc p) tokens between its.between a its.left is its.is in
      one_goes p a between rest more e f on (rw (same.0, same.1) its.more)
  one_whole _ _ _ more _ f (prefixed p tokens rest e six is) it = one_prefixed tokens rest more e f is (prefixed_at p tokens more f six it)
  one_whole _ _ _ more _ f (primary p tokens rest e seven is) it = one_primary tokens rest more e f is (primary_at p tokens more f seven it)

  one_loosest : (tokens rest more : List Lexeme) (e f : Spoken) → Loosest tokens e rest → Loosest tokens f more → Same e f rest more
  one_loosest _ _ more _ f (conditional tokens x y z rest c a b at test first second) it =
      let its = if_parts tokens x more f at it in
      let same = one_whole 0 x (word (codes "then") ∷ y) (word (codes "then") ∷ its.after_then) c its.c test its.test in
      let y_is = same_rest _ _ y its.after_then same.1 in
      let its_first = its.first in
      let same_first = one_whole 0 y (word (codes "else") ∷ z) (word (codes "else") ∷ its.after_else) a its.a first (rw y_is its_first) in
      let z_is = same_rest _ _ z its.after_else same_first.1 in
      let its_second = its.second in
      let same_second = one_whole 0 z rest more b its.b second (rw z_is its_second) in
      (same_if c its.c a its.a b its.b f same.0 same_first.0 same_second.0 its.is, same_second.1)
  one_loosest _ _ more _ f (no_conditional tokens rest e none is) it = one_whole 1 tokens rest more e f is (no_if_parts tokens more f none it)

  pub one_goes : (p : ℕ) (a : Spoken) (tokens rest more : List Lexeme) (e f : Spoken) → Goes p a tokens e rest → Goes p a tokens f more → Same e f rest more
  one_goes _ _ _ _ more _ f (ends p a tokens stops) it = goes_end p a f tokens more stops it
  one_goes _ _ _ _ more _ f (goes o p a b e tokens after between rest at is right single on) it =
      let its = goes_step o p a f tokens after more at is it in
      let same = one_whole (suc p) after between its.between b its.b right its.right in
      let its_more = its.more in
      one_goes p (binary o a b) between rest more e f on (rw (same.0, same.1) its_more)

  one_prefixed : (tokens rest more : List Lexeme) (e f : Spoken) → Prefixed tokens e rest → Prefixed tokens f more → Same e f rest more
  one_prefixed _ _ more _ f (behind_prefix s tokens after rest a is whole) it =
      let its = prefix_parts s tokens after more f is it in
      let same = one_whole 6 after rest more a its.a whole its.whole in
      (ap (with_prefix s) same.0 ∙ sym its.is, same.1)
  one_prefixed _ _ more _ f (no_prefix tokens rest e none whole) it = one_whole 7 tokens rest more e f whole (no_prefix_parts tokens more f none it)

  one_primary : (tokens rest more : List Lexeme) (e f : Spoken) → Primary tokens e rest → Primary tokens f more → Same e f rest more
  one_primary _ _ more _ f (a_leaf tokens rest e is) it = leaf_parts tokens rest more e f is it
  one_primary _ _ more _ f (a_group tokens after rest a at whole) it =
      let its = group_parts tokens after more f at it in
      let same = one_whole 0 after (sign (codes ")") ∷ rest) (sign (codes ")") ∷ more) a its.a whole its.whole in
      (ap grouped same.0 ∙ sym its.is, same_rest _ _ rest more same.1)
  one_primary _ _ more _ f (named w tokens behind rest e ok at is) it = one_named w behind rest more e f is (named_parts w tokens behind more f ok at it)

  one_named : (w : List ℕ) (tokens rest more : List Lexeme) (e f : Spoken) → Named w tokens e rest → Named w tokens f more → Same e f rest more
  one_named _ _ _ more _ f (alone w tokens no_dot no_open) it = alone_parts w tokens more f no_dot no_open it
  one_named _ _ _ more _ f (paired w v tokens rest ok is) it =
      let its = pair_parts w tokens (word v ∷ rest) more f is it in
      let same = one_pair v its.v rest more its.at in
      (ap (pair w) same.0 ∙ sym its.is, same.1)
  one_named _ _ _ more _ f (called w tokens after rest args is inside) it =
      let its = call_parts w tokens after more f is it in
      let same = one_inside after rest more args its.args inside its.inside in
      (ap (applied w) same.0 ∙ sym its.is, same.1)

  pub one_inside : (tokens rest more : List Lexeme) (e f : SpokenList) → Inside tokens e rest → Inside tokens f more → SameList e f rest more
  one_inside _ _ more _ f (none_inside tokens rest is) it = none_parts tokens rest more f is it
  one_inside _ _ more _ f (some_inside tokens rest args none row) it = one_row tokens rest more args f row (some_parts tokens more f none it)

  pub one_row : (tokens rest more : List Lexeme) (e f : SpokenList) → Row tokens e rest → Row tokens f more → SameList e f rest more
  one_row _ _ more _ f (one tokens between rest a args whole on) it =
      let its = row_parts tokens more f it in
      let same = one_whole 0 tokens between its.between a its.a whole its.whole in
      let its_behind = its.behind in
      let same_others = one_others between rest more args its.more on (rw same.1 its_behind) in
      (ap₂ and_spoken same.0 same_others.0 ∙ sym its.is, same_others.1)

  one_others : (tokens rest more : List Lexeme) (e f : SpokenList) → Others tokens e rest → Others tokens f more → SameList e f rest more
  one_others _ _ more _ f (closed tokens rest is) it = closed_parts tokens rest more f is it
  one_others _ _ more _ f (others tokens after rest args is row) it = one_row after rest more args f row (others_parts tokens after more f is it)
