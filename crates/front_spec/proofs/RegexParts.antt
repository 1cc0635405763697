-- How regular expressions are read, from the parts that they are made of.
use Rattle.std.proofs.Common.{◌≡◌, ℕ, zero, suc, ◌-◌, ◌<◌, ◌≤◌, ◌⊎◌, inl, inr, max, List, [], ◌∷◌, ◌++◌, length, map, refl, sym, ap, ◌∙◌, codes, arith}
use Rattle.std.proofs.lemmas.List.{map-append, length-map}
use Rattle.rex_model.specs.Meaning.{meaning, sequence_of}
use Rattle.rex_model.specs.declared.regex.Regex.{Regex}
use Rattle.spec_text.specs.Seen.{seen}
use Rattle.spec_text.specs.declared.view.Token.{Token}
use Rattle.spec_text.specs.Lexemes.{Lexeme, text, class as byte_set, sign}
use Rattle.section_frame.specs.Parts.{Part, Fixed, Behind, Before, first as by_first, second as by_second, Anything, Reading, NoReading}
use Rattle.front_spec.specs.Regexes.{Written, Leaf, a_string, a_class, a_dot, Sign, a_star, a_plus, a_question, glyph_of, with_sign, deepest, meaning_of, joined, row_of, group, NotSign, EndsRow, EndsRegex}
use Rattle.front_spec.specs.RegexSteps.{Signed, plain, signed, PieceOver, RowOver, AtomIn, RegexIn}
use Rattle.section_frame.proofs.Readings.{behind, before, none_behind, none_before, not_behind, not_before, SomeSoFar, some_first, some_more, some_none, some_end, ListSoFar, list_first, list_more, list_none, list_none_first}

-- two signs of one byte
pub same_code : (a b : ℕ) (rest more : List Lexeme) → sign (a ∷ []) ∷ rest ≡ sign (b ∷ []) ∷ more → a ≡ b
same_code a b rest more e = cc

one_glyph : (s t : Sign) (rest more : List Lexeme) → glyph_of s ∷ rest ≡ glyph_of t ∷ more → s ≡ t
one_glyph a_star a_star rest more e = refl
one_glyph a_plus a_plus rest more e = refl
one_glyph a_question a_question rest more e = refl
one_glyph a_star a_plus rest more e = absurd (let c = same_code 42 43 rest more e in omega (arith, c))
one_glyph a_star a_question rest more e = absurd (let c = same_code 42 63 rest more e in omega (arith, c))
one_glyph a_plus a_star rest more e = absurd (let c = same_code 43 42 rest more e in omega (arith, c))
one_glyph a_plus a_question rest more e = absurd (let c = same_code 43 63 rest more e in omega (arith, c))
one_glyph a_question a_star rest more e = absurd (let c = same_code 63 42 rest more e in omega (arith, c))
one_glyph a_question a_plus rest more e = absurd (let c = same_code 63 43 rest more e in omega (arith, c))

pub no_glyph : (code : ℕ) (rest : List Lexeme) → (code ≡ 42 → ⊥) → (code ≡ 43 → ⊥) → (code ≡ 63 → ⊥) → NotSign (sign (code ∷ []) ∷ rest)
no_glyph code rest one two three = λ s more e. by s more e
  where
    by : (s : Sign) (more : List Lexeme) → Fixed (glyph_of s) (sign (code ∷ []) ∷ rest) more → ⊥
    by a_star more e = one (same_code code 42 rest more e)
    by a_plus more e = two (same_code code 43 rest more e)
    by a_question more e = three (same_code code 63 rest more e)

-- a leaf is read in one way
pub one_leaf : (tokens rest more : List Lexeme) (v w : Written) → Leaf tokens v rest → Leaf tokens w more → (w ≡ v) × (more ≡ rest)
one_leaf _ rest _ _ _ (a_string _ said) (a_string _ _) = (refl, refl)
one_leaf _ rest _ _ _ (a_string _ said) (a_dot _ _ is) = (cc)
one_leaf _ rest _ _ _ (a_class _ set) (a_class _ _) = (refl, refl)
one_leaf _ rest _ _ _ (a_class _ set) (a_dot _ _ is) = (cc)
one_leaf _ rest _ _ _ (a_dot _ _ is) (a_string _ said) = (cc)
one_leaf _ rest _ _ _ (a_dot _ _ is) (a_class _ set) = (cc)
one_leaf _ rest _ _ _ (a_dot _ _ is) (a_dot _ _ same) = (refl, refl)

pub no_leaf_at : (code : ℕ) (rest : List Lexeme) → (code ≡ 46 → ⊥) → (w : Written) (more : List Lexeme) → Leaf (sign (code ∷ []) ∷ rest) w more → ⊥
no_leaf_at code rest other _ _ (a_dot _ _ is) = other (let c : code ≡ 46 = (let e : sign (code ∷ []) ≡ sign (46 ∷ []) = is in cc) in c)

leaf_no_sign : (tokens rest : List Lexeme) (w : Written) → Leaf tokens w rest → NotSign tokens
leaf_no_sign _ rest _ (a_string _ said) = λ s more e. by s more e
  where
    by : (s : Sign) (more : List Lexeme) → Fixed (glyph_of s) (text said ∷ rest) more → ⊥
    by a_star more e = cc
    by a_plus more e = cc
    by a_question more e = cc
leaf_no_sign _ rest _ (a_class _ set) = λ s more e. by s more e
  where
    by : (s : Sign) (more : List Lexeme) → Fixed (glyph_of s) (byte_set set ∷ rest) more → ⊥
    by a_star more e = cc
    by a_plus more e = cc
    by a_question more e = cc
leaf_no_sign _ rest _ (a_dot dot _ is) = rw is (no_glyph 46 rest (λ e. omega (arith, e)) (λ e. omega (arith, e)) (λ e. omega (arith, e)))

-- an atom
pub leaf_atom : (depth : ℕ) (tokens rest : List Lexeme) (w : Written) → Leaf tokens w rest → Reading (AtomIn depth) Anything tokens w rest
leaf_atom zero tokens rest w at = record { is = at; only = λ v more follows is. one_leaf tokens rest more w v at is }
leaf_atom (suc depth) tokens rest w at = record { is = by_first tokens rest w at; only = λ v more follows is. by v more is }
  where
    by : (v : Written) (more : List Lexeme) → AtomIn (suc depth) tokens v more → (v ≡ w) × (more ≡ rest)
    by _ _ (by_first _ more v is) = one_leaf tokens rest more w v at is
    by _ _ (by_second _ more v is) = absurd (no_leaf_at 40 is.is.after (λ e. omega (arith, e)) w rest (rw is.is.first at at))

pub no_atom_zero : (tokens : List Lexeme) → ((w : Written) (rest : List Lexeme) → Leaf tokens w rest → ⊥) → NoReading (AtomIn 0) Anything tokens
no_atom_zero tokens none w rest follows is = none w rest is

pub closes : (rest : List Lexeme) → EndsRegex (sign (codes ")") ∷ rest)
closes rest = record {
  row = record {
    no_sign = no_glyph 41 rest (λ e. omega (arith, e)) (λ e. omega (arith, e)) (λ e. omega (arith, e));
    no_leaf = no_leaf_at 41 rest (λ e. omega (arith, e));
    no_open = λ more e. let c = same_code 41 40 rest more e in omega (arith, c);
  };
  no_bar = λ more e. let c = same_code 41 124 rest more e in omega (arith, c);
}

abbrev pub Inner : ℕ → Part Written
Inner depth = Before (RegexIn depth) (sign (codes ")"))

pub group_atom : (depth : ℕ) (tokens inner end rest : List Lexeme) (w : Written) → Fixed (sign (codes "(")) tokens inner → Reading (RegexIn depth) EndsRegex inner w end
    → Fixed (sign (codes ")")) end rest → Reading (AtomIn (suc depth)) Anything tokens (group w) rest
group_atom depth tokens inner end rest w at reading close =
    let whole = behind (Inner depth) Anything (sign (codes "(")) tokens inner rest w at
    (before (RegexIn depth) EndsRegex Anything (sign (codes ")")) closes inner end rest w reading close) in
    record {
      is = by_second tokens rest (group w) (record { v = w; is = whole.is; said = refl });
      only = λ m after follows is. by whole m after is;
    }
  where
    by : Reading (Behind (sign (codes "(")) (Inner depth)) Anything tokens w rest → (m : Written) (after : List Lexeme) → AtomIn (suc depth) tokens m after → (m ≡ group w) × (after ≡ rest)
    by whole _ _ (by_first _ after m is) = absurd (no_leaf_at 40 inner (λ e. omega (arith, e)) m after (rw at at is))
    by whole _ _ (by_second _ after m is) = let same = whole.only is.v after tt is.is in (is.said ∙ ap group same.0, same.1)

module _ (depth : ℕ) (tokens : List Lexeme) (no_leaf : (w : Written) (rest : List Lexeme) → Leaf tokens w rest → ⊥) where
  no_group : NoReading (Behind (sign (codes "(")) (Inner depth)) Anything tokens → NoReading (AtomIn (suc depth)) Anything tokens
  no_group absent w rest follows (by_first _ _ _ is) = no_leaf w rest is
  no_group absent w rest follows (by_second _ _ _ is) = absent is.v rest tt is.is

  pub no_open : ((inner : List Lexeme) → Fixed (sign (codes "(")) tokens inner → ⊥) → NoReading (AtomIn (suc depth)) Anything tokens
  no_open closed = no_group (not_behind (Inner depth) Anything (sign (codes "(")) tokens closed)

  pub no_inner : (inner : List Lexeme) → Fixed (sign (codes "(")) tokens inner → NoReading (RegexIn depth) EndsRegex inner → NoReading (AtomIn (suc depth)) Anything tokens
  no_inner inner at absent =
      no_group (none_behind (Inner depth) Anything (sign (codes "(")) tokens inner at (none_before (RegexIn depth) EndsRegex Anything (sign (codes ")")) closes inner absent))

  pub no_close : (inner end : List Lexeme) (w : Written) → Fixed (sign (codes "(")) tokens inner → Reading (RegexIn depth) EndsRegex inner w end
      → ((rest : List Lexeme) → Fixed (sign (codes ")")) end rest → ⊥) → NoReading (AtomIn (suc depth)) Anything tokens
  no_close inner end w at reading unclosed =
      no_group (none_behind (Inner depth) Anything (sign (codes "(")) tokens inner at (not_before (RegexIn depth) EndsRegex Anything (sign (codes ")")) closes inner end w reading unclosed))

pub some_depth : (depth : ℕ) → (depth ≡ 0 → ⊥) → depth ≡ suc (depth - 1)
some_depth depth some = omega (arith, some)

-- signs behind what was read
pub data Extends (w : Written) (rest : List Lexeme) : Written → List Lexeme → Type 0 where
  no_further : Extends w rest w rest
  further : (s : Sign) (v : Written) (after more : List Lexeme) → Extends w rest v after → Fixed (glyph_of s) after more → Extends w rest (with_sign s v) more

-- the piece so far
pub record PieceSoFar (depth : ℕ) (tokens : List Lexeme) (w : Written) (rest : List Lexeme) : Type 0 where
  pub is : Signed (AtomIn depth) tokens w rest
  pub only : (v : Written) (more : List Lexeme) → NotSign more → Signed (AtomIn depth) tokens v more → Extends w rest v more

pub piece_first : (depth : ℕ) (tokens rest : List Lexeme) (w : Written) → Reading (AtomIn depth) Anything tokens w rest → PieceSoFar depth tokens w rest
piece_first depth tokens rest w reading = record { is = plain tokens rest w reading.is; only = λ v more follows is. by v more is }
  where
    same : (v : Written) (more : List Lexeme) → v ≡ w → more ≡ rest → Extends w rest v more
    same v more e f = rw (e, f) no_further

    by : (v : Written) (more : List Lexeme) → Signed (AtomIn depth) tokens v more → Extends w rest v more
    by _ _ (plain _ more v is) = let e = reading.only v more tt is in same v more e.0 e.1
    by _ _ (signed s _ after more v is at) = further s v after more (by v after is) at

-- what goes on behind a sign goes on behind it, or ends before it
behind_sign : (s : Sign) (w : Written) (rest after : List Lexeme) → Fixed (glyph_of s) rest after → (v : Written) (more : List Lexeme) → Extends w rest v more
    → ((v ≡ w) × (more ≡ rest)) ⊎ Extends (with_sign s w) after v more
behind_sign s w rest after at _ _ no_further = inl (refl, refl)
behind_sign s w rest after at _ _ (further t v between more is to) = on (behind_sign s w rest after at v between is)
  where
    on : ((v ≡ w) × (between ≡ rest)) ⊎ Extends (with_sign s w) after v between → ((with_sign t v ≡ w) × (more ≡ rest)) ⊎ Extends (with_sign s w) after (with_sign t v) more
    on (inr goes) = inr (further t v between more goes to)
    on (inl same) =
        let e : glyph_of s ∷ after ≡ glyph_of t ∷ more = sym at ∙ sym same.1 ∙ to in
        let tail : after ≡ more = cc in
        inr (rw (same.0, ← tail, ← (one_glyph s t after more e)) no_further)

pub piece_more : (depth : ℕ) (tokens rest after : List Lexeme) (w v : Written) (s : Sign) → PieceSoFar depth tokens w rest → Fixed (glyph_of s) rest after → v ≡ with_sign s w
    → PieceSoFar depth tokens v after
piece_more depth tokens rest after w v s so at is_v = rw is_v (record {
  is = signed s tokens rest after w so.is at;
  only = λ u more follows is. elim (behind_sign s w rest after at u more (so.only u more follows is)) [
    | inl same ↦ absurd (follows s after (same.1 ∙ at))
    | inr goes ↦ goes
  ];
})

pub ends_here : (w : Written) (rest : List Lexeme) → NotSign rest → (v : Written) (more : List Lexeme) → Extends w rest v more → (v ≡ w) × (more ≡ rest)
ends_here w rest stops _ _ no_further = (refl, refl)
ends_here w rest stops _ _ (further t v between more is to) = absurd (stops t more (sym (ends_here w rest stops v between is).1 ∙ to))

not_less : (w : Written) (rest : List Lexeme) (v : Written) (more : List Lexeme) → Extends w rest v more → w.nesting ≤ v.nesting
not_less w rest _ _ no_further = omega arith
not_less w rest _ _ (further t v between more is to) = let less = not_less w rest v between is in omega (arith, less)

pub piece_end : (depth : ℕ) (tokens rest : List Lexeme) (w : Written) → PieceSoFar depth tokens w rest → NotSign rest → w.nesting ≤ 64
    → Reading (PieceOver (AtomIn depth)) NotSign tokens w rest
piece_end depth tokens rest w so stops within = record {
  is = record { is = so.is; within = within };
  only = λ v more follows is. ends_here w rest stops v more (so.only v more follows is.is);
}

pub piece_deep : (depth : ℕ) (tokens rest : List Lexeme) (w : Written) → PieceSoFar depth tokens w rest → (w.nesting ≤ 64 → ⊥)
    → NoReading (PieceOver (AtomIn depth)) NotSign tokens
piece_deep depth tokens rest w so deep v more follows is =
    let less = not_less w rest v more (so.only v more follows is.is) in
    let within = is.within in
    deep (omega (arith, less, within))

pub piece_deeper : (depth : ℕ) (tokens rest after : List Lexeme) (w : Written) (s : Sign) → PieceSoFar depth tokens w rest → Fixed (glyph_of s) rest after → 64 ≤ w.nesting
    → NoReading (PieceOver (AtomIn depth)) NotSign tokens
piece_deeper depth tokens rest after w s so at deep =
    piece_deep depth tokens after (with_sign s w) (piece_more depth tokens rest after w (with_sign s w) s so at refl) (λ within. omega (arith, within, deep))

pub no_piece : (depth : ℕ) (tokens : List Lexeme) → NoReading (AtomIn depth) Anything tokens → NoReading (PieceOver (AtomIn depth)) NotSign tokens
no_piece depth tokens none v more follows is = by v more is.is
  where
    by : (v : Written) (more : List Lexeme) → Signed (AtomIn depth) tokens v more → ⊥
    by _ _ (plain _ more v is) = none v more tt is
    by _ _ (signed s _ after more v is at) = by v after is

-- what a piece begins with
atom_no_sign : (depth : ℕ) (tokens rest : List Lexeme) (w : Written) → AtomIn depth tokens w rest → NotSign tokens
atom_no_sign zero tokens rest w is = leaf_no_sign tokens rest w is
atom_no_sign (suc depth) tokens _ _ (by_first _ rest w is) = leaf_no_sign tokens rest w is
atom_no_sign (suc depth) tokens _ _ (by_second _ rest w is) = rw is.is.first (no_glyph 40 is.is.after (λ e. omega (arith, e)) (λ e. omega (arith, e)) (λ e. omega (arith, e)))

atom_stops : (depth : ℕ) (tokens rest : List Lexeme) (w : Written) → EndsRow tokens → AtomIn depth tokens w rest → ⊥
atom_stops zero tokens rest w ends is = ends.no_leaf w rest is
atom_stops (suc depth) tokens _ _ ends (by_first _ rest w is) = ends.no_leaf w rest is
atom_stops (suc depth) tokens _ _ ends (by_second _ rest w is) = ends.no_open is.is.after is.is.first

record HasAtom (depth : ℕ) (tokens : List Lexeme) : Type 0 where
  v : Written
  more : List Lexeme
  is : AtomIn depth tokens v more

signed_atom : (depth : ℕ) (tokens rest : List Lexeme) (w : Written) → Signed (AtomIn depth) tokens w rest → HasAtom depth tokens
signed_atom depth _ _ _ (plain tokens rest w is) = record { v = w; more = rest; is = is }
signed_atom depth _ _ _ (signed s tokens after rest w is at) = signed_atom depth tokens after w is

pub piece_no_sign : (depth : ℕ) (tokens rest : List Lexeme) (w : Written) → PieceOver (AtomIn depth) tokens w rest → NotSign tokens
piece_no_sign depth tokens rest w is = let a = signed_atom depth tokens rest w is.is in atom_no_sign depth tokens a.more a.v a.is

pub piece_stops : (depth : ℕ) (tokens rest : List Lexeme) (w : Written) → EndsRow tokens → PieceOver (AtomIn depth) tokens w rest → ⊥
piece_stops depth tokens rest w ends is = let a = signed_atom depth tokens rest w is.is in atom_stops depth tokens a.more a.v ends a.is

-- the pieces so far
abbrev pub SomePieces : ℕ → List Lexeme → List Lexeme → List Written → Type 0
SomePieces depth = SomeSoFar (PieceOver (AtomIn depth)) NotSign EndsRow (piece_no_sign depth) (λ rest ends. ends.no_sign) (piece_stops depth)

-- parts of an arena, and their greatest nesting, are these
pub record AreParts (written : List Written) (parts : List Regex) (greatest : ℕ) : Type 0 where
  pub meanings : map meaning_of written ≡ map meaning parts
  pub greatest_is : deepest written ≡ greatest

pub record RowSoFar (depth : ℕ) (tokens rest : List Lexeme) (parts : List Regex) (greatest : ℕ) : Type 0 where
  pub written : List Written
  pub are : AreParts written parts greatest
  pub so : SomePieces depth tokens rest written

one_part : (w : Written) (parts : List Regex) (part : Regex) (greatest : ℕ) → parts ≡ part ∷ [] → w.re ≡ meaning part → greatest ≡ w.nesting → AreParts (w ∷ []) parts greatest
one_part w parts part greatest are is at = record { meanings = rw (are, is) refl; greatest_is = omega (arith, at) }

deepest-append : (ws : List Written) (w : Written) → deepest (ws ++ w ∷ []) ≡ max (deepest ws) w.nesting
deepest-append [] w = omega arith
deepest-append (v ∷ ws) w = let e = deepest-append ws w in omega (arith, e)

more_parts : (ws : List Written) (w : Written) (parts new : List Regex) (part : Regex) (greatest : ℕ) → AreParts ws parts greatest → new ≡ parts ++ part ∷ [] → w.re ≡ meaning part
    → AreParts (ws ++ w ∷ []) new (max greatest w.nesting)
more_parts ws w parts new part greatest so are is = record {
  meanings = rw (are, map-append meaning_of ws (w ∷ []), map-append meaning parts (part ∷ []), so.meanings, is) refl;
  greatest_is = let e = so.greatest_is in rw (← e) (deepest-append ws w);
}

module _ (depth : ℕ) (tokens rest after : List Lexeme) (old new : List Regex) (part : Regex) (greatest nesting : ℕ) where
  pub row_first : old ≡ [] → new ≡ old ++ part ∷ [] → Reading (PieceOver (AtomIn depth)) NotSign tokens (record { re = meaning part; nesting = nesting }) rest
      → RowSoFar depth tokens rest new nesting
  row_first empty are reading =
      let w : Written = record { re = meaning part; nesting = nesting } in
      record {
        written = w ∷ [];
        are = one_part w new part nesting (rw (are, empty) refl) refl refl;
        so = some_first (PieceOver (AtomIn depth)) NotSign EndsRow (piece_no_sign depth) (λ rest ends. ends.no_sign) (piece_stops depth) tokens rest w reading;
      }

  pub row_more : RowSoFar depth tokens rest old greatest → Reading (PieceOver (AtomIn depth)) NotSign rest (record { re = meaning part; nesting = nesting }) after → new ≡ old ++ part ∷ []
      → (most : ℕ) → most ≡ max greatest nesting → RowSoFar depth tokens after new most
  row_more so reading are most is_most = rw is_most (
      let w : Written = record { re = meaning part; nesting = nesting } in
      record {
        written = so.written ++ w ∷ [];
        are = more_parts so.written w old new part greatest so.are are refl;
        so = some_more (PieceOver (AtomIn depth)) NotSign EndsRow (piece_no_sign depth) (λ rest ends. ends.no_sign) (piece_stops depth) tokens rest after so.written w so.so reading;
      })

pub row_end : (depth : ℕ) (tokens rest : List Lexeme) (parts : List Regex) (greatest : ℕ) (w : Written) → RowSoFar depth tokens rest parts greatest
    → NoReading (PieceOver (AtomIn depth)) NotSign rest → w ≡ joined sequence_of (map meaning parts) greatest → Reading (RowOver (AtomIn depth)) EndsRow tokens w rest
row_end depth tokens rest parts greatest w so none is_w =
    let all = some_end (PieceOver (AtomIn depth)) NotSign EndsRow (piece_no_sign depth) (λ rest ends. ends.no_sign) (piece_stops depth) tokens rest so.written so.so none in
    let same : w ≡ row_of so.written = let e = so.are.greatest_is in rw (so.are.meanings, e) is_w in
    record {
      is = record { v = so.written; is = all.is; said = same };
      only = λ v more follows is. let one = all.only is.v more follows is.is in (is.said ∙ ap row_of one.0 ∙ sym same, one.1);
    }

pub no_row : (depth : ℕ) (tokens : List Lexeme) → NoReading (PieceOver (AtomIn depth)) NotSign tokens → NoReading (RowOver (AtomIn depth)) EndsRow tokens
no_row depth tokens none v more follows is =
    some_none (PieceOver (AtomIn depth)) NotSign EndsRow (piece_no_sign depth) (λ rest ends. ends.no_sign) (piece_stops depth) tokens none is.v more follows is.is

-- the alternatives so far
abbrev pub bar : Lexeme
bar = sign (codes "|")

pub bar_ends : (rest : List Lexeme) → EndsRow (bar ∷ rest)
bar_ends rest = record {
  no_sign = no_glyph 124 rest (λ e. omega (arith, e)) (λ e. omega (arith, e)) (λ e. omega (arith, e));
  no_leaf = no_leaf_at 124 rest (λ e. omega (arith, e));
  no_open = λ more e. let c = same_code 124 40 rest more e in omega (arith, c);
}

abbrev pub SomeRows : ℕ → List Lexeme → List Lexeme → List Written → Type 0
SomeRows depth = ListSoFar bar (RowOver (AtomIn depth)) EndsRow EndsRegex bar_ends (λ rest ends. ends.row) (λ rest ends. ends.no_bar rest refl)

pub record RowsSoFar (depth : ℕ) (tokens rest : List Lexeme) (parts : List Regex) (greatest : ℕ) : Type 0 where
  pub written : List Written
  pub are : AreParts written parts greatest
  pub so : SomeRows depth tokens rest written

module _ (depth : ℕ) (tokens rest behind after : List Lexeme) (old new : List Regex) (part : Regex) (greatest nesting : ℕ) where
  pub rows_first : old ≡ [] → new ≡ old ++ part ∷ [] → Reading (RowOver (AtomIn depth)) EndsRow tokens (record { re = meaning part; nesting = nesting }) rest
      → RowsSoFar depth tokens rest new nesting
  rows_first empty are reading =
      let w : Written = record { re = meaning part; nesting = nesting } in
      record {
        written = w ∷ [];
        are = one_part w new part nesting (rw (are, empty) refl) refl refl;
        so = list_first bar (RowOver (AtomIn depth)) EndsRow EndsRegex bar_ends (λ rest ends. ends.row) (λ rest ends. ends.no_bar rest refl) tokens rest w reading;
      }

  pub rows_more : RowsSoFar depth tokens rest old greatest → Fixed bar rest behind → Reading (RowOver (AtomIn depth)) EndsRow behind (record { re = meaning part; nesting = nesting }) after
      → new ≡ old ++ part ∷ [] → (most : ℕ) → most ≡ max greatest nesting → RowsSoFar depth tokens after new most
  rows_more so at reading are most is_most = rw is_most (
      let w : Written = record { re = meaning part; nesting = nesting } in
      record {
        written = so.written ++ w ∷ [];
        are = more_parts so.written w old new part greatest so.are are refl;
        so = list_more bar (RowOver (AtomIn depth)) EndsRow EndsRegex bar_ends (λ rest ends. ends.row) (λ rest ends. ends.no_bar rest refl) tokens rest behind after so.written w so.so at reading;
      })

module _ (depth : ℕ) (tokens rest : List Lexeme) (parts : List Regex) (greatest : ℕ) where
  pub rows_none : (behind : List Lexeme) → RowsSoFar depth tokens rest parts greatest → Fixed bar rest behind → NoReading (RowOver (AtomIn depth)) EndsRow behind
      → NoReading (RegexIn depth) EndsRegex tokens
  rows_none behind so at none v more follows is =
      list_none bar (RowOver (AtomIn depth)) EndsRow EndsRegex bar_ends (λ rest ends. ends.row) (λ rest ends. ends.no_bar rest refl) tokens rest behind so.written so.so at none is.is.v more follows is.is.is

pub no_rows : (depth : ℕ) (tokens : List Lexeme) → NoReading (RowOver (AtomIn depth)) EndsRow tokens → NoReading (RegexIn depth) EndsRegex tokens
no_rows depth tokens none v more follows is =
    list_none_first bar (RowOver (AtomIn depth)) EndsRow EndsRegex bar_ends (λ rest ends. ends.row) (λ rest ends. ends.no_bar rest refl) tokens none is.is.v more follows is.is.is

-- what follows a token is shorter
pub shorter : (tokens rest : List Token) (token : Lexeme) → Fixed token (map seen tokens) (map seen rest) → length rest < length tokens
shorter tokens rest token is =
    let long = ap length is in
    omega (arith, long, length-map tokens seen, length-map rest seen)
