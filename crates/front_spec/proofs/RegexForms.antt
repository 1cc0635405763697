-- An expression as it is defined is one as the reader goes over it, and the other way round.
use Rattle.std.proofs.Common.{ℕ, zero, suc, ◌≤◌, List, [], ◌∷◌, map, refl, sym, subst, codes, arith}
use Rattle.rex_model.specs.Language.{Re}
use Rattle.rex_model.specs.Meaning.{sequence_of, alternative_of}
use Rattle.spec_text.specs.Lexemes.{Lexeme, sign}
use Rattle.section_frame.specs.Parts.{Some1, last_one, one_more, ListBy, last, next, first as by_first, second as by_second, Reading, NoReading}
use Rattle.section_frame.proofs.One.{One}
use Rattle.front_spec.specs.Regexes.{Written, Atom, a_leaf, a_group, Piece, without_sign, before_sign, Row, last_piece, piece_before, Rows, last_row, row_before, IsRegex, EndsRegex, deepest, meaning_of, joined, row_of, choice_of, group}
use Rattle.front_spec.specs.RegexSteps.{Signed, plain, signed, PieceOver, RowOver, AtomIn, RegexIn}
use Rattle.front_spec.proofs.OneRegex.{one_regex}

grows : (whole : List Re → Re) (rs : List Re) (n : ℕ) → n ≤ (joined whole rs n).nesting
grows whole [] n = omega arith
grows whole (r ∷ []) n = omega arith
grows whole (r ∷ s ∷ rs) n = omega arith

-- with so many levels at most no more parentheses stand round one another
mutual
  atom_in : (depth : ℕ) (tokens rest : List Lexeme) (w : Written) → Atom tokens w rest → w.nesting ≤ depth → depth ≤ 64 → AtomIn depth tokens w rest
  atom_in zero _ _ _ (a_leaf tokens rest w is) fits small = is
  atom_in (suc depth) _ _ _ (a_leaf tokens rest w is) fits small = by_first tokens rest w is
  atom_in zero _ _ _ (a_group tokens inner after rest rows opens are end) fits small = absurd (omega (arith, fits))
  atom_in (suc depth) _ _ _ (a_group tokens inner after rest rows opens are end) fits small =
      let less = grows alternative_of (map meaning_of rows) (deepest rows) in
      by_second tokens rest (group (choice_of rows)) (record {
        v = choice_of rows;
        is = record {
          after = inner;
          first = opens;
          is = record {
            after = after;
            is = record {
              is = record { v = rows; is = rows_in depth inner after rows are (omega (arith, less, fits)) (omega (arith, small)); said = refl };
              within = omega (arith, fits, small);
            };
            end = end;
          };
        };
        said = refl;
      })

  piece_in : (depth : ℕ) (tokens rest : List Lexeme) (w : Written) → Piece tokens w rest → w.nesting ≤ depth → depth ≤ 64
      → Signed (AtomIn depth) tokens w rest
  piece_in depth _ _ _ (without_sign tokens rest w is) fits small = plain tokens rest w (atom_in depth tokens rest w is fits small)
  piece_in depth _ _ _ (before_sign s tokens after rest w is at) fits small =
      signed s tokens after rest w (piece_in depth tokens after w is (omega (arith, fits)) small) at

  row_in : (depth : ℕ) (tokens rest : List Lexeme) (ws : List Written) → Row tokens ws rest → deepest ws ≤ depth → depth ≤ 64
      → Some1 (PieceOver (AtomIn depth)) tokens ws rest
  row_in depth _ _ _ (last_piece tokens rest w is) fits small =
      last_one tokens rest w (record { is = piece_in depth tokens rest w is (omega (arith, fits)) small; within = omega (arith, fits, small) })
  row_in depth _ _ _ (piece_before tokens after rest w ws is more) fits small =
      one_more tokens after rest w ws
      (record { is = piece_in depth tokens after w is (omega (arith, fits)) small; within = omega (arith, fits, small) })
      (row_in depth after rest ws more (omega (arith, fits)) small)

  rows_in : (depth : ℕ) (tokens rest : List Lexeme) (rows : List Written) → Rows tokens rows rest → deepest rows ≤ depth → depth ≤ 64
      → ListBy (sign (codes "|")) (RowOver (AtomIn depth)) tokens rows rest
  rows_in depth _ _ _ (last_row tokens rest pieces is) fits small =
      let less = grows sequence_of (map meaning_of pieces) (deepest pieces) in
      last tokens rest (row_of pieces)
      (record { v = pieces; is = row_in depth tokens rest pieces is (omega (arith, less, fits)) small; said = refl })
  rows_in depth _ _ _ (row_before tokens after rest pieces rows is more) fits small =
      let less = grows sequence_of (map meaning_of pieces) (deepest pieces) in
      next tokens after rest (row_of pieces) rows
      (record { v = pieces; is = row_in depth tokens (sign (codes "|") ∷ after) pieces is (omega (arith, less, fits)) small; said = refl })
      (rows_in depth after rest rows more (omega (arith, fits)) small)

-- without the count it is an expression too
module _ (depth : ℕ) (atom : (tokens rest : List Lexeme) (w : Written) → AtomIn depth tokens w rest → Atom tokens w rest) where
  of_piece : (tokens rest : List Lexeme) (w : Written) → Signed (AtomIn depth) tokens w rest → Piece tokens w rest
  of_piece _ _ _ (plain tokens rest w is) = without_sign tokens rest w (atom tokens rest w is)
  of_piece _ _ _ (signed s tokens after rest w is at) = before_sign s tokens after rest w (of_piece tokens after w is) at

  of_row : (tokens rest : List Lexeme) (ws : List Written) → Some1 (PieceOver (AtomIn depth)) tokens ws rest → Row tokens ws rest
  of_row _ _ _ (last_one tokens rest w is) = last_piece tokens rest w (of_piece tokens rest w is.is)
  of_row _ _ _ (one_more tokens after rest w ws is more) = piece_before tokens after rest w ws (of_piece tokens after w is.is) (of_row after rest ws more)

  of_rows : (tokens rest : List Lexeme) (rows : List Written) → ListBy (sign (codes "|")) (RowOver (AtomIn depth)) tokens rows rest → Rows tokens rows rest
  of_rows _ _ _ (last tokens rest w is) =
      subst (λ row. Rows tokens (row ∷ []) rest) (sym is.said) (last_row tokens rest is.v (of_row tokens rest is.v is.is))
  of_rows _ _ _ (next tokens after rest w ws is more) =
      subst (λ row. Rows tokens (row ∷ ws) rest) (sym is.said)
      (row_before tokens after rest is.v ws (of_row tokens (sign (codes "|") ∷ after) is.v is.is) (of_rows after rest ws more))

of_atom : (depth : ℕ) (tokens rest : List Lexeme) (w : Written) → AtomIn depth tokens w rest → Atom tokens w rest
of_atom zero tokens rest w is = a_leaf tokens rest w is
of_atom (suc depth) tokens _ _ (by_first _ rest w is) = a_leaf tokens rest w is
of_atom (suc depth) tokens _ _ (by_second _ rest w is) =
    let inner = is.is.is.is.is in
    let rows = of_rows depth (of_atom depth) is.is.after is.is.is.after inner.v inner.is in
    subst (λ x. Atom tokens x rest) (sym is.said)
    (subst (λ x. Atom tokens (group x) rest) (sym inner.said) (a_group tokens is.is.after is.is.is.after rest inner.v is.is.first rows is.is.is.end))

module _ (tokens rest : List Lexeme) (w : Written) where
  pub counted : IsRegex tokens w rest → RegexIn 64 tokens w rest
  counted is =
      let less = grows alternative_of (map meaning_of is.rows) (deepest is.rows) in
      let whole : (choice_of is.rows).nesting ≤ 64 = subst (λ x. x.nesting ≤ 64) is.is is.within in
      record {
        is = record { v = is.rows; is = rows_in 64 tokens rest is.rows is.are (omega (arith, less, whole)) (omega arith); said = is.is };
        within = is.within;
      }

  pub uncounted : RegexIn 64 tokens w rest → IsRegex tokens w rest
  uncounted is = record {
    rows = is.is.v;
    are = of_rows 64 (of_atom 64) tokens rest is.is.v is.is.is;
    is = is.is.said;
    within = is.within;
  }

-- so tokens begin with one expression at most, and one that is read is the only one
pub one_expression : One IsRegex EndsRegex
one_expression tokens rest more v w f g is is2 =
    one_regex 64 tokens rest more v w f g (counted tokens rest v is) (counted tokens more w is2)

pub expression_read : (tokens rest : List Lexeme) (w : Written) → Reading (RegexIn 64) EndsRegex tokens w rest → Reading IsRegex EndsRegex tokens w rest
expression_read tokens rest w reading = record {
  is = uncounted tokens rest w reading.is;
  only = λ v more follows is. reading.only v more follows (counted tokens more v is);
}

pub no_expression : (tokens : List Lexeme) → NoReading (RegexIn 64) EndsRegex tokens → NoReading IsRegex EndsRegex tokens
no_expression tokens none w rest follows is = none w rest follows (counted tokens rest w is)
