-- Tokens have one reading at most as an expression.
use Rattle.std.proofs.Common.{ℕ, zero, suc, List, refl, sym, ap, ◌∙◌, codes, arith}
use Rattle.spec_text.specs.Lexemes.{Lexeme, sign}
use Rattle.section_frame.specs.Parts.{first as by_first, second as by_second, Anything}
use Rattle.front_spec.specs.Regexes.{Written, with_sign, row_of, choice_of, group, NotSign, EndsRow, EndsRegex}
use Rattle.front_spec.specs.RegexSteps.{Signed, plain, signed, PieceOver, RowOver, AtomIn, RegexIn}
use Rattle.section_frame.proofs.One.{One, one_behind, one_before, one_list, one_some}
use Rattle.front_spec.proofs.RegexParts.{one_leaf, no_leaf_at, closes, Inner, PieceSoFar, piece_first, piece_more, ends_here, piece_no_sign, piece_stops, bar, bar_ends}

module _ (depth : ℕ) (one : One (AtomIn depth) Anything) where
  so_far : (tokens rest : List Lexeme) (w : Written) → Signed (AtomIn depth) tokens w rest → PieceSoFar depth tokens w rest
  so_far _ _ _ (plain tokens rest w is) =
      piece_first depth tokens rest w (record { is = is; only = λ v more f its. let same = one tokens more rest v w tt tt its is in (same.0, same.1) })
  so_far _ _ _ (signed s tokens after rest w is at) = piece_more depth tokens after rest w (with_sign s w) s (so_far tokens after w is) at refl

  one_piece : One (PieceOver (AtomIn depth)) NotSign
  one_piece tokens rest more v w f g is is2 =
      let same = ends_here v rest f w more ((so_far tokens rest v is.is).only w more g is2.is) in (sym same.0, sym same.1)

  one_row : One (RowOver (AtomIn depth)) EndsRow
  one_row tokens rest more v w f g is is2 =
      let same = one_some (PieceOver (AtomIn depth)) NotSign EndsRow one_piece (piece_no_sign depth) (λ rest ends. ends.no_sign) (piece_stops depth) tokens rest more is.v is2.v f g is.is is2.is in
      (is.said ∙ ap row_of same.0 ∙ sym is2.said, same.1)

  one_rows : One (RegexIn depth) EndsRegex
  one_rows tokens rest more v w f g is is2 =
      let same = one_list (RowOver (AtomIn depth)) EndsRow EndsRegex one_row bar bar_ends (λ rest ends. ends.row) (λ rest ends. ends.no_bar rest refl) tokens rest more is.is.v is2.is.v f g is.is.is is2.is.is in
      (is.is.said ∙ ap choice_of same.0 ∙ sym is2.is.said, same.1)

pub one_atom : (depth : ℕ) → One (AtomIn depth) Anything
one_atom zero tokens rest more v w f g is is2 = one_leaf tokens more rest w v is2 is
one_atom (suc depth) tokens _ _ _ _ f g (by_first _ rest v is) (by_first _ more w is2) = one_leaf tokens more rest w v is2 is
one_atom (suc depth) tokens _ _ _ _ f g (by_first _ rest v is) (by_second _ more w is2) = absurd (no_leaf_at 40 is2.is.after (λ e. omega (arith, e)) v rest (rw is2.is.first at is))
one_atom (suc depth) tokens _ _ _ _ f g (by_second _ rest v is) (by_first _ more w is2) = absurd (no_leaf_at 40 is.is.after (λ e. omega (arith, e)) w more (rw is.is.first at is2))
one_atom (suc depth) tokens _ _ _ _ f g (by_second _ rest v is) (by_second _ more w is2) =
    let inner = one_rows depth (one_atom depth) in
    let same = one_behind (Inner depth) Anything (one_before (RegexIn depth) EndsRegex Anything inner (sign (codes ")")) closes) (sign (codes "(")) tokens rest more is.v is2.v tt tt is.is is2.is in
    (is.said ∙ ap group same.0 ∙ sym is2.said, same.1)

pub one_regex : (depth : ℕ) → One (RegexIn depth) EndsRegex
one_regex depth = one_rows depth (one_atom depth)
