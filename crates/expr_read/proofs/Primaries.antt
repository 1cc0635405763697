-- How expressions without operators are read.
use Rattle.std.proofs.Common.{◌≡◌, ℕ, ◌+◌, ◌-◌, ◌<◌, List, ◌∷◌, Some, codes, refl, sym, ap, arith}
use Rattle.spec_text.specs.Lexemes.{Lexeme, sign}
use Rattle.section_frame.specs.Parts.{Fixed, Name}
use Rattle.expr_read.specs.Spoken.{Spoken, SpokenList, applied, grouped, nesting, deepest}
use Rattle.expr_read.specs.Notation.{IsName}
use Rattle.expr_read.specs.within.Wholes.{leaf_of, Whole, primary, a_leaf, a_group, named, Named, called, Inside, Grouping, IsRead, NoneRead, AreRead}
use Rattle.expr_read.proofs.WholeParts.{primary_at, group_parts, named_parts}
use Rattle.expr_read.proofs.OneWhole.{one_whole}

pub leaf_read : (left : ℕ) (tokens rest : List Lexeme) (e : Spoken) → leaf_of tokens ≡ Some (e, rest) → nesting e ≡ 1 → (left ≡ 0 → ⊥) → IsRead (Whole 7) left tokens e 1 rest
leaf_read left tokens rest e is flat some =
    record { is = primary 7 tokens rest e refl (a_leaf tokens rest e is); deep_is = sym flat; within = omega (arith, some) }

-- in parentheses
module _ (left : ℕ) (tokens after : List Lexeme) (first : Fixed (sign (codes "(")) tokens after) where
  pub group_read : (rest : List Lexeme) (e : Spoken) (deep : ℕ) → IsRead Grouping left after e deep rest → IsRead (Whole 7) left tokens e deep rest
  group_read rest e deep read =
      let its = read.is in record { is = primary 7 tokens rest e refl (rw first its); deep_is = read.deep_is; within = read.within }

module _ (left : ℕ) (tokens : List Lexeme) where
  module _ (end : List Lexeme) (a : Spoken) (deep : ℕ) (read : IsRead (Whole 0) (left - 1) tokens a deep end) where
    pub no_close : ((rest : List Lexeme) → Fixed (sign (codes ")")) end rest → ⊥) → NoneRead Grouping left tokens
    no_close none e rest is few =
        let its = group_parts (sign (codes "(") ∷ tokens) tokens rest e refl is in
        none rest (one_whole 0 tokens end (sign (codes ")") ∷ rest) a its.a read.is its.whole).1

    pub in_group : (rest : List Lexeme) → Fixed (sign (codes ")")) end rest → 0 < left → (e : Spoken) → e ≡ grouped a → (most : ℕ) → most ≡ deep + 1
        → IsRead Grouping left tokens e most rest
    in_group rest close some e is_e most is_most =
        let its = read.is in
        let deep_is = read.deep_is in
        let within = read.within in
        let e_deep : nesting e ≡ nesting a + 1 = ap nesting is_e in
        record {
          is = rw is_e (a_group (sign (codes "(") ∷ tokens) tokens rest a refl (rw (sym close) its));
          deep_is = omega (arith, is_most, deep_is, e_deep);
          within = omega (arith, is_most, within, some);
        }

-- behind a name
module _ (left : ℕ) (w : List ℕ) (tokens behind : List Lexeme) (first : Name tokens w behind) (ok : IsName w) where
  pub named_none : NoneRead (Named w) left behind → NoneRead (Whole 7) left tokens
  named_none none e rest is few = none e rest (named_parts w tokens behind rest e ok first (primary_at 7 tokens rest e refl is)) few

  pub named_read : (rest : List Lexeme) (e : Spoken) (deep : ℕ) → IsRead (Named w) left behind e deep rest → IsRead (Whole 7) left tokens e deep rest
  named_read rest e deep read =
      record { is = primary 7 tokens rest e refl (named w tokens behind rest e ok first read.is); deep_is = read.deep_is; within = read.within }

module _ (left : ℕ) (w : List ℕ) (behind after : List Lexeme) (first : Fixed (sign (codes "(")) behind after) where
  pub call_read : (rest : List Lexeme) (args : SpokenList) (deep : ℕ) → AreRead Inside left after args deep rest → (e : Spoken) → e ≡ applied w args → (most : ℕ) → most ≡ deep + 1
      → IsRead (Named w) left behind e most rest
  call_read rest args deep read e is_e most is_most =
      let deep_is = read.deep_is in
      let within = read.within in
      let e_deep : nesting e ≡ deepest args + 1 = ap nesting is_e in
      record {
        is = rw is_e (called w behind after rest args first read.are);
        deep_is = omega (arith, is_most, deep_is, e_deep);
        within = omega (arith, is_most, within);
      }
