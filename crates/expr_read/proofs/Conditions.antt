-- How an `if` is read, and what stands in front of the operators.
use Rattle.std.proofs.Common.{◌≡◌, ℕ, ◌+◌, ◌-◌, ◌<◌, ◌≤◌, max, List, ◌∷◌, codes, refl, sym, ap, ◌∙◌, arith}
use Rattle.spec_text.specs.Lexemes.{Lexeme, word}
use Rattle.section_frame.specs.Parts.{Fixed, NotFirst, NoReading, Reading}
use Rattle.expr_read.specs.Spoken.{Spoken, if_then, nesting}
use Rattle.expr_read.specs.Notation.{IsSpoken, MayFollow}
use Rattle.expr_read.specs.within.Wholes.{Whole, loosest, conditional, no_conditional, Conditional, IsRead, NoneRead}
use Rattle.expr_read.proofs.WholeParts.{IfParts, if_parts}
use Rattle.expr_read.proofs.OneWhole.{one_whole}
use Rattle.expr_read.proofs.ToWhole.{line_whole}
use Rattle.expr_read.proofs.FromWhole.{from_whole}

-- an expression of the loosest level begins with `if`, or not
module _ (left : ℕ) (tokens : List Lexeme) (none : NotFirst (word (codes "if")) tokens) where
  pub other_read : (rest : List Lexeme) (e : Spoken) (deep : ℕ) → IsRead (Whole 1) left tokens e deep rest → IsRead (Whole 0) left tokens e deep rest
  other_read rest e deep read =
      record { is = loosest 0 tokens rest e refl (no_conditional tokens rest e none read.is); deep_is = read.deep_is; within = read.within }

module _ (left : ℕ) (tokens after : List Lexeme) (first : Fixed (word (codes "if")) tokens after) where
  pub behind_if_read : (rest : List Lexeme) (e : Spoken) (deep : ℕ) → IsRead Conditional left after e deep rest → IsRead (Whole 0) left tokens e deep rest
  behind_if_read rest e deep read =
      let its = read.is in
      record { is = loosest 0 tokens rest e refl (rw first its); deep_is = read.deep_is; within = read.within }

-- the parts are less deep
record Within (left : ℕ) (c a b : Spoken) : Type 0 where
  test : nesting c ≤ left - 1
  first : nesting a ≤ left - 1
  second : nesting b ≤ left - 1

within : (left : ℕ) (e c a b : Spoken) → e ≡ if_then c a b → nesting e ≤ left → Within left c a b
within left e c a b is few =
    let deep : nesting e ≡ max (nesting c) (max (nesting a) (nesting b)) + 1 = ap nesting is in
    record { test = omega (arith, deep, few); first = omega (arith, deep, few); second = omega (arith, deep, few) }

parts : (after rest : List Lexeme) (e : Spoken) → Conditional after e rest → IfParts after e rest
parts after rest e is = if_parts (word (codes "if") ∷ after) after rest e refl is

module _ (left : ℕ) (after : List Lexeme) where
  module _ (c : Spoken) (deep_c : ℕ) (end : List Lexeme) (test : IsRead (Whole 0) (left - 1) after c deep_c end) where
    pub no_then : ((rest : List Lexeme) → Fixed (word (codes "then")) end rest → ⊥) → NoneRead Conditional left after
    no_then none e rest is few =
        let its = parts after rest e is in
        none its.after_then (one_whole 0 after end (word (codes "then") ∷ its.after_then) c its.c test.is its.test).1

    module _ (after_then : List Lexeme) (then_first : Fixed (word (codes "then")) end after_then) where
      its_then : (e : Spoken) (rest : List Lexeme) (its : IfParts after e rest) → (c ≡ its.c) × (after_then ≡ its.after_then)
      its_then e rest its =
          let same = one_whole 0 after end (word (codes "then") ∷ its.after_then) c its.c test.is its.test in
          (same.0, let both : word (codes "then") ∷ after_then ≡ word (codes "then") ∷ its.after_then = sym then_first ∙ same.1 in cc)

      pub no_first : NoneRead (Whole 0) (left - 1) after_then → NoneRead Conditional left after
      no_first none e rest is few =
          let its = parts after rest e is in
          let its_first = its.first in
          none its.a (word (codes "else") ∷ its.after_else) (rw (its_then e rest its).1 its_first) (within left e its.c its.a its.b its.is few).first

      module _ (a : Spoken) (deep_a : ℕ) (stop : List Lexeme) (first : IsRead (Whole 0) (left - 1) after_then a deep_a stop) where
        pub no_else : ((rest : List Lexeme) → Fixed (word (codes "else")) stop rest → ⊥) → NoneRead Conditional left after
        no_else none e rest is few =
            let its = parts after rest e is in
            let its_first = its.first in
            none its.after_else (one_whole 0 after_then stop (word (codes "else") ∷ its.after_else) a its.a first.is (rw (its_then e rest its).1 its_first)).1

        module _ (after_else : List Lexeme) (else_first : Fixed (word (codes "else")) stop after_else) where
          pub no_second : NoneRead (Whole 0) (left - 1) after_else → NoneRead Conditional left after
          no_second none e rest is few =
              let its = parts after rest e is in
              let its_first = its.first in
              let its_second = its.second in
              let same = one_whole 0 after_then stop (word (codes "else") ∷ its.after_else) a its.a first.is (rw (its_then e rest its).1 its_first) in
              let both : word (codes "else") ∷ after_else ≡ word (codes "else") ∷ its.after_else = sym else_first ∙ same.1 in
              let here : after_else ≡ its.after_else = cc in
              none its.b rest (rw here its_second) (within left e its.c its.a its.b its.is few).second

          pub if_read : (b : Spoken) (deep_b : ℕ) (rest : List Lexeme) → IsRead (Whole 0) (left - 1) after_else b deep_b rest → 0 < left → (e : Spoken) → e ≡ if_then c a b
              → (most : ℕ) → most ≡ max deep_c (max deep_a deep_b) + 1 → IsRead Conditional left after e most rest
          if_read b deep_b rest second some e is_e most is_most =
              let deep : nesting e ≡ max (nesting c) (max (nesting a) (nesting b)) + 1 = ap nesting is_e in
              let c_is = test.deep_is in
              let a_is = first.deep_is in
              let b_is = second.deep_is in
              let c_in = test.within in
              let a_in = first.within in
              let b_in = second.within in
              let test_is = test.is in
              let first_is = first.is in
              record {
                is = rw is_e (conditional (word (codes "if") ∷ after) after after_then after_else rest c a b refl (rw (sym then_first) test_is) (rw (sym else_first) first_is) second.is);
                deep_is = is_most ∙ rw (c_is, a_is, b_is) (sym deep);
                within = omega (arith, is_most, c_in, a_in, b_in, some);
              }

-- an expression of a line
pub none_line : (tokens : List Lexeme) → NoneRead (Whole 0) 64 tokens → NoReading IsSpoken MayFollow tokens
none_line tokens none e rest follows is = none e rest (line_whole tokens rest e is.at_level follows) is.few

module _ (tokens rest : List Lexeme) (e : Spoken) (deep : ℕ) (read : IsRead (Whole 0) 64 tokens e deep rest) where
  pub line_read : Reading IsSpoken MayFollow tokens e rest
  line_read =
      let deep_is = read.deep_is in
      let within = read.within in
      record {
        is = record { at_level = from_whole 0 tokens rest e read.is; few = omega (arith, deep_is, within) };
        only = λ w more follows is. one_whole 0 tokens more rest w e (line_whole tokens more w is.at_level follows) read.is;
      }

  pub line_stops : (MayFollow rest → ⊥) → NoReading IsSpoken MayFollow tokens
  line_stops none w more follows is =
      let same = one_whole 0 tokens more rest w e (line_whole tokens more w is.at_level follows) read.is in
      none (rw (sym same.1) follows)
