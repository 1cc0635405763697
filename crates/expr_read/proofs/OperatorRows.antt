-- How arguments are read.
use Rattle.std.proofs.Common.{◌≡◌, ℕ, ◌-◌, ◌<◌, max, List, [], ◌∷◌, ◌++◌, map, codes, refl, sym, ap, ◌∙◌, arith}
use Rattle.std.proofs.lemmas.List.{map-append}
use Rattle.spec_text.specs.Lexemes.{Lexeme, sign}
use Rattle.section_frame.specs.Parts.{Fixed}
use Rattle.expr_read.specs.Spoken.{Spoken, SpokenList, no_spoken, and_spoken, nesting, deepest}
use Rattle.expr_read.specs.declared.written.Written.{Written}
use Rattle.expr_read.specs.Writing.{spoken_list, spoken_of}
use Rattle.expr_read.specs.within.Wholes.{Whole, Inside, none_inside, some_inside, Row, one, Others, closed, others, IsRead, NoneRead, AreRead, NoneAre}
use Rattle.expr_read.proofs.WholeParts.{row_parts, others_parts}
use Rattle.expr_read.proofs.OneWhole.{one_whole}

-- none, or a row of them
pub nothing_inside : (left : ℕ) (tokens rest : List Lexeme) (args : SpokenList) → Fixed (sign (codes ")")) tokens rest → args ≡ no_spoken → 0 < left
    → AreRead Inside left tokens args 0 rest
nothing_inside left tokens rest args close are some =
    record { are = rw are (none_inside tokens rest close); deep_is = rw are refl; within = some }

module _ (left : ℕ) (tokens : List Lexeme) (none : (rest : List Lexeme) → Fixed (sign (codes ")")) tokens rest → ⊥) where
  pub inside_read : (rest : List Lexeme) (args : SpokenList) (deep : ℕ) → AreRead Row left tokens args deep rest → AreRead Inside left tokens args deep rest
  inside_read rest args deep read = record { are = some_inside tokens rest args none read.are; deep_is = read.deep_is; within = read.within }

-- expressions before others
abbrev pub before : List Spoken → SpokenList → SpokenList
before [] more = more
before (e ∷ es) more = and_spoken e (before es more)

listed : (es : List Spoken) → spoken_list es ≡ before es no_spoken
listed [] = refl
listed (e ∷ es) = ap (and_spoken e) (listed es)

before_end : (es : List Spoken) (e : Spoken) (more : SpokenList) → before (es ++ e ∷ []) more ≡ before es (and_spoken e more)
before_end [] e more = refl
before_end (d ∷ es) e more = ap (and_spoken d) (before_end es e more)

deep_before : (es : List Spoken) (more : SpokenList) → deepest (before es more) ≡ max (deepest (spoken_list es)) (deepest more)
deep_before [] more = omega arith
deep_before (e ∷ es) more = let same = deep_before es more in omega (arith, same)

deep_end : (es : List Spoken) (e : Spoken) → deepest (spoken_list (es ++ e ∷ [])) ≡ max (deepest (spoken_list es)) (nesting e)
deep_end es e =
    let same = ap deepest (listed (es ++ e ∷ []) ∙ before_end es e no_spoken) in
    let deep = deep_before es (and_spoken e no_spoken) in
    omega (arith, same, deep)

-- the arguments behind those so far
pub record Rest (es : List Spoken) (rest : List Lexeme) (args : SpokenList) (end : List Lexeme) : Type 0 where
  pub more : SpokenList
  pub is : args ≡ before es more
  pub behind : Others rest more end

-- the arguments so far
pub record RowSoFar (left : ℕ) (tokens rest : List Lexeme) (es : List Spoken) (deep : ℕ) : Type 0 where
  pub on : (more : SpokenList) (end : List Lexeme) → Others rest more end → Row tokens (before es more) end
  pub back : (args : SpokenList) (end : List Lexeme) → Row tokens args end → Rest es rest args end
  pub deep_is : deep ≡ deepest (spoken_list es)
  pub within : deep < left

module _ (left : ℕ) (tokens : List Lexeme) (some : 0 < left) where
  pub row_first : (rest : List Lexeme) (e : Spoken) (deep : ℕ) → IsRead (Whole 0) (left - 1) tokens e deep rest → RowSoFar left tokens rest (e ∷ []) deep
  row_first rest e deep read =
      let deep_is = read.deep_is in
      let within = read.within in
      record {
        on = λ more end are. one tokens rest end e more read.is are;
        back = λ args end are.
            let its = row_parts tokens end args are in
            let same = one_whole 0 tokens rest its.between e its.a read.is its.whole in
            let its_behind = its.behind in
            record { more = its.more; is = its.is ∙ ap (λ a. and_spoken a its.more) (sym same.0); behind = rw same.1 its_behind };
        deep_is = omega (arith, deep_is);
        within = omega (arith, within, some);
      }

module _ (left : ℕ) (tokens rest : List Lexeme) (es : List Spoken) (deep : ℕ) (so : RowSoFar left tokens rest es deep) where
  deeper : (args more : SpokenList) → args ≡ before es more → deepest args ≡ max (deepest (spoken_list es)) (deepest more)
  deeper args more is = ap deepest is ∙ deep_before es more

  pub row_no_next : (behind : List Lexeme) → Fixed (sign (codes ",")) rest behind → NoneRead (Whole 0) (left - 1) behind → NoneAre Row left tokens
  row_no_next behind comma none args end are few =
      let its = so.back args end are in
      let last = row_parts behind end its.more (others_parts rest behind end its.more comma its.behind) in
      let deep_args = deeper args its.more its.is in
      let deep_more : deepest its.more ≡ max (nesting last.a) (deepest last.more) = ap deepest last.is in
      none last.a last.between last.whole (omega (arith, deep_args, deep_more, few))

  pub row_more : (behind after : List Lexeme) (b : Spoken) (deep_b : ℕ) → 0 < left → Fixed (sign (codes ",")) rest behind → IsRead (Whole 0) (left - 1) behind b deep_b after
      → (most : ℕ) → most ≡ max deep deep_b → RowSoFar left tokens after (es ++ b ∷ []) most
  row_more behind after b deep_b some comma read most is_most =
      let deep_is = so.deep_is in
      let within = so.within in
      let b_is = read.deep_is in
      let b_in = read.within in
      let all = deep_end es b in
      record {
        on = λ more end are. rw (before_end es b more) (so.on (and_spoken b more) end (others rest behind end (and_spoken b more) comma (one behind after end b more read.is are)));
        back = λ args end are.
            let its = so.back args end are in
            let last = row_parts behind end its.more (others_parts rest behind end its.more comma its.behind) in
            let same = one_whole 0 behind after last.between b last.a read.is last.whole in
            let last_behind = last.behind in
            record {
              more = last.more;
              is = its.is ∙ ap (before es) (last.is ∙ ap (λ a. and_spoken a last.more) (sym same.0)) ∙ sym (before_end es b last.more);
              behind = rw same.1 last_behind;
            };
        deep_is = omega (arith, is_most, deep_is, b_is, all);
        within = omega (arith, is_most, within, b_in, some);
      }

  not_others : (tokens end : List Lexeme) (more : SpokenList) → ((after : List Lexeme) → Fixed (sign (codes ",")) tokens after → ⊥)
      → ((after : List Lexeme) → Fixed (sign (codes ")")) tokens after → ⊥) → Others tokens more end → ⊥
  not_others _ _ _ open_more shut (closed tokens end is) = shut end is
  not_others _ _ _ open_more shut (others tokens after end more is row) = open_more after is

  pub row_no_close : ((after : List Lexeme) → Fixed (sign (codes ",")) rest after → ⊥) → ((after : List Lexeme) → Fixed (sign (codes ")")) rest after → ⊥) → NoneAre Row left tokens
  row_no_close no_comma shut args end are few = let its = so.back args end are in not_others rest end its.more no_comma shut its.behind

  pub row_end : (end : List Lexeme) → Fixed (sign (codes ")")) rest end → AreRead Row left tokens (spoken_list es) deep end
  row_end end close = record { are = rw (listed es) (so.on no_spoken end (closed rest end close)); deep_is = so.deep_is; within = so.within }

-- the program's parts
pub one_said : (old new : List Written) (part : Written) → new ≡ old ++ part ∷ [] → map spoken_of new ≡ map spoken_of old ++ spoken_of part ∷ []
one_said old new part are = ap (map spoken_of) are ∙ map-append spoken_of old (part ∷ [])
