-- The line and the column of the place after one byte more.
use Rattle.std.proofs.Common.{◌≡◌, ℕ, ◌+◌, ◌-◌, ◌<◌, ◌≤◌, true, false, eqb, not, List, length, get_or, take, Some, slice_get, sym, ap, ◌∙◌, arith}
use Rattle.std.proofs.lemmas.List.{length-take}
use Rattle.std.proofs.lemmas.List.Sums.{count_by_more_yes, count_by_more_no, suffix_len-le-length, suffix_len-take_no, suffix_len-take_yes}
use Rattle.std.proofs.lemmas.Option.{slice_get_within, get_or_from_slice_get}
use Rattle.std.proofs.lemmas.Bool.{ne_eqb}
use Rattle.rex_model.specs.Place.{column_at}
use Rattle.rex_model.specs.Place.{IsPlace}
use Rattle.rex_model.specs.declared.place.Place.{Place}

-- the column after a byte, by the byte before the place
column_at-feed : (text : List ℕ) (at : ℕ) → at < length text → eqb (get_or text at 0) 10 ≡ true → column_at text (at + 1) ≡ 1
column_at-feed text at within feed =
    let back : at + 1 - 1 ≡ at = omega arith in
    let byte : not (eqb (get_or text (at + 1 - 1) 0) 10) ≡ false = rw (back, feed) in
    ap (λ n. n + 1) (suffix_len-take_no (λ b. not (eqb b 10)) text (at + 1) 0 (omega arith) (omega arith) byte)

column_at-other : (text : List ℕ) (at : ℕ) → at < length text → eqb (get_or text at 0) 10 ≡ false → column_at text (at + 1) ≡ column_at text at + 1
column_at-other text at within other =
    let back : at + 1 - 1 ≡ at = omega arith in
    let byte : not (eqb (get_or text (at + 1 - 1) 0) 10) ≡ true = rw (back, other) in
    let e = suffix_len-take_yes (λ b. not (eqb b 10)) text (at + 1) 0 (omega arith) (omega arith) byte in
    let f = rw back at e in
    omega (arith, f)

-- a line feed ends the line
pub after_feed : (text : List ℕ) (place : Place) → slice_get text place.at ≡ Some 10 → IsPlace text place
    → IsPlace text (record { at = place.at + 1; line = place.line + 1; col = 1 })
after_feed text place found is =
    let within = slice_get_within text place.at 10 found in
    let feed : eqb (get_or text place.at 0) 10 ≡ true = ap (λ b. eqb b 10) (get_or_from_slice_get text place.at 10 0 found) in
    record {
      within = omega arith;
      line = ap (λ n. n + 1) (is.line ∙ sym (count_by_more_yes (λ b. eqb b 10) text place.at 0 within feed));
      column = sym (column_at-feed text place.at within feed);
    }

-- every other byte stands in the line
pub after_other : (text : List ℕ) (place : Place) (byte : ℕ) → (byte ≡ 10 → ⊥) → slice_get text place.at ≡ Some byte
    → IsPlace text place → IsPlace text (record { at = place.at + 1; line = place.line; col = place.col + 1 })
after_other text place byte other found is =
    let within = slice_get_within text place.at byte found in
    let here : eqb (get_or text place.at 0) 10 ≡ false = ap (λ b. eqb b 10) (get_or_from_slice_get text place.at byte 0 found) ∙ ne_eqb byte 10 other in
    record {
      within = omega arith;
      line = is.line ∙ ap (λ n. n + 1) (sym (count_by_more_no (λ b. eqb b 10) text place.at 0 within here));
      column = ap (λ n. n + 1) is.column ∙ sym (column_at-other text place.at within here);
    }

-- a column is at most one more than the bytes before the place
pub column_at-le : (text : List ℕ) (at : ℕ) → column_at text at ≤ at + 1
column_at-le text at = omega (arith, suffix_len-le-length (λ b. not (eqb b 10)) (take at text), length-take at text)
