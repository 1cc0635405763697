-- The value of digits, as they are read.
use Rattle.std.proofs.Common.{◌≡◌, ℕ, ◌+◌, ◌*◌, ◌<◌, ◌≤◌, true, List, [], ◌∷◌, arith}
use Rattle.std.specs.List.{list_all}
use Rattle.std.specs.Str.Parse.{digits_value, digits_value_after}
use Rattle.std.specs.Char.{digit_value}
use Rattle.spec_text.specs.Bytes.{is_digit}
use Rattle.spec_text.specs.Reading.{most}

pub grows : (value : ℕ) (digits : List ℕ) → value ≤ digits_value_after 10 value digits
grows value [] = omega arith
grows value (digit ∷ digits) = let more = grows (value * 10 + digit_value digit) digits in omega (arith, more)

pub record ValueSoFar (digits rest : List ℕ) (value : ℕ) : Type 0 where
  pub are : list_all is_digit rest ≡ true
  pub same : digits_value_after 10 value rest ≡ digits_value 10 digits

pub too_many : (digits rest after : List ℕ) (value digit : ℕ) → ValueSoFar digits rest value → rest ≡ digit ∷ after → 922337203685477580 < value
    → most < digits_value 10 digits
too_many digits rest after value digit so at large =
    let same = rw at at so.same in
    let more = grows (value * 10 + digit_value digit) after in omega (arith, same, more, large)
