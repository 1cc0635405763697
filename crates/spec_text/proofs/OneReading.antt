-- A line has one reading at most.
use Rattle.std.proofs.Common.{◌≡◌, ℕ, zero, suc, ◌+◌, ◌<◌, ◌≤◌, true, false, List, [], ◌∷◌, length, take, drop, get_or, refl, Option, arith, length-take}
use Rattle.std.proofs.lemmas.Bool.Decides.{nat_tests}
use Rattle.ck_base.specs.declared.fault.Kind.{Kind}
use Rattle.spec_text.specs.Bytes.{is_blank, is_letter, is_digit, is_sign_byte, is_sign_pair}
use Rattle.spec_text.specs.Lexemes.{Lexeme, number, Form, a_word, a_number, a_text, a_class, a_sign, a_pair, Begins}
use Rattle.spec_text.specs.Reading.{Placed, Reads, nothing, gap, comment, a_token, too_large, no_token, most}
use Rattle.spec_text.proofs.Forms.{one_begin}

-- a byte with which no token begins
abbrev pub is_outside : ℕ → Type 0
is_outside byte = (is_letter byte ≡ false) × (is_digit byte ≡ false) × (byte ≡ 34 → ⊥) × (is_sign_byte byte ≡ false) × (byte ≡ 91 → ⊥) × ((next : ℕ) → is_sign_pair byte next ≡ false)

no_form : (bytes : List ℕ) (said : Lexeme) → Form bytes said → is_outside (get_or bytes 0 0) → ⊥
no_form _ _ (a_word byte rest first others) out = let e = out.0 in cc
no_form _ _ (a_number byte rest first others) out = let e = out.1 in cc
no_form _ _ (a_text quote inside meant at quoted) out = out.2 at
no_form _ _ (a_class bracket inside set at says) out = out.4 at
no_form _ _ (a_sign byte first) out = let e = out.3 in cc
no_form _ _ (a_pair first second pair) out = let e = out.5 second in cc

pub some_form : (bytes : List ℕ) (said : Lexeme) → Form bytes said → 0 < length bytes
some_form _ _ (a_word byte rest first others) = omega arith
some_form _ _ (a_number byte rest first others) = omega arith
some_form _ _ (a_text quote inside meant at quoted) = omega arith
some_form _ _ (a_class bracket inside set at says) = omega arith
some_form _ _ (a_sign byte first) = omega arith
some_form _ _ (a_pair first second pair) = omega arith

pub some_begin : (line : List ℕ) (said : Lexeme) (n : ℕ) → Begins line said n → (0 < n) × (n ≤ length line)
some_begin line said n begins = let some = some_form (take n line) said begins.is_token in
    let long = length-take n line in (omega (arith, some, long), begins.fits)

pub first_taken : (n byte : ℕ) (rest : List ℕ) → 0 < n → get_or (take n (byte ∷ rest)) 0 0 ≡ byte
first_taken zero byte rest some = absurd (omega arith)
first_taken (suc n) byte rest some = refl

pub none_outside : (byte n : ℕ) (rest : List ℕ) (said : Lexeme) → is_outside byte → Begins (byte ∷ rest) said n → ⊥
none_outside byte n rest said out begins =
    let some = (some_begin (byte ∷ rest) said n begins).0 in
    no_form (take n (byte ∷ rest)) said begins.is_token (rw (first_taken n byte rest some) out)

pub blank_outside : (byte : ℕ) → is_blank byte ≡ true → is_outside byte
blank_outside byte is = (grind (arith, nat_tests), grind (arith, nat_tests), (λ at. let e = rw at at is in cc), grind (arith, nat_tests), (λ at. let e = rw at at is in cc), λ next. grind (arith, nat_tests))

pub hash_outside : (byte : ℕ) → byte ≡ 35 → is_outside byte
hash_outside byte is = rw is (refl, refl, (λ at. omega (arith, at)), refl, (λ at. omega (arith, at)), λ next. grind (arith, nat_tests))

pub none_of_nothing : (n : ℕ) (said : Lexeme) → Begins [] said n → ⊥
none_of_nothing n said begins = let some = some_begin [] said n begins in omega (arith, some.0, some.1)

abbrev Same : List Placed → List Placed → Option Kind → Option Kind → Type 0
Same tokens others bad worse = (tokens ≡ others) × (bad ≡ worse)

gap_no_comment : (byte : ℕ) → is_blank byte ≡ true → byte ≡ 35 → ⊥
gap_no_comment byte is at = let e = rw at at is in cc

small_or_large : (n : ℕ) → n ≤ most → most < n → ⊥
small_or_large n small large = omega (arith, small, large)

pub one_reading : (at : ℕ) (line : List ℕ) (tokens others : List Placed) (bad worse : Option Kind) → Reads at line tokens bad → Reads at line others worse
    → Same tokens others bad worse
one_reading _ _ _ _ _ _ (nothing at) (nothing _) = (refl, refl)
one_reading _ _ _ _ _ _ (nothing at) (a_token _ n _ said tokens bad begins small reads) = absurd (none_of_nothing n said begins)
one_reading _ _ _ _ _ _ (nothing at) (too_large _ n value _ begins large) = absurd (none_of_nothing n (number value) begins)
one_reading _ _ _ _ _ _ (gap at byte rest tokens bad is reads) (gap _ _ _ others worse is2 reads2) = one_reading (at + 1) rest tokens others bad worse reads reads2
one_reading _ _ _ _ _ _ (gap at byte rest tokens bad is reads) (comment _ _ _ hash) = absurd (gap_no_comment byte is hash)
one_reading _ _ _ _ _ _ (gap at byte rest tokens bad is reads) (a_token _ n _ said others worse begins small reads2) = absurd (none_outside byte n rest said (blank_outside byte is) begins)
one_reading _ _ _ _ _ _ (gap at byte rest tokens bad is reads) (too_large _ n value _ begins large) = absurd (none_outside byte n rest (number value) (blank_outside byte is) begins)
one_reading _ _ _ _ _ _ (gap at byte rest tokens bad is reads) (no_token _ _ _ no_blank no_hash none) = cc
one_reading _ _ _ _ _ _ (comment at byte rest hash) (gap _ _ _ others worse is reads) = absurd (gap_no_comment byte is hash)
one_reading _ _ _ _ _ _ (comment at byte rest hash) (comment _ _ _ hash2) = (refl, refl)
one_reading _ _ _ _ _ _ (comment at byte rest hash) (a_token _ n _ said others worse begins small reads) = absurd (none_outside byte n rest said (hash_outside byte hash) begins)
one_reading _ _ _ _ _ _ (comment at byte rest hash) (too_large _ n value _ begins large) = absurd (none_outside byte n rest (number value) (hash_outside byte hash) begins)
one_reading _ _ _ _ _ _ (comment at byte rest hash) (no_token _ _ _ no_blank no_hash none) = absurd (no_hash hash)
one_reading _ _ _ _ _ _ (a_token at n _ said others worse begins small reads2) (nothing _) = absurd (none_of_nothing n said begins)
one_reading _ _ _ _ _ _ (a_token at n _ said others worse begins small reads2) (gap _ byte rest tokens bad is reads) = absurd (none_outside byte n rest said (blank_outside byte is) begins)
one_reading _ _ _ _ _ _ (a_token at n _ said others worse begins small reads2) (comment _ byte rest hash) = absurd (none_outside byte n rest said (hash_outside byte hash) begins)
one_reading _ _ _ _ _ _ (a_token at n line said tokens bad begins small reads) (a_token _ m _ other others worse begins2 small2 reads2) =
    let same = one_begin line said other n m begins begins2 in
    let more = one_reading (at + n) (drop n line) tokens others bad worse reads (rw (← same.1) at reads2) in
    (rw (same.0, same.1, more.0) refl, more.1)
one_reading _ _ _ _ _ _ (a_token at n line said tokens bad begins small reads) (too_large _ m value _ begins2 large) =
    let same = one_begin line said (number value) n m begins begins2 in
    absurd (small_or_large value (rw same.0 at small) large)
one_reading _ _ _ _ _ _ (a_token at n line said tokens bad begins small reads) (no_token _ byte rest no_blank no_hash none) = absurd (none said n begins)
one_reading _ _ _ _ _ _ (too_large at n value _ begins large) (nothing _) = absurd (none_of_nothing n (number value) begins)
one_reading _ _ _ _ _ _ (too_large at n value _ begins large) (gap _ byte rest tokens bad is reads) = absurd (none_outside byte n rest (number value) (blank_outside byte is) begins)
one_reading _ _ _ _ _ _ (too_large at n value _ begins large) (comment _ byte rest hash) = absurd (none_outside byte n rest (number value) (hash_outside byte hash) begins)
one_reading _ _ _ _ _ _ (too_large at m value line begins large) (a_token _ n _ said tokens bad begins2 small reads) =
    let same = one_begin line said (number value) n m begins2 begins in
    absurd (small_or_large value (rw same.0 at small) large)
one_reading _ _ _ _ _ _ (too_large at n value _ begins large) (too_large _ m value2 _ begins2 large2) = (refl, refl)
one_reading _ _ _ _ _ _ (too_large at n value _ begins large) (no_token _ byte rest no_blank no_hash none) = absurd (none (number value) n begins)
one_reading _ _ _ _ _ _ (no_token at byte rest no_blank no_hash none) (gap _ _ _ tokens bad is reads) = cc
one_reading _ _ _ _ _ _ (no_token at byte rest no_blank no_hash none) (comment _ _ _ hash) = absurd (no_hash hash)
one_reading _ _ _ _ _ _ (no_token at byte rest no_blank no_hash none) (a_token _ n _ said tokens bad begins small reads) = absurd (none said n begins)
one_reading _ _ _ _ _ _ (no_token at byte rest no_blank no_hash none) (too_large _ n value _ begins large) = absurd (none (number value) n begins)
one_reading _ _ _ _ _ _ (no_token at byte rest no_blank no_hash none) (no_token _ _ _ no_blank2 no_hash2 none2) = (refl, refl)

pub none_of_empty : (bytes : List ℕ) → length bytes ≡ 0 → (said : Lexeme) (n : ℕ) → Begins bytes said n → ⊥
none_of_empty bytes empty said n begins = let some = some_begin bytes said n begins in omega (arith, some.0, some.1, empty)
