-- Tokens that are read are the longest.
use Rattle.std.proofs.Common.{◌≡◌, ℕ, zero, suc, ◌+◌, ◌<◌, ◌≤◌, Bool, true, false, cond, List, [], ◌∷◌, length, take, get_or, refl, ap, ◌∙◌, arith, length-take}
use Rattle.std.specs.List.{prefix_len, list_all}
use Rattle.std.specs.Str.Parse.{digits_value}
use Rattle.std.proofs.lemmas.Bool.{and_parts}
use Rattle.std.proofs.lemmas.List.Sums.{prefix_len-le-length}
use Rattle.spec_text.specs.Bytes.{is_letter, is_digit, is_word_byte, is_sign_byte}
use Rattle.spec_text.specs.Lexemes.{Lexeme, word, number, sign, Form, a_word, a_number, a_sign, a_pair, Begins}
use Rattle.spec_text.specs.Steps.{IsFirst, IsElse, pair_at, HasNo2}
use Rattle.spec_text.specs.declared.token.SpecSort.TheVariants.{Word, Number, Sign}
use Rattle.spec_text.proofs.Forms.{as_word, as_number, as_sign, IsSign, alone, pair}
use Rattle.spec_text.proofs.OneReading.{some_form}

module _ (test : ℕ → Bool) where
  -- the front that passes, and no longer one does
  pub front_passes : (bytes : List ℕ) → list_all test (take (prefix_len test bytes) bytes) ≡ true
  front_passes [] = refl
  front_passes (byte ∷ bytes) = by byte bytes (test byte) refl (front_passes bytes)
    where
      by : (byte : ℕ) (bytes : List ℕ) (b : Bool) → test byte ≡ b → list_all test (take (prefix_len test bytes) bytes) ≡ true
          → list_all test (take (cond (test byte) (1 + prefix_len test bytes) 0) (byte ∷ bytes)) ≡ true
      by byte bytes true is more = let one : 1 + prefix_len test bytes ≡ suc (prefix_len test bytes) = omega arith in rw (is, one) (rw (is, more) refl)
      by byte bytes false is more = rw is refl

  pub no_longer : (bytes : List ℕ) (m : ℕ) → m ≤ length bytes → list_all test (take m bytes) ≡ true → m ≤ prefix_len test bytes
  no_longer bytes zero fits pass = omega arith
  no_longer [] (suc m) fits pass = absurd (omega arith)
  no_longer (byte ∷ bytes) (suc m) fits pass =
      let both = and_parts (test byte) (list_all test (take m bytes)) pass in
      let less = no_longer bytes m (omega (arith, fits)) both.1 in
      rw both.0 (omega (arith, less))

first_of : (m : ℕ) (bytes : List ℕ) → 0 < length (take m bytes) → get_or (take m bytes) 0 0 ≡ get_or bytes 0 0
first_of zero bytes some = absurd (omega (arith, some))
first_of (suc m) [] some = refl
first_of (suc m) (byte ∷ bytes) some = refl

pub first_of_form : (m : ℕ) (bytes : List ℕ) (said : Lexeme) → Form (take m bytes) said → get_or (take m bytes) 0 0 ≡ get_or bytes 0 0
first_of_form m bytes said form = first_of m bytes (some_form (take m bytes) said form)

-- a word
form_of_word : (bytes : List ℕ) (n : ℕ) → n ≡ prefix_len is_word_byte bytes → 0 < length bytes → is_letter (get_or bytes 0 0) ≡ true
    → Form (take n bytes) (word (take n bytes))
form_of_word [] n at some letter = absurd (omega (arith, some))
form_of_word (byte ∷ rest) n at some letter =
    let is : is_word_byte byte ≡ true = rw letter refl in
    let more : n ≡ suc (prefix_len is_word_byte rest) = at ∙ ap (λ b. cond b (1 + prefix_len is_word_byte rest) 0) is ∙ omega arith in
    rw more (a_word byte (take (prefix_len is_word_byte rest) rest) letter (front_passes is_word_byte rest))

pub begins_word : (bytes : List ℕ) (n : ℕ) → n ≡ prefix_len is_word_byte bytes → 0 < length bytes → is_letter (get_or bytes 0 0) ≡ true
    → IsFirst bytes Word n
begins_word bytes n at some letter = record {
  said = word (take n bytes);
  is_sort = refl;
  begins = record {
    fits = rw at (prefix_len-le-length is_word_byte bytes);
    is_token = form_of_word bytes n at some letter;
    longest = λ m other fits form. rw at (no_longer is_word_byte bytes m fits (as_word (take m bytes) other form (rw (first_of_form m bytes other form) letter)).0);
  };
}

-- a number
form_of_number : (bytes : List ℕ) (n : ℕ) → n ≡ prefix_len is_digit bytes → 0 < length bytes → is_digit (get_or bytes 0 0) ≡ true
    → Form (take n bytes) (number (digits_value 10 (take n bytes)))
form_of_number [] n at some is = absurd (omega (arith, some))
form_of_number (byte ∷ rest) n at some is =
    let more : n ≡ suc (prefix_len is_digit rest) = at ∙ ap (λ b. cond b (1 + prefix_len is_digit rest) 0) is ∙ omega arith in
    rw more (a_number byte (take (prefix_len is_digit rest) rest) is (front_passes is_digit rest))

pub begins_number : (bytes : List ℕ) (n : ℕ) → n ≡ prefix_len is_digit bytes → 0 < length bytes → is_digit (get_or bytes 0 0) ≡ true
    → IsFirst bytes Number n
begins_number bytes n at some is = record {
  said = number (digits_value 10 (take n bytes));
  is_sort = refl;
  begins = record {
    fits = rw at (prefix_len-le-length is_digit bytes);
    is_token = form_of_number bytes n at some is;
    longest = λ m other fits form. rw at (no_longer is_digit bytes m fits (as_number (take m bytes) other form (rw (first_of_form m bytes other form) is)).0);
  };
}

-- a sign
else_sign : (m : ℕ) (bytes : List ℕ) (said : Lexeme) → IsElse (get_or bytes 0 0) → Form (take m bytes) said → IsSign (take m bytes) said
else_sign m bytes said is form =
    let first = first_of_form m bytes said form in
    as_sign (take m bytes) said form (rw first is.letter) (rw first is.digit) (rw first is.quote) (rw first is.bracket)

short_sign : (bytes : List ℕ) (said : Lexeme) → IsSign bytes said → length bytes ≤ 2
short_sign _ _ (alone byte is) = omega arith
short_sign _ _ (pair first second is) = omega arith

pub begins_pair : (first : ℕ) (after : List ℕ) → IsElse first → pair_at first after ≡ true → IsFirst (first ∷ after) Sign 2
begins_pair first [] other is = cc
begins_pair first (second ∷ rest) other is = record {
  said = sign (first ∷ second ∷ []);
  is_sort = refl;
  begins = record {
    fits = omega arith;
    is_token = a_pair first second is;
    longest = λ m said fits form.
        let short = short_sign _ said (else_sign m (first ∷ second ∷ rest) said other form) in
        let long = length-take m (first ∷ second ∷ rest) in omega (arith, short, long, fits);
  };
}

-- a sign of one byte is taken where the two bytes are none
one_sign_here : (m first : ℕ) (after bytes : List ℕ) (said : Lexeme) → pair_at first after ≡ false → bytes ≡ take m (first ∷ after) → m ≤ length (first ∷ after) → IsSign bytes said
    → (m ≡ 1) × (is_sign_byte first ≡ true)
one_sign_here zero first after _ _ unlike at fits (alone byte is) = let e = at in cc
one_sign_here (suc m) first after _ _ unlike at fits (alone byte is) =
    let e : byte ≡ first = cc in let none : take m after ≡ [] = cc in
    let long = length-take m after in let none_long : length (take m after) ≡ 0 = ap length none in (omega (arith, long, none_long, fits), rw (← e) is)
one_sign_here zero first after _ _ unlike at fits (pair a b is) = cc
one_sign_here (suc zero) first after _ _ unlike at fits (pair a b is) = cc
one_sign_here (suc (suc m)) first [] _ _ unlike at fits (pair a b is) = cc
one_sign_here (suc (suc m)) first (second ∷ rest) _ _ unlike at fits (pair a b is) =
    let e : a ≡ first = cc in let f : b ≡ second = cc in let g = rw (e, f) at is in cc

pub begins_one : (first : ℕ) (after : List ℕ) → IsElse first → pair_at first after ≡ false → is_sign_byte first ≡ true → IsFirst (first ∷ after) Sign 1
begins_one first after other unlike is = record {
  said = sign (first ∷ []);
  is_sort = refl;
  begins = record {
    fits = omega arith;
    is_token = a_sign first is;
    longest = λ m said fits form.
        let one = (one_sign_here m first after _ said unlike refl fits (else_sign m (first ∷ after) said other form)).0 in omega (arith, one);
  };
}

pub begins_none : (first : ℕ) (after : List ℕ) → IsElse first → pair_at first after ≡ false → is_sign_byte first ≡ false → HasNo2 (Begins (first ∷ after))
begins_none first after other unlike is = λ said n begins.
    let one = one_sign_here n first after _ said unlike refl begins.fits (else_sign n (first ∷ after) said other begins.is_token) in cc
