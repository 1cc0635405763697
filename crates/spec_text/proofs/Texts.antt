-- A string as a token.
use Rattle.std.proofs.Common.{◌≡◌, ℕ, zero, suc, ◌+◌, ◌<◌, List, [], ◌∷◌, ◌++◌, length, take, drop, refl, sym, ap, ◌∙◌, Some, arith, append_assoc, length-take, length-append}
use Rattle.std.specs.List.{slice_get}
use Rattle.std.proofs.lemmas.List.{take-append-drop}
use Rattle.spec_text.specs.Lexemes.{text, a_text, Begins}
use Rattle.spec_text.specs.Steps.{IsInside, IsInsideOf, IsFirst, HasNo2}
use Rattle.spec_text.specs.declared.token.SpecSort.TheVariants.{Text}
use Rattle.spec_text.proofs.Forms.{as_text, one_text}
use Rattle.spec_text.proofs.Begin.{first_of_form}

at_get : (n : ℕ) (bytes : List ℕ) (byte : ℕ) → slice_get bytes n ≡ Some byte → drop n bytes ≡ byte ∷ drop (suc n) bytes
at_get n [] byte at = cc
at_get zero (b ∷ bytes) byte at = let e : b ≡ byte = cc in rw e refl
at_get (suc n) (b ∷ bytes) byte at = at_get n bytes byte at

one_after : (n : ℕ) (bytes : List ℕ) (byte : ℕ) → slice_get bytes n ≡ Some byte → take (suc n) bytes ≡ take n bytes ++ byte ∷ []
one_after n [] byte at = cc
one_after zero (b ∷ bytes) byte at = let e : b ≡ byte = cc in rw e refl
one_after (suc n) (b ∷ bytes) byte at = ap (λ l. b ∷ l) (one_after n bytes byte at)

fits_get : (n : ℕ) (bytes : List ℕ) (byte : ℕ) → slice_get bytes n ≡ Some byte → n < length bytes
fits_get n [] byte at = cc
fits_get zero (b ∷ bytes) byte at = omega arith
fits_get (suc n) (b ∷ bytes) byte at = let less = fits_get n bytes byte at in omega (arith, less)

-- what follows a string that is the front of the line
whole : (m : ℕ) (line inside : List ℕ) → take m (34 ∷ line) ≡ 34 ∷ (inside ++ 34 ∷ []) → line ≡ inside ++ 34 ∷ drop m (34 ∷ line)
whole m line inside at =
    let all = sym (take-append-drop m (34 ∷ line)) ∙ ap (λ l. l ++ drop m (34 ∷ line)) at in
    let tail : line ≡ (inside ++ 34 ∷ []) ++ drop m (34 ∷ line) = cc in
    tail ∙ append_assoc inside (34 ∷ []) (drop m (34 ∷ line))

pub begins_text : (line : List ℕ) (n : ℕ) → IsInside line n → IsFirst (34 ∷ line) Text (n + 2)
begins_text line n is = record {
  said = text is.meant;
  is_sort = refl;
  begins = record {
    fits = let less = fits_get n line 34 is.ends in omega (arith, less);
    is_token = let at : n + 2 ≡ suc (suc n) = omega arith in rw (at, one_after n line 34 is.ends) (a_text 34 (take n line) is.meant refl is.quoted);
    longest = λ m other fits form.
        let t = as_text (take m (34 ∷ line)) other form (first_of_form m (34 ∷ line) other form) in
        let here : line ≡ take n line ++ 34 ∷ drop (suc n) line = sym (take-append-drop n line) ∙ ap (λ l. take n line ++ l) (at_get n line 34 is.ends) in
        let same = (one_text t.inside (take n line) (drop m (34 ∷ line)) (drop (suc n) line) t.meant is.meant t.quoted is.quoted
        (sym (whole m line t.inside t.are) ∙ here)).0 in
        let long = ap length t.are in let long_m = length-take m (34 ∷ line) in
        let long_i = length-append t.inside (34 ∷ []) in let long_n = length-take n line in let eq = ap length same in
        omega (arith, long, long_m, long_i, long_n, eq, fits);
  };
}

pub no_text_here : (line : List ℕ) → HasNo2 (IsInsideOf line) → HasNo2 (Begins (34 ∷ line))
no_text_here line none = λ said m begins.
    let t = as_text (take m (34 ∷ line)) said begins.is_token (first_of_form m (34 ∷ line) said begins.is_token) in
    none t.inside t.meant (record { rest = drop m (34 ∷ line); are = whole m line t.inside t.are; quoted = t.quoted })
