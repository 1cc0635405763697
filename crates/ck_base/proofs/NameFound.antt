-- A name is found at its place among names of which none is there twice.
use Rattle.std.proofs.Common.{◌≡◌, ℕ, ◌<◌, ◌↔◌, Bool, true, false, true≢false, refl, sym, ap, ◌∙◌, arith, List, [], ◌∷◌, length, get_or, Option, Some, None, IsNone, IsTrue, is_some, Contains, slice_get, Vec, Global}
use Rattle.std.specs.List.{position, position_or_len}
use Rattle.std.specs.Str.{bytes_eq}
use Rattle.std.proofs.lemmas.Bool.{lt-ltb, false_from_ne_true}
use Rattle.std.proofs.lemmas.List.{length-map}
use Rattle.std.proofs.lemmas.List.Quantifiers.{position-Some}
use Rattle.std.proofs.lemmas.List.Sums.{position_or_len_is}
use Rattle.std.proofs.lemmas.Option.{none-some, slice_get-get_or, slice_get_within, get_or_from_slice_get}
use Rattle.std.proofs.lemmas.Slice.Eq.{bytes_eq-Decides}
use Rattle.ck_base.specs.Numbered.{texts, AreApart, number_of}

-- the first vector that passes stands where its bytes do
pub position_or_len-texts : (test : List ℕ → Bool) (vectors : List (Vec ℕ Global))
    → position_or_len (λ v. test v.items) vectors ≡ position_or_len test (texts vectors)
position_or_len-texts test [] = refl
position_or_len-texts test (v ∷ vs) = rw (position_or_len-texts test vs)

pub position-texts : (test : List ℕ → Bool) (vectors : List (Vec ℕ Global))
    → position (λ v. test v.items) vectors ≡ position test (texts vectors)
position-texts test vs = rw (position_or_len-texts test vs, length-map vs (λ v. v.items))

module _ (names : List (List ℕ)) (name : List ℕ) where
  -- to be in the list is to have a place in it
  pub place_of : Contains names name → (n : ℕ) × (slice_get names n ≡ Some name)
  place_of (n, within, is) = (n, slice_get-get_or names n name within ∙ ap Some is)

  pub contained_at : (n : ℕ) → slice_get names n ≡ Some name → Contains names name
  contained_at n there = (n, slice_get_within names n name there, get_or_from_slice_get names n name name there)

  -- where a place is found the name is there, and else it isn't
  pub is_there : (found : Option ℕ) → ((n : ℕ) → (found ≡ Some n) ↔ (slice_get names n ≡ Some name))
      → (IsNone found ↔ (Contains names name → ⊥)) → IsTrue (is_some found) ↔ Contains names name
  is_there None at absent = (λ is. cc, λ there. absurd (absent.0 refl there))
  is_there (Some n) at absent = (λ is. contained_at n ((at n).0 refl), λ there. refl)

  -- where the bytes pass, the name is
  pub there_where_equal : (n : ℕ) → n < length names → bytes_eq name (get_or names n []) ≡ true → slice_get names n ≡ Some name
  there_where_equal n within equal =
      slice_get-get_or names n [] within ∙ ap Some (sym ((bytes_eq-Decides name (get_or names n [])).0 equal))

  pub there_where_found : (n : ℕ) → position (bytes_eq name) names ≡ Some n → slice_get names n ≡ Some name
  there_where_found n found =
      let first = position-Some (bytes_eq name) names n [] found in
      there_where_equal n first.0 first.1

  -- and it is found there, since no earlier place has it
  pub no_earlier : AreApart names → (n k : ℕ) → slice_get names n ≡ Some name → k < n → bytes_eq name (get_or names k []) ≡ false
  no_earlier apart n k there earlier = false_from_ne_true _ (λ equal.
      let within = slice_get_within names n name there in
      let same = apart k n name (there_where_equal k (omega arith) equal) there in
      omega arith)

  pub found_where_there : AreApart names → (n : ℕ) → slice_get names n ≡ Some name → position (bytes_eq name) names ≡ Some n
  found_where_there apart n there =
      let within = slice_get_within names n name there in
      let is = get_or_from_slice_get names n name [] there in
      let here : bytes_eq name (get_or names n []) ≡ true = rw is ((bytes_eq-Decides name name).1 refl) in
      let earlier : (k : ℕ) → k < n → bytes_eq name (get_or names k []) ≡ false = λ k lt. no_earlier apart n k there lt in
      let place = position_or_len_is (bytes_eq name) names n [] (omega arith) earlier (λ lt. here) in
      rw (place, lt-ltb n (length names) within)

-- what a search for a name answers
pub record Finds (names : List (List ℕ)) (name : List ℕ) (answer : Option ℕ) : Type 0 where
  pub number : answer ≡ number_of names name
  pub found : (n : ℕ) → (answer ≡ Some n) ↔ (slice_get names n ≡ Some name)
  pub absent : IsNone answer ↔ (Contains names name → ⊥)

pub first_place_finds : (vectors : List (Vec ℕ Global)) (name : List ℕ) (answer : Option ℕ) → AreApart (texts vectors)
    → answer ≡ position (λ v. bytes_eq name v.items) vectors → Finds (texts vectors) name answer
first_place_finds vectors name answer apart is = record { number = number; found = found; absent = absent answer found }
  where
    number : answer ≡ number_of (texts vectors) name
    number = is ∙ position-texts (bytes_eq name) vectors

    found : (n : ℕ) → (answer ≡ Some n) ↔ (slice_get (texts vectors) n ≡ Some name)
    found n =
        (λ at. there_where_found (texts vectors) name n (sym number ∙ at), λ there. number ∙ found_where_there (texts vectors) name apart n there)

    absent : (answer : Option ℕ) → ((n : ℕ) → (answer ≡ Some n) ↔ (slice_get (texts vectors) n ≡ Some name))
        → IsNone answer ↔ (Contains (texts vectors) name → ⊥)
    absent None found = (λ none has. let at = place_of (texts vectors) name has in none-some at.0 ((found at.0).1 at.1), λ none. refl)
    absent (Some n) found = (λ none. absurd (true≢false none), λ none. absurd (none (contained_at (texts vectors) name n ((found n).0 refl))))
