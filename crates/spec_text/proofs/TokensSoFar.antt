-- The tokens so far stand before those of the rest.
use Rattle.std.proofs.Common.{◌≡◌, ℕ, ◌+◌, ◌<◌, ◌≤◌, true, false, List, [], ◌∷◌, ◌++◌, length, take, drop, map, refl, sym, ap, ◌∙◌, Option, Some, None, arith, append_assoc, length-drop}
use Rattle.std.specs.List.{list_all}
use Rattle.std.specs.Str.Parse.{digits_value}
use Rattle.std.proofs.lemmas.List.{append-nil, map-append}
use Rattle.ck_base.specs.declared.fault.Kind.{Kind}
use Rattle.ck_base.specs.declared.fault.Kind.TheVariants.{Syntax, Limit}
use Rattle.spec_text.specs.Bytes.{is_digit, is_blank}
use Rattle.spec_text.specs.Lexemes.{Lexeme, number, Form, a_word, a_number, a_text, a_class, a_sign, a_pair, Begins}
use Rattle.spec_text.specs.Reading.{Placed, Reads, nothing, gap, comment, a_token, too_large, no_token, most, IsSmall, comment_fault}
use Rattle.spec_text.specs.Spans.{span_of, sort_of}
use Rattle.spec_text.specs.Steps.{IsFirst, IsRead, HasNo2}
use Rattle.spec_text.specs.declared.token.SpecSort.{SpecSort}
use Rattle.spec_text.specs.declared.token.SpecSort.TheVariants.{Number}
use Rattle.spec_text.specs.declared.token.SpecToken.{SpecToken}

pub record TokensSoFar (at here : ℕ) (line rest : List ℕ) (tokens : List SpecToken) : Type 0 where
  pub seen : List Placed
  pub are : tokens ≡ map span_of seen
  pub place : here + length rest ≡ at + length line
  pub before : (more : List Placed) (bad : Option Kind) → Reads here rest more bad → Reads at line (seen ++ more) bad

pub one_gap : (at here : ℕ) (line rest after : List ℕ) (byte : ℕ) (tokens : List SpecToken) → TokensSoFar at here line rest tokens → rest ≡ byte ∷ after → is_blank byte ≡ true
    → TokensSoFar at (here + 1) line after tokens
one_gap at here line rest after byte tokens so are blank = record {
  seen = so.seen;
  are = so.are;
  place = let long = ap length are in omega (arith, so.place, long);
  before = λ more bad reads. so.before more bad (rw are (gap here byte after more bad blank reads));
}

pub number_of : (bytes : List ℕ) (said : Lexeme) → Form bytes said → Number ≡ sort_of said → (list_all is_digit bytes ≡ true) × (said ≡ number (digits_value 10 bytes))
number_of _ _ (a_word byte rest first others) is = cc
number_of _ _ (a_number byte rest first others) is = (rw (first, others) refl, refl)
number_of _ _ (a_text quote inside meant at quoted) is = cc
number_of _ _ (a_class bracket inside set at says) is = cc
number_of _ _ (a_sign byte first) is = cc
number_of _ _ (a_pair first second pair) is = cc

small_of : (bytes : List ℕ) (said : Lexeme) → Form bytes said → (Number ≡ sort_of said → most < digits_value 10 bytes → ⊥) → IsSmall said
small_of _ _ (a_word byte rest first others) none = tt
small_of _ _ (a_number byte rest first others) none = not_above (digits_value 10 (byte ∷ rest)) (none refl)
  where
    not_above : (n : ℕ) → (most < n → ⊥) → n ≤ most
    not_above n none = omega (arith, none)
small_of _ _ (a_text quote inside meant at quoted) none = tt
small_of _ _ (a_class bracket inside set at says) none = tt
small_of _ _ (a_sign byte first) none = tt
small_of _ _ (a_pair first second pair) none = tt

pub digits_of : (rest : List ℕ) (sort : SpecSort) (n : ℕ) → IsFirst rest sort n → sort ≡ Number → list_all is_digit (take n rest) ≡ true
digits_of rest sort n is at = (number_of (take n rest) is.said is.begins.is_token (sym at ∙ is.is_sort)).0

pub one_more : (at here n to : ℕ) (line rest : List ℕ) (sort : SpecSort) (tokens new : List SpecToken) → TokensSoFar at here line rest tokens → IsFirst rest sort n
    → ((sort ≡ Number) × (most < digits_value 10 (take n rest)) → ⊥) → to ≡ here + n
    → new ≡ tokens ++ record { sort = sort; from = here; to = to } ∷ [] → TokensSoFar at to line (drop n rest) new
one_more at here n to line rest sort tokens new so is small at_to are = record {
  seen = so.seen ++ record { said = is.said; from = here; to = here + n } ∷ [];
  are = are ∙ rw (at_to, is.is_sort, so.are) (sym (map-append span_of so.seen (record { said = is.said; from = here; to = here + n } ∷ [])));
  place = let long = length-drop n rest in omega (arith, so.place, long, is.begins.fits, at_to);
  before = λ more bad reads.
      rw (append_assoc so.seen (record { said = is.said; from = here; to = here + n } ∷ []) more)
      (so.before (record { said = is.said; from = here; to = here + n } ∷ more) bad
      (a_token here n rest is.said more bad is.begins
      (small_of (take n rest) is.said is.begins.is_token (λ number large. small (is.is_sort ∙ sym number, large)))
      (rw at_to at reads)));
}

-- the end of the reading
pub end_here : (at here : ℕ) (line rest : List ℕ) (tokens : List SpecToken) (bad : Option Kind) → TokensSoFar at here line rest tokens → Reads here rest [] bad → IsRead at line tokens bad
end_here at here line rest tokens bad so reads = record { seen = so.seen; are = so.are; reads = rw append-nil at (so.before [] bad reads) }

pub end_empty : (at here : ℕ) (line rest : List ℕ) (tokens : List SpecToken) → TokensSoFar at here line rest tokens → length rest ≡ 0 → IsRead at line tokens None
end_empty at here line [] tokens so empty = end_here at here line [] tokens None so (nothing here)
end_empty at here line (byte ∷ rest) tokens so empty = absurd (omega (arith, empty))

pub end_comment : (at here byte : ℕ) (line rest after : List ℕ) (tokens : List SpecToken) (bad : Option Kind) → TokensSoFar at here line rest tokens → rest ≡ byte ∷ after → byte ≡ 35
    → bad ≡ comment_fault after → IsRead at line tokens bad
end_comment at here byte line rest after tokens bad so are hash is = end_here at here line rest tokens bad so (rw (are, is) (comment here byte after hash))

pub end_none : (at here byte : ℕ) (line rest after : List ℕ) (tokens : List SpecToken) → TokensSoFar at here line rest tokens → rest ≡ byte ∷ after → is_blank byte ≡ false → (byte ≡ 35 → ⊥)
    → HasNo2 (Begins rest) → IsRead at line tokens (Some Syntax)
end_none at here byte line rest after tokens so are no_blank no_hash none =
    end_here at here line rest tokens (Some Syntax) so (rw are (no_token here byte after no_blank no_hash (rw are at none)))

pub end_large : (at here n : ℕ) (line rest : List ℕ) (sort : SpecSort) (tokens : List SpecToken) → TokensSoFar at here line rest tokens → IsFirst rest sort n
    → (sort ≡ Number) × (most < digits_value 10 (take n rest)) → IsRead at line tokens (Some Limit)
end_large at here n line rest sort tokens so is large =
    let number = (number_of (take n rest) is.said is.begins.is_token (sym large.0 ∙ is.is_sort)).1 in
    end_here at here line rest tokens (Some Limit) so (too_large here n (digits_value 10 (take n rest)) rest (rw number at is.begins) large.1)
