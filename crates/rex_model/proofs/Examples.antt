-- Languages, positions and places, tried on cases that are worked by hand.
use Rattle.std.proofs.Common.{◌≡◌, ℕ, ◌^◌, Bool, true, List, [], ◌∷◌, ◌++◌, refl, subst, arith, inl, inr}
use Rattle.std.specs.Prelude.{codes}
use Rattle.rex_model.specs.Language.{Re, none, bytes, class, sequence, alternative, star, plus, optional, IsIn, no_more, one_more, Language}
use Rattle.rex_model.specs.Meaning.{sequence_of, alternative_of, set_of}
use Rattle.rex_model.specs.Place.{line_at, column_at}
use Rattle.rex_model.specs.Positions.{position_count, First, Last, Follow}
use Rattle.rex_model.proofs.EmptyWord.{both_empty, empty_of}
use Rattle.rex_model.proofs.WordsToPositions.{first_round}

-- the class of one letter a: bit 97 of four words
abbrev pub only_a : ℕ → Bool
only_a = set_of (0 ∷ 2 ^ 33 ∷ 0 ∷ 0 ∷ [])

-- the class of one letter b
abbrev pub only_b : ℕ → Bool
only_b = set_of (0 ∷ 2 ^ 34 ∷ 0 ∷ 0 ∷ [])

-- a is in the class of a
pub a_is_in : IsIn only_a 97
a_is_in = (omega arith, refl)

-- b isn't in the class of a
b_is_not_in : IsIn only_a 98 → ⊥
b_is_not_in h = let e = h.1 in cc

-- no number past the bytes is in a class, whatever its test says of it
past_bytes : IsIn (λ byte. true) 353 → ⊥
past_bytes h = omega arith

-- one a, then any number of b
abbrev pub a_then_bs : Re
a_then_bs = sequence (class only_a) (star (class only_b))

-- "ab" is one of its words
ab_is_a_word : Language a_then_bs (codes "ab")
ab_is_a_word = (
  codes "a",
  codes "b",
  refl,
  (97, refl, a_is_in),
  one_more (codes "b") [] (98, refl, (omega arith, refl)) no_more,
)

-- so is "a"
a_is_a_word : Language a_then_bs (codes "a")
a_is_a_word = (codes "a", [], refl, (97, refl, a_is_in), no_more)

-- the empty word isn't
empty_is_no_word : Language a_then_bs [] → ⊥
empty_is_no_word h = let e = empty_of a_then_bs h in cc

-- "abab" is "ab" twice
pub twice_ab : Language (star (bytes (codes "ab"))) (codes "abab")
twice_ab = one_more (codes "ab") (codes "ab") refl (one_more (codes "ab") [] refl no_more)

-- "aba" isn't any number of "ab"
aba_is_no_word : Language (star (bytes (codes "ab"))) (codes "aba") → ⊥
aba_is_no_word h =
    let (u, v, is, one, more) = first_round (Language (bytes (codes "ab"))) _ 97 (codes "ba") h refl in
    let b : u ≡ codes "b" = cc in
    let rest : v ≡ codes "a" = (let e = subst (λ x. codes "ba" ≡ x ++ v) b is in cc) in
    let (x, y, is2, two, more2) = first_round (Language (bytes (codes "ab"))) v 97 [] more rest in
    let e = (both_empty x y is2).0 in
    cc

-- any number of words may be none
star_empty : Language (star (class only_a)) []
star_empty = no_more

-- an optional word may be missing
optional_empty : Language (optional (class only_a)) []
optional_empty = inl refl

-- one or more words of a class aren't empty
plus_empty : Language (plus (class only_a)) [] → ⊥
plus_empty h = let e = empty_of (plus (class only_a)) h in cc

-- one or more of what may be empty may be empty
plus_of_empty : Language (plus (optional (class only_a))) []
plus_of_empty = ([], [], refl, inl refl, no_more)

-- nothing is a word of `none`, not even the empty word
none_has_no_word : Language none [] → ⊥
none_has_no_word h = elim h [ ]

-- of a string only all of it is a word
front_is_no_word : Language (bytes (codes "ab")) (codes "a") → ⊥
front_is_no_word h = cc

-- a class has words of one byte alone
two_of_a_class : Language (class only_a) (codes "aa") → ⊥
two_of_a_class (byte, is, among) = cc

-- a word of one alternative is enough
one_of_two : Language (alternative (bytes (codes "a")) (bytes (codes "b"))) (codes "b")
one_of_two = inr refl

-- each round may have another word
rounds_differ : Language (star (alternative (bytes (codes "a")) (bytes (codes "b")))) (codes "ab")
rounds_differ = one_more (codes "a") (codes "b") (inl refl) (one_more (codes "b") [] (inr refl) no_more)

-- an optional word comes once
twice_is_no_option : Language (optional (class only_a)) (codes "aa") → ⊥
twice_is_no_option (inl is) = (cc)
twice_is_no_option (inr (byte, is, among)) = (cc)

-- no parts one after the other are the empty word
no_parts_are_empty : Language (sequence_of []) []
no_parts_are_empty = refl

-- of no alternatives there is no word
no_alternative : Language (alternative_of []) [] → ⊥
no_alternative h = elim h [ ]

-- "a", a line feed, and "bc"
abbrev two_lines : List ℕ
two_lines = codes "a\nbc"

-- the first byte is at line 1, column 1
place_0 : (line_at two_lines 0 ≡ 1) × (column_at two_lines 0 ≡ 1)
place_0 = (refl, refl)

-- a line feed belongs to the line that it ends
place_1 : (line_at two_lines 1 ≡ 1) × (column_at two_lines 1 ≡ 2)
place_1 = (refl, refl)

-- after a line feed the next line begins
place_2 : (line_at two_lines 2 ≡ 2) × (column_at two_lines 2 ≡ 1)
place_2 = (refl, refl)

-- and goes on
place_3 : (line_at two_lines 3 ≡ 2) × (column_at two_lines 3 ≡ 2)
place_3 = (refl, refl)

-- the end of the text is one column after its last byte
place_4 : (line_at two_lines 4 ≡ 2) × (column_at two_lines 4 ≡ 3)
place_4 = (refl, refl)

-- a tab is one column
tab_is_one_column : column_at (codes "\tb") 1 ≡ 2
tab_is_one_column = refl

-- a string has a position for each byte, a class has one, and the empty string none
counts : (position_count (bytes (codes "if")) ≡ 2) × (position_count a_then_bs ≡ 2)
    × (position_count (bytes []) ≡ 0) × (position_count (plus a_then_bs) ≡ 2)
counts = (refl, refl, refl, refl)

-- a, then any number of b, may begin with the position of a
begins_a : First a_then_bs 0 0
begins_a = inl refl

-- but not with that of b
begins_not_b : First a_then_bs 0 1 → ⊥
begins_not_b (inl h) = (cc)
begins_not_b (inr h) = let e = h.0 in cc

-- it may end with a
ends_a : Last a_then_bs 0 0
ends_a = inr (refl, refl)

-- or with b
ends_b : Last a_then_bs 0 1
ends_b = inl refl

-- b may follow a
pub a_then_b : Follow a_then_bs 0 0 1
a_then_b = inr (inr (refl, refl))

-- b may follow b
b_then_b : Follow a_then_bs 0 1 1
b_then_b = inr (inl (inr (refl, refl)))

-- a follows nothing
pub never_a : (p : ℕ) → Follow a_then_bs 0 p 0 → ⊥
never_a p (inl h) = elim h [ ]
never_a p (inr (inl (inl h))) = elim h [ ]
never_a p (inr (inl (inr (last, begins)))) = (cc)
never_a p (inr (inr (last, begins))) = (cc)
