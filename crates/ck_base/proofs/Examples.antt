-- The definitions, tried on known cases.
use Rattle.std.proofs.Common.{◌≡◌, ℕ, zero, suc, ◌<◌, ◌⊎◌, ◌^◌, inl, inr, refl, sym, ap, subst, ◌∙◌, lit<, arith, List, [], ◌∷◌, length, Some, None, Vec, Global, slice_get, slice_index, bit_or, ◌/◌, ◌%◌}
use Rattle.std.proofs.lemmas.Option.{none-some, same_Some}
use Rattle.std.specs.Prelude.{codes, IsBitSet}
use Rattle.std.specs.Fmt.{digits}
use Rattle.ck_base.specs.declared.fault.Kind.TheVariants.{Syntax, Typing}
use Rattle.ck_base.specs.declared.lines.TheConstants.{USAGE_LINE, READ_LINE, WRITE_LINE, MEMORY_LINE}
use Rattle.ck_base.specs.declared.refusal.Refusal.TheVariants.{Usage, BadSpec, Unproductive, LalrConflict, LlConflict, SourceTooLong, BadToken, SpentBudget, UsedUp}
use Rattle.ck_base.specs.declared.status.Status.TheVariants as status
use Rattle.ck_base.specs.BitSet.{BitSet, Has, IsEmpty, Adds, Grew}
use Rattle.ck_base.specs.Counts.{HasMoreThan}
use Rattle.ck_base.specs.Found.{Finds}
use Rattle.ck_base.specs.Lines.{line_of, status_of, code_of}
use Rattle.ck_base.specs.Numbered.{texts, AreNumbered, number_of, met}
use Rattle.ck_base.specs.Represents.{Represents}
use Rattle.ck_base.specs.Words.{IsFit, AreJoined, Differ}
use Rattle.ck_base.proofs.Counting.{not_more}

-- the kind stands after the line
syntax_of_line_2 : line_of (BadSpec 2 Syntax) ≡ codes "spec:2: syntax"
unfolding digits
syntax_of_line_2 = refl

-- a fault of typing is printed as `type`
typing_is_type : line_of (BadSpec 10 Typing) ≡ codes "spec:10: type"
unfolding digits
typing_is_type = refl

-- the line stands before the column
token_of_line_1 : line_of (BadToken 1 4) ≡ codes "source:1:4: bad token"
unfolding digits
token_of_line_1 = refl

-- a rule may stand against a shift or against another rule, which is printed last
conflict_with_shift : line_of (LalrConflict (codes "ELSE") (codes "if") None) ≡ codes "spec: conflict on ELSE: reduce if, shift"
conflict_with_shift = refl

conflict_with_rule : line_of (LalrConflict (codes "X") (codes "a") (Some (codes "b"))) ≡ codes "spec: conflict on X: reduce a, reduce b"
conflict_with_rule = refl

-- the terminal is printed before the nonterminal
conflict_of_choice : line_of (LlConflict (codes "Stmt") (codes "a") (codes "b") (codes "ID")) ≡ codes "spec: conflict on ID in Stmt: a, b"
conflict_of_choice = refl

-- what is needed is printed before what there is
three_of_two : line_of (UsedUp (codes "R") 3 2) ≡ codes "code: class R needs 3 registers and has 2"
unfolding digits
three_of_two = refl

-- refusals with equal names are equal, however the names are stored
same_names : (n m : List ℕ) → n ≡ m → Unproductive n ≡ Unproductive m
same_names n m same = ap Unproductive same

-- the lines that are constants
usage_line : USAGE_LINE.now ≡ line_of Usage
usage_line = refl

read_line : READ_LINE.now ≡ codes "device: read fault"
read_line = refl

write_line : WRITE_LINE.now ≡ codes "device: write fault"
write_line = refl

memory_line : MEMORY_LINE.now ≡ codes "out of memory"
memory_line = refl

-- a source that is too long is the source's fault
too_long_is_source : status_of SourceTooLong ≡ status.Source
too_long_is_source = refl

-- a spent budget is a fault of rewriting, too few registers one of the code
rewriting_and_code : (status_of (SpentBudget 7) ≡ status.Rewrite) × (status_of (UsedUp (codes "R") 3 2) ≡ status.Code)
rewriting_and_code = (refl, refl)

-- the program ends with 2 where the specification is refused
spec_ends_with_2 : code_of (status_of (BadSpec 2 Syntax)) ≡ 2
spec_ends_with_2 = refl

-- the exit statuses aren't the places in the list of statuses
device_ends_with_8 : code_of status.Device ≡ 8
device_ends_with_8 = refl

-- of the numbers below 70 those two are in the first set, and one in each of the others
abbrev one_and_64 : BitSet
one_and_64 = record { size = 70; words = 2 ∷ 1 ∷ [] }

abbrev only_1 : BitSet
only_1 = record { size = 70; words = 2 ∷ 0 ∷ [] }

abbrev only_64 : BitSet
only_64 = record { size = 70; words = 0 ∷ 1 ∷ [] }

-- number 1 is bit 1 of the first word
has_1 : Has one_and_64 1
has_1 = (lit< tt, λ none. cc)

-- number 64 is bit 0 of the second word
has_64 : Has one_and_64 64
has_64 = (lit< tt, λ none. cc)

-- bit 0 of the first word isn't set
lacks_0 : Has one_and_64 0 → ⊥
lacks_0 has = has.1 refl

-- a number that isn't below the size is not in the set, even where its bit is set
lacks_70 : Has (record { size = 70; words = 2 ∷ 2 ^ 6 ∷ [] }) 70 → ⊥
lacks_70 has = omega (arith, has.0)

-- to be empty is to have no number, not to have no room for one
zeros_are_empty : IsEmpty (record { size = 70; words = 0 ∷ 0 ∷ [] })
zeros_are_empty i has = lacks (i / 64) (i % 64) has.1 where
  lacks : (k j : ℕ) → IsBitSet (slice_index (0 ∷ 0 ∷ []) k) j → ⊥
  lacks zero j bit = bit refl
  lacks (suc zero) j bit = bit refl
  lacks (suc (suc k)) j bit = bit refl

-- a number that was in the set is in it once more, not out of it
added_again : Adds one_and_64 one_and_64 (λ k. k ≡ 1)
added_again = record {
  size = refl;
  only = λ k has. inl has;
  kept = λ k has. has;
  more = λ k same. subst (Has one_and_64) (sym same) has_1;
}

-- the old numbers stay
old_stay : Adds only_1 only_64 (λ k. k ≡ 64) → ⊥
old_stay adds = (adds.kept 1 (lit< tt, λ none. cc)).1 refl

-- no others come
no_others : Adds only_1 one_and_64 (λ k. k ≡ 1) → ⊥
no_others adds = elim (adds.only 64 has_64) [ inl old ↦ old.1 refl | inr own ↦ cc ]

-- a set grew where one number is new, whatever it lost
grew_by_64 : Grew only_1 only_64
grew_by_64 = (64, (lit< tt, λ none. cc), λ has. has.1 refl)

-- a set that only lost numbers didn't grow
did_not_grow : Grew one_and_64 only_1 → ⊥
did_not_grow (i, has, lacks) = lacks (has.0, still (i / 64) (i % 64) has.1) where
  still : (k j : ℕ) → IsBitSet (slice_index (2 ∷ 0 ∷ []) k) j → IsBitSet (slice_index (2 ∷ 1 ∷ []) k) j
  still zero j bit = bit
  still (suc zero) j bit = absurd (bit refl)
  still (suc (suc k)) j bit = bit

-- 64 numbers have one word, and one number more has the next
one_word : (words : List ℕ) → IsFit 64 words → length words ≡ 1
one_word words fit = fit.count

two_words : (words : List ℕ) → IsFit 65 words → length words ≡ 2
two_words words fit = fit.count

-- no bit is set past the size
no_bit_past : IsFit 1 (2 ∷ []) → ⊥
no_bit_past fit = omega (arith, fit.inside 1 (λ none. cc))

-- a join is neither a sum nor an exclusive or
or_of_words : AreJoined (3 ∷ []) (5 ∷ []) (7 ∷ [])
or_of_words = record { length_kept = refl; each = each } where
  each : (k : ℕ) → slice_index (7 ∷ []) k ≡ bit_or (slice_index (3 ∷ []) k) (slice_index (5 ∷ []) k)
  each zero = refl
  each (suc k) = refl

-- words differ where one of them does
second_differs : Differ (1 ∷ 2 ∷ []) (1 ∷ 3 ∷ [])
second_differs = (1, λ same. cc)

-- vectors are told by their bytes, in their order
bytes_in_order : (v w : Vec ℕ Global) → texts (v ∷ w ∷ []) ≡ v.items ∷ w.items ∷ []
bytes_in_order v w = refl

-- two names, with the numbers 0 and 1
abbrev ab : List (List ℕ)
ab = codes "a" ∷ codes "b" ∷ []

-- a number is the place from 0
number_of_b : number_of ab (codes "b") ≡ Some 1
number_of_b = refl

-- the empty byte string is neither of the two
no_number : number_of ab [] ≡ None
no_number = refl

-- an old name isn't added a second time, wherever it stands
not_twice : met ab (codes "a" ∷ []) ≡ ab
not_twice = refl

-- new names go to the end, in the order in which they are first met
in_order : met ab (codes "d" ∷ codes "a" ∷ codes "c" ∷ codes "d" ∷ []) ≡ codes "a" ∷ codes "b" ∷ codes "d" ∷ codes "c" ∷ []
in_order = refl

-- no list of names has one of them twice
no_doubles : AreNumbered (codes "a" ∷ codes "a" ∷ []) → ⊥
no_doubles numbered = omega (arith, numbered.apart 0 1 (codes "a") refl refl)

-- 2 ^ 32 names are too many: how many there are wouldn't fit 32 bits
too_many : (names : List (List ℕ)) → length names ≡ 2 ^ 32 → AreNumbered names → ⊥
too_many names many numbered = omega (arith, numbered.few, many)

-- an element of two values is one of them
of_two : (x y i n : ℕ) → slice_get (x ∷ y ∷ []) i ≡ Some n → ((i ≡ 0) × (x ≡ n)) ⊎ ((i ≡ 1) × (y ≡ n))
of_two x y zero n is = inl (refl, same_Some x n is)
of_two x y (suc zero) n is = inr (refl, same_Some y n is)
of_two x y (suc (suc i)) n is = absurd (none-some n is)

-- numbers below 4, those with the same rest by 2 alike
abbrev below_4 : ℕ → Type 0
below_4 n = n < 4

abbrev same_rest : ℕ → ℕ → Type 0
same_rest n m = n % 2 ≡ m % 2

-- there is more than one of them: 0 and 1 aren't alike
more_than_one : HasMoreThan below_4 same_rest 1
more_than_one = record {
  some = 0 ∷ 1 ∷ [];
  each = λ i n is. elim (of_two 0 1 i n is) [ inl one ↦ omega (arith, one.1) | inr other ↦ omega (arith, other.1) ];
  apart = λ i j n m is_n is_m same. elim (of_two 0 1 i n is_n) [
    | inl one ↦ elim (of_two 0 1 j m is_m) [ inl two ↦ omega (arith, one, two) | inr two ↦ omega (arith, one, two, same) ]
    | inr one ↦ elim (of_two 0 1 j m is_m) [ inl two ↦ omega (arith, one, two, same) | inr two ↦ omega (arith, one, two) ]
  ];
  many = lit< tt;
}

-- and no more than two, since 2 and 3 are alike to those
no_more_than_two : HasMoreThan below_4 same_rest 2 → ⊥
no_more_than_two = not_more below_4 same_rest 2 (λ n rest. n % 2 ≡ rest) (λ n below. (n % 2, omega arith, refl))
    (λ n m rest below_n below_m one other. one ∙ sym other)

-- an even and an odd one stand for all
even_and_odd : Represents below_4 same_rest (2 ∷ 1 ∷ [])
even_and_odd = record {
  each = λ i n is. elim (of_two 2 1 i n is) [ inl one ↦ omega (arith, one.1) | inr other ↦ omega (arith, other.1) ];
  apart = λ i j n m is_n is_m same. elim (of_two 2 1 i n is_n) [
    | inl one ↦ elim (of_two 2 1 j m is_m) [ inl two ↦ omega (arith, one, two) | inr two ↦ omega (arith, one, two, same) ]
    | inr one ↦ elim (of_two 2 1 j m is_m) [ inl two ↦ omega (arith, one, two, same) | inr two ↦ omega (arith, one, two) ]
  ];
  all = all;
}
  where
    all : (n : ℕ) → n < 4 → (i m : ℕ) × (slice_get (2 ∷ 1 ∷ []) i ≡ Some m) × (n % 2 ≡ m % 2)
    all zero below = (0, 2, refl, refl)
    all (suc zero) below = (1, 1, refl, refl)
    all (suc (suc zero)) below = (0, 2, refl, refl)
    all (suc (suc (suc zero))) below = (1, 1, refl, refl)
    all (suc (suc (suc (suc n)))) below = absurd (omega arith)

-- no sort is there twice, and none is missing
even_twice : Represents below_4 same_rest (0 ∷ 1 ∷ 2 ∷ []) → ⊥
even_twice all = omega (arith, all.apart 0 2 0 2 refl refl refl)

odd_missing : Represents below_4 same_rest (0 ∷ []) → ⊥
odd_missing all = let (i, n, is, same) = all.all 1 (lit< tt) in none_odd i n is same
  where
    none_odd : (i n : ℕ) → slice_get (0 ∷ []) i ≡ Some n → 1 % 2 ≡ n % 2 → ⊥
    none_odd zero n is same = omega (arith, same_Some 0 n is, same)
    none_odd (suc i) n is same = none-some n is

-- a search that answers None found that there is none: it doesn't give up
gave_up : Finds (λ (n : ℕ). n) below_4 None → ⊥
gave_up none = none 2 (lit< tt)

found_none : Finds (λ (n : ℕ). n) (λ n. n < 0) None
found_none n below = omega (arith, below)

-- what it finds is seen as one of the kind: three bytes, and not four
found_bytes : Finds length below_4 (Some (codes "abc")) × (Finds length below_4 (Some (codes "abcd")) → ⊥)
found_bytes = (lit< tt, λ below. omega (arith, below))
