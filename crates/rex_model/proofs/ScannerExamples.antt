-- What the scanner computes with, tried on cases that are worked by hand: positions, the longest word
-- and the best rule.
use Rattle.std.proofs.Common.{◌≡◌, ℕ, zero, suc, true, false, [], ◌∷◌, Some, None, length, refl, ap, subst, arith, inl, inr}
use Rattle.std.specs.Prelude.{codes}
use Rattle.ck_base.specs.BitSet.{BitSet, Has}
use Rattle.rex_model.specs.within.Best.{IsBest, longer_of}
use Rattle.rex_model.specs.Language.{none, bytes, class, sequence, alternative, star, plus, optional}
use Rattle.rex_model.specs.within.Longest.{HasNoWord, IsLongest}
use Rattle.rex_model.specs.within.Pairs.{IsAtMost, IsPairOfRule, better_of}
use Rattle.rex_model.specs.Positions.{has_empty, Takes, First, Last, Follow, Moves, Ends}
use Rattle.rex_model.specs.declared.winner.Best.{Best}
use Rattle.rex_model.proofs.Examples.{only_a, only_b, a_then_bs, a_is_in, twice_ab, a_then_b, never_a}
use Rattle.rex_model.proofs.WinnerExamples.{keyword, plain_rule, keyword_first, longer_wins}

-- a sequence has the empty word where both parts have it, alternatives where one has
empties : (has_empty (sequence (star (class only_a)) (class only_b)) ≡ false)
    × (has_empty (alternative none (star (class only_a))) ≡ true) × (has_empty (plus (class only_a)) ≡ false)
empties = (refl, refl, refl)

-- a string takes its second byte at its second position
takes_second : Takes (bytes (codes "if")) 3 4 102
takes_second = inr (inl (refl, refl))

-- and no other byte
takes_no_first : Takes (bytes (codes "if")) 3 4 105 → ⊥
takes_no_first (inl (place, byte)) = (omega arith)
takes_no_first (inr (inl (place, byte))) = (omega arith)
takes_no_first (inr (inr h)) = elim h [ ]

-- the positions of a second part come after those of the first
takes_b : Takes a_then_bs 5 6 98
takes_b = inr (refl, (omega arith, refl))

-- a word may begin in the second part where the first one may be empty
begins_in_second : First (sequence (star (class only_a)) (class only_b)) 0 1
begins_in_second = inr (refl, refl)

-- the empty string has no last position
ends_nowhere : (p : ℕ) → Last (bytes []) 3 p → ⊥
ends_nowhere p (from, to) = omega arith

-- of two alternatives neither follows the other
alternatives_apart : Follow (alternative (class only_a) (class only_b)) 0 0 1 → ⊥
alternatives_apart (inl h) = elim h [ ]
alternatives_apart (inr h) = elim h [ ]

-- one or more of a class: it follows itself
again : Follow (plus (class only_a)) 0 0 0
again = inr (refl, refl)

-- an optional class doesn't
never_again : Follow (optional (class only_a)) 0 0 0 → ⊥
never_again h = elim h [ ]

-- the position of a alone
abbrev at_a : BitSet
at_a = record { size = 2; words = 1 ∷ [] }

-- when a was taken there, the position of b comes
moves_on : Moves a_then_bs 0 at_a 97 1
moves_on = (0, (omega arith, λ e. cc), inl (refl, a_is_in), a_then_b)

-- and that of a is left
moves_away : Moves a_then_bs 0 at_a 97 0 → ⊥
moves_away (p, has, takes, follows) = never_a p follows

-- b can't be taken there, though a word may end with b
ends_with_a : Ends a_then_bs 0 at_a 98 → ⊥
ends_with_a (p, has, inl (place, among), last) = let e = among.1 in cc
ends_with_a (p, has, inr (place, among), last) = let second : Has at_a 1 = subst (λ x. Has at_a x) place has in second.1 refl

-- the longest word, and not the first one
longest_of_abab : IsLongest (star (bytes (codes "ab"))) (codes "abab") (Some 4)
longest_of_abab = record { some = omega arith; within = omega arith; word = twice_ab; longest = λ m within word. within }

-- the longest word is found past a front that is no word
over_a_gap : IsLongest (alternative (bytes (codes "a")) (bytes (codes "abc"))) (codes "abc") (Some 3)
over_a_gap = record { some = omega arith; within = omega arith; word = inr refl; longest = λ m within word. within }

-- the empty word doesn't count
empty_is_none : HasNoWord (optional (bytes (codes "ab"))) (codes "a")
empty_is_none zero some within word = omega arith
empty_is_none (suc zero) some within (inl is) = (cc)
empty_is_none (suc zero) some within (inr is) = (let two = ap length is in omega arith)
empty_is_none (suc (suc m)) some within word = omega arith

-- a rule that isn't active has no pair, whatever its words are
inactive_has_none : IsPairOfRule (plain_rule keyword 1) 1 (codes "if") None
inactive_has_none = λ active n m pair. cc

-- a text of two bytes with one behind it isn't better than one of three bytes: they end together
shorter_text : IsAtMost 2 3 3 3
shorter_text = inr (refl, omega arith)

-- but it is better than one of two bytes alone
not_at_most : IsAtMost 2 3 2 2 → ⊥
not_at_most (inl less) = omega arith
not_at_most (inr (same, less)) = omega arith

-- of two texts that end together with their contexts the longer one is better
later_text : better_of (Some (record { len = 1; whole = 3 })) 2 (Some 1) ≡ Some (record { len = 2; whole = 3 })
later_text = refl

-- one whose context ends before isn't
earlier_end : better_of (Some (record { len = 1; whole = 3 })) 2 (Some 0) ≡ Some (record { len = 1; whole = 3 })
earlier_end = refl

-- a rule and its pair, without anything behind the text
abbrev best : ℕ → ℕ → Best
best rule len = record { rule = rule; pair = record { len = len; whole = len } }

-- of two equally long texts the one before stays
earlier_stays : longer_of (Some (best 0 2)) 1 (Some (record { len = 2; whole = 2 })) ≡ Some (best 0 2)
earlier_stays = refl

-- what stands behind the text counts, too
longer_comes : longer_of (Some (best 0 2)) 1 (Some (record { len = 1; whole = 3 }))
    ≡ Some (record { rule = 1; pair = record { len = 1; whole = 3 } })
longer_comes = refl

-- a rule without a text changes nothing
none_comes : longer_of (Some (best 0 2)) 1 None ≡ Some (best 0 2)
none_comes = refl

-- at "iffy" the name is best, which is written second
best_of_iffy : IsBest keyword_first 0 (codes "iffy") (Some (best 1 4))
best_of_iffy = longer_wins
