-- The words for faults, the order of kinds and parts that stand more than once, tried where the nearest wrong
-- reading differs.
use Rattle.std.proofs.Common.{◌≡◌, ℕ, zero, suc, ◌<◌, List, [], ◌∷◌, refl, true, Option, Some, None, codes, arith}
use Rattle.std.specs.List.{slice_get}
use Rattle.ck_base.specs.declared.fault.Kind.TheVariants.{Twice}
use Rattle.ck_base.specs.declared.fault.SpecFault.TheVariants.{Bad}
use Rattle.spec_text.specs.Lexemes.{word}
use Rattle.section_frame.specs.Declares.{Declared}
use Rattle.section_frame.specs.Parts.{Name}
use Rattle.section_frame.specs.Read.{Rep, no_part, one_part}
use Rattle.section_frame.specs.Stages.{FirstOf, of_twice, at_head_or}
use Rattle.section_frame.specs.Words.{HasAmong, IsAgain, IsMissing, IsUndeclared, IsPast, ArePast, HasDouble}

-- the first line with a name isn't one that has it again, whatever follows
pub first_is_fresh : {S : Type 0} (name : S → Option (List ℕ)) (d : Declared S) (ds : List (Declared S))
    → IsAgain name (d ∷ ds) 0 d.said → ⊥
first_is_fresh name d ds again =
    let there = again.before in let less : there.0 < 0 = there.1 in omega (arith, less)

-- a name among the words isn't missing
pub known_is_there : (name : List ℕ) → IsMissing (name ∷ []) (name ∷ []) → ⊥
known_is_there name missing = missing.none missing.used

-- one of the names is enough
one_of_them : HasAmong (codes "a" ∷ []) (codes "b" ∷ codes "a" ∷ [])
one_of_them = record { name = codes "a"; used = (1, omega arith, refl); among = (0, omega arith, refl) }

-- what a line itself declares isn't there before it
not_by_itself : IsUndeclared (λ said. Some said) (record { number = 1; said = codes "a" } ∷ []) 0 (codes "a" ∷ [])
not_by_itself = record { name = codes "a"; used = (0, omega arith, refl); none = λ there. (let less = there.1 in omega (arith, less)) }

-- as many as the limit are within it, and one more isn't
pub at_the_limit : {S : Type 0} (d e : Declared S)
    → (IsPast (λ said. 1) 1 (d ∷ e ∷ []) 0 → ⊥) × IsPast (λ said. 1) 1 (d ∷ e ∷ []) 1
at_the_limit d e = (
  λ past. let more : 1 < 1 = past in omega (arith, more),
  let more : 1 < 2 = omega arith in more,
)

-- a name that two lines have counts once
pub same_name_counts_once : ArePast (λ said. Some said) 0 1
    (record { number = 1; said = codes "a" } ∷ record { number = 2; said = codes "a" } ∷ []) 1 → ⊥
same_name_counts_once past = let more : 1 < 1 = past in omega (arith, more)

-- a name that is there once isn't there twice
pub once_is_no_double : (name : List ℕ) → HasDouble (name ∷ []) → ⊥
once_is_no_double name twice = by twice.other twice.before twice.second
  where
    by : (other : ℕ) → twice.place < other → slice_get (name ∷ []) other ≡ Some twice.name → ⊥
    by zero less at = omega (arith, less)
    by (suc other) less at = cc

-- a name twice at line 9 comes before one that isn't there at line 2
pub kind_before_place : FirstOf (Some 9) (Some 2) None None (Bad 9 Twice)
kind_before_place = of_twice 9 refl

-- of the head's line and a line that was found the earlier one
pub head_or_line : (at_head_or true 3 (Some 5) ≡ Some 3) × (at_head_or true 6 (Some 5) ≡ Some 5)
head_or_line = (refl, refl)

-- none or more needn't be as many as can be
pub may_stop : Rep Name (word (codes "a") ∷ []) [] (word (codes "a") ∷ [])
    × Rep Name (word (codes "a") ∷ []) (codes "a" ∷ []) []
may_stop = (
  no_part (word (codes "a") ∷ []),
  one_part (word (codes "a") ∷ []) [] [] (codes "a") [] refl (no_part []),
)
