-- The splits of rules with contexts.
use Rattle.std.specs.Prelude.{◌≡◌, ℕ, ◌+◌, ◌<◌, ◌≤◌, ◌↔◌, List, length, reverse, Option, Some, None, IsSome, slice_get, All}
use Rattle.ck_base.specs.Represents.{Represents}
use Rattle.rex_model.specs.Language.{Re, Language}
use Rattle.rex_model.specs.Positions.{position_count, Takes, First, Follow}
use Rattle.rex_model.specs.Sets.{marked, FirstBackwards, FollowBackwards}
use Rattle.rex_model.specs.Rules.{Rule, trailing}
use Rattle.rex_dfa.specs.within.Parts.{IsFilled, IsSameAfter, HasMoreOf, IsPart}
use Rattle.rex_model.specs.Runs.{Automaton, run, accepted, AreBytes}
use Rattle.rex_model.specs.ScanSets.{SplitWay, IsSplitWay, IsSameSplitSet, HasMoreSplitSets}
use Rattle.rex_model.specs.Tables.{IsSplit, split_of}
use Rattle.rex_model.specs.Tables.{Halves}

-- the automata of the split accept the rule's bodies, and its contexts read from their end
pub record AcceptsParts (rule : Rule) (split : Halves) : Type 0 where
  pub forward : (w : List ℕ) → AreBytes w
      → IsSome (accepted split.forward (run split.forward 0 w)) ↔ Language rule.body w
  pub backward : (w : List ℕ) → AreBytes w
      → IsSome (accepted split.backward (run split.backward 0 w)) ↔ Language (trailing rule.context) (reverse w)

-- a split for each rule with a context, and for no other
abbrev pub HasSplit : List Halves → ℕ → Rule → Option Re → Type 0
HasSplit splits i rule None = split_of splits i ≡ None
HasSplit splits i rule (Some context) = (split : Halves) × (split_of splits i ≡ Some split) × AcceptsParts rule split

-- the sets of positions of a body with its end mark, and those of a context read from its end
abbrev pub HasMoreForward : Re → ℕ → Type 0
HasMoreForward body n = HasMoreOf (Takes (marked body) 0) (Follow (marked body) 0) (First (marked body) 0) n

-- the backward automaton of a context has more than so many states
abbrev pub HasMoreBackward : Re → ℕ → Type 0
HasMoreBackward context n = HasMoreOf (Takes context 0) (FollowBackwards context) (FirstBackwards context) n

-- the automaton of these sets, which are so many
abbrev pub IsForward : Re → Automaton → ℕ → Type 0
IsForward body dfa count =
    IsPart (Takes (marked body) 0) (Follow (marked body) 0) (First (marked body) 0) (position_count body) dfa count

-- this is the backward automaton of a context, of so many states
abbrev pub IsBackward : Re → Automaton → ℕ → Type 0
IsBackward context dfa count =
    IsPart (Takes context 0) (FollowBackwards context) (FirstBackwards context) (position_count context) dfa count

-- the split of a rule with this body and context, and how many sets both automata have
pub record IsMade (i : ℕ) (body context : Re) (split : Halves) (count : ℕ) : Type 0 where
  pub is_rule : split.rule ≡ i
  pub is_split : IsSplit split
  pub forward : (w : List ℕ) → AreBytes w → IsSome (accepted split.forward (run split.forward 0 w)) ↔ Language body w
  pub backward : (w : List ℕ) → AreBytes w → IsSome (accepted split.backward (run split.backward 0 w)) ↔ Language context (reverse w)
  pub forwards : List (List ℕ)
  pub backwards : List (List ℕ)
  pub represent : Represents (IsFilled (Takes (marked body) 0) (Follow (marked body) 0) (First (marked body) 0))
      (IsSameAfter (Takes (marked body) 0) (Follow (marked body) 0) (First (marked body) 0)) forwards
  pub represent_back : Represents (IsFilled (Takes context 0) (FollowBackwards context) (FirstBackwards context))
      (IsSameAfter (Takes context 0) (FollowBackwards context) (FirstBackwards context)) backwards
  pub is_count : count ≡ length forwards + length backwards
  pub few : count ≤ 8192

-- a way in a split of one of the first i rules
abbrev pub IsEarly : List Rule → ℕ → SplitWay → Type 0
IsEarly rules i way = IsSplitWay rules way × (way.rule < i)

-- the splits of the first i rules, which have so many sets together
pub record Splitting (rules : List Rule) (i : ℕ) (splits : List Halves) (total : ℕ) : Type 0 where
  pub has : (j : ℕ) (rule : Rule) → j < i → slice_get rules j ≡ Some rule → HasSplit splits j rule rule.context
  pub later : (j : ℕ) → i ≤ j → split_of splits j ≡ None
  pub well : All IsSplit splits
  pub ways : List SplitWay
  pub represent : Represents (IsEarly rules i) (IsSameSplitSet rules) ways
  pub count : length ways ≡ total
  pub few : total ≤ 4096

-- each rule with a context has its split, and there aren't more than 4,096 sets
pub record AreSplits (rules : List Rule) (splits : List Halves) : Type 0 where
  pub has : (j : ℕ) (rule : Rule) → slice_get rules j ≡ Some rule → HasSplit splits j rule rule.context
  pub well : All IsSplit splits
  pub few : HasMoreSplitSets rules 4096 → ⊥
