-- How many sets of positions there are, for the scanner and for the splits of its rules.
use Rattle.std.specs.Prelude.{◌≡◌, ℕ, ◌<◌, ◌↔◌, Bool, true, false, List, Some, slice_get}
use Rattle.ck_base.specs.Counts.{HasMoreThan}
use Rattle.rex_model.specs.Language.{Re}
use Rattle.rex_model.specs.Positions.{Takes, First, Follow}
use Rattle.rex_model.specs.Rules.{Rule}
use Rattle.rex_model.specs.Sets.{ComesNext, marked, marked_rules, FirstOfActive, FirstBackwards, FollowBackwards}
use Rattle.rex_model.specs.Runs.{AreBytes}

-- a start state, and a word that is read from it on
pub record Way : Type 0 where
  pub start : ℕ
  pub word : List ℕ

-- position q can come next on the way
abbrev pub InScanSet : List Rule → Way → ℕ → Type 0
InScanSet rules way q =
    ComesNext (Takes (marked_rules rules) 0) (Follow (marked_rules rules) 0) (FirstOfActive rules way.start 0) way.word q

-- the way is one of bytes from one of the start states, and some position can come next
pub record IsScanWay (rules : List Rule) (states : ℕ) (way : Way) : Type 0 where
  pub inside : way.start < states
  pub bytes : AreBytes way.word
  pub filled : ((q : ℕ) → InScanSet rules way q → ⊥) → ⊥

-- there are more than n distinct sets of the scanner that aren't empty
abbrev pub HasMoreScanSets : List Rule → ℕ → ℕ → Type 0
HasMoreScanSets rules states n =
    HasMoreThan (IsScanWay rules states) (λ a b. (q : ℕ) → InScanSet rules a q ↔ InScanSet rules b q) n

-- one of the two automata of a rule's split, and a word that is read in it
pub record SplitWay : Type 0 where
  pub rule : ℕ
  pub backward : Bool
  pub word : List ℕ

-- position q can come next in the split of a rule with this body and context
abbrev pub InPartSet : Re → Re → Bool → List ℕ → ℕ → Type 0
InPartSet body context false word q =
    ComesNext (Takes (marked body) 0) (Follow (marked body) 0) (First (marked body) 0) word q
InPartSet body context true word q =
    ComesNext (Takes context 0) (FollowBackwards context) (FirstBackwards context) word q

-- position q can come next on the way in a split
abbrev pub InSplitSet : List Rule → SplitWay → ℕ → Type 0
InSplitSet rules way q = (rule : Rule) × (context : Re) × (slice_get rules way.rule ≡ Some rule)
    × (rule.context ≡ Some context) × InPartSet rule.body context way.backward way.word q

-- the way is one of bytes, and some position can come next; so its rule has a context
pub record IsSplitWay (rules : List Rule) (way : SplitWay) : Type 0 where
  pub bytes : AreBytes way.word
  pub filled : ((q : ℕ) → InSplitSet rules way q → ⊥) → ⊥

-- the ways are in the same automaton, and the same positions can come next
pub record IsSameSplitSet (rules : List Rule) (a b : SplitWay) : Type 0 where
  pub rule : a.rule ≡ b.rule
  pub backward : a.backward ≡ b.backward
  pub same : (q : ℕ) → InSplitSet rules a q ↔ InSplitSet rules b q

-- there are more than n sets of all splits together, which aren't empty and differ within each automaton
abbrev pub HasMoreSplitSets : List Rule → ℕ → Type 0
HasMoreSplitSets rules n = HasMoreThan (IsSplitWay rules) (IsSameSplitSet rules) n
