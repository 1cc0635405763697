-- The sets of positions that come next after a word.
use Rattle.std.specs.Prelude.{◌≡◌, ℕ, ◌+◌, ◌<◌, ◌≤◌, ◌⊎◌, false, IsTrue, List, [], ◌∷◌, length, Some, slice_get}
use Rattle.rex_model.specs.Language.{Re, none, class, sequence, alternative}
use Rattle.rex_model.specs.Positions.{position_count, has_empty, First, Last, Follow}
use Rattle.rex_model.specs.Rules.{Rule, Rules, trailing}

-- after the bytes of a word, taken at position p and those that follow, position q comes next
pub data Goes (takes follow : ℕ → ℕ → Type 0) : ℕ → List ℕ → ℕ → Type 0 where
  there : (p : ℕ) → Goes takes follow p [] p
  on : (p next q byte : ℕ) (w : List ℕ) → takes p byte → follow p next → Goes takes follow next w q
      → Goes takes follow p (byte ∷ w) q

-- position q can come next after the word, from the positions of a first set on
abbrev pub ComesNext : (takes follow : ℕ → ℕ → Type 0) → (first : ℕ → Type 0) → List ℕ → ℕ → Type 0
ComesNext takes follow first w q = (p : ℕ) × first p × Goes takes follow p w q

-- the end mark: a position that takes no byte
abbrev pub end_mark : Re
end_mark = class (λ byte. false)

-- the expression and its end mark
abbrev pub marked : Re → Re
marked r = sequence r end_mark

-- the body and the context of a rule
abbrev pub body_and_context : Rule → Re
body_and_context rule = sequence rule.body (trailing rule.context)

-- all rules, each with its end mark: their positions are numbered through the rules
abbrev pub marked_rules : List Rule → Re
marked_rules [] = none
marked_rules (rule ∷ rules) = alternative (marked (body_and_context rule)) (marked_rules rules)

-- a word of a rule that is active in the state may begin at position p; the rules' positions are
-- numbered from k on
abbrev pub FirstOfActive : List Rule → ℕ → ℕ → ℕ → Type 0
FirstOfActive [] state k p = ⊥
FirstOfActive (rule ∷ rules) state k p =
    (IsTrue (rule.active state) × First (marked (body_and_context rule)) k p)
    ⊎ FirstOfActive rules state (k + position_count (marked (body_and_context rule))) p

-- a word may be read from its end beginning with position p; the empty word with the end mark, which
-- stands behind the expression's positions
abbrev pub FirstBackwards : Re → ℕ → Type 0
FirstBackwards r p = Last r 0 p ⊎ (IsTrue (has_empty r) × (p ≡ position_count r))

-- backwards, position q comes directly after p, and the end mark after a first position
abbrev pub FollowBackwards : Re → ℕ → ℕ → Type 0
FollowBackwards r p q = Follow r 0 q p ⊎ (First r 0 p × (q ≡ position_count r))

-- rules of a scanner whose tables can be built: at most 4,096 positions, with an end mark for each
-- rule, and each next state is one of the start states
pub record IsScanner (rules : Rules) : Type 0 where
  pub few : position_count (marked_rules rules.list) ≤ 4096
  pub next : (i n : ℕ) (rule : Rule) → slice_get rules.list i ≡ Some rule → rule.next ≡ Some n
      → n < length rules.states
