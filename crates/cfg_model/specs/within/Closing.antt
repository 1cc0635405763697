-- Nonterminals whose right sides are made of what is there already: the empty word, or any word.
use Rattle.std.specs.Prelude.{◌≡◌, ℕ, Bool, true, false, IsTrue, ◌<◌, List, [], ◌∷◌, Option, MatchOption}
use Rattle.ck_base.specs.BitSet.{BitSet, Has, Adds}
use Rattle.cfg_model.specs.declared.symbol.Sym.{Sym}
use Rattle.cfg_model.specs.declared.symbol.Sym.TheVariants.{T, N}
use Rattle.cfg_model.specs.Cfg.{Cfg, Rule, IsRule}
use Rattle.cfg_model.specs.Rows.{IsSetOf}
use Rattle.cfg_model.specs.Steps.{Steps, word}

-- the symbol is a nonterminal of which P holds; terminals pass where `words` is true
abbrev pub Passes : Bool → (ℕ → Type 0) → Sym → Type 0
Passes words P (T t) = IsTrue words
Passes words P (N n) = P n

-- each symbol of the list passes
abbrev pub AllPass : Bool → (ℕ → Type 0) → List Sym → Type 0
AllPass words P [] = Unit {0}
AllPass words P (s ∷ u) = Passes words P s × AllPass words P u

-- the list derives a word, or the empty word where `words` is false
abbrev pub Makes : Bool → Cfg → List Sym → Type 0
Makes true g u = (w : List ℕ) × Steps g u (word w)
Makes false g u = Steps g u []

-- each number of the set makes a word
pub record IsSound (words : Bool) (g : Cfg) (set : BitSet) : Type 0 where
  pub each : (n : ℕ) → Has set n → Makes words g (N n ∷ [])

-- no rule adds to the set
pub record IsClosed (words : Bool) (g : Cfg) (set : BitSet) : Type 0 where
  pub each : (r n : ℕ) (w : List Sym) → IsRule g r n w → AllPass words (Has set) w → Has set n

-- the set has the nonterminals that make a word, and no others
abbrev pub AreMakers : Bool → Cfg → BitSet → Type 0
AreMakers words g = IsSetOf g.nonterminals (λ n. Makes words g (N n ∷ []))

-- the rule's left side is new in the set, and its right side passes
pub record IsAdded (words : Bool) (one : Rule) (old new : BitSet) : Type 0 where
  pub passes : AllPass words (Has old) one.right
  pub lacks : Has old one.left → ⊥
  pub adds : Adds old new (λ k. k ≡ one.left)

-- the answer is the least number below its size that the set lacks, and None where it lacks none
abbrev pub LacksFirst : BitSet → Option ℕ → Type 0
LacksFirst set found = MatchOption found ((n : ℕ) → n < set.size → Has set n)
    (λ n. (n < set.size) × (Has set n → ⊥) × ((m : ℕ) → m < n → Has set m))
