-- What the states on an LR parser's stack say of what was read, and when it can finish.
use Rattle.std.specs.Prelude.{◌≡◌, ℕ, ◌-◌, ◌<◌, take, List, [], ◌∷◌, ◌++◌, map, reverse, length, get_or, Option, Some, None}
use Rattle.cfg_model.specs.declared.symbol.Sym.{Sym}
use Rattle.cfg_model.specs.declared.symbol.Sym.TheVariants.{T, N}
use Rattle.cfg_model.specs.declared.action.LrAction.{LrAction}
use Rattle.cfg_model.specs.declared.action.LrAction.TheVariants.{Reduce}
use Rattle.cfg_model.specs.Cfg.{Cfg, IsRule}
use Rattle.cfg_model.specs.Derivation.{Forest, yield, Move, shift, reduce, postorder, Derive, IsSentence}
use Rattle.cfg_model.specs.Valid.{first_of, HasCore}
use Rattle.cfg_model.specs.LalrConflicts.{Completes, Shifts, LalrConflict}
use Rattle.cfg_model.specs.LrTables.{state_after, IsAction}
use Rattle.cfg_model.specs.Table.{Table}
use Rattle.parse_driver.specs.Parse.{move_of}
use Rattle.parse_driver.specs.Stream.{terminal_of, terminals_of}
use Rattle.parse_driver.specs.declared.tokens.TokenRef.{TokenRef}
use Rattle.parse_driver.specs.declared.step.Step.{Step}

-- the grammar has no LALR(1) conflict
abbrev pub NoConflict : Cfg → Type 0
NoConflict g = (t r : ℕ) (other : Option ℕ) → LalrConflict g t r other → ⊥

-- the symbols put onto a prefix, which has its last symbol first, one after the other
abbrev pub onto : List Sym → List Sym → List Sym
onto [] p = p
onto (x ∷ xs) p = onto xs (x ∷ p)

-- by cores and united lookaheads, a parser that has read the prefix makes these steps on the word, and
-- accepts
pub data Finishes (g : Cfg) : List Sym → List ℕ → List (Move ℕ) → Type 0 where
  accepts : (p : List Sym) → Completes g p 0 g.terminals → Finishes g p [] []
  shifts : (p : List Sym) (t : ℕ) (v : List ℕ) (ps : List (Move ℕ)) → Shifts g p t
      → Finishes g (T t ∷ p) v ps → Finishes g p (t ∷ v) (shift t ∷ ps)
  reduces : (p q : List Sym) (r n : ℕ) (w : List Sym) (v : List ℕ) (ps : List (Move ℕ))
      → IsRule g r n w → p ≡ onto w q → Completes g p r (first_of v g.terminals)
      → Finishes g (N n ∷ q) v ps → Finishes g p v (reduce r ∷ ps)

-- the states on the way to a prefix, from state 0 on
abbrev pub states_of : Table → List Sym → List ℕ
states_of table [] = 0 ∷ []
states_of table (x ∷ p) = states_of table p ++ (state_after table (x ∷ p) ∷ [])

-- what is known of the word to come: nothing, or what it begins with, END counted
abbrev pub IsNext : Cfg → Option ℕ → List ℕ → Type 0
IsNext g None v = Unit {0}
IsNext g (Some t) v = first_of v g.terminals ≡ t

-- after the prefix a parser finishes each word that makes what was read a sentence
abbrev pub CanFinish : Cfg → List ℕ → List Sym → Option ℕ → Type 0
CanFinish g read p next =
    (v : List ℕ) → IsNext g next v → IsSentence g (read ++ v) → (ps : List (Move ℕ)) × Finishes g p v ps

-- the states are those on the way to a prefix that has a core and derives what was read by the steps;
-- from there each sentence that goes on so is finished
pub record LrState (g : Cfg) (table : Table) (read : List TokenRef) (states : List ℕ)
    (steps : List Step) (next : Option ℕ) : Type 0 where
  pub prefix : List Sym
  pub forest : Forest TokenRef
  pub core : HasCore g prefix
  pub derives : Derive terminal_of g (reverse prefix) forest
  pub yields : yield forest ≡ read
  pub steps_are : map move_of steps ≡ postorder forest
  pub states_are : states ≡ states_of table prefix
  pub finishes : CanFinish g (terminals_of read) prefix next

-- the state on top
abbrev pub top : List ℕ → ℕ
top states = get_or states (length states - 1) 0

-- on the terminal no rule is to be reduced: what the table does, and that it is the grammar's action
pub record IsSettled (g : Cfg) (table : Table) (read : List TokenRef) (states : List ℕ)
    (steps : List Step) (t : ℕ) (action : LrAction) : Type 0 where
  pub state : LrState g table read states steps (Some t)
  pub is : table.act (top states) t ≡ action
  pub acts : IsAction g state.prefix t action
  pub no_reduction : (r : ℕ) → action ≡ Reduce r → ⊥

-- the states after a rule with this left side and so many symbols in its right side is reduced
abbrev pub reduced_states : Table → List ℕ → ℕ → ℕ → List ℕ
reduced_states table states n count =
    let kept = take (length states - count) states in kept ++ (table.go (top kept) n ∷ [])

-- the rule is the grammar's, and there are states for its right side
pub record CanReduce (g : Cfg) (table : Table) (states : List ℕ) (r : ℕ) : Type 0 where
  pub left : ℕ
  pub right : List Sym
  pub is_rule : IsRule g r left right
  pub room : length right < length states
  pub inside : top (take (length states - length right) states) < table.states
  pub nonterminal : left < g.nonterminals
