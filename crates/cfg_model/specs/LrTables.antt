-- LR tables: the grammars that have one, and what it answers.
use Rattle.std.specs.Prelude.{◌≡◌, ℕ, ◌<◌, ◌≤◌, ◌↔◌, List, [], ◌∷◌, Option}
use Rattle.ck_base.specs.Found.{HasNo}
use Rattle.cfg_model.specs.declared.symbol.Sym.{Sym}
use Rattle.cfg_model.specs.declared.symbol.Sym.TheVariants.{T, N}
use Rattle.cfg_model.specs.declared.action.LrAction.{LrAction}
use Rattle.cfg_model.specs.declared.action.LrAction.TheVariants.{Shift, Reduce, Accept, Error}
use Rattle.cfg_model.specs.Cfg.{Cfg, IsGrammar}
use Rattle.cfg_model.specs.Sets.{Reachable, AllProductive}
use Rattle.cfg_model.specs.Searches.{Cyclic, HiddenLeft}
use Rattle.cfg_model.specs.Valid.{HasCore, SameCore}
use Rattle.cfg_model.specs.LalrConflicts.{Completes, Shifts, LalrConflict}
use Rattle.cfg_model.specs.Table.{Table}

-- no reachable nonterminal derives itself
abbrev pub NoneCyclic : Cfg → Type 0
NoneCyclic g = (n : ℕ) → Reachable g n → Cyclic g n → ⊥

-- no reachable nonterminal is hidden left recursive
abbrev pub NoneHiddenLeft : Cfg → Type 0
NoneHiddenLeft g = (n : ℕ) → Reachable g n → HiddenLeft g n → ⊥

-- a grammar that has an LALR(1) table
pub record IsLr (g : Cfg) : Type 0 where
  pub grammar : IsGrammar g
  pub productive : AllProductive g
  pub not_cyclic : NoneCyclic g
  pub not_hidden_left : NoneHiddenLeft g
  pub no_conflict : (t r : ℕ) (other : Option ℕ) → LalrConflict g t r other → ⊥

-- the state that a shift leads to
abbrev pub shifted : LrAction → ℕ
shifted (Shift n) = n
shifted (Reduce r) = 0
shifted Accept = 0
shifted Error = 0

-- the state of a prefix, which has its last symbol first: state 0 is the empty prefix's, and from there
-- shifts lead on over terminals and gotos over nonterminals
abbrev pub state_after : Table → List Sym → ℕ
state_after table [] = 0
state_after table (T t ∷ p) = shifted (table.act (state_after table p) t)
state_after table (N n ∷ p) = table.go (state_after table p) n

-- the action is the one on the terminal in the core of the prefix: a shift where an item shifts it, a
-- rule where its complete item has it in its united lookaheads, Accept for rule 0, else Error
abbrev pub IsAction : Cfg → List Sym → ℕ → LrAction → Type 0
IsAction g p t (Shift n) = Shifts g p t
IsAction g p t (Reduce r) = (1 ≤ r) × Completes g p r t
IsAction g p t Accept = Completes g p 0 t
IsAction g p t Error = (Shifts g p t → ⊥) × HasNo (λ r. Completes g p r t)

-- A table of the grammar. Each core that isn't empty has one state, and no other core has it; the empty
-- prefix's is state 0, and there may be states that no core has. END, numbered `terminals`, is among the
-- terminals of its actions.
pub record IsLrTable (g : Cfg) (table : Table) : Type 0 where
  pub accepted : IsLr g
  pub inside : (p : List Sym) → HasCore g p → state_after table p < table.states
  pub cores : (p q : List Sym) → HasCore g p → HasCore g q
      → (state_after table p ≡ state_after table q) ↔ SameCore g p q
  pub acts : (p : List Sym) (t : ℕ) → HasCore g p → t ≤ g.terminals
      → IsAction g p t (table.act (state_after table p) t)
