-- Context-free grammars.
use Rattle.std.specs.Prelude.{◌≡◌, ℕ, ◌+◌, ◌<◌, ◌≤◌, List, All, length, slice_get, Some}
use Rattle.cfg_model.specs.declared.symbol.Sym.{Sym}
use Rattle.cfg_model.specs.declared.symbol.Sym.TheVariants.{T, N}

-- a rule: its left side, a nonterminal, and its right side
pub record Rule : Type 0 where
  pub left : ℕ
  pub right : List Sym

-- a grammar: how many terminals and nonterminals there are, the start symbol, the rules; END is the
-- terminal numbered `terminals`
pub record Cfg : Type 0 where
  pub terminals : ℕ
  pub nonterminals : ℕ
  pub start : ℕ
  pub rules : List Rule

-- rule r, counted from 1, has this left side and this right side
pub record IsRule (g : Cfg) (r n : ℕ) (w : List Sym) : Type 0 where
  pub place : ℕ
  pub from_one : r ≡ place + 1
  pub read : slice_get g.rules place ≡ Some (record { left = n; right = w })

-- the symbol is one of the grammar's; END isn't among them
abbrev pub IsSymbol : Cfg → Sym → Type 0
IsSymbol g (T t) = t < g.terminals
IsSymbol g (N n) = n < g.nonterminals

-- numbers are in range, and counts within the limits
pub record IsGrammar (g : Cfg) : Type 0 where
  pub few_rules : length g.rules ≤ 1024
  pub few_symbols : g.terminals + 1 + g.nonterminals ≤ 512
  pub start : g.start < g.nonterminals
  pub left : All (λ rule. rule.left < g.nonterminals) g.rules
  pub right : All (λ rule. All (IsSymbol g) rule.right) g.rules
