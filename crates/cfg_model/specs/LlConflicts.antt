-- LL(1) in the strong sense: which terminals a rule is for, and conflicts.
use Rattle.std.specs.Prelude.{ℕ, ◌<◌, ◌≤◌, ◌⊎◌, List}
use Rattle.cfg_model.specs.declared.symbol.Sym.{Sym}
use Rattle.cfg_model.specs.Cfg.{Cfg, IsRule}
use Rattle.cfg_model.specs.Sets.{Nullable, Reachable, First, Follow}

-- a rule of nonterminal n with right side w is for the terminal: it is in FIRST of the right side,
-- united with FOLLOW of the left side where the right side is nullable
abbrev pub IsFor : Cfg → ℕ → List Sym → ℕ → Type 0
IsFor g n w t = First g w t ⊎ (Nullable g w × Follow g n t)

-- rule r is one of nonterminal n's that are for the terminal
pub record Predicts (g : Cfg) (n t r : ℕ) : Type 0 where
  pub right : List Sym
  pub is_rule : IsRule g r n right
  pub for_terminal : IsFor g n right t

-- the rules r and q of one reachable nonterminal are for one terminal
pub record LlConflict (g : Cfg) (n r q t : ℕ) : Type 0 where
  pub reachable : Reachable g n
  pub first : Predicts g n t r
  pub second : Predicts g n t q
  pub in_order : r < q

-- the conflict that is reported: the least nonterminal, then the least first rule, the least second
-- rule, the least terminal
pub record LlReport (g : Cfg) (n r q t : ℕ) : Type 0 where
  pub conflict : LlConflict g n r q t
  pub nonterminal : (m s p u : ℕ) → LlConflict g m s p u → n ≤ m
  pub first : (s p u : ℕ) → LlConflict g n s p u → r ≤ s
  pub second : (p u : ℕ) → LlConflict g n r p u → q ≤ p
  pub terminal : (u : ℕ) → LlConflict g n r q u → t ≤ u
