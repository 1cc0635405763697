-- LL tables: the grammars that have one, and what it answers.
use Rattle.std.specs.Prelude.{◌≡◌, ℕ, ◌≤◌, Option, MatchOption}
use Rattle.ck_base.specs.Found.{HasNo}
use Rattle.cfg_model.specs.Cfg.{Cfg, IsGrammar}
use Rattle.cfg_model.specs.Sets.{Reachable, AllProductive}
use Rattle.cfg_model.specs.Searches.{LeftRecursive}
use Rattle.cfg_model.specs.LlConflicts.{Predicts, LlConflict}

-- no reachable nonterminal is left recursive
abbrev pub NoneLeftRecursive : Cfg → Type 0
NoneLeftRecursive g = (n : ℕ) → Reachable g n → LeftRecursive g n → ⊥

-- a grammar that has an LL table
pub record IsLl (g : Cfg) : Type 0 where
  pub grammar : IsGrammar g
  pub productive : AllProductive g
  pub not_left_recursive : NoneLeftRecursive g
  pub no_conflict : (n r q t : ℕ) → LlConflict g n r q t → ⊥

-- the answer is the one rule of the nonterminal that is for the terminal, and None where there is none
abbrev pub IsPrediction : Cfg → ℕ → ℕ → Option ℕ → Type 0
IsPrediction g n t answer = MatchOption answer (HasNo (Predicts g n t))
    (λ r. Predicts g n t r × ((q : ℕ) → Predicts g n t q → q ≡ r))

-- a table of the grammar: its answers for reachable nonterminals are the predictions
pub record IsLlTable (g : Cfg) (answer : ℕ → ℕ → Option ℕ) : Type 0 where
  pub accepted : IsLl g
  pub predicts : (n t : ℕ) → Reachable g n → t ≤ g.terminals → IsPrediction g n t (answer n t)
