-- What an LR table answers.
use Rattle.std.specs.Prelude.{ℕ}
use Rattle.cfg_model.specs.declared.action.LrAction.{LrAction}

-- how many states there are, what is done in a state on a terminal, and the state after a nonterminal
pub record Table : Type 0 where
  pub states : ℕ
  pub act : ℕ → ℕ → LrAction
  pub go : ℕ → ℕ → ℕ
