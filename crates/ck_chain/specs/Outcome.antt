-- The answer of a run.
use Rattle.std.specs.Prelude.{ℕ, List}
use Rattle.ck_base.specs.declared.refusal.Refusal.{Refusal}

-- bytes for `out`, or a refusal
pub data Outcome : Type 0 where
  output : List ℕ → Outcome
  refused : Refusal → Outcome
