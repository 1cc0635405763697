-- Steps of a run: each gives something, or fails with a refusal; the next one goes on with what it gave.
use Rattle.std.specs.Prelude.{ℕ, ◌⊎◌, List}
use Rattle.ck_base.specs.declared.refusal.Refusal.{Refusal}
use Rattle.ck_chain.specs.Outcome.{Outcome, output, refused}

-- both steps give something, the second by what the first gives
abbrev pub Both : {A B : Type 0} → (A → Type 0) → (A → B → Type 0) → A × B → Type 0
Both gives more both = gives both.0 × more both.0 both.1

-- the first step fails, or the second by what the first gives
abbrev pub Either : {A : Type 0} → (A → Type 0) → (Refusal → Type 0) → (A → Refusal → Type 0) → Refusal → Type 0
Either {A} gives fails failing r = fails r ⊎ ((a : A) × gives a × failing a r)

-- steps in print: the text of what they give, or the refusal with which they fail
pub data Printed {A : Type 0} (gives : A → Type 0) (fails : Refusal → Type 0) (text : A → List ℕ) : Outcome → Type 0 where
  told : (a : A) → gives a → Printed gives fails text (output (text a))
  failed : (r : Refusal) → fails r → Printed gives fails text (refused r)
