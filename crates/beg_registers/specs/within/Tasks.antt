-- The tasks of the walk that lists instances.
use Rattle.std.specs.Prelude.{◌≡◌, ℕ, ◌+◌, List, [], ◌∷◌, ◌++◌, length, reverse}
use Rattle.beg_model.specs.Cover.{Application, Chosen, Instance}
use Rattle.beg_model.specs.declared.matched.Subgoal.{Subgoal}
use Rattle.beg_registers.specs.declared.choosing.Task.{Task}
use Rattle.beg_registers.specs.declared.choosing.Task.TheVariants as task

-- a task for each of these
abbrev pub covers_of : List Subgoal → List Task
covers_of [] = []
covers_of (p ∷ ps) = task.Cover p ∷ covers_of ps

-- the tasks, the next first, with these numbers ready, the last one last, list these further instances and leave these ready
pub data Completes (Applies : Application) : List Task → List ℕ → ℕ → List Instance → List ℕ → Type 0 where
  finished : (ready : List ℕ) (first : ℕ) → Completes Applies [] ready first [] ready
  covered : (p : Subgoal) (c r k first : ℕ) (operands : List Subgoal) (tasks : List Task) (ready final : List ℕ) (more : List Instance)
      → Chosen Applies p.node p.nonterminal c r → Applies r p.node p.nonterminal k operands
      → Completes Applies (covers_of operands ++ (task.List r p.node (length operands) ∷ tasks)) ready first more final
      → Completes Applies (task.Cover p ∷ tasks) ready first more final
  listed : (r n count first : ℕ) (tasks : List Task) (all ready tops final : List ℕ) (more : List Instance)
      → length tops ≡ count → all ≡ ready ++ tops
      → Completes Applies tasks (ready ++ first ∷ []) (first + 1) more final
      → Completes Applies (task.List r n count ∷ tasks) all first (record { rule = r; node = n; operands = tops } ∷ more) final

-- the place's chosen rule is to be listed, and before it what covers its operands
pub record Opens (Applies : Application) (p : Subgoal) (old new : List Task) : Type 0 where
  pub cost : ℕ
  pub rule : ℕ
  pub own : ℕ
  pub operands : List Subgoal
  pub chosen : Chosen Applies p.node p.nonterminal cost rule
  pub applies : Applies rule p.node p.nonterminal own operands
  pub tasks : reverse new ≡ covers_of operands ++ (task.List rule p.node (length operands) ∷ reverse old)

-- the instance is listed with the last numbers as its operands, and its own number is ready
pub record IsListed (rule node count : ℕ) (ready next : List ℕ) (out more : List Instance) : Type 0 where
  pub before : List ℕ
  pub tops : List ℕ
  pub ready_is : ready ≡ before ++ tops
  pub few : length tops ≡ count
  pub next_is : next ≡ before ++ length out ∷ []
  pub more_is : more ≡ out ++ record { rule = rule; node = node; operands = tops } ∷ []
