use Rattle.std.proofs.Common.{ℕ, ◌<◌, length, [], ◌∷◌, Option}
use Rattle.std.specs.Prelude.{slice_index}
use Rattle.tree_store.specs.Forest.{Under}
use Rattle.tree_store.specs.Folds.{Folds}
use Rattle.tree_store.proofs.WalkSteps.{Onward}
use Rattle.tree_store.proofs.CallsToCome.{to_come}
use Rattle.tree_store.proofs.tree.Tree.walk.Given as goal

abbrev pub invariant-loop-done : goal.invariant-loop-done
invariant-loop-done g l = record {
  under : Under l.self l.root l.node;
  within : l.node < length l.self;
  ready : g.V.Visit.ready l.self l.visitor;
  so_far : (s : _) (end : Option ℕ)
      → Onward (g.V.Visit.enters l.self) (g.V.Visit.leaves l.self) l.self (slice_index l.self-inside.parents.items) (slice_index l.self-inside.numbers.items) l.root l.done l.node l.visitor s end
      → Folds (g.V.Visit.enters l.self) (g.V.Visit.leaves l.self) l.self (l.root ∷ []) l.fn.visitor s end;
}

abbrev pub decreases-loop-done : goal.decreases-loop-done
decreases-loop-done g l = to_come l.self (slice_index l.self-inside.parents.items) (slice_index l.self-inside.numbers.items) l.root l.done l.node
