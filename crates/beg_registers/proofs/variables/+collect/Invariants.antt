-- What the patterns that are left bind comes behind what was collected.
use Rattle.std.proofs.Common.{◌+◌, ◌*◌, ◌++◌, [], drop, map}
use Rattle.tree_store.specs.Forest.{node_at, children_at}
use Rattle.beg_model.specs.RuleMeaning.{pattern_of, patterns_of}
use Rattle.beg_model.proofs.PatternsInRow.{pattern_size, pattern_size_all}
use Rattle.beg_registers.specs.Bound.{bound_along}
use Rattle.beg_registers.proofs.BoundFields.{Collects}
use Rattle.beg_registers.proofs.variables.+collect.Given as goal

abbrev pub invariant-collect_along-loop-part : goal.invariant-collect_along-loop-part
invariant-collect_along-loop-part l =
    Collects l.tree (children_at l.tree l.node) (node_at l.tree l.node).fields
    (λ s k. l.initial.fields.items ++ bound_along l.tree (patterns_of (map (pattern_of s k) l.parts)) (children_at l.tree l.node) (node_at l.tree l.node).fields)
    l.fields.items (drop l.part-index l.parts) l.child l.field

abbrev pub decreases-collect_bound : goal.decreases-collect_bound
decreases-collect_bound l = 2 * pattern_size (pattern_of [] [] l.pattern.now)

abbrev pub decreases-collect_along : goal.decreases-collect_along
decreases-collect_along l = 2 * pattern_size_all (patterns_of (map (pattern_of [] []) l.parts.now)) + 1
