-- Families and types so far, none of which is past a limit.
use Rattle.std.proofs.Common.{map}
use Rattle.node_spec.specs.within.AstSeen.{declared_by}
use Rattle.node_spec.proofs.AstLimits.{LimitSoFar}
use Rattle.node_spec.proofs.limits.first_past_limit.Given as goal

abbrev pub invariant-loop-line : goal.invariant-loop-line
invariant-loop-line l = LimitSoFar (map declared_by l.list) l.line-index l.families l.types
