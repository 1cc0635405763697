-- The names so far.
use Rattle.std.proofs.Common.{◌≡◌}
use Rattle.node_spec.specs.AstBuilds.{dollar_names}
use Rattle.node_spec.proofs.dollar_names.dollar_names.Given as goal

abbrev pub invariant-loop-i : goal.invariant-loop-i
invariant-loop-i l = l.names.items ≡ dollar_names l.i
