use Rattle.std.proofs.Common.{◌≡◌, map, drop}
use Rattle.expr_read.specs.Resolving.{paired}
use Rattle.expr_read.specs.Written.{dotted_in}
use Rattle.expr_read.proofs.lookup.variable_of.Given as goal

abbrev pub invariant-loop-item : goal.invariant-loop-item
invariant-loop-item l =
    paired (map dotted_in (drop l.item-index l.dotted)) l.before l.after ≡ paired (map dotted_in l.dotted) l.before l.after
