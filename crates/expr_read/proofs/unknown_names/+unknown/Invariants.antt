use Rattle.std.proofs.Common.{◌≡◌, map, drop}
use Rattle.expr_read.specs.Resolving.{has_unknown_all}
use Rattle.expr_read.specs.Writing.{spoken_list, spoken_of}
use Rattle.expr_read.proofs.unknown_names.+unknown.Given as goal

abbrev pub invariant-any_unknown-loop-e : goal.invariant-any_unknown-loop-e
invariant-any_unknown-loop-e g l =
    has_unknown_all (g.M.Makers.names l.makers) (spoken_list (map spoken_of (drop l.e-index l.list))) ≡ has_unknown_all (g.M.Makers.names l.makers) (spoken_list (map spoken_of l.list))
