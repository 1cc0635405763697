use Rattle.std.proofs.Common.{◌≡◌, ◌++◌, map, drop}
use Rattle.expr_read.specs.Mentions.{named_in_all}
use Rattle.expr_read.specs.Writing.{named_by, spoken_list, spoken_of}
use Rattle.expr_read.proofs.mentions.+mentions.Given as goal

abbrev pub invariant-mentions_in_all-loop-e : goal.invariant-mentions_in_all-loop-e
invariant-mentions_in_all-loop-e l = map named_by l.into.items ++ named_in_all (spoken_list (map spoken_of (drop l.e-index l.list)))
    ≡ map named_by l.initial.into.items ++ named_in_all (spoken_list (map spoken_of l.list))
