use Rattle.std.proofs.Common.{◌≡◌, ◌++◌, map, drop}
use Rattle.expr_read.specs.Mentions.{numbers_among}
use Rattle.expr_read.specs.Writing.{named_by}
use Rattle.expr_read.proofs.mentions.numbers_among.Given as goal

abbrev pub invariant-loop-mention : goal.invariant-loop-mention
invariant-loop-mention l = l.numbers.items ++ numbers_among (map named_by (drop l.mention-index l.mentions))
    ≡ numbers_among (map named_by l.mentions)
