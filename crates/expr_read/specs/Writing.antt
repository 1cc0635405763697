-- What the expressions of the program say.
use Rattle.std.specs.Prelude.{List, [], ◌∷◌}
use Rattle.expr_read.specs.Spoken.{Spoken, SpokenList, no_spoken, and_spoken}
use Rattle.expr_read.specs.Mentions.{Named, by_name, by_dollar, by_pair}
use Rattle.expr_read.specs.Spoken as spoken
use Rattle.expr_read.specs.declared.mention.Mention.{Mention}
use Rattle.expr_read.specs.declared.mention.Mention.TheVariants as mention
use Rattle.expr_read.specs.declared.written.Written.{Written}
use Rattle.expr_read.specs.declared.written.Written.TheOpen.{Written-F}
use Rattle.expr_read.specs.declared.written.Written.TheFolds.{fold-Written}

-- a list of written expressions as the arguments of one
abbrev pub spoken_list : List Spoken → SpokenList
spoken_list [] = no_spoken
spoken_list (e ∷ es) = and_spoken e (spoken_list es)

-- what an expression says, from what its parts say
abbrev pub node_spoken : Written-F Spoken → Spoken
node_spoken (Written-F.Number n) = spoken.number n
node_spoken (Written-F.Truth b) = spoken.truth b
node_spoken (Written-F.Text bytes) = spoken.string bytes.now
node_spoken (Written-F.Name w) = spoken.name w.now
node_spoken (Written-F.Dollar n) = spoken.dollar n
node_spoken (Written-F.Pair v w) = spoken.pair v.now w.now
node_spoken (Written-F.Negative a) = spoken.negative a.now
node_spoken (Written-F.Negated a) = spoken.negated a.now
node_spoken (Written-F.Binary o a b) = spoken.binary o a.now b.now
node_spoken (Written-F.If c a b) = spoken.if_then c.now a.now b.now
node_spoken (Written-F.Applied w parts) = spoken.applied w.now (spoken_list parts.now)
node_spoken (Written-F.Grouped a) = spoken.grouped a.now

-- the pure form of a written expression
abbrev pub spoken_of : Written → Spoken
spoken_of = fold-Written Spoken node_spoken

-- the variable that a mention names
abbrev pub named_by : Mention → Named
named_by (mention.Name w) = by_name w.now
named_by (mention.Dollar n) = by_dollar n
named_by (mention.Pair v w) = by_pair v.now w.now
