-- What the patterns of the program say.
use Rattle.std.specs.Prelude.{List, [], ◌∷◌}
use Rattle.expr_read.specs.Patterns.{Pattern, Patterns, no_patterns, and_pattern}
use Rattle.expr_read.specs.Patterns as pattern
use Rattle.expr_read.specs.declared.written_pattern.WrittenPattern.{WrittenPattern}
use Rattle.expr_read.specs.declared.written_pattern.WrittenPattern.TheOpen.{WrittenPattern-F}
use Rattle.expr_read.specs.declared.written_pattern.WrittenPattern.TheFolds.{fold-WrittenPattern}

-- a list of patterns as the parts of one
abbrev pub pattern_list : List Pattern → Patterns
pattern_list [] = no_patterns
pattern_list (p ∷ ps) = and_pattern p (pattern_list ps)

-- what a pattern says, from what its parts say
abbrev pub node_pattern : WrittenPattern-F Pattern → Pattern
node_pattern WrittenPattern-F.Any = pattern.anything
node_pattern (WrittenPattern-F.Name w) = pattern.name w.now
node_pattern (WrittenPattern-F.Number n) = pattern.number n
node_pattern (WrittenPattern-F.Truth b) = pattern.truth b
node_pattern (WrittenPattern-F.Text bytes) = pattern.string bytes.now
node_pattern (WrittenPattern-F.Tree w parts) = pattern.tree w.now (pattern_list parts.now)
node_pattern (WrittenPattern-F.NamedTree v w parts) = pattern.named_tree v.now w.now (pattern_list parts.now)

-- the pure form of a written pattern
abbrev pub pattern_of : WrittenPattern → Pattern
pattern_of = fold-WrittenPattern Pattern node_pattern
