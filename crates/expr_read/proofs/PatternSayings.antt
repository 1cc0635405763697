-- What each form of the program's patterns says.
use Rattle.std.proofs.Common.{◌≡◌, ℕ, List, map, Bor, sym, ap, ◌∙◌}
use Rattle.expr_read.specs.Patterns.{Pattern, name, number, string, tree, named_tree}
use Rattle.expr_read.specs.PatternWriting.{node_pattern, pattern_list, pattern_of}
use Rattle.expr_read.specs.declared.written_pattern.WrittenPattern.{WrittenPattern}
use Rattle.expr_read.specs.declared.written_pattern.WrittenPattern.TheOpen.{WrittenPattern-F}
use Rattle.expr_read.specs.declared.written_pattern.WrittenPattern.TheFolds.{fold-roll-WrittenPattern}
use Rattle.expr_read.specs.declared.written_pattern.WrittenPattern.TheVariants.{Name, Number, Text, Tree, NamedTree, rolls-Name, rolls-Number, rolls-Text, rolls-Tree, rolls-NamedTree}

pub says-Name : (w : Bor (List ℕ)) → pattern_of (Name w) ≡ name w.now
says-Name w = ap pattern_of (sym (rolls-Name w)) ∙ fold-roll-WrittenPattern Pattern node_pattern (WrittenPattern-F.Name w)

pub says-Number : (n : ℕ) → pattern_of (Number n) ≡ number n
says-Number n = ap pattern_of (sym (rolls-Number n)) ∙ fold-roll-WrittenPattern Pattern node_pattern (WrittenPattern-F.Number n)

pub says-Text : (bytes : Bor (List ℕ)) → pattern_of (Text bytes) ≡ string bytes.now
says-Text bytes = ap pattern_of (sym (rolls-Text bytes)) ∙ fold-roll-WrittenPattern Pattern node_pattern (WrittenPattern-F.Text bytes)

pub says-Tree : (w : Bor (List ℕ)) (parts : Bor (List WrittenPattern))
    → pattern_of (Tree w parts) ≡ tree w.now (pattern_list (map pattern_of parts.now))
says-Tree w parts = ap pattern_of (sym (rolls-Tree w parts)) ∙ fold-roll-WrittenPattern Pattern node_pattern (WrittenPattern-F.Tree w parts)

pub says-NamedTree : (v w : Bor (List ℕ)) (parts : Bor (List WrittenPattern))
    → pattern_of (NamedTree v w parts) ≡ named_tree v.now w.now (pattern_list (map pattern_of parts.now))
says-NamedTree v w parts =
    ap pattern_of (sym (rolls-NamedTree v w parts)) ∙ fold-roll-WrittenPattern Pattern node_pattern (WrittenPattern-F.NamedTree v w parts)
