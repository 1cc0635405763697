-- The symbols of the names so far.
use Rattle.std.proofs.Common.{◌≡◌, map, take}
use Rattle.spec_text.specs.Seen.{bytes_of}
use Rattle.front_spec.specs.GrammarRules.{symbol_by}
use Rattle.front_spec.proofs.grammar_rules.symbols_of.Given as goal

abbrev pub invariant-loop-name : goal.invariant-loop-name
invariant-loop-name l = l.symbols.items ≡ map (symbol_by l.tokens l.nonterminals) (map bytes_of (take l.name-index l.names))
