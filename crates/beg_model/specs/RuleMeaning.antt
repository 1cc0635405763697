-- What the cover rules of the program mean as pure values. Their texts lie in a source and in literals.
use Rattle.std.specs.Prelude.{ℕ, List, [], ◌∷◌, Option, Some, None, map}
use Rattle.std.specs.Borrow.{Bor}
use Rattle.value_store.specs.Texts.{text_of}
use Rattle.value_store.specs.declared.text.Texts.{Texts}
use Rattle.expr_lang.specs.Expression.{Expression}
use Rattle.expr_lang.specs.Meaning.{meaning}
use Rattle.expr_lang.specs.declared.expr.Expr.{Expr}
use Rattle.beg_model.specs.Rules.{Pattern, Patterns, leaf, any, bind, number, truth, string, tree, no_pattern, and_pattern, Emitted, bytes, own_register, operand, field, Rule, Rules}
use Rattle.beg_model.specs.declared.rules.CoverPattern.{CoverPattern}
use Rattle.beg_model.specs.declared.rules.CoverPattern.TheOpen.{CoverPattern-F}
use Rattle.beg_model.specs.declared.rules.CoverPattern.TheFolds.{fold-CoverPattern}
use Rattle.beg_model.specs.declared.rules.Piece.{Piece}
use Rattle.beg_model.specs.declared.rules.Piece.TheVariants as piece
use Rattle.beg_model.specs.declared.rules.CoverRule.{CoverRule}
use Rattle.beg_model.specs.declared.rules.CoverRules.{CoverRules}

-- the patterns of a list
abbrev pub patterns_of : List Pattern → Patterns
patterns_of [] = no_pattern
patterns_of (p ∷ ps) = and_pattern p (patterns_of ps)

-- the meaning of a pattern from those of its parts
abbrev pub pattern_node : List ℕ → List ℕ → CoverPattern-F Pattern → Pattern
pattern_node source literals (CoverPattern-F.Leaf x) = leaf x
pattern_node source literals CoverPattern-F.Any = any
pattern_node source literals (CoverPattern-F.Bind i) = bind i
pattern_node source literals (CoverPattern-F.Int z) = number z
pattern_node source literals (CoverPattern-F.Bool b) = truth b
pattern_node source literals (CoverPattern-F.Text t) = string (text_of source literals t)
pattern_node source literals (CoverPattern-F.Tree t parts) = tree t (patterns_of parts.now)

-- the pattern that one of the program stands for
abbrev pub pattern_of : List ℕ → List ℕ → CoverPattern → Pattern
pattern_of source literals = fold-CoverPattern Pattern (pattern_node source literals)

-- the condition of a rule
abbrev pub test_of : List ℕ → List ℕ → Option (Bor Expr) → Option Expression
test_of source literals None = None
test_of source literals (Some e) = Some (meaning source literals e.now)

-- the piece that one of the program stands for
abbrev pub emitted_of : List ℕ → List ℕ → Piece → Emitted
emitted_of source literals (piece.Bytes t) = bytes (text_of source literals t)
emitted_of source literals piece.Result = own_register
emitted_of source literals (piece.Operand i) = operand i
emitted_of source literals (piece.Field i) = field i

-- the rule that one of the program stands for
abbrev pub rule_of : List ℕ → List ℕ → CoverRule → Rule
rule_of source literals rule = record {
  left = rule.left;
  pattern = pattern_of source literals rule.pattern;
  test = test_of source literals rule.test;
  cost = rule.cost;
  early = rule.early;
  emit = map (emitted_of source literals) rule.emit.now;
}

-- the rules that those of the program stand for
abbrev pub rules_of : List ℕ → List ℕ → CoverRules → Rules
rules_of source literals rules = record {
  classes = map (λ class. class.items) rules.classes.items;
  class_names = rules.class_names;
  nonterminals = rules.nonterminals;
  holds = rules.holds.items;
  goal = rules.goal;
  labels = rules.labels;
  list = map (rule_of source literals) rules.rules.items;
}

-- the same where the texts lie in these
abbrev pub rules_in : Texts → CoverRules → Rules
rules_in texts rules = rules_of texts.source.now texts.literals.now rules
