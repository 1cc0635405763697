-- What the scan rules of the program mean as scan rules.
use Rattle.std.specs.Prelude.{ℕ, ◌^◌, ◌/◌, ◌%◌, ◌==◌, Bool, not, ◌&&◌, nat_lt, Option, Some, None, map, bit_and, slice_index}
use Rattle.std.specs.Borrow.{Bor}
use Rattle.ck_base.specs.BitSet.{BitSet}
use Rattle.rex_model.specs.Language.{Re}
use Rattle.rex_model.specs.Meaning.{meaning}
use Rattle.rex_model.specs.Rules.{Rule, Rules}
use Rattle.rex_model.specs.declared.regex.Regex.{Regex}
use Rattle.rex_model.specs.declared.rules.ScanRule.{ScanRule}
use Rattle.rex_model.specs.declared.rules.ScanRules.{ScanRules}

-- whether a number is in a set
abbrev pub contains : BitSet → ℕ → Bool
contains set i = nat_lt i set.size && not (bit_and (slice_index set.words (i / 64)) (2 ^ (i % 64)) == 0)

-- the regular expression of a right context
abbrev pub context_of : Option (Bor Regex) → Option Re
context_of None = None
context_of (Some context) = Some (meaning context.now)

-- the rule that a rule of the program stands for
abbrev pub rule_of : ScanRule → Rule
rule_of rule = record {
  active = contains rule.states;
  body = meaning rule.body.now;
  context = context_of rule.context;
  token = rule.token;
  next = rule.next;
}

-- the rules that those of the program stand for
abbrev pub rules_of : ScanRules → Rules
rules_of rules = record {
  states = rules.states;
  tokens = rules.tokens;
  list = map rule_of rules.rules.items;
}
