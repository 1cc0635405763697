-- What the program's expressions, lines and declarations stand for.
use Rattle.std.specs.Prelude.{ℕ, List, map, Option, Some, None, Vec}
use Rattle.std.specs.Global.{Global}
use Rattle.std.specs.Borrow.{Bor}
use Rattle.rex_model.specs.Language.{Re}
use Rattle.rex_model.specs.Meaning.{meaning}
use Rattle.rex_model.specs.declared.regex.Regex.{Regex}
use Rattle.spec_text.specs.Seen.{bytes_of, name_in}
use Rattle.front_spec.specs.Regexes.{Written, Sign, a_star, a_plus, a_question}
use Rattle.front_spec.specs.RexShapes.{SaidRule, Saying, state, rule}
use Rattle.front_spec.specs.declared.regexes.Read.{Read}
use Rattle.front_spec.specs.declared.regexes.Repeat.{Repeat}
use Rattle.front_spec.specs.declared.regexes.Repeat.TheVariants.{Star, Plus, Opt}
use Rattle.front_spec.specs.declared.rule.DeclaredRule.{DeclaredRule}
use Rattle.front_spec.specs.declared.declaration.Says.{Says}
use Rattle.front_spec.specs.declared.declaration.Says.TheVariants.{State, Rule}

-- the pure form of an expression that was read
abbrev pub written_of : Read → Written
written_of read = record { re = meaning read.body; nesting = read.nesting }

-- the sign that a repetition stands for
abbrev pub sign_in : Repeat → Sign
sign_in Star = a_star
sign_in Plus = a_plus
sign_in Opt = a_question

-- the bytes of names, where there are names
abbrev pub names_in : Option (Vec (Bor (List ℕ)) Global) → Option (List (List ℕ))
names_in None = None
names_in (Some names) = Some (map bytes_of names.items)

-- the expression of a context, where there is one
abbrev pub regex_in : Option Regex → Option Re
regex_in None = None
regex_in (Some r) = Some (meaning r)

-- the pure form of a declared rule
abbrev pub said_rule : DeclaredRule → SaidRule
said_rule declared = record {
  states = names_in declared.states;
  body = meaning declared.body;
  context = regex_in declared.context;
  token = name_in declared.token;
  next = name_in declared.next;
}

-- the pure form of what a line says
abbrev pub saying : Says → Saying
saying (State name) = state name.now
saying (Rule declared) = rule (said_rule declared)
