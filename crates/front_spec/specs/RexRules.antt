-- The scan rules that the lines of REX declare.
use Rattle.std.specs.Prelude.{ℕ, ◌==◌, Bool, false, List, [], ◌∷◌, map, Option, Some, None}
use Rattle.std.specs.List.{list_any}
use Rattle.ck_base.specs.Numbered.{number_of, met}
use Rattle.rex_model.specs.Rules.{Rule, Rules}
use Rattle.section_frame.specs.Declares.{Declared}
use Rattle.section_frame.specs.Words.{names_by}
use Rattle.front_spec.specs.RexShapes.{SaidRule, Saying, state, rule}
use Rattle.front_spec.specs.RexFaults.{all_states, token_name}

-- the rules in the order of their lines
abbrev pub add_rule : Saying → List SaidRule → List SaidRule
add_rule (state name) rules = rules
add_rule (rule said) rules = said ∷ rules

-- the rules that lines declare, in their order
abbrev pub rules_in : List (Declared Saying) → List SaidRule
rules_in [] = []
rules_in (d ∷ ds) = add_rule d.said (rules_in ds)

-- the number of a name that may be missing
abbrev pub number_in : List (List ℕ) → Option (List ℕ) → Option ℕ
number_in names None = None
number_in names (Some name) = number_of names name

-- whether there is a number and it is this one
abbrev pub is_number : Option ℕ → ℕ → Bool
is_number None k = false
is_number (Some n) k = n == k

-- the states where a rule is active: those that it names, and STD alone where it names none
abbrev pub active_in : List (List ℕ) → Option (List (List ℕ)) → ℕ → Bool
active_in states None k = k == 0
active_in states (Some names) k = list_any (λ name. is_number (number_of states name) k) names

-- a rule, its states and its token by their numbers
abbrev pub rule_by : List (List ℕ) → List (List ℕ) → SaidRule → Rule
rule_by states tokens said = record {
  active = active_in states said.states;
  body = said.body;
  context = said.context;
  token = number_in tokens said.token;
  next = number_in states said.next;
}

-- the rules that are declared; states and tokens are numbered in the order in which they are first met
abbrev pub rules_by : List (Declared Saying) → Rules
rules_by ds = record {
  states = all_states ds;
  tokens = met [] (names_by token_name ds);
  list = map (rule_by (all_states ds) (met [] (names_by token_name ds))) (rules_in ds);
}
