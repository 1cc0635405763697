-- The shapes of a REX section.
use Rattle.std.specs.Prelude.{◌≡◌, ℕ, List, [], ◌∷◌, Option, Some, None, codes}
use Rattle.rex_model.specs.Language.{Re}
use Rattle.spec_text.specs.Lexemes.{Lexeme, word, sign}
use Rattle.section_frame.specs.Parts.{Part, Name, Opt, ListOf, Behind, Before, Then, Or, Seen, Follow, NotFirst}
use Rattle.front_spec.specs.Regexes.{IsRegex, EndsRegex, meaning_of}

-- `STATE name`
abbrev pub StateLine : List Lexeme → List ℕ → Type 0
StateLine tokens name = tokens ≡ word (codes "STATE") ∷ word name ∷ []

-- `< list(name) >`
abbrev pub States : Part (List (List ℕ))
States = Behind (sign (codes "<")) (Before (ListOf Name) (sign (codes ">")))

-- `regex`
abbrev pub Body : Part Re
Body = Seen meaning_of IsRegex

-- `/ regex`
abbrev pub Context : Part Re
Context = Behind (sign (codes "/")) Body

-- what may follow the context
abbrev pub NoSlashEnds : Follow
NoSlashEnds rest = EndsRegex rest × NotFirst (sign (codes "/")) rest

-- `GO name`
abbrev pub Go : Part (List ℕ)
Go = Behind (word (codes "GO")) Name

-- `TOKEN name opt(GO name)`
abbrev pub Produces : Part (List ℕ × Option (List ℕ))
Produces = Behind (word (codes "TOKEN")) (Then Name (Opt Go))

-- `SKIP opt(GO name)`
abbrev pub Skips : Part (Option (List ℕ))
Skips = Behind (word (codes "SKIP")) (Opt Go)

-- what a rule gives: a token, and the state behind it, if any
abbrev pub with_token : List ℕ × Option (List ℕ) → Option (List ℕ) × Option (List ℕ)
with_token both = (Some both.0, both.1)

-- a rule that skips, with the state behind it, if any
abbrev pub without_token : Option (List ℕ) → Option (List ℕ) × Option (List ℕ)
without_token next = (None, next)

-- `: TOKEN name opt(GO name)` or `: SKIP opt(GO name)`
abbrev pub Action : Part (Option (List ℕ) × Option (List ℕ))
Action = Behind (sign (codes ":")) (Or (Seen with_token Produces) (Seen without_token Skips))

-- `RULE opt(< list(name) >) regex opt(/ regex)` and the action
abbrev pub RuleShape : Part (Option (List (List ℕ)) × (Re × (Option Re × (Option (List ℕ) × Option (List ℕ)))))
RuleShape = Behind (word (codes "RULE")) (Then (Opt States) (Then Body (Then (Opt Context) Action)))

-- what a rule says
pub record SaidRule : Type 0 where
  pub states : Option (List (List ℕ))
  pub body : Re
  pub context : Option Re
  pub token : Option (List ℕ)
  pub next : Option (List ℕ)

-- the line is this rule's
abbrev pub RuleLine : List Lexeme → SaidRule → Type 0
RuleLine tokens rule = RuleShape tokens (rule.states, (rule.body, (rule.context, (rule.token, rule.next)))) []

-- what a line declares: a state, or a rule
pub data Saying : Type 0 where
  state : List ℕ → Saying
  rule : SaidRule → Saying

-- the line has one of the shapes, and declares this
pub data RexShape : List Lexeme → Saying → Type 0 where
  a_state : (tokens : List Lexeme) (name : List ℕ) → StateLine tokens name → RexShape tokens (state name)
  a_rule : (tokens : List Lexeme) (said : SaidRule) → RuleLine tokens said → RexShape tokens (rule said)
