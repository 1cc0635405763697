-- Which specifications are accepted, and why another one is refused.
use Rattle.std.specs.Prelude.{◌≡◌, ℕ, ◌<◌, ◌≤◌, List, [], ◌∷◌, length, Option}
use Rattle.ck_base.specs.Found.{HasNo}
use Rattle.ck_base.specs.declared.fault.Kind.TheVariants.{Section as section, Syntax}
use Rattle.ck_base.specs.declared.refusal.Refusal.{Refusal}
use Rattle.ck_base.specs.declared.refusal.Refusal.TheVariants.{SpecTooLong, BadSpec}
use Rattle.cfg_model.specs.declared.named.NamedGrammar.{NamedGrammar}
use Rattle.rex_model.specs.Rules.{Rules}
use Rattle.spec_text.specs.Promise.{FirstSectionFault, IsFirstOther}
use Rattle.spec_text.specs.declared.section.Section.{Section}
use Rattle.spec_text.specs.declared.section.Section.TheVariants.{Rex, Lalr, Ell, Ast}
use Rattle.ck_chain.specs.AstAccepts.{GivesNodes, RefusesAst}
use Rattle.ck_chain.specs.GrammarAccepts.{GivesGrammar, RefusesGrammar}
use Rattle.ck_chain.specs.InOrder.{Either}
use Rattle.ck_chain.specs.RexAccepts.{GivesRules, RefusesRex}
use Rattle.ck_chain.specs.Tools.{Tools}

-- the sections that are built
abbrev pub built : List Section
built = Rex ∷ Lalr ∷ Ell ∷ Ast ∷ []

-- the first section that isn't built is refused, at its head
abbrev pub RefusesOther : List ℕ → Refusal → Type 0
RefusesOther spec r = (line : ℕ) × IsFirstOther spec built line × (r ≡ BadSpec line Syntax)

-- section AST is refused, or one behind it
abbrev pub RefusesFromAst : List ℕ → Option NamedGrammar → Refusal → Type 0
RefusesFromAst spec grammar = Either (GivesNodes spec grammar) (RefusesAst spec grammar) (λ nodes. RefusesOther spec)

-- the section of the grammar is refused, or one behind it
abbrev pub RefusesFromGrammar : List ℕ → Rules → Refusal → Type 0
RefusesFromGrammar spec rules =
    Either (GivesGrammar spec rules.tokens) (RefusesGrammar spec rules.tokens) (RefusesFromAst spec)

-- section REX is refused, or one behind it
abbrev pub RefusesFromRex : List ℕ → Refusal → Type 0
RefusesFromRex spec = Either (GivesRules spec) (RefusesRex spec) (RefusesFromGrammar spec)

-- the specification is refused: for its length, else for its sections' first fault, else for the first of
-- its sections that is refused
pub data RefusesSpec (spec : List ℕ) : Refusal → Type 0 where
  too_long : 1048576 < length spec → RefusesSpec spec SpecTooLong
  of_sections : length spec ≤ 1048576 → (line : ℕ) → FirstSectionFault spec line → RefusesSpec spec (BadSpec line section)
  of_one : length spec ≤ 1048576 → (r : Refusal) → RefusesFromRex spec r → RefusesSpec spec r

-- the specification is accepted, with what it declares
pub record Accepts (spec : List ℕ) (tools : Tools) : Type 0 where
  pub fits : length spec ≤ 1048576
  pub rules : GivesRules spec tools.rules
  pub grammar : GivesGrammar spec tools.rules.tokens tools.grammar
  pub nodes : GivesNodes spec tools.grammar tools.nodes
  pub all_built : HasNo (IsFirstOther spec built)
