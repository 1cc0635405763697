-- The faults of names and counts among the lines of a grammar.
use Rattle.std.specs.Prelude.{◌≡◌, ℕ, ◌+◌, List, [], ◌∷◌, ◌++◌, length, map, Option, Some, codes}
use Rattle.ck_base.specs.Numbered.{met}
use Rattle.ck_base.specs.declared.fault.Kind.{Kind}
use Rattle.ck_base.specs.declared.fault.Kind.TheVariants.{Limit, Twice, Unknown}
use Rattle.section_frame.specs.Declares.{Declared, Notation}
use Rattle.section_frame.specs.Words.{IsAgain, IsAmong, IsMissing, IsPast, ArePast}
use Rattle.front_spec.specs.GrammarShapes.{SaidProduction, ProductionLine}

-- the labels of productions, in the order of their lines
abbrev pub labels_in : List (Declared SaidProduction) → List (List ℕ)
labels_in ds = map (λ d. d.said.label) ds

-- the nonterminals: the left sides, in the order in which they are first met
abbrev pub nonterminals_in : List (Declared SaidProduction) → List (List ℕ)
nonterminals_in ds = met [] (map (λ d. d.said.left) ds)

-- rules are called by their labels
abbrev pub label_name : SaidProduction → Option (List ℕ)
label_name said = Some said.label

-- nonterminals are called by the left sides of their rules
abbrev pub left_name : SaidProduction → Option (List ℕ)
left_name said = Some said.left

-- each rule counts as one
abbrev pub one : SaidProduction → ℕ
one said = 1

-- among these productions, over the scanner's tokens, the one at the place has a fault of the kind
pub data GrammarFault (tokens : List (List ℕ)) (ds : List (Declared SaidProduction)) : Kind → ℕ → SaidProduction → Type 0 where
  second_label : (i : ℕ) (said : SaidProduction) → IsAgain label_name ds i said → GrammarFault tokens ds Twice i said
  left_is_token : (i : ℕ) (said : SaidProduction) → IsAmong left_name tokens said → GrammarFault tokens ds Twice i said
  -- END is the terminal behind each sentence
  left_is_end : (i : ℕ) (said : SaidProduction) → IsAmong left_name (codes "END" ∷ []) said → GrammarFault tokens ds Twice i said
  -- a symbol that is neither a token nor a left side
  no_symbol : (i : ℕ) (said : SaidProduction) → IsMissing (tokens ++ nonterminals_in ds) said.right → GrammarFault tokens ds Unknown i said
  too_many_rules : (i : ℕ) (said : SaidProduction) → IsPast one 1024 ds i → GrammarFault tokens ds Limit i said
  -- END is counted
  too_many_symbols : (i : ℕ) (said : SaidProduction) → ArePast left_name (length tokens + 1) 512 ds i → GrammarFault tokens ds Limit i said

-- at the line of the grammar's head: there is no rule
pub data NoProduction (ds : List (Declared SaidProduction)) : Kind → Type 0 where
  empty : ds ≡ [] → NoProduction ds Unknown

-- the notation of a grammar
abbrev pub grammar : List (List ℕ) → Notation SaidProduction
grammar tokens = record { Shape = ProductionLine; Fault = GrammarFault tokens }
