-- The grammar that the lines of LALR or ELL declare.
use Rattle.std.specs.Prelude.{ℕ, Bool, List, map, length, Option, Some, None, unwrap_or}
use Rattle.ck_base.specs.Numbered.{number_of}
use Rattle.cfg_model.specs.Cfg.{Cfg, Rule}
use Rattle.cfg_model.specs.declared.named.NamedGrammar.{NamedGrammar}
use Rattle.cfg_model.specs.declared.symbol.Sym.{Sym}
use Rattle.cfg_model.specs.declared.symbol.Sym.TheVariants.{T, N}
use Rattle.section_frame.specs.Declares.{Declared}
use Rattle.front_spec.specs.GrammarShapes.{SaidProduction}
use Rattle.front_spec.specs.GrammarFaults.{labels_in, nonterminals_in}

-- the number of a name; 0 where it isn't there, which is so in no grammar without a fault
abbrev pub known_number : List (List ℕ) → List ℕ → ℕ
known_number names name = unwrap_or (number_of names name) 0

-- the symbol of a name: the token that is so called, else the nonterminal
abbrev pub symbol_or : Option ℕ → ℕ → Sym
symbol_or (Some t) n = T t
symbol_or None n = N n

-- a name's symbol: a token if it is one, else a nonterminal
abbrev pub symbol_by : List (List ℕ) → List (List ℕ) → List ℕ → Sym
symbol_by tokens nonterminals name = symbol_or (number_of tokens name) (known_number nonterminals name)

-- a rule by the numbers of its symbols
abbrev pub production_by : List (List ℕ) → List (List ℕ) → SaidProduction → Rule
production_by tokens nonterminals said = record {
  left = known_number nonterminals said.left;
  right = map (symbol_by tokens nonterminals) said.right;
}

-- the grammar over the scanner's tokens: nonterminals are numbered in the order in which their first rules
-- stand, and the first of them is the start symbol
abbrev pub grammar_by : List (List ℕ) → List (Declared SaidProduction) → Cfg
grammar_by tokens ds = record {
  terminals = length tokens;
  nonterminals = length (nonterminals_in ds);
  start = 0;
  rules = map (λ d. production_by tokens (nonterminals_in ds) d.said) ds;
}

-- the same with its names; `ell` says that it is of a section ELL
abbrev pub named_by : List (List ℕ) → Bool → List (Declared SaidProduction) → NamedGrammar
named_by tokens ell ds = record {
  grammar = grammar_by tokens ds;
  nonterminals = nonterminals_in ds;
  labels = labels_in ds;
  ell = ell;
}
