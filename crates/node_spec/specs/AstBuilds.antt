-- What each rule builds by the lines of AST.
use Rattle.std.specs.Prelude.{ℕ, zero, suc, ◌+◌, List, [], ◌∷◌, ◌++◌, length, Option, Some, None, unwrap_or, false}
use Rattle.ast_types.specs.TypeTable.{TypeTable}
use Rattle.expr_lang.specs.Expression.{Expression, var}
use Rattle.cfg_model.specs.Cfg.{Rule}
use Rattle.cfg_model.specs.declared.named.NamedGrammar.{NamedGrammar}
use Rattle.cfg_model.specs.declared.symbol.Sym.{Sym}
use Rattle.cfg_model.specs.declared.symbol.Sym.TheVariants.{T, N}
use Rattle.section_frame.specs.Declares.{Declared}
use Rattle.expr_read.specs.Spoken.{Spoken}
use Rattle.node_spec.specs.AstShapes.{AstSaying}
use Rattle.node_spec.specs.AstTables.{table_by, families_by, build_line}
use Rattle.node_model.specs.Makers.{names_of_types, types_of_side}
use Rattle.node_model.specs.Nodes.{Nodes}
use Rattle.expr_read.specs.Resolving.{Vocabulary, resolved, dollar_name}

-- the names `$1`, `$2`, .. of the symbols of a rule
abbrev pub dollar_names : ℕ → List (List ℕ)
dollar_names zero = []
dollar_names (suc n) = dollar_names n ++ dollar_name (n + 1) ∷ []

-- what an expression may name in the BUILD line of a rule with so many symbols: these, and the makers of the
-- source side
abbrev pub build_words : TypeTable → ℕ → Vocabulary
build_words table n = record {
  variables = dollar_names n;
  makers = names_of_types table (types_of_side table false);
  types = types_of_side table false;
  dotted = [];
}

-- the places of the nonterminals among symbols, of which the first stands at this place
abbrev pub nonterminal_places : ℕ → List Sym → List ℕ
nonterminal_places i [] = []
nonterminal_places i (T t ∷ symbols) = nonterminal_places (i + 1) symbols
nonterminal_places i (N n ∷ symbols) = i ∷ nonterminal_places (i + 1) symbols

-- the one place of a list
abbrev pub only : List ℕ → Option ℕ
only [] = None
only (i ∷ []) = Some i
only (i ∷ j ∷ more) = None

-- the place of the one nonterminal of a right side; None where there is none, or more than one
abbrev pub only_nonterminal : List Sym → Option ℕ
only_nonterminal right = only (nonterminal_places 0 right)

-- the value of the one nonterminal
abbrev pub default_build : Option ℕ → Option Expression
default_build None = None
default_build (Some i) = Some (var i)

-- what a rule builds: by its own line, else by default
abbrev pub build_by : TypeTable → Option Spoken → List Sym → Option Expression
build_by table None right = default_build (only_nonterminal right)
build_by table (Some e) right = resolved (build_words table (length right)) e

-- what a rule of the label builds: what its BUILD line says, else the value of its one nonterminal; variable 0 where
-- that is nothing, which is so in no section without a fault
abbrev pub rule_builds : List (Declared AstSaying) → List ℕ → Rule → Expression
rule_builds ds label rule = unwrap_or (build_by (table_by ds) (build_line ds label) rule.right) (var 0)

-- what each rule builds, rules beside their labels
abbrev pub builds_from : List (Declared AstSaying) → List (List ℕ) → List Rule → List Expression
builds_from ds labels [] = []
builds_from ds [] (rule ∷ rules) = []
builds_from ds (label ∷ labels) (rule ∷ rules) = rule_builds ds label rule ∷ builds_from ds labels rules

-- what the lines declare for the grammar
abbrev pub nodes_by : NamedGrammar → List (Declared AstSaying) → Nodes
nodes_by g ds = record {
  table = table_by ds;
  families = families_by ds g.nonterminals;
  builds = builds_from ds g.labels g.grammar.rules;
}
