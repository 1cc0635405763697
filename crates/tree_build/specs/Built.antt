-- The value of a derivation, by what each rule builds.
use Rattle.std.specs.Prelude.{◌≡◌, ℕ, ◌+◌, ◌-◌, ◌<◌, ◌≤◌, pos, List, [], ◌∷◌, length, map, take, drop, Option, Some, None, slice_get, Result, Ok, Err}
use Rattle.expr_lang.specs.Expression.{Expression, number}
use Rattle.expr_lang.specs.PureValues.{PureValue, token, nth}
use Rattle.expr_lang.specs.ValueOf.{Tokens, value_of}
use Rattle.cfg_model.specs.Cfg.{Cfg}
use Rattle.cfg_model.specs.Derivation.{Forest, empty, leaf, node, yield, postorder, Derivation}
use Rattle.parse_driver.specs.Parse.{move_of}
use Rattle.parse_driver.specs.Stream.{terminal_of}
use Rattle.parse_driver.specs.declared.step.Step.{Step}
use Rattle.parse_driver.specs.declared.step.Step.TheVariants as act
use Rattle.parse_driver.specs.declared.tokens.TokenRef.{TokenRef}
use Rattle.rex_model.specs.Place.{line_at, column_at}
use Rattle.node_model.specs.Nodes.{Nodes}
use Rattle.tree_store.specs.Forest.{Node}
use Rattle.tree_build.specs.Shown.{pure_count, IsTreeOf}
use Rattle.tree_build.specs.declared.error.BuildError.{BuildError}
use Rattle.tree_build.specs.declared.error.BuildError.TheVariants as error

-- the expression that is there, else the number 0
abbrev pub expression_in : Option Expression → Expression
expression_in None = number (pos 0)
expression_in (Some e) = e

-- what a rule builds; rules count from 1
abbrev pub build_of : Nodes → ℕ → Expression
build_of nodes r = expression_in (slice_get nodes.builds (r - 1))

-- the values of trees that stand side by side: a token has its number among all tokens, which is k for the first one here;
-- a rule has the value of its expression, where the variables have the values of the rule's symbols
abbrev pub built : {K : Type 0} → Nodes → Tokens → ℕ → Forest K → List PureValue
built nodes tokens k empty = []
built nodes tokens k (leaf t rest) = token k ∷ built nodes tokens (k + 1) rest
built nodes tokens k (node r children rest) =
    value_of tokens (built nodes tokens k children) (build_of nodes r) ∷ built nodes tokens (k + length (yield children)) rest

-- the value of a derivation
abbrev pub built_value : {K : Type 0} → Nodes → Tokens → Forest K → PureValue
built_value nodes tokens forest = nth (built nodes tokens 0 forest) 0

-- the tokens as they stand in a source: their texts, and the lines and columns where they begin
abbrev pub token_text : List ℕ → TokenRef → List ℕ
token_text source t = take (t.to - t.from) (drop t.from source)

-- the line and column of a token in the source
abbrev pub token_place : List ℕ → TokenRef → ℕ × ℕ
token_place source t = (line_at source t.from, column_at source t.from)

-- the texts and places of tokens
abbrev pub tokens_in_source : List ℕ → List TokenRef → Tokens
tokens_in_source source tokens = record { texts = map (token_text source) tokens; places = map (token_place source) tokens }

-- a token that is shifted lies inside the source
abbrev pub LiesInSource : List ℕ → Step → Type 0
LiesInSource source (act.Shift t) = (t.from ≤ t.to) × (t.to ≤ length source)
LiesInSource source (act.Reduce r) = Unit {0}

-- the steps are those of a derivation of the tokens in postorder
pub record IsReading (g : Cfg) (steps : List Step) (tokens : List TokenRef) (forest : Forest TokenRef) : Type 0 where
  pub derivation : Derivation terminal_of g tokens forest
  pub in_postorder : map move_of steps ≡ postorder forest

-- what the answer of a build says where this is the value of the derivation; want of memory says nothing
abbrev pub IsBuilt : List ℕ → List ℕ → Nodes → PureValue → Result (List Node) BuildError → Type 0
IsBuilt source literals nodes v (Ok tree) = IsTreeOf source literals nodes.table tree v × (pure_count v ≤ 1048576)
IsBuilt source literals nodes v (Err error.TooLarge) = 1048576 < pure_count v
IsBuilt source literals nodes v (Err error.NoMemory) = Unit {0}
