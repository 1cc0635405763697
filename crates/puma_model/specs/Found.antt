-- What a matcher needs, and what it finds.
use Rattle.std.specs.Prelude.{◌≡◌, ℕ, ◌<◌, ◌≤◌, ◌^◌, List, [], length, take, map, Option, Some, None, slice_get}
use Rattle.value_store.specs.Cells.{Cell}
use Rattle.value_store.specs.declared.value.Value.{Value}
use Rattle.value_store.specs.declared.value.ValType.{ValType}
use Rattle.ast_types.specs.FitTypes.{AreTypes}
use Rattle.expr_lang.specs.PureValues.{PureValue}
use Rattle.tree_store.specs.Conforms.{Conforms}
use Rattle.tree_store.specs.Forest.{IsForest}
use Rattle.puma_model.specs.PurePatterns.{PurePatterns, variable_count_all, pure_patterns}
use Rattle.puma_model.specs.Scene.{Scene}
use Rattle.puma_model.specs.Matches.{MatchAll}
use Rattle.puma_model.specs.Typed.{AreIn, pures}
use Rattle.puma_model.specs.TypedRules.{PatternsFit}
use Rattle.puma_model.specs.declared.rules.Routine.{Routine}
use Rattle.puma_model.specs.declared.rules.PumaRule.{PumaRule}
use Rattle.puma_model.specs.declared.world.World.{World}

-- what patterns look at in a world
abbrev pub scene_of : World → Scene
scene_of world = record {
  table = world.types.now;
  nodes = world.tree.now;
  source = world.texts.source.now;
  literals = world.texts.literals.now;
}

-- the types are usable, and the tree conforms to them
pub record IsScene (scene : Scene) : Type 0 where
  pub types : AreTypes scene.table
  pub forest : IsForest scene.nodes
  pub conforms : Conforms scene.table scene.nodes

-- the patterns of rules, where their strings lie in these bytes
abbrev pub row_of : List ℕ → List ℕ → List PumaRule → List PurePatterns
row_of s l rules = map (λ rule. pure_patterns s l rule.patterns.now) rules

-- the patterns of the rules of routines, where their strings lie in these bytes
abbrev pub patterns_in : List ℕ → List ℕ → List Routine → List (List PurePatterns)
patterns_in s l routines = map (λ routine. row_of s l routine.rules.items) routines

abbrev pub row_in : Option (List PurePatterns) → List PurePatterns
row_in None = []
row_in (Some row) = row

-- the patterns of the rules of a routine
abbrev pub patterns_at : List (List PurePatterns) → ℕ → List PurePatterns
patterns_at all q = row_in (slice_get all q)

-- for these arguments patterns fit, and so many variables are at hand
pub record CanMatch (scene : Scene) (cells : List Cell) (rules : List PurePatterns) (args : List Value) (room : ℕ) : Type 0 where
  pub scene_is : IsScene scene
  pub few : length rules < 2 ^ 32
  pub params : List ValType
  pub args_are : AreIn scene cells args params
  pub fit : (i : ℕ) (ps : PurePatterns) → slice_get rules i ≡ Some ps → (bound : List ValType) × PatternsFit scene.table ps params bound
  pub enough : (i : ℕ) (ps : PurePatterns) → slice_get rules i ≡ Some ps → variable_count_all ps ≤ room

abbrev pub HasNoMatch : Scene → List Cell → PurePatterns → List Value → Type 0
HasNoMatch scene cells ps args = (bound : List PureValue) → MatchAll scene ps (pures scene cells args) bound → ⊥

-- the patterns match the arguments; the first variables have the values that they bind, which are of their types
pub record MatchFound (scene : Scene) (cells : List Cell) (ps : PurePatterns) (args bindings : List Value) : Type 0 where
  pub bound : List Value
  pub count : length bound ≡ variable_count_all ps
  pub front : take (length bound) bindings ≡ bound
  pub matches : MatchAll scene ps (pures scene cells args) (pures scene cells bound)
  pub typed : (params types : List ValType) → PatternsFit scene.table ps params types → AreIn scene cells args params
      → AreIn scene cells bound types

-- the rule is the first one numbered `from` or more whose patterns match
pub record IsFirstMatch (scene : Scene) (cells : List Cell) (rules : List PurePatterns) (args : List Value) (from : ℕ)
    (bindings : List Value) (i : ℕ) : Type 0 where
  pub later : from ≤ i
  pub patterns : PurePatterns
  pub is : slice_get rules i ≡ Some patterns
  pub found : MatchFound scene cells patterns args bindings
  pub first : (j : ℕ) (ps : PurePatterns) → from ≤ j → j < i → slice_get rules j ≡ Some ps → HasNoMatch scene cells ps args

-- no rule numbered `from` or more matches
abbrev pub NoneMatches : Scene → List Cell → List PurePatterns → List Value → ℕ → Type 0
NoneMatches scene cells rules args from = (j : ℕ) (ps : PurePatterns) → from ≤ j → slice_get rules j ≡ Some ps
    → HasNoMatch scene cells ps args
