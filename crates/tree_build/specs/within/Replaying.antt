-- Steps in postorder, replayed on a list of values.
use Rattle.std.specs.Prelude.{◌≡◌, ℕ, ◌-◌, List, [], ◌∷◌, length, map, false, Option, Some, None, slice_get, slice_index}
use Rattle.value_store.specs.Cells.{Cell}
use Rattle.value_store.specs.declared.value.Value.{Value}
use Rattle.value_store.specs.declared.value.ValType.{ValType}
use Rattle.value_store.specs.declared.value.ValType.TheVariants as ty
use Rattle.expr_lang.specs.OfType.{AreOf}
use Rattle.expr_lang.specs.PureOf.{pure_of}
use Rattle.expr_lang.specs.ValueOf.{Tokens}
use Rattle.cfg_model.specs.Cfg.{Cfg, Rule, IsRule}
use Rattle.cfg_model.specs.Derivation.{Forest, empty, leaf, node, yield, Move, shift, reduce, Derive}
use Rattle.cfg_model.specs.declared.symbol.Sym.{Sym}
use Rattle.parse_driver.specs.Stream.{terminal_of}
use Rattle.parse_driver.specs.declared.step.Step.{Step}
use Rattle.parse_driver.specs.declared.step.Step.TheVariants as act
use Rattle.parse_driver.specs.declared.tokens.TokenRef.{TokenRef}
use Rattle.node_model.specs.Nodes.{Nodes}
use Rattle.tree_build.specs.Built.{built}

-- trees, and then others
abbrev pub beside : {K : Type 0} → Forest K → Forest K → Forest K
beside empty h = h
beside (leaf k f) h = leaf k (beside f h)
beside (node r children f) h = node r children (beside f h)

-- the left side of a rule, else 0
abbrev pub left_in : Option Rule → ℕ
left_in None = 0
left_in (Some rule) = rule.left

-- the left side of rule r
abbrev pub left_of : Cfg → ℕ → ℕ
left_of g r = left_in (slice_get g.rules (r - 1))

-- the types of the values of trees: a token, or a node of the left side's family
abbrev pub types_of : {K : Type 0} → Cfg → Nodes → Forest K → List ValType
types_of g nodes empty = []
types_of g nodes (leaf t rest) = ty.Token ∷ types_of g nodes rest
types_of g nodes (node r children rest) = ty.Node (slice_index nodes.families (left_of g r)) ∷ types_of g nodes rest

-- from trees that are done, these moves lead to the whole
pub data Leads {K : Type 0} (terminal : K → ℕ) (g : Cfg) (whole : Forest K) : List (Move K) → Forest K → Type 0 where
  all_done : Leads terminal g whole [] whole
  then_shift : (t : K) (moves : List (Move K)) (done : Forest K) → Leads terminal g whole moves (beside done (leaf t empty))
      → Leads terminal g whole (shift t ∷ moves) done
  then_reduce : (r n : ℕ) (w : List Sym) (moves : List (Move K)) (done before children : Forest K)
      → IsRule g r n w → Derive terminal g w children
      → done ≡ beside before children → Leads terminal g whole moves (beside before (node r children empty))
      → Leads terminal g whole (reduce r ∷ moves) done

-- the values are those of the trees that are done, and the moves lead from these to the whole
pub record Replaying (source literals : List ℕ) (g : Cfg) (nodes : Nodes) (tokens : Tokens) (cells : List Cell)
    (whole : Forest TokenRef)
    (moves : List (Move TokenRef)) (values : List Value) (shifted : ℕ) : Type 0 where
  pub done : Forest TokenRef
  pub leads : Leads terminal_of g whole moves done
  pub are : AreOf (λ node family. false) cells values (types_of g nodes done)
  pub show : map (pure_of source literals cells) values ≡ built nodes tokens 0 done
  pub count : shifted ≡ length (yield done)

-- the tokens that steps shift
abbrev pub shifted_by : List Step → List TokenRef
shifted_by [] = []
shifted_by (act.Shift t ∷ steps) = t ∷ shifted_by steps
shifted_by (act.Reduce r ∷ steps) = shifted_by steps
