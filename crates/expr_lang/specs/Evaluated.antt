-- What an evaluation needs, and what it gives.
use Rattle.std.specs.Prelude.{◌≡◌, ℕ, ◌≤◌, ◌++◌, List, [], ◌∷◌, map, Bool, true, false, if◌then◌else◌}
use Rattle.value_store.specs.Cells.{Cell, Store, cells_of, IsMade}
use Rattle.value_store.specs.declared.text.Text.{Text}
use Rattle.value_store.specs.declared.text.Texts.{Texts}
use Rattle.value_store.specs.declared.value.Value.{Value}
use Rattle.value_store.specs.declared.value.Value.TheVariants as value
use Rattle.value_store.specs.declared.value.ValType.{ValType}
use Rattle.expr_lang.specs.declared.expr.Function.{Function}
use Rattle.expr_lang.specs.Expression.{Expression, Expressions}
use Rattle.expr_lang.specs.Typing.{Context, gives, HasType, HaveTypes}
use Rattle.expr_lang.specs.PureValues.{node, nodes_in, others_in}
use Rattle.expr_lang.specs.ValueOf.{Tokens, applied, value_of, values_of}
use Rattle.expr_lang.specs.Meaning.{tokens_in}
use Rattle.expr_lang.specs.PureOf.{pure_of}
use Rattle.expr_lang.specs.OfType.{IsOf, AreOf, AreItems, Holds}

-- old cells stay as they were
pub record Keeps (old new : List Cell) : Type 0 where
  pub more : List Cell
  pub extends : new ≡ old ++ more

-- an expression may be evaluated: it has a type, and the variables have values of theirs
pub record Ready (cells : List Cell) (env : List Value) (e : Expression) : Type 0 where
  pub vars : Context
  pub of : ValType
  pub typed : HasType vars e of
  pub are : Holds cells env vars

-- an expression was evaluated: to a value of its type, which means the expression's value; old cells stay
pub record Evaluated (w : Tokens) (s l : List ℕ) (old new : List Cell) (env : List Value) (e : Expression) (v : Value) : Type 0 where
  pub typed : (vars : Context) (t : ValType) → HasType vars e t → Holds old env vars → IsOf vars.sources new v t
  pub is : pure_of s l new v ≡ value_of w (map (pure_of s l old) env) e
  pub kept : Keeps old new

-- the same of a list of expressions
pub record ReadyAll (cells : List Cell) (env : List Value) (es : Expressions) : Type 0 where
  pub vars : Context
  pub of : List ValType
  pub typed : HaveTypes vars es of
  pub are : Holds cells env vars

pub record EvaluatedAll (w : Tokens) (s l : List ℕ) (old new : List Cell) (env : List Value) (es : Expressions) (vs : List Value) : Type 0 where
  pub typed : (vars : Context) (ts : List ValType) → HaveTypes vars es ts → Holds old env vars → AreOf vars.sources new vs ts
  pub is : map (pure_of s l new) vs ≡ values_of w (map (pure_of s l old) env) es
  pub kept : Keeps old new

-- a function was applied to values
pub record Applied (w : Tokens) (s l : List ℕ) (old new : List Cell) (f : Function) (vs : List Value) (v : Value) : Type 0 where
  pub typed : (k : ℕ → ℕ → Bool) → IsOf k new v (gives f)
  pub is : pure_of s l new v ≡ applied w f (map (pure_of s l old) vs)
  pub kept : Keeps old new

-- of values, the cells, and those that aren't
abbrev pub cells_among : List Value → List ℕ
cells_among [] = []
cells_among (value.Made c ∷ vs) = c ∷ cells_among vs
cells_among (_ ∷ vs) = cells_among vs

-- whether a value is a made node
abbrev pub is_made_cell : Value → Bool
is_made_cell (value.Made c) = true
is_made_cell _ = false

-- the values among these that aren't made nodes, in their order
abbrev pub others_among : List Value → List Value
others_among [] = []
others_among (v ∷ vs) = if is_made_cell v then others_among vs else v ∷ others_among vs

-- values that make a node
pub record Parts (cells : List Cell) (vs : List Value) : Type 0 where
  pub sources : ℕ → ℕ → Bool
  pub types : List ValType
  pub children : ℕ
  pub fields : ℕ
  pub are : AreOf sources cells vs types
  pub items : AreItems sources types children fields
  pub few_children : children ≤ 8
  pub few_fields : fields ≤ 8

-- a node was made of values
pub record MadeOf (old new : List Cell) (n : ℕ) (vs : List Value) (v : Value) : Type 0 where
  pub cell_is : (cell : ℕ) × (v ≡ value.Made cell) × IsMade new cell
  pub is : (s l : List ℕ) → pure_of s l new v ≡ node n (nodes_in (map (pure_of s l old) vs)) (others_in (map (pure_of s l old) vs))
  pub kept : Keeps old new

-- what a call of the code gives, with stores in place of their cells
abbrev pub GivesValue : Texts → List Text → List (ℕ × ℕ) → Store → Store → List Value → Expression → Value → Type 0
GivesValue texts spans places old new env e v =
    Evaluated (tokens_in texts spans places) texts.source.now texts.literals.now (cells_of old.units) (cells_of new.units) env e v

-- expressions have these values over two states of a store, the second one after
abbrev pub GivesValues : Texts → List Text → List (ℕ × ℕ) → Store → Store → List Value → Expressions → List Value → Type 0
GivesValues texts spans places old new env es vs =
    EvaluatedAll (tokens_in texts spans places) texts.source.now texts.literals.now (cells_of old.units) (cells_of new.units) env es vs

-- a function of these values gives this value over two states of a store, the second one after
abbrev pub Applies : Texts → List Text → List (ℕ × ℕ) → Store → Store → Function → List Value → Value → Type 0
Applies texts spans places old new f vs v =
    Applied (tokens_in texts spans places) texts.source.now texts.literals.now (cells_of old.units) (cells_of new.units) f vs v

-- the cells of before stay
abbrev pub KeepsCells : Store → Store → Type 0
KeepsCells old new = Keeps (cells_of old.units) (cells_of new.units)
