-- The numbering of a grammar's cores, with the moves from core to core.
use Rattle.std.specs.Prelude.{◌≡◌, ℕ, ◌<◌, ◌≤◌, ◌↔◌, List, [], ◌∷◌, ◌++◌, length, slice_get, Some, Contains, slice_index_or, map}
use Rattle.ck_base.specs.Counts.{HasMoreThan}
use Rattle.cfg_model.specs.declared.symbol.Sym.{Sym}
use Rattle.cfg_model.specs.declared.symbol.Sym.TheVariants.{T, N}
use Rattle.cfg_model.specs.Cfg.{Cfg}
use Rattle.cfg_model.specs.Valid.{InCore, HasCore, SameCore}

-- the items of each core, as rule and place of the dot, and its moves, as symbol and number of a core
pub record CoreList : Type 0 where
  pub items : List (List (ℕ × ℕ))
  pub moves : List (List (Sym × ℕ))

-- the items of a core, as rule and dot; none where there is no such core
abbrev pub items_at : CoreList → ℕ → List (ℕ × ℕ)
items_at cores n = slice_index_or cores.items n []

-- the moves of a core, as symbol and core; none where there is no such core
abbrev pub moves_at : CoreList → ℕ → List (Sym × ℕ)
moves_at cores n = slice_index_or cores.moves n []

-- core n is that of the prefix
pub record IsCore (g : Cfg) (cores : CoreList) (n : ℕ) (p : List Sym) : Type 0 where
  pub inside : n < length cores.items
  pub items : (r d : ℕ) → Contains (items_at cores n) (r, d) ↔ ((y : List Sym) × InCore g p r d y)

-- the first symbol stands before the second: terminals before nonterminals, each by number
abbrev pub Before : Sym → Sym → Type 0
Before (T a) (T b) = a < b
Before (T a) (N b) = 0 ≤ b
Before (N a) (T b) = ⊥
Before (N a) (N b) = a < b

-- each symbol stands before the next one
pub data Rising : List (Sym × ℕ) → Type 0 where
  none : Rising []
  one : (x : Sym) (n : ℕ) → Rising ((x, n) ∷ [])
  more : (x y : Sym) (n m : ℕ) (rest : List (Sym × ℕ)) → Before x y → Rising ((y, m) ∷ rest)
      → Rising ((x, n) ∷ (y, m) ∷ rest)

-- the numbers that moves lead to, in order
abbrev pub targets : List (List (Sym × ℕ)) → List ℕ
targets [] = []
targets (ms ∷ rest) = map (λ m. m.1) ms ++ targets rest

-- each number is met after all lower ones
abbrev pub FirstMet : List ℕ → Type 0
FirstMet ns = (a b : List ℕ) (n k : ℕ) → ns ≡ a ++ (n ∷ b) → k < n → Contains a k

-- These are the cores of the grammar that aren't empty, each once and no item twice in one, and their
-- moves. Core 0 is that of the empty prefix; the others are numbered in the order in which they are
-- first met, going through the cores by number and in each through its moves by symbol.
pub record IsCores (g : Cfg) (cores : CoreList) : Type 0 where
  pub sizes : length cores.moves ≡ length cores.items
  pub each : (n : ℕ) → n < length cores.items → (p : List Sym) × HasCore g p × IsCore g cores n p
  pub all : (p : List Sym) → HasCore g p → (n : ℕ) × IsCore g cores n p
  pub once : (p : List Sym) (n m : ℕ) → IsCore g cores n p → IsCore g cores m p → n ≡ m
  pub first : IsCore g cores 0 []
  pub single : (n i j : ℕ) (item : ℕ × ℕ) → slice_get (items_at cores n) i ≡ Some item
      → slice_get (items_at cores n) j ≡ Some item → i ≡ j
  pub moves : (p : List Sym) (n : ℕ) (x : Sym) (m : ℕ) → IsCore g cores n p
      → Contains (moves_at cores n) (x, m) ↔ (HasCore g (x ∷ p) × IsCore g cores m (x ∷ p))
  pub rising : (n : ℕ) → Rising (moves_at cores n)
  pub order : FirstMet (0 ∷ targets cores.moves)

-- there are more than k cores
abbrev pub HasMoreCores : Cfg → ℕ → Type 0
HasMoreCores g k = HasMoreThan (HasCore g) (SameCore g) k
