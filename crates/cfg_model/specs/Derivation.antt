-- Derivations as trees, their steps, sentences, and what can still become a sentence.
use Rattle.std.specs.Prelude.{◌≡◌, ℕ, List, [], ◌∷◌, ◌++◌}
use Rattle.cfg_model.specs.declared.symbol.Sym.{Sym}
use Rattle.cfg_model.specs.declared.symbol.Sym.TheVariants.{T, N}
use Rattle.cfg_model.specs.Cfg.{Cfg, IsRule}

-- trees that stand side by side: leaves are tokens, inner vertices are rules with their children
pub data Forest (K : Type 0) : Type 0 where
  empty : Forest K
  leaf : K → Forest K → Forest K
  node : ℕ → Forest K → Forest K → Forest K

-- the leaves from left to right
abbrev pub yield : {K : Type 0} → Forest K → List K
yield empty = []
yield (leaf k f) = k ∷ yield f
yield (node r children f) = yield children ++ yield f

-- a step of a parser: a token is shifted, or a rule's right side is done
pub data Move (K : Type 0) : Type 0 where
  shift : K → Move K
  reduce : ℕ → Move K

-- the vertices in postorder, as the steps of a parser
abbrev pub postorder : {K : Type 0} → Forest K → List (Move K)
postorder empty = []
postorder (leaf k f) = shift k ∷ postorder f
postorder (node r children f) = postorder children ++ (reduce r ∷ postorder f)

-- the trees are derivations from these symbols: a token from its terminal, a rule from its left side,
-- with derivations from its right side as children
pub data Derive {K : Type 0} (terminal : K → ℕ) (g : Cfg) : List Sym → Forest K → Type 0 where
  nothing : Derive terminal g [] empty
  token : (t : ℕ) (k : K) (u : List Sym) (f : Forest K) → terminal k ≡ t
      → Derive terminal g u f → Derive terminal g (T t ∷ u) (leaf k f)
  rule : (r n : ℕ) (w u : List Sym) (children f : Forest K) → IsRule g r n w
      → Derive terminal g w children → Derive terminal g u f
      → Derive terminal g (N n ∷ u) (node r children f)

-- the tree is a derivation of the tokens from the start symbol
pub record Derivation {K : Type 0} (terminal : K → ℕ) (g : Cfg) (tokens : List K) (f : Forest K) : Type 0 where
  pub from_start : Derive terminal g (N g.start ∷ []) f
  pub yields : tokens ≡ yield f

-- the symbols derive the word: it is the yield of trees from them
pub record Gives (g : Cfg) (u : List Sym) (w : List ℕ) : Type 0 where
  pub forest : Forest ℕ
  pub derive : Derive (λ t. t) g u forest
  pub yields : w ≡ yield forest

-- a list of terminals is a sentence: it has a derivation
abbrev pub IsSentence : Cfg → List ℕ → Type 0
IsSentence g u = (f : Forest ℕ) × Derivation (λ t. t) g u f

-- a list of terminals is viable: it is the beginning of a sentence
abbrev pub IsViable : Cfg → List ℕ → Type 0
IsViable g u = (v : List ℕ) × IsSentence g (u ++ v)
