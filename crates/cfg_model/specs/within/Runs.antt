-- Rows of what leads to a number, and what can be met first.
use Rattle.std.specs.Prelude.{ℕ, List, All}
use Rattle.ck_base.specs.BitSet.{BitSet}
use Rattle.cfg_model.specs.declared.symbol.Sym.TheVariants.{N}
use Rattle.cfg_model.specs.declared.rows.Edge.{Edge}
use Rattle.cfg_model.specs.Cfg.{Cfg}
use Rattle.cfg_model.specs.Searches.{LeftRecursive}
use Rattle.cfg_model.specs.Rows.{In, AreRows}
use Rattle.cfg_model.specs.within.Spreading.{IsInside, IsEdge, AreSpread}
use Rattle.cfg_model.specs.within.Parts.{LeftPart}

-- the edges lead from each nonterminal that can stand first in a right side to its left side
pub record AreLeftEdges (g : Cfg) (null : BitSet) (edges : List Edge) : Type 0 where
  pub inside : All (IsInside g.nonterminals) edges
  pub only : (a b : ℕ) → IsEdge edges a b → LeftPart g null b (N a)
  pub all : (a b : ℕ) → LeftPart g null b (N a) → IsEdge edges a b

-- one edge leads from m to n exactly where m is in row n
pub record AreEdgeRows (count : ℕ) (edges : List Edge) (rows : List BitSet) : Type 0 where
  pub are : AreRows count count rows
  pub only : (n m : ℕ) → In rows n m → IsEdge edges m n
  pub all : (n m : ℕ) → IsEdge edges m n → In rows n m

-- the rows spread from there
pub record AreRuns (count : ℕ) (edges : List Edge) (rows : List BitSet) : Type 0 where
  pub are : AreRows count count rows
  pub base : List BitSet
  pub base_are : AreEdgeRows count edges base
  pub spread_are : AreSpread edges base rows

-- m is in row n exactly where m can be met first from n
pub record AreMet (g : Cfg) (null : BitSet) (rows : List BitSet) : Type 0 where
  pub are : AreRows g.nonterminals g.nonterminals rows
  pub part : (n m : ℕ) → LeftPart g null n (N m) → In rows n m
  pub down : (n m t : ℕ) → LeftPart g null n (N m) → In rows m t → In rows n t
  pub recursive : (n : ℕ) → In rows n n → LeftRecursive g n
  pub all : (n : ℕ) → LeftRecursive g n → In rows n n
