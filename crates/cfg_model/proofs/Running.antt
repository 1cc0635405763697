-- Rows of what leads to a number.
use Rattle.std.proofs.Common.{◌≡◌, ℕ, ◌<◌, false, List, slice_get, Some, None, Option}
use Rattle.ck_base.specs.BitSet.{BitSet}
use Rattle.cfg_model.specs.declared.symbol.Sym.{Sym}
use Rattle.cfg_model.specs.declared.symbol.Sym.TheVariants.{N}
use Rattle.cfg_model.specs.declared.parts.Part.{Part}
use Rattle.cfg_model.specs.declared.rows.Edge.{Edge}
use Rattle.cfg_model.specs.Cfg.{Cfg}
use Rattle.cfg_model.specs.within.Closing.{AreMakers}
use Rattle.cfg_model.specs.Searches.{IsLeast}
use Rattle.cfg_model.specs.Rows.{In, AreRows}
use Rattle.cfg_model.specs.within.Spreading.{IsEdge, here}
use Rattle.cfg_model.specs.within.Parts.{LeftPart, AreLeftParts, AreFirstEdges}
use Rattle.cfg_model.specs.within.Runs.{AreLeftEdges, AreRuns, AreMet}
use Rattle.cfg_model.proofs.FirstSets.{spread_on}
use Rattle.cfg_model.proofs.LeftPaths.{recursive_of_row, row_of_recursive}

abbrev as_part : ℕ → Sym → Part
as_part n s = record { left = n; symbol = s }

-- the edges before the place are in the rows
pub record EdgeRowsSoFar (edges : List Edge) (count k : ℕ) (rows : List BitSet) : Type 0 where
  pub are : AreRows count count rows
  pub only : (n m : ℕ) → In rows n m → IsEdge edges m n
  pub all : (j n m : ℕ) → j < k → slice_get edges j ≡ Some (record { from = m; to = n }) → In rows n m

pub left_edges_are : (g : Cfg) (null : BitSet) (parts : List Part) (edges : List Edge) → AreLeftParts g null parts → AreFirstEdges g.nonterminals parts edges → AreLeftEdges g null edges
left_edges_are g null parts edges are edges_are = record {
  inside = edges_are.inside;
  only = λ a b edge. are.only (as_part b (N a)) (edges_are.only a b edge);
  all = λ a b part. edges_are.all a b (are.all b (N a) part);
}

module _ (g : Cfg) (null : BitSet) (nullable_is : AreMakers false g null) (edges : List Edge) (rows : List BitSet)
    (are : AreLeftEdges g null edges) (runs : AreRuns g.nonterminals edges rows) where
  base_is : (n m : ℕ) → In runs.base n m → LeftPart g null n (N m)
  base_is n m has = are.only m n (runs.base_are.only n m has)

  base_all : (n m : ℕ) → LeftPart g null n (N m) → In runs.base n m
  base_all n m part = runs.base_are.all n m (are.all m n part)

  pub are_met : AreMet g null rows
  are_met = record {
    are = runs.are;
    part = λ n m part. runs.spread_are.all n n m here (base_all n m part);
    down = λ n m t part has. spread_on edges runs.base rows runs.spread_are m n t (are.all m n part) has;
    recursive = recursive_of_row g null nullable_is edges runs.base rows base_is base_all are.only are.all runs.spread_are;
    all = row_of_recursive g null nullable_is edges runs.base rows base_is base_all are.only are.all runs.spread_are;
  }

-- the least number of the same set
pub least_same : (P Q : ℕ → Type 0) (answer : Option ℕ) → ((n : ℕ) → P n → Q n) → ((n : ℕ) → Q n → P n) → IsLeast P answer → IsLeast Q answer
least_same P Q None to from none_is = λ n q. none_is n (from n q)
least_same P Q (Some n) to from (is, least) = (to n is, λ m q. least m (from m q))
