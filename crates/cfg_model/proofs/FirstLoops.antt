-- The loops that make the base and the edges of FIRST.
use Rattle.std.proofs.Common.{◌≡◌, ℕ, ◌+◌, ◌<◌, ◌≤◌, false, inl, inr, List, [], ◌∷◌, ◌++◌, length, All, sym, ◌∙◌, ap, arith, slice_get, Some, get_or}
use Rattle.std.proofs.lemmas.Option.{slice_get_within}
use Rattle.std.proofs.lemmas.List.Elements.{All-push}
use Rattle.std.proofs.lemmas.Bool.{cases_eq}
use Rattle.ck_base.specs.BitSet.{BitSet}
use Rattle.cfg_model.specs.declared.symbol.Sym.{Sym}
use Rattle.cfg_model.specs.declared.symbol.Sym.TheVariants.{T, N}
use Rattle.cfg_model.specs.declared.parts.Part.{Part}
use Rattle.cfg_model.specs.declared.rows.Edge.{Edge}
use Rattle.cfg_model.specs.Rows.{In, AreRows}
use Rattle.cfg_model.specs.within.Spreading.{IsInside, IsEdge, AreSpread}
use Rattle.cfg_model.specs.Cfg.{Cfg, IsGrammar, IsSymbol}
use Rattle.cfg_model.proofs.InRange.{symbols_of_rule, symbols_right, left_of_rule}
use Rattle.cfg_model.specs.within.Parts.{At, IsBelow, AreLeftParts, AreInRange, IsAddedAt, AreFirstBase, AreFirstEdges}
use Rattle.cfg_model.specs.within.Closing.{AreMakers}
use Rattle.cfg_model.specs.Sets.{Productive, First}
use Rattle.cfg_model.proofs.FirstSets.{row_is_first, first_row}
use Rattle.cfg_model.proofs.Fronts.{at_front, at_end, at_cases}

pub record EmptyRows (count width : ℕ) (rows : List BitSet) : Type 0 where
  pub are : AreRows count width rows
  pub none_in : (n t : ℕ) → In rows n t → ⊥

abbrev as_part : ℕ → Sym → Part
as_part n s = record { left = n; symbol = s }

abbrev as_edge : ℕ → ℕ → Edge
as_edge a b = record { from = a; to = b }

-- the parts before the place have given their edges
pub record EdgesSoFar (parts : List Part) (count k : ℕ) (edges : List Edge) : Type 0 where
  pub inside : All (IsInside count) edges
  pub only : (a b : ℕ) → IsEdge edges a b → At parts (as_part b (N a))
  pub all : (j a b : ℕ) → k ≤ j → slice_get parts j ≡ Some (as_part b (N a)) → IsEdge edges a b

-- and their base
pub record BaseSoFar (parts : List Part) (count width k : ℕ) (base : List BitSet) : Type 0 where
  pub rows : AreRows count width base
  pub only : (n t : ℕ) → In base n t → At parts (as_part n (T t))
  pub all : (j n t : ℕ) → j < k → slice_get parts j ≡ Some (as_part n (T t)) → In base n t

module _ (parts : List Part) (i : ℕ) (part : Part) (is : slice_get parts i ≡ Some part) (count width : ℕ) where
  same_part : (n : ℕ) (s : Sym) (j : ℕ) → j ≡ i → slice_get parts j ≡ Some (as_part n s) → (n ≡ part.left) × (s ≡ part.symbol)
  same_part n s j here read =
      let there : slice_get parts i ≡ Some (as_part n s) = rw here at read in
      let same : as_part n s ≡ part = cc (there, is) in
      (ap (λ (p : Part). p.left) same, ap (λ (p : Part). p.symbol) same)

  pub edges_more : (n : ℕ) (edges : List Edge) → part.symbol ≡ N n → n < count → part.left < count → EdgesSoFar parts count (i + 1) edges
      → EdgesSoFar parts count i (edges ++ (as_edge n part.left ∷ []))
  edges_more n edges symbol from_in to_in before = record {
    inside = All-push (IsInside count) edges (as_edge n part.left) before.inside (from_in, to_in);
    only = λ a b edge. elim (at_cases edges (as_edge n part.left) (as_edge a b) edge) [
      | inl was ↦ before.only a b was
      | inr same ↦
          let from_is : a ≡ n = ap (λ (e : Edge). e.from) same in
          let to_is : b ≡ part.left = ap (λ (e : Edge). e.to) same in
          (i, rw (from_is, to_is, ← symbol) is)
    ];
    all = λ j a b lt read. elim (cases_eq j i) [
      | inl here ↦
          let (left, sym_is) = same_part b (N a) j here read in
          let number : a ≡ n = (let e : N a ≡ N n = sym_is ∙ symbol in cc) in
          rw (left, number) (at_end edges (as_edge n part.left))
      | inr other ↦ at_front edges (as_edge n part.left) (as_edge a b) (before.all j a b (omega arith) read)
    ];
  }

  pub edges_same : (edges : List Edge) → ((n : ℕ) → part.symbol ≡ N n → ⊥) → EdgesSoFar parts count (i + 1) edges → EdgesSoFar parts count i edges
  edges_same edges none_is before = record {
    inside = before.inside;
    only = before.only;
    all = λ j a b lt read. elim (cases_eq j i) [
      | inl here ↦ absurd (none_is a (sym (same_part b (N a) j here read).1))
      | inr other ↦ before.all j a b (omega arith) read
    ];
  }

  pub base_more : (t : ℕ) (old new : List BitSet) → part.symbol ≡ T t → AreRows count width new → IsAddedAt old part.left t new → BaseSoFar parts count width i old
      → BaseSoFar parts count width (i + 1) new
  base_more t old new symbol rows added before = record {
    rows = rows;
    only = λ n u has. elim (added.only n u has) [
      | inl was ↦ before.only n u was
      | inr (left, number) ↦ (i, rw (left, number, ← symbol) is)
    ];
    all = λ j n u lt read. elim (cases_eq j i) [
      | inl here ↦
          let (left, sym_is) = same_part n (T u) j here read in
          let number : u ≡ t = (let e : T u ≡ T t = sym_is ∙ symbol in cc) in
          rw (left, number) added.more
      | inr other ↦ added.kept n u (before.all j n u (omega arith) read)
    ];
  }

  pub base_same : (base : List BitSet) → ((t : ℕ) → part.symbol ≡ T t → ⊥) → BaseSoFar parts count width i base → BaseSoFar parts count width (i + 1) base
  base_same base none_is before = record {
    rows = before.rows;
    only = before.only;
    all = λ j n u lt read. elim (cases_eq j i) [
      | inl here ↦ absurd (none_is u (sym (same_part n (T u) j here read).1))
      | inr other ↦ before.all j n u (omega arith) read
    ];
  }

pub base_all : (parts : List Part) (count width k : ℕ) (base : List BitSet) → BaseSoFar parts count width k base → length parts ≤ k → AreFirstBase count width parts base
base_all parts count width k base so_far all = record {
  rows = so_far.rows;
  only = so_far.only;
  all = λ n t (j, is). so_far.all j n t (omega (arith, slice_get_within parts j _ is)) is;
}

-- symbols of the grammar are below its counts
pub below_symbol : (g : Cfg) (s : Sym) → IsSymbol g s → IsBelow g.nonterminals (g.terminals + 1) s
below_symbol g (T t) lt = omega arith
below_symbol g (N n) lt = lt

pub below_symbols : (g : Cfg) (u : List Sym) → All (IsSymbol g) u → All (IsBelow g.nonterminals (g.terminals + 1)) u
below_symbols g u all = λ k d lt. below_symbol g (get_or u k d) (all k d lt)

-- what can stand first in a grammar's rules is the grammar's
pub parts_in_range : (g : Cfg) (null : BitSet) (parts : List Part) → IsGrammar g → AreLeftParts g null parts → AreInRange g.nonterminals (g.terminals + 1) parts
parts_in_range g null parts is are p at =
    let part = are.only p at in
    let all = symbols_of_rule g is part.number p.left (part.before ++ (p.symbol ∷ part.after)) part.is_rule in
    (left_of_rule g is part.number p.left (part.before ++ (p.symbol ∷ part.after)) part.is_rule, below_symbol g p.symbol (symbols_right g part.before (p.symbol ∷ part.after) all).0)

-- rows made from the parts are FIRST
module _ (g : Cfg) (null : BitSet) (is : IsGrammar g) (nullable_is : AreMakers false g null) (productive : (n : ℕ) → n < g.nonterminals → Productive g n)
    (parts : List Part) (edges : List Edge) (base rows : List BitSet) (count width : ℕ) (are : AreLeftParts g null parts)
    (base_are : AreFirstBase count width parts base) (edges_are : AreFirstEdges count parts edges) (spread_are : AreSpread edges base rows) where
  pub first_only : (n t : ℕ) → In rows n t → First g (N n ∷ []) t
  first_only = row_is_first g null is nullable_is productive edges base rows
      (λ n t has. are.only (as_part n (T t)) (base_are.only n t has)) (λ n t part. base_are.all n t (are.all n (T t) part))
      (λ a b edge. are.only (as_part b (N a)) (edges_are.only a b edge)) (λ a b part. edges_are.all a b (are.all b (N a) part)) spread_are

  pub first_all : (n t : ℕ) → First g (N n ∷ []) t → In rows n t
  first_all = first_row g null is nullable_is productive edges base rows
      (λ n t has. are.only (as_part n (T t)) (base_are.only n t has)) (λ n t part. base_are.all n t (are.all n (T t) part))
      (λ a b edge. are.only (as_part b (N a)) (edges_are.only a b edge)) (λ a b part. edges_are.all a b (are.all b (N a) part)) spread_are
