-- Cells that are filled rule by rule, and the least clash that was met.
use Rattle.std.specs.Prelude.{◌≡◌, ℕ, ◌<◌, ◌≤◌, ◌⊎◌, ◌+◌, ◌*◌, Option, Some, None, List, slice_get, slice_index, cond, ltb}
use Rattle.ck_base.specs.BitSet.{BitSet}
use Rattle.cfg_model.specs.Cfg.{Rule}
use Rattle.cfg_model.specs.Rows.{In}
use Rattle.ell_tables.specs.declared.fill.Clash.{Clash}

-- two rules that were seen: S n t r says that rule r of nonterminal n is for terminal t
abbrev pub Clashes : (ℕ → ℕ → ℕ → Type 0) → Clash → Type 0
Clashes S c = (c.rule < c.other) × S c.nonterminal c.terminal c.rule × S c.nonterminal c.terminal c.other

-- the first four numbers stand before the others, or are the same: the nonterminal counts first, then the
-- first rule, the second rule, the terminal
abbrev pub IsBefore : ℕ → ℕ → ℕ → ℕ → ℕ → ℕ → ℕ → ℕ → Type 0
IsBefore n r q t m s p u = (n < m) ⊎ ((n ≡ m) × ((r < s) ⊎ ((r ≡ s) × ((q < p) ⊎ ((q ≡ p) × (t ≤ u))))))

-- the first clash is reported before the second, or they are the same
abbrev pub Precedes : Clash → Clash → Type 0
Precedes a b = IsBefore a.nonterminal a.rule a.other a.terminal b.nonterminal b.rule b.other b.terminal

-- the first clash of all in that order, and None where there is none
abbrev pub IsLeastClash : (ℕ → ℕ → ℕ → Type 0) → Option Clash → Type 0
IsLeastClash S None = (c : Clash) → Clashes S c → ⊥
IsLeastClash S (Some b) = Clashes S b × ((c : Clash) → Clashes S c → Precedes b c)

-- each cell has the least rule that was seen, 0 where none was
pub record Filled (S : ℕ → ℕ → ℕ → Type 0) (cell : ℕ → ℕ → ℕ) (found : Option Clash) : Type 0 where
  pub positive : (n t r : ℕ) → S n t r → 0 < r
  pub none_seen : (n t r : ℕ) → cell n t ≡ 0 → S n t r → ⊥
  pub seen : (n t : ℕ) → 0 < cell n t → S n t (cell n t)
  pub least : (n t r : ℕ) → S n t r → cell n t ≤ r
  pub best : IsLeastClash S found

-- the first of the two in the order of reports
abbrev pub IsLesser : Option Clash → Clash → Option Clash → Type 0
IsLesser None other new = new ≡ Some other
IsLesser (Some b) other new = (c : Clash) × (new ≡ Some c) × ((c ≡ b) ⊎ (c ≡ other)) × Precedes c b × Precedes c other

-- rule r of nonterminal n is for terminal t by its set, and was seen: it stands before rule k + 1, or is
-- that rule, and the terminal is below u
pub record Seen (rules : List Rule) (sets : List BitSet) (k u n t r : ℕ) : Type 0 where
  pub place : ℕ
  pub one : Rule
  pub number : r ≡ place + 1
  pub is_rule : slice_get rules place ≡ Some one
  pub left : one.left ≡ n
  pub has : In sets place t
  pub before : (place < k) ⊎ ((place ≡ k) × (t < u))

-- the cell of a nonterminal and a terminal in rows of this width; 0 past the row
abbrev pub cell_at : ℕ → List ℕ → ℕ → ℕ → ℕ
cell_at width cells n t = cond (ltb t width) (slice_index cells (n * width + t)) 0
