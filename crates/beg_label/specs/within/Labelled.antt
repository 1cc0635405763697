-- The labels of one node more. Only contracts within this crate cite it.
use Rattle.std.specs.Prelude.{◌≡◌, ℕ, ◌<◌, ◌⊎◌, List, length, Option, Some, None, nat_lt, if◌then◌else◌}
use Rattle.beg_model.specs.Cover.{Application}
use Rattle.beg_model.specs.Labels.{Label, LabelTable, label_at, least_of, rule_of}
use Rattle.beg_model.specs.Closed.{ClosedAt}
use Rattle.beg_label.specs.declared.offers.Best.{Best}
use Rattle.beg_label.specs.within.Offers.{best_at}

-- the label that a best is
abbrev pub label_for : Best → Option Label
label_for b = if nat_lt b.cost 1099511627776 then Some (record { cost = b.cost; rule = b.rule }) else None

-- node n has the bests of the row as labels, and the other nodes have theirs as before
pub record RowPut (old new : LabelTable) (n : ℕ) (row : List Best) : Type 0 where
  pub nodes_are : new.nodes ≡ old.nodes
  pub nonterminals_are : new.nonterminals ≡ old.nonterminals
  pub own : (x : ℕ) → x < length row → label_at new n x ≡ label_for (best_at row x)
  pub others : (m y : ℕ) → (m ≡ n → ⊥) → label_at new m y ≡ label_at old m y

-- node n has its labels, and the other nodes have theirs as before
pub record NodeLabelled (Applies : Application) (old new : LabelTable) (n : ℕ) : Type 0 where
  pub nodes_are : new.nodes ≡ old.nodes
  pub nonterminals_are : new.nonterminals ≡ old.nonterminals
  pub closed : ClosedAt Applies 1099511627776 (least_of new) (rule_of new) n
  pub others : (m y : ℕ) → (m ≡ n → ⊥) → label_at new m y ≡ label_at old m y

-- the pair has the best as its label, and the others have theirs as before
pub record BestPut (old new : LabelTable) (n x : ℕ) (best : Best) : Type 0 where
  pub nodes_are : new.nodes ≡ old.nodes
  pub nonterminals_are : new.nonterminals ≡ old.nonterminals
  pub own : label_at new n x ≡ label_for best
  pub others : (m y : ℕ) → ((m ≡ n) × (y ≡ x)) ⊎ (label_at new m y ≡ label_at old m y)
