-- What rules offer at a node, and the best of it. Only contracts within this crate cite it.
use Rattle.std.specs.Prelude.{◌≡◌, ℕ, ◌+◌, ◌*◌, ◌<◌, min, List, [], ◌∷◌, length, slice_get, slice_set, Option, Some, None, Bool, true, false, ◌&&◌, ◌||◌, nat_lt, nat_eq, if◌then◌else◌}
use Rattle.beg_label.specs.declared.offers.Offer.{Offer}
use Rattle.beg_label.specs.declared.offers.Best.{Best}

-- a sum of costs, at most 2^40: no least cost is so great
abbrev pub capped : ℕ → ℕ
capped n = min n 1099511627776

-- the best that is there; past the end one that costs 2^40, which stands for none
abbrev pub best_in : Option Best → Best
best_in (Some b) = b
best_in None = record { cost = 1099511627776; rule = 0 }

-- the best of a nonterminal
abbrev pub best_at : List Best → ℕ → Best
best_at row x = best_in (slice_get row x)

-- what the best of the operand adds, where that is the node itself
abbrev pub operand_cost : List Best → Option ℕ → ℕ
operand_cost row None = 0
operand_cost row (Some y) = (best_at row y).cost

-- what an offer comes to
abbrev pub offer_cost : Offer → List Best → ℕ
offer_cost o row = capped (o.cost + operand_cost row o.operand)

-- cost and rule are better than the best so far
abbrev pub better : ℕ → ℕ → Best → Bool
better cost rule old = nat_lt cost 1099511627776 && (nat_lt cost old.cost || (nat_eq cost old.cost && nat_lt rule old.rule))

-- the offer is better than the best so far of its nonterminal
abbrev pub improves : Offer → List Best → Bool
improves o row = better (offer_cost o row) o.rule (best_at row o.left)

-- the row with the offer where it is better, else the row as it was
abbrev pub improved : Offer → List Best → List Best
improved o row = if improves o row then slice_set row o.left (record { cost = offer_cost o row; rule = o.rule }) else row

-- the value is one of the list
abbrev pub IsIn : {A : Type 0} → A → List A → Type 0
IsIn x xs = (i : ℕ) × (slice_get xs i ≡ Some x)

-- a row that comes from another by better offers, one after the other
pub data Improves (offers : List Offer) : List Best → List Best → Type 0 where
  none : (row : List Best) → Improves offers row row
  more : (old new : List Best) (o : Offer) → Improves offers old new → IsIn o offers → improves o new ≡ true → Improves offers old (improved o new)

-- no offer is better
abbrev pub NoneBetter : List Offer → List Best → Type 0
NoneBetter offers row = (o : Offer) → IsIn o offers → improves o row ≡ false

-- costs and rules together as a number: it falls with each better offer
abbrev pub weight : List Best → ℕ
weight [] = 0
weight (b ∷ row) = (b.cost * 4294967296 + b.rule) + weight row

-- a round of offers: where one was better the weight is less, else the row is as before and no offer is better
pub record Passed (offers : List Offer) (old new : List Best) (changed : Bool) : Type 0 where
  pub steps : Improves offers old new
  pub size : length new ≡ length old
  pub less : changed ≡ true → weight new < weight old
  pub same : changed ≡ false → (new ≡ old) × NoneBetter offers old
