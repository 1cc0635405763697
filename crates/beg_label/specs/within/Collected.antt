-- The offers of rules at a node. Only contracts within this crate cite it.
use Rattle.std.specs.Prelude.{◌≡◌, ℕ, ◌+◌, ◌⊎◌, List, [], ◌∷◌, ◌++◌, Option, Some, None, nat_eq, if◌then◌else◌}
use Rattle.beg_model.specs.Cover.{Application}
use Rattle.beg_model.specs.declared.matched.Subgoal.{Subgoal}
use Rattle.beg_model.specs.Labels.{Costs}
use Rattle.beg_label.specs.declared.offers.Offer.{Offer}
use Rattle.beg_label.specs.within.Offers.{capped, IsIn}

-- the nonterminal of the only operand, where that is the node itself
abbrev pub own_operand : List Subgoal → ℕ → Option ℕ
own_operand [] n = None
own_operand (p ∷ []) n = if nat_eq p.node n then Some p.nonterminal else None
own_operand (p ∷ q ∷ ps) n = None

-- the cost of a label; 2^40 where there is none
abbrev pub cost_or_nothing : Option ℕ → ℕ
cost_or_nothing (Some c) = c
cost_or_nothing None = 1099511627776

-- the labels at these places, added to a sum
abbrev pub total_from : Costs → ℕ → List Subgoal → ℕ
total_from costs sum [] = sum
total_from costs sum (p ∷ ps) = total_from costs (capped (sum + cost_or_nothing (costs p.node p.nonterminal))) ps

-- what a rule of this cost offers: the cost alone, where the operand is the node itself; else with its operands' labels
abbrev pub cost_by : Option ℕ → ℕ → ℕ → ℕ
cost_by (Some y) k sum = k
cost_by None k sum = capped (k + sum)

-- the offer of a rule that applies at node n for x with this cost and these operands
pub record IsOffer (costs : Costs) (r n x k : ℕ) (ps : List Subgoal) (o : Offer) : Type 0 where
  pub rule_is : o.rule ≡ r
  pub left_is : o.left ≡ x
  pub operand_is : o.operand ≡ own_operand ps n
  pub cost_is : o.cost ≡ cost_by (own_operand ps n) k (total_from costs 0 ps)

-- the rule applies at the node, and its offer came behind the others; or it doesn't apply
abbrev pub RuleOffered : Application → Costs → ℕ → ℕ → List Offer → List Offer → Type 0
RuleOffered Applies costs n r old new =
    ((x : ℕ) × (k : ℕ) × (ps : List Subgoal) × (o : Offer) × Applies r n x k ps × IsOffer costs r n x k ps o × (new ≡ old ++ o ∷ []))
    ⊎ (((x k : ℕ) (ps : List Subgoal) → Applies r n x k ps → ⊥) × (new ≡ old))

-- the offers are those of the rules of the list that apply at the node
pub record Collected (Applies : Application) (costs : Costs) (n : ℕ) (list : List ℕ) (offers : List Offer) : Type 0 where
  pub each : (o : Offer) → IsIn o offers → (r : ℕ) × (x : ℕ) × (k : ℕ) × (ps : List Subgoal) × Applies r n x k ps × IsOffer costs r n x k ps o
  pub all : (r x k : ℕ) (ps : List Subgoal) → IsIn r list → Applies r n x k ps → (o : Offer) × IsIn o offers × IsOffer costs r n x k ps o
