-- A list of instances as the register rule sees it.
use Rattle.std.specs.Prelude.{◌≡◌, ℕ, Bool, false, List, Option, Some, None, map, slice_get}
use Rattle.beg_model.specs.declared.rules.Holding.{Holding}
use Rattle.beg_model.specs.declared.rules.Holding.TheVariants.{Nothing}
use Rattle.beg_model.specs.declared.rules.CoverRule.{CoverRule}
use Rattle.beg_model.specs.declared.rules.CoverRules.{CoverRules}
use Rattle.beg_model.specs.Cover.{Instance}

-- what an instance holds, whether its rule is EARLY, and the numbers of its operands in the list
pub record Item : Type 0 where
  pub holds : Holding
  pub early : Bool
  pub operands : List ℕ

-- what is held; nothing past the end
abbrev pub holding_in : Option Holding → Holding
holding_in (Some holds) = holds
holding_in None = Nothing

-- what a nonterminal holds
abbrev pub holding_of : CoverRules → ℕ → Holding
holding_of rules x = holding_in (slice_get rules.holds.items x)

-- what the left side of a rule holds
abbrev pub held_by : CoverRules → Option CoverRule → Holding
held_by rules (Some rule) = holding_of rules rule.left
held_by rules None = Nothing

-- whether the rule that is there is EARLY
abbrev pub early_in : Option CoverRule → Bool
early_in (Some rule) = rule.early
early_in None = false

-- an instance holds what the left side of its rule holds
abbrev pub item_of : CoverRules → Instance → Item
item_of rules i = record {
  holds = held_by rules (slice_get rules.rules.items i.rule);
  early = early_in (slice_get rules.rules.items i.rule);
  operands = i.operands;
}

-- the items of a list of instances
abbrev pub items : CoverRules → List Instance → List Item
items rules list = map (item_of rules) list

-- the rule of the instance is there, and so is what its left side holds
pub record IsKnown (rules : CoverRules) (i : Instance) : Type 0 where
  pub rule : CoverRule
  pub is : slice_get rules.rules.items i.rule ≡ Some rule
  pub held : Holding
  pub holds : slice_get rules.holds.items rule.left ≡ Some held

-- so are those of all instances of the list
abbrev pub AreKnown : CoverRules → List Instance → Type 0
AreKnown rules list = (p : ℕ) (i : Instance) → slice_get list p ≡ Some i → IsKnown rules i
