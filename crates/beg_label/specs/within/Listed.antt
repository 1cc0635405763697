-- The rules that may apply at nodes of a type. Only contracts within this crate cite it.
use Rattle.std.specs.Prelude.{◌≡◌, ℕ, ◌<◌, ◌⊎◌, List, [], ◌∷◌, ◌++◌, Option, Some, None, length, slice_get, Vec}
use Rattle.std.specs.Global.{Global}
use Rattle.value_store.specs.declared.text.Texts.{Texts}
use Rattle.ast_types.specs.TypeTable.{TypeTable}
use Rattle.beg_model.specs.Fitting.{MayFit}
use Rattle.beg_model.specs.Rules.{Rule}
use Rattle.beg_model.specs.RuleMeaning.{rules_in}
use Rattle.beg_model.specs.declared.rules.CoverRules.{CoverRules}
use Rattle.beg_label.specs.within.Offers.{IsIn}

-- the rule with this number may apply at nodes of the type
abbrev pub MayApply : Texts → CoverRules → TypeTable → ℕ → ℕ → Type 0
MayApply texts rules table ty r = (rule : Rule) × (slice_get (rules_in texts rules).list r ≡ Some rule) × MayFit table.types rule.pattern ty

-- of the rules with the first numbers the list has those that may apply at nodes of the type; and it has numbers of rules alone
pub record ListsRules (texts : Texts) (rules : CoverRules) (table : TypeTable) (ty count : ℕ) (list : List ℕ) : Type 0 where
  pub there : (r : ℕ) → IsIn r list → r < length rules.rules.items
  pub all : (r : ℕ) → r < count → MayApply texts rules table ty r → IsIn r list

-- the number came behind the list, or the rule can't apply at nodes of the type
abbrev pub RuleListed : Texts → CoverRules → TypeTable → ℕ → ℕ → List ℕ → List ℕ → Type 0
RuleListed texts rules table ty r old new = (new ≡ old ++ r ∷ []) ⊎ ((MayApply texts rules table ty r → ⊥) × (new ≡ old))

-- there is a list, and it has the rules that may apply at nodes of the type
abbrev pub RulesListed : Texts → CoverRules → TypeTable → ℕ → Option (Vec ℕ Global) → Type 0
RulesListed texts rules table ty (Some list) = ListsRules texts rules table ty (length rules.rules.items) list.items
RulesListed texts rules table ty None = ⊥

-- the list is the one that is there
abbrev pub ListIs : List ℕ → Option (Vec ℕ Global) → Type 0
ListIs list (Some there) = list ≡ there.items
ListIs list None = ⊥
