-- What matching a rule at a node says of its applications.
use Rattle.std.proofs.Common.{◌≡◌, ℕ, List, map, Option, Some, true, false, refl, subst}
use Rattle.std.specs.Prelude.{slice_get}
use Rattle.beg_model.specs.Rules.{Rule}
use Rattle.beg_model.specs.Fitting.{Target, child, Subgoal, Fits, field_value}
use Rattle.beg_model.specs.Applies.{Applies, Holds, cost_at}
use Rattle.beg_model.specs.Matching.{Matches, RuleFitsOrNot}

same_rule : {o : Option Rule} {a b : Rule} → o ≡ Some a → o ≡ Some b → a ≡ b
same_rule e f = cc

pub applied : {rules : List Rule} {on : Target} (r n : ℕ) (rule : Rule) (found : Matches) → slice_get rules r ≡ Some rule → RuleFitsOrNot on rule n found true
    → Applies rules on r n rule.left (cost_at rule (map (field_value on) found.values)) found.operands
applied {on = on} r n rule found is (fits, holds) =
    record { rule = rule; is = is; left = refl; env = map (field_value on) found.values; fits = fits; holds = holds; cost = refl }

pub not_applied : {rules : List Rule} {on : Target} (r n : ℕ) (rule : Rule) (found : Matches) → slice_get rules r ≡ Some rule → RuleFitsOrNot on rule n found false
    → (x k : ℕ) (ps : List Subgoal) → Applies rules on r n x k ps → ⊥
not_applied {on = on} r n rule found is none x k ps a =
    let same : a.rule ≡ rule = same_rule a.is is in
    none ps a.env (subst (λ (z : Rule). Fits on z.pattern (child n) ps a.env) same a.fits) (subst (λ (z : Rule). Holds z.test a.env) same a.holds)
