-- Attributions as their reader gives them.
use Rattle.std.specs.Prelude.{◌≡◌, ℕ, ◌<◌, ◌≤◌, Bool, true, false, length, Some, Contains}
use Rattle.ast_types.specs.FitTypes.{AreTypes}
use Rattle.ag_model.specs.Attribution.{AttributeGrammar, PureEquation, attributes_of, equations_of, IsEquation, attribute_at}
use Rattle.ag_model.specs.declared.attribution.Attribute.{Attribute}
use Rattle.ag_model.specs.declared.attribution.Place.{Place}
use Rattle.ag_model.specs.declared.attribution.Place.TheVariants.{Own, Child}

-- there is an attribute at the place
abbrev pub IsPlace : AttributeGrammar → ℕ → Place → Type 0
IsPlace g t u = (attribute : Attribute) × (attribute_at g t u ≡ Some attribute)

-- whether it is the synthesized attributes that a type's equations give at the place: of itself yes, of a child no
abbrev pub is_given : Place → Bool
is_given (Own a) = true
is_given (Child c a) = false

-- what a type's equations give: the own synthesized attributes, and the inherited ones of the children
abbrev pub IsGiven : AttributeGrammar → ℕ → Place → Type 0
IsGiven g t u = (attribute : Attribute) × (attribute_at g t u ≡ Some attribute) × (attribute.synthesized ≡ is_given u)

-- each type has one equation for each attribute that its equations give, and no others; numbers are in range, and
-- counts within the limits
pub record IsComplete (g : AttributeGrammar) : Type 0 where
  pub types : AreTypes g.table
  pub attributes_each : length g.attributes ≡ length g.table.families
  pub equations_each : length g.equations ≡ length g.table.types
  pub target : (t e : ℕ) (q : PureEquation) → IsEquation g t e q → IsGiven g t q.target
  pub uses : (t e : ℕ) (q : PureEquation) (u : Place) → IsEquation g t e q → Contains q.uses u → IsPlace g t u
  pub some : (t : ℕ) (u : Place) → t < length g.table.types → IsGiven g t u
      → (e : ℕ) × (q : PureEquation) × IsEquation g t e q × (q.target ≡ u)
  pub one : (t e f : ℕ) (q r : PureEquation) → IsEquation g t e q → IsEquation g t f r → q.target ≡ r.target → e ≡ f
  pub few_attributes : (x : ℕ) → length (attributes_of g x) ≤ 16
  pub few_equations : (t : ℕ) → length (equations_of g t) ≤ 144
