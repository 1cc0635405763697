-- Which equation a type has for a place: the type's own, else the nearest base's, else the family's; where none of
-- these is declared, an inherited attribute of a child is a copy.
use Rattle.std.specs.Prelude.{◌≡◌, ℕ, false, List, [], ◌∷◌, Option, Some, None}
use Rattle.ast_types.specs.TypeTable.{TypeTable, type_at}
use Rattle.expr_lang.specs.Expression.{Expression, var}
use Rattle.ag_model.specs.Attribution.{AttributeGrammar, PureEquation, IsEquation, attribute_at}
use Rattle.ag_model.specs.Solution.{expression_at}
use Rattle.ag_model.specs.declared.attribution.Attribute.{Attribute}
use Rattle.ag_model.specs.declared.attribution.Place.{Place}
use Rattle.ag_model.specs.declared.attribution.Place.TheVariants.{Own, Child}

-- who declares equations: a type, or a family
pub data Holder : Type 0 where
  a_type : ℕ → Holder
  a_family : ℕ → Holder

-- the right side of an equation: what it uses, and its expression
pub record RightSide : Type 0 where
  pub uses : List Place
  pub value : Expression

-- the base that is there, else the family
abbrev pub base_or_family : ℕ → Option ℕ → Holder
base_or_family family None = a_family family
base_or_family family (Some b) = a_type b

-- who comes behind a type: its base, behind the last base the family
abbrev pub behind : TypeTable → ℕ → Holder
behind table t = base_or_family (type_at table.types t).family (type_at table.types t).base

-- what the nearest holder declares, of those that declare an equation for one place, from a holder on;
-- `Declares` says which right sides each of them declares for it
pub data IsNearest (table : TypeTable) (Declares : Holder → RightSide → Type 0) : Holder → RightSide → Type 0 where
  own : (h : Holder) (r : RightSide) → Declares h r → IsNearest table Declares h r
  from_behind : (t : ℕ) (h : Holder) (r : RightSide) → ((q : RightSide) → Declares (a_type t) q → ⊥) → h ≡ behind table t
      → IsNearest table Declares h r → IsNearest table Declares (a_type t) r

-- the place is an inherited attribute of a child, and the right side its copy: the own inherited attribute of the
-- same name and type
pub record IsCopy (g : AttributeGrammar) (t : ℕ) (u : Place) (r : RightSide) : Type 0 where
  pub child : ℕ
  pub number : ℕ
  pub own_number : ℕ
  pub to : Attribute
  pub from : Attribute
  pub place : u ≡ Child child number
  pub to_there : attribute_at g t u ≡ Some to
  pub from_there : attribute_at g t (Own own_number) ≡ Some from
  pub to_inherited : to.synthesized ≡ false
  pub from_inherited : from.synthesized ≡ false
  pub same_name : from.name ≡ to.name
  pub same_type : from.of ≡ to.of
  pub uses : r.uses ≡ Own own_number ∷ []
  pub value : r.value ≡ var 0

-- the right side of the equation that a type has for a place, where holders declare these
pub data IsCovered (g : AttributeGrammar) (Declares : Holder → Place → RightSide → Type 0) (t : ℕ) (u : Place) : RightSide → Type 0 where
  declared : (r : RightSide) → IsNearest g.table (λ h. Declares h u) (a_type t) r → IsCovered g Declares t u r
  copied : (r : RightSide) → ((q : RightSide) → IsNearest g.table (λ h. Declares h u) (a_type t) q → ⊥)
      → IsCopy g t u r → IsCovered g Declares t u r

-- each equation of each type is the one that covers its target
abbrev pub AreCovered : AttributeGrammar → (Holder → Place → RightSide → Type 0) → List (List Expression) → Type 0
AreCovered g Declares expressions = (t e : ℕ) (q : PureEquation) → IsEquation g t e q
    → IsCovered g Declares t q.target (record { uses = q.uses; value = expression_at expressions t e })
