-- What a section AG without a fault is refused for, by name: the root's family has an inherited attribute; an equation
-- is declared twice; a type lacks one.
use Rattle.std.specs.Prelude.{◌≡◌, ℕ, ◌+◌, ◌<◌, Bool, true, false, List, [], ◌∷◌, ◌++◌, length, Option, Some, None, slice_get, if◌then◌else◌}
use Rattle.ast_types.specs.TypeTable.{type_at}
use Rattle.spec_text.specs.Least.{Least}
use Rattle.section_frame.specs.Declares.{Declared, HasAt}
use Rattle.section_frame.specs.Words.{IsAgain}
use Rattle.node_model.specs.Makers.{is_side}
use Rattle.ag_model.specs.Attribution.{AttributeGrammar, attributes_of, children_of, family_of}
use Rattle.ag_model.specs.Coverage.{IsCovered, RightSide}
use Rattle.ag_model.specs.Ordered.{place_name}
use Rattle.ag_model.specs.declared.attribution.Attribute.{Attribute}
use Rattle.ag_model.specs.declared.attribution.Place.{Place}
use Rattle.ag_model.specs.declared.attribution.Place.TheVariants.{Own, Child}
use Rattle.ag_spec.specs.AgShapes.{AgSaying, SaidEquation, attribute, equation, name_text}
use Rattle.ag_spec.specs.AgEquations.{DeclaresEquation}
use Rattle.ag_spec.specs.declared.fault.AgFault.{AgFault}
use Rattle.ag_spec.specs.declared.fault.AgFault.TheVariants.{RootInherits, TwoEquations, NoEquation}

-- the attribute of the family is inherited
pub record IsInherited (attributes : List Attribute) (a : ℕ) : Type 0 where
  pub attribute : Attribute
  pub is : slice_get attributes a ≡ Some attribute
  pub inherited : attribute.synthesized ≡ false

-- how an equation is called in the section: by its holder and what it gives
abbrev pub equation_called : AgSaying → Option (List ℕ)
equation_called (attribute said) = None
equation_called (equation said) = Some said.called

-- the line of this number says what a line before has said, of the same holder and place
abbrev pub IsSecond : List (Declared AgSaying) → ℕ → Type 0
IsSecond ds line = HasAt ds (IsAgain equation_called ds) line

-- the attribute before others, where it is of the kind: synthesized ones, or inherited ones
abbrev pub place_then : Bool → Place → Bool → List Place → List Place
place_then synthesized u kind more = if is_side kind synthesized then (u ∷ more) else more

-- the places of the attributes of the kind, of which the first one has this number
abbrev pub places_from : Bool → (ℕ → Place) → ℕ → List Attribute → List Place
places_from synthesized at a [] = []
places_from synthesized at a (x ∷ xs) = place_then synthesized (at a) x.synthesized (places_from synthesized at (a + 1) xs)

-- the inherited attributes of children of these families, of which the first one has this number
abbrev pub places_below : AttributeGrammar → ℕ → List ℕ → List Place
places_below g c [] = []
places_below g c (x ∷ xs) = places_from false (Child c) 0 (attributes_of g x) ++ places_below g (c + 1) xs

-- what the equations of a type give, in this order: its own synthesized attributes, and then the inherited ones of each
-- child
abbrev pub given_places : AttributeGrammar → ℕ → List Place
given_places g t = places_from true Own 0 (attributes_of g (family_of g t)) ++ places_below g 0 (children_of g t)

-- the type has no equation for the place of this number among those that it has to give
pub record IsLacking (g : AttributeGrammar) (ds : List (Declared AgSaying)) (t k : ℕ) : Type 0 where
  pub place : Place
  pub is : slice_get (given_places g t) k ≡ Some place
  pub none : (r : RightSide) → IsCovered g (DeclaresEquation g ds) t place r → ⊥

-- the type lacks an equation
pub record LacksOne (g : AttributeGrammar) (ds : List (Declared AgSaying)) (t : ℕ) : Type 0 where
  pub there : t < length g.table.types
  pub number : ℕ
  pub lacking : IsLacking g ds t number

-- the first line that says what a line before has said, by its names
pub record IsFirstSecond (ds : List (Declared AgSaying)) (holder target : List ℕ) : Type 0 where
  pub line : ℕ
  pub place : ℕ
  pub said : SaidEquation
  pub first : Least (IsSecond ds) line
  pub is : slice_get ds place ≡ Some (record { number = line; said = equation said })
  pub holder_is : holder ≡ said.holder
  pub target_is : target ≡ name_text said.target

-- the first type that lacks an equation, with the first place that it lacks, by their names
pub record IsFirstLacking (g : AttributeGrammar) (ds : List (Declared AgSaying)) (holder target : List ℕ) : Type 0 where
  pub ty : ℕ
  pub number : ℕ
  pub first_type : Least (LacksOne g ds) ty
  pub first : Least (IsLacking g ds ty) number
  pub place : Place
  pub is : slice_get (given_places g ty) number ≡ Some place
  pub holder_is : holder ≡ (type_at g.table.types ty).name
  pub target_is : target ≡ place_name g ty place

-- what the lines are refused for, where the root of trees is of this family: the first of these that holds
pub data IsRefused (g : AttributeGrammar) (ds : List (Declared AgSaying)) (root : ℕ) : AgFault → Type 0 where
  root_inherits : (a : ℕ) → Least (IsInherited (attributes_of g root)) a → IsRefused g ds root (RootInherits a)
  two_equations : (holder target : List ℕ) → ((a : ℕ) → IsInherited (attributes_of g root) a → ⊥)
      → IsFirstSecond ds holder target → IsRefused g ds root (TwoEquations holder target)
  no_equation : (holder target : List ℕ) → ((a : ℕ) → IsInherited (attributes_of g root) a → ⊥)
      → ((line : ℕ) → IsSecond ds line → ⊥) → IsFirstLacking g ds holder target → IsRefused g ds root (NoEquation holder target)
