-- The definitions on attributes and equations, tried where the nearest wrong reading differs.
use Rattle.std.proofs.Common.{◌≡◌, ℕ, zero, suc, ◌<◌, true, false, List, [], ◌∷◌, length, get_or, refl, sym, ap, ◌∙◌, Some, None, codes, arith, subst}
use Rattle.std.specs.Prelude.{slice_index}
use Rattle.value_store.specs.declared.value.ValType.TheVariants as ty
use Rattle.ast_types.specs.TypeTable.{TypeTable}
use Rattle.expr_lang.specs.declared.expr.Op.TheVariants as op
use Rattle.spec_text.specs.Lexemes.{word, sign}
use Rattle.section_frame.specs.Declares.{Declared}
use Rattle.expr_read.specs.Mentions.{by_name, by_pair}
use Rattle.expr_read.specs.Spoken.{Spoken, name, number, pair, binary}
use Rattle.section_frame.specs.Words.{IsAgain}
use Rattle.ag_model.specs.Attribution.{AttributeGrammar, attributes_of}
use Rattle.ag_model.specs.Complete.{is_given}
use Rattle.ag_model.specs.Coverage.{a_type, a_family}
use Rattle.ag_model.specs.declared.attribution.Attribute.{Attribute}
use Rattle.ag_model.specs.declared.attribution.Place.{Place}
use Rattle.ag_model.specs.declared.attribution.Place.TheVariants.{Own, Child}
use Rattle.ag_spec.specs.AgShapes.{AgSaying, SaidAttribute, SaidEquation, attribute, AgShape, attribute_line}
use Rattle.ag_spec.specs.AgPlaces.{attribute_held, holder_of, place_named}
use Rattle.ag_spec.specs.AgAttributes.{attribute_by, declared_grammar}
use Rattle.ag_spec.specs.AgEquations.{EquationFits, uses_of, equation_words}
use Rattle.ag_spec.specs.AgFaults.{item_names, target_families, attribute_called}
use Rattle.ag_spec.specs.AgRefusals.{IsInherited, given_places}

-- family `Top` with type `T(x: Sub, n: int)`, family `Sub` with type `L()`, and target family `Code`
abbrev table : TypeTable
table = record {
  families = record { name = codes "Top"; target = false } ∷ record { name = codes "Sub"; target = false }
      ∷ record { name = codes "Code"; target = true } ∷ [];
  types =
      record {
        name = codes "T";
        family = 0;
        base = None;
        items = record { name = codes "n"; of = ty.Int } ∷ record { name = codes "x"; of = ty.Node 1 } ∷ [];
      }
      ∷ record { name = codes "L"; family = 1; base = None; items = [] } ∷ [];
}

abbrev an_attribute : List ℕ → List ℕ → SaidAttribute
an_attribute family called = record { family = family; name = codes "s"; called = called; of = codes "int"; synthesized = true }

abbrev inherited : SaidAttribute
inherited = record { family = codes "Sub"; name = codes "i"; called = codes "Sub.i"; of = codes "int"; synthesized = false }

-- `ATTR Sub.i : int INH`, `ATTR Top.s : int SYN`, `ATTR Sub.s : int SYN`
abbrev lines : List (Declared AgSaying)
lines = record { number = 9; said = attribute inherited }
    ∷ record { number = 10; said = attribute (an_attribute (codes "Top") (codes "Top.s")) }
    ∷ record { number = 11; said = attribute (an_attribute (codes "Sub") (codes "Sub.s")) } ∷ []

abbrev g : AttributeGrammar
g = declared_grammar table lines

-- attributes are numbered within their family: s of Sub has 1, and that of Top has 0
pub numbered_by_family : (place_named g (a_type 0) (by_name (codes "s")) ≡ Some (Own 0))
    × (place_named g (a_type 1) (by_name (codes "s")) ≡ Some (Own 1))
    × (place_named g (a_type 0) (by_pair (codes "x") (codes "s")) ≡ Some (Child 0 1))
numbered_by_family = (refl, refl, refl)

-- a child is numbered among the children: x is the second item, and child 0; a field is no child
pub field_is_no_child : place_named g (a_type 0) (by_pair (codes "n") (codes "s")) ≡ None
field_is_no_child = refl

-- an equation of the family names no child
pub family_has_no_child : place_named g (a_family 0) (by_pair (codes "x") (codes "s")) ≡ None
family_has_no_child = refl

-- x.s + s * x.s + n: each attribute once, where it is first met, and no field
abbrev mixed : Spoken
mixed = binary op.Plus (binary op.Plus (pair (codes "x") (codes "s"))
    (binary op.Times (name (codes "s")) (pair (codes "x") (codes "s")))) (name (codes "n"))

pub used_once : uses_of g (a_type 0) mixed ≡ Child 0 1 ∷ Own 0 ∷ []
used_once = refl

-- the variables: the own attribute by its name, and then the field; the child's by two words
pub words_of_mixed : equation_words g (a_type 0) (Child 0 1 ∷ Own 0 ∷ []) ≡ record {
  variables = [] ∷ codes "s" ∷ codes "n" ∷ [];
  makers = [];
  types = [];
  dotted = record { before = codes "x"; after = codes "s"; variable = 0 } ∷ [];
}
words_of_mixed = refl

-- what a type has to give: its own synthesized attribute, and then the inherited one of its child
pub own_before_child : given_places g 0 ≡ Own 0 ∷ Child 0 0 ∷ []
own_before_child = refl

-- of a type without children: not its own inherited attribute
pub inherited_is_not_given : given_places g 1 ≡ Own 1 ∷ []
inherited_is_not_given = refl

-- items are called as attributes of the family, and not of the type
pub called_by_family : item_names table ≡ codes "Top.n" ∷ codes "Top.x" ∷ []
called_by_family = refl

-- the families of the target side
pub code_alone : target_families table ≡ codes "Code" ∷ []
code_alone = refl

-- a type is found before a family; another name is nobody's
pub holders : (holder_of table (codes "L") ≡ Some (a_type 1)) × (holder_of table (codes "Sub") ≡ Some (a_family 1))
    × (holder_of table (codes "x") ≡ None)
holders = (refl, refl, refl)

-- INH says that the attribute is inherited
pub inherited_line : AgShape (word (codes "ATTR") ∷ word (codes "Sub") ∷ sign (codes ".") ∷ word (codes "i") ∷ sign (codes ":")
    ∷ word (codes "int") ∷ word (codes "INH") ∷ []) (attribute inherited)
inherited_line = attribute_line _ inherited (record { is = refl; called = refl })

-- an equation of L for its own inherited attribute fits nowhere
abbrev gives_i : SaidEquation
gives_i = record { holder = codes "L"; target = by_name (codes "i"); called = codes "L:i"; value = number 1 }

pub own_inherited_is_not_given : EquationFits g (a_type 1) gives_i → ⊥
own_inherited_is_not_given fits = by fits.place fits.gives fits.named fits.there fits.given
  where
    by : (u : Place) (gives : Attribute) → Some (Own 0) ≡ Some u → attribute_held g (a_type 1) u ≡ Some gives
        → gives.synthesized ≡ is_given u → ⊥
    by u gives named there given =
        let place : u ≡ Own 0 = cc in
        let held : attribute_held g (a_type 1) (Own 0) ≡ Some gives = subst (λ v. attribute_held g (a_type 1) v ≡ Some gives) place there in
        let kind : gives.synthesized ≡ true = subst (λ v. gives.synthesized ≡ is_given v) place given in
        let first : Some (attribute_by table inherited) ≡ Some gives = held in
        let same : attribute_by table inherited ≡ gives = cc in
        let sort : false ≡ true = ap (λ (x : Attribute). x.synthesized) same ∙ kind in
        cc

-- two families may each have an attribute s: the second of these lines isn't at fault
pub s_of_two_families : IsAgain attribute_called lines 2 (attribute (an_attribute (codes "Sub") (codes "Sub.s"))) → ⊥
s_of_two_families again = by again.called again.is again.before.0 again.before.1 again.before.2
  where
    by : (called : List ℕ) → Some (codes "Sub.s") ≡ Some called → (i : ℕ)
        → i < length (codes "Sub.i" ∷ codes "Top.s" ∷ []) → get_or (codes "Sub.i" ∷ codes "Top.s" ∷ []) i called ≡ called → ⊥
    by called is zero less same =
        let it : codes "Sub.s" ≡ called = cc in
        let e : ◌≡◌ {A = ℕ} 105 115 = ap (λ w. slice_index w 4) (same ∙ sym it) in omega (arith, e)
    by called is (suc zero) less same =
        let it : codes "Sub.s" ≡ called = cc in
        let e : ◌≡◌ {A = ℕ} 84 83 = ap (λ w. slice_index w 0) (same ∙ sym it) in omega (arith, e)
    by called is (suc (suc i)) less same = omega (arith, less)

-- the root's family may have synthesized attributes
pub root_may_give : (a : ℕ) → IsInherited (attributes_of g 0) a → ⊥
root_may_give zero is =
    let attribute = is.attribute in
    let there : Some (attribute_by table (an_attribute (codes "Top") (codes "Top.s"))) ≡ Some attribute = is.is in
    let same : attribute_by table (an_attribute (codes "Top") (codes "Top.s")) ≡ attribute = cc in
    let sort : true ≡ false = ap (λ (x : Attribute). x.synthesized) same ∙ is.inherited in
    cc
root_may_give (suc a) is = let none : None ≡ Some is.attribute = is.is in cc
