-- What an equation of AG means: which attributes it uses, and its expression over these and the fields.
use Rattle.std.specs.Prelude.{◌≡◌, ℕ, ◌+◌, ◌==◌, Bool, false, ◌&&◌, ◌||◌, List, [], ◌∷◌, ◌++◌, map, Option, Some, None, slice_get, if◌then◌else◌}
use Rattle.value_store.specs.declared.value.ValType.{ValType}
use Rattle.value_store.specs.declared.value.ValType.TheVariants as ty
use Rattle.ast_types.specs.Items.{field_types}
use Rattle.ast_types.specs.declared.item.Item.{Item}
use Rattle.expr_lang.specs.Expression.{Expression}
use Rattle.expr_lang.specs.Typing.{Context}
use Rattle.section_frame.specs.Declares.{Declared}
use Rattle.expr_read.specs.Mentions.{Named, named_in}
use Rattle.expr_read.specs.Resolving.{Dotted, Means, Vocabulary, resolved}
use Rattle.expr_read.specs.Spoken.{Spoken}
use Rattle.ag_model.specs.Attribution.{AttributeGrammar}
use Rattle.ag_model.specs.Complete.{is_given}
use Rattle.ag_model.specs.Coverage.{Holder, RightSide}
use Rattle.ag_model.specs.Ordered.{child_names, name_in, text_in}
use Rattle.ag_model.specs.Typed.{type_in}
use Rattle.ag_model.specs.declared.attribution.Attribute.{Attribute}
use Rattle.ag_model.specs.declared.attribution.Place.{Place}
use Rattle.ag_model.specs.declared.attribution.Place.TheVariants.{Own, Child}
use Rattle.ag_spec.specs.AgPlaces.{attribute_held, holder_items, holder_of, place_named}
use Rattle.ag_spec.specs.AgShapes.{AgSaying, SaidEquation, equation}

-- whether the one place is the other
abbrev pub is_place : Place → Place → Bool
is_place (Own a) (Own b) = a == b
is_place (Own a) (Child d b) = false
is_place (Child c a) (Own b) = false
is_place (Child c a) (Child d b) = (c == d) && (a == b)

-- whether the place is among these
abbrev pub has_place : List Place → Place → Bool
has_place [] u = false
has_place (v ∷ vs) u = is_place v u || has_place vs u

-- the place behind the others, if it isn't among them
abbrev pub with_place : List Place → Place → List Place
with_place us u = if has_place us u then us else us ++ u ∷ []

-- the attribute that is named, behind the others, if it is one and isn't among them
abbrev pub with_named : List Place → Option Place → List Place
with_named us None = us
with_named us (Some u) = with_place us u

-- the attributes that are named, each once, in the order in which they are first met
abbrev pub uses_among : AttributeGrammar → Holder → List Place → List Named → List Place
uses_among g h us [] = us
uses_among g h us (n ∷ more) = uses_among g h (with_named us (place_named g h n)) more

-- the attributes that an expression uses
abbrev pub uses_of : AttributeGrammar → Holder → Spoken → List Place
uses_of g h e = uses_among g h [] (named_in e)

-- an item's name before those that follow, where it is a field
abbrev pub field_name_then : ValType → List ℕ → List (List ℕ) → List (List ℕ)
field_name_then (ty.Node f) name names = names
field_name_then _ name names = name ∷ names

-- the names of the items that are fields, in order
abbrev pub field_names : List Item → List (List ℕ)
field_names [] = []
field_names (i ∷ is) = field_name_then i.of i.name (field_names is)

-- the name by which an equation names an own attribute; no name of one of a child
abbrev pub own_name : AttributeGrammar → Holder → Place → List ℕ
own_name g h (Own a) = name_in (attribute_held g h (Own a))
own_name g h (Child c a) = []

-- the two names of an attribute of a child, which is the variable of this number, before others
abbrev pub dotted_then : AttributeGrammar → Holder → ℕ → Place → List Dotted → List Dotted
dotted_then g h i (Own a) more = more
dotted_then g h i (Child c a) more = record {
  before = text_in (slice_get (child_names (holder_items g.table h)) c);
  after = name_in (attribute_held g h (Child c a));
  variable = i;
} ∷ more

-- the same of each attribute of a child, of which the first one is the variable of this number
abbrev pub dotted_from : AttributeGrammar → Holder → ℕ → List Place → List Dotted
dotted_from g h i [] = []
dotted_from g h i (u ∷ us) = dotted_then g h i u (dotted_from g h (i + 1) us)

-- what an equation of the holder may name: the attributes that it uses, and then the fields
abbrev pub equation_words : AttributeGrammar → Holder → List Place → Vocabulary
equation_words g h uses = record {
  variables = map (own_name g h) uses ++ field_names (holder_items g.table h);
  makers = [];
  types = [];
  dotted = dotted_from g h 0 uses;
}

-- the types of these
abbrev pub held_context : AttributeGrammar → Holder → List Place → Context
held_context g h uses = record {
  vars = map (λ u. type_in (attribute_held g h u)) uses ++ field_types (holder_items g.table h);
  makers = [];
  sources = λ node family. false;
}

-- the line gives an own synthesized attribute of the holder, or an inherited one of a child, by an expression of its type
pub record EquationFits (g : AttributeGrammar) (h : Holder) (said : SaidEquation) : Type 0 where
  pub place : Place
  pub gives : Attribute
  pub value : Expression
  pub named : place_named g h said.target ≡ Some place
  pub there : attribute_held g h place ≡ Some gives
  pub given : gives.synthesized ≡ is_given place
  pub means : Means (equation_words g h (uses_of g h said.value)) (held_context g h (uses_of g h said.value)) said.value value gives.of

-- the line is of the holder, and says that the place has this right side
pub record IsEquationOf (g : AttributeGrammar) (h : Holder) (said : SaidEquation) (u : Place) (r : RightSide) : Type 0 where
  pub held : holder_of g.table said.holder ≡ Some h
  pub place : place_named g h said.target ≡ Some u
  pub uses : r.uses ≡ uses_of g h said.value
  pub value : resolved (equation_words g h r.uses) said.value ≡ Some r.value

-- one of the lines says so
pub record DeclaresEquation (g : AttributeGrammar) (ds : List (Declared AgSaying)) (h : Holder) (u : Place) (r : RightSide) : Type 0 where
  pub place : ℕ
  pub line : ℕ
  pub said : SaidEquation
  pub is : slice_get ds place ≡ Some (record { number = line; said = equation said })
  pub says : IsEquationOf g h said u r
