-- What the passes for kind unknown see and look for. Only contracts within the crate cite these.
use Rattle.std.specs.Prelude.{◌≡◌, ◌⊎◌, ℕ, ◌+◌, ◌<◌, Bool, true, false, List, [], ◌∷◌, ◌++◌, length, map, take, drop, Contains, Option, Some, None, unwrap_or, slice_get}
use Rattle.std.specs.Borrow.{Bor}
use Rattle.cfg_model.specs.Cfg.{Rule}
use Rattle.cfg_model.specs.declared.symbol.Sym.{Sym}
use Rattle.cfg_model.specs.declared.symbol.Sym.TheVariants.{T, N}
use Rattle.ck_base.specs.Numbered.{met, number_of}
use Rattle.section_frame.specs.Declares.{Declared}
use Rattle.node_spec.specs.AstShapes.{AstSaying, SaidItem, family, target, a_type, node, build}
use Rattle.node_spec.specs.AstTables.{family_number, node_family}
use Rattle.node_spec.specs.AstFaults.{item_words, names_in, node_then, nodes_in}
use Rattle.node_spec.specs.AstBuilds.{nonterminal_places, only_nonterminal}
use Rattle.expr_read.specs.Resolving.{has_unknown}
use Rattle.node_spec.specs.declared.node_lines.NodeLines.{NodeLines}

-- whether a symbol is a nonterminal
abbrev pub names_nonterminal : Sym → Bool
names_nonterminal (T t) = false
names_nonterminal (N n) = true

-- the first place of a nonterminal from this one on
pub data NextPlace (right : List Sym) (from : ℕ) : Option ℕ → Type 0 where
  no_place : nonterminal_places from (drop from right) ≡ [] → NextPlace right from None
  a_place : (i : ℕ) → i < length right
      → nonterminal_places from (drop from right) ≡ i ∷ nonterminal_places (i + 1) (drop (i + 1) right)
      → NextPlace right from (Some i)

-- a name, if there is one
abbrev pub named : Option (Bor (List ℕ)) → List (List ℕ)
named None = []
named (Some name) = name.now ∷ []

-- the names of types
abbrev pub type_then : AstSaying → List (List ℕ) → List (List ℕ)
type_then (family name) more = more
type_then (target name) more = more
type_then (a_type name base items) more = name ∷ more
type_then (node nonterminal name) more = more
type_then (build label e) more = more

-- the names of types, in the order of their lines
abbrev pub types_in : List (Declared AstSaying) → List (List ℕ)
types_in [] = []
types_in (d ∷ ds) = type_then d.said (types_in ds)

-- the family of a nonterminal by these NODE lines; without one, that of its own name
abbrev pub family_after : List (List ℕ) → List (Declared AstSaying) → List ℕ → ℕ
family_after families ds nonterminal = family_number families (unwrap_or (node_family ds nonterminal) nonterminal)

-- the nonterminals of the NODE lines, each with the family of its first line
pub record AreNodes (families : List (List ℕ)) (ds : List (Declared AstSaying)) (nodes : NodeLines) : Type 0 where
  pub names : nodes.nonterminals ≡ met [] (nodes_in ds)
  pub numbers : nodes.families.items ≡ map (family_after families ds) nodes.nonterminals

-- a line notes its nonterminal and its family, unless the nonterminal has a line
pub data NotesNode (families : List (List ℕ)) : AstSaying → List (List ℕ) → List ℕ → List (List ℕ) → List ℕ
    → Type 0 where
  first_line : {old new : List (List ℕ)} {before now : List ℕ} (nonterminal name : List ℕ)
      → (Contains old nonterminal → ⊥) → new ≡ old ++ nonterminal ∷ []
      → now ≡ before ++ family_number families name ∷ [] → NotesNode families (node nonterminal name) old before new now
  later_line : {old new : List (List ℕ)} {before now : List ℕ} (nonterminal name : List ℕ) (n : ℕ)
      → number_of old nonterminal ≡ Some n → new ≡ old → now ≡ before
      → NotesNode families (node nonterminal name) old before new now
  other_line : {old new : List (List ℕ)} {before now : List ℕ} (said : AstSaying) → node_then said [] ≡ []
      → new ≡ old → now ≡ before → NotesNode families said old before new now

-- the base of a type isn't among these names
abbrev pub HasNoBase : List (List ℕ) → AstSaying → Type 0
HasNoBase known (family name) = ⊥
HasNoBase known (target name) = ⊥
HasNoBase known (a_type name base items) = Contains known base → ⊥
HasNoBase known (node nonterminal name) = ⊥
HasNoBase known (build label e) = ⊥

-- an item's type is neither one of the four words nor one of these families
pub record IsUnknownType (families : List (List ℕ)) (of : List ℕ) : Type 0 where
  pub no_word : Contains item_words of → ⊥
  pub no_family : Contains families of → ⊥

pub record HasUnknownItem (families : List (List ℕ)) (items : List SaidItem) : Type 0 where
  pub item : SaidItem
  pub among : Contains items item
  pub unknown : IsUnknownType families item.of

-- a type has such an item
abbrev pub HasNoItemType : List (List ℕ) → AstSaying → Type 0
HasNoItemType families (family name) = ⊥
HasNoItemType families (target name) = ⊥
HasNoItemType families (a_type name base items) = HasUnknownItem families items
HasNoItemType families (node nonterminal name) = ⊥
HasNoItemType families (build label e) = ⊥

-- the nonterminal or the family of a NODE line isn't there
abbrev pub IsUnknownNode : List (List ℕ) → List (List ℕ) → AstSaying → Type 0
IsUnknownNode nonterminals families (family name) = ⊥
IsUnknownNode nonterminals families (target name) = ⊥
IsUnknownNode nonterminals families (a_type name base items) = ⊥
IsUnknownNode nonterminals families (node nonterminal name) =
    (Contains nonterminals nonterminal → ⊥) ⊎ (Contains families name → ⊥)
IsUnknownNode nonterminals families (build label e) = ⊥

-- the rule of a BUILD line isn't there, or a name before parentheses is neither that of a function nor one of the types
abbrev pub IsUnknownBuild : List (List ℕ) → List (List ℕ) → AstSaying → Type 0
IsUnknownBuild labels types (family name) = ⊥
IsUnknownBuild labels types (target name) = ⊥
IsUnknownBuild labels types (a_type name base items) = ⊥
IsUnknownBuild labels types (node nonterminal name) = ⊥
IsUnknownBuild labels types (build label e) = (Contains labels label → ⊥) ⊎ (has_unknown types e ≡ true)

-- what each pass looks for, at a place
abbrev pub BaseFault : List (Declared AstSaying) → ℕ → AstSaying → Type 0
BaseFault ds i said = HasNoBase (names_in (take i ds)) said

-- a line with an item whose type is neither plain nor a family declared so far
abbrev pub ItemFault : List (List ℕ) → ℕ → AstSaying → Type 0
ItemFault families i said = HasNoItemType families said

-- a NODE line that names what isn't there
abbrev pub NodeFault : List (List ℕ) → List (List ℕ) → ℕ → AstSaying → Type 0
NodeFault nonterminals families i said = IsUnknownNode nonterminals families said

-- a BUILD line that names what isn't there
abbrev pub BuildFault : List (List ℕ) → List (List ℕ) → ℕ → AstSaying → Type 0
BuildFault labels types i said = IsUnknownBuild labels types said

-- a family of the source side is called so
pub record IsSource (names : List (List ℕ)) (targets : List Bool) (name : List ℕ) : Type 0 where
  pub number : ℕ
  pub is : number_of names name ≡ Some number
  pub side : slice_get targets number ≡ Some false

-- a nonterminal has none of these NODE lines, and its own name is no family of the source side
pub record LacksFamily (lines names : List (List ℕ)) (targets : List Bool) (nonterminal : List ℕ) : Type 0 where
  pub no_line : Contains lines nonterminal → ⊥
  pub no_source : IsSource names targets nonterminal → ⊥

pub record OneLacksFamily (nonterminals lines names : List (List ℕ)) (targets : List Bool) : Type 0 where
  pub nonterminal : List ℕ
  pub among : Contains nonterminals nonterminal
  pub lacks : LacksFamily lines names targets nonterminal

-- the rule of this number has not exactly one nonterminal
pub record HasNoOnly (rules : List Rule) (n : ℕ) : Type 0 where
  pub rule : Rule
  pub at : slice_get rules n ≡ Some rule
  pub none : only_nonterminal rule.right ≡ None

-- the rule of a label has none of these BUILD lines, and not exactly one nonterminal
pub record LacksBuild (labels : List (List ℕ)) (rules : List Rule) (lines : List (List ℕ))
    (label : List ℕ) : Type 0 where
  pub number : ℕ
  pub of_label : number_of labels label ≡ Some number
  pub no_line : Contains lines label → ⊥
  pub builds_nothing : HasNoOnly rules number

-- one rule has neither a BUILD line nor a default
abbrev pub OneLacksBuild : List (List ℕ) → List Rule → List (List ℕ) → Type 0
OneLacksBuild labels rules lines = (label : List ℕ) × LacksBuild labels rules lines label
