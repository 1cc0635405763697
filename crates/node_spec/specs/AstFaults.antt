-- The faults of names, types and counts among the lines of AST.
use Rattle.std.specs.Prelude.{◌≡◌, ℕ, ◌+◌, ◌<◌, Bool, true, List, [], ◌∷◌, length, map, take, Contains, Some, None, codes, slice_get, slice_index}
use Rattle.ast_types.specs.Items.{child_families, field_types}
use Rattle.ast_types.specs.TypeTable.{family_at}
use Rattle.expr_lang.specs.Expression.{Expression}
use Rattle.cfg_model.specs.Cfg.{Rule}
use Rattle.cfg_model.specs.declared.named.NamedGrammar.{NamedGrammar}
use Rattle.cfg_model.specs.declared.symbol.Sym.TheVariants.{N}
use Rattle.ck_base.specs.Numbered.{number_of}
use Rattle.ck_base.specs.declared.fault.Kind.{Kind}
use Rattle.ck_base.specs.declared.fault.Kind.TheVariants.{Limit, Twice, Unknown, Typing}
use Rattle.section_frame.specs.Declares.{Declared, Notation}
use Rattle.expr_read.specs.Spoken.{Spoken}
use Rattle.expr_read.specs.Mentions.{dollars_in}
use Rattle.expr_read.specs.Resolving.{has_unknown, resolved}
use Rattle.node_spec.specs.AstShapes.{AstSaying, SaidItem, AstShape, family, target, a_type, node, build}
use Rattle.node_spec.specs.AstTables.{Row, families_in, family_names, family_number, rows_in, row_of, type_names, item_of, node_family, build_line}
use Rattle.node_spec.specs.AstBuilds.{build_words, nodes_by, only_nonterminal}
use Rattle.node_model.specs.Nodes.{Builds}

-- the words that no family, type or item may be called by
abbrev pub reserved_words : List (List ℕ)
reserved_words =
    codes "int" ∷ codes "bool" ∷ codes "text" ∷ codes "map" ∷ codes "if" ∷ codes "then" ∷ codes "else" ∷ codes "true"
    ∷ codes "false" ∷ codes "line" ∷ codes "col" ∷ codes "empty" ∷ codes "put" ∷ codes "get" ∷ codes "has"
    ∷ codes "size" ∷ codes "_" ∷ []

-- the types that an item may have beside families
abbrev pub item_words : List (List ℕ)
item_words = codes "int" ∷ codes "bool" ∷ codes "text" ∷ codes "map" ∷ []

-- the names of families and types, which share them, before those of the lines behind
abbrev pub name_then : AstSaying → List (List ℕ) → List (List ℕ)
name_then (family name) more = name ∷ more
name_then (target name) more = name ∷ more
name_then (a_type name base items) more = name ∷ more
name_then (node nonterminal name) more = more
name_then (build label e) more = more

-- the names that lines declare, families and types alike, in their order
abbrev pub names_in : List (Declared AstSaying) → List (List ℕ)
names_in [] = []
names_in (d ∷ ds) = name_then d.said (names_in ds)

-- the line declares a family or a type of this name
pub data DeclaresName : AstSaying → List ℕ → Type 0 where
  of_family : (name : List ℕ) → DeclaresName (family name) name
  of_target : (name : List ℕ) → DeclaresName (target name) name
  of_type : (name base : List ℕ) (items : List SaidItem) → DeclaresName (a_type name base items) name

-- the nonterminals of NODE lines; the labels of BUILD lines
abbrev pub node_then : AstSaying → List (List ℕ) → List (List ℕ)
node_then (family name) more = more
node_then (target name) more = more
node_then (a_type name base items) more = more
node_then (node nonterminal name) more = nonterminal ∷ more
node_then (build label e) more = more

-- the nonterminals of NODE lines, in their order
abbrev pub nodes_in : List (Declared AstSaying) → List (List ℕ)
nodes_in [] = []
nodes_in (d ∷ ds) = node_then d.said (nodes_in ds)

-- the label of a BUILD line before others
abbrev pub label_then : AstSaying → List (List ℕ) → List (List ℕ)
label_then (family name) more = more
label_then (target name) more = more
label_then (a_type name base items) more = more
label_then (node nonterminal name) more = more
label_then (build label e) more = label ∷ more

-- the labels of BUILD lines, in their order
abbrev pub labels_in : List (Declared AstSaying) → List (List ℕ)
labels_in [] = []
labels_in (d ∷ ds) = label_then d.said (labels_in ds)

-- an element stands at two places
pub record IsTwice {A : Type 0} (xs : List A) (x : A) : Type 0 where
  pub first : ℕ
  pub second : ℕ
  pub order : first < second
  pub at_first : slice_get xs first ≡ Some x
  pub at_second : slice_get xs second ≡ Some x

-- the rule of a label
pub record IsRuleOf (g : NamedGrammar) (label : List ℕ) (rule : Rule) : Type 0 where
  pub number : ℕ
  pub of_label : number_of g.labels label ≡ Some number
  pub is : slice_get g.grammar.rules number ≡ Some rule

-- the type that a line at this place declares, over the types of the lines before it
abbrev pub row_at : List (Declared AstSaying) → ℕ → List ℕ → List ℕ → List SaidItem → Row
row_at ds i name base items = row_of (rows_in (take i ds)) name base items

-- whether a family, by its name, is of the target side
abbrev pub is_target : List (Declared AstSaying) → List ℕ → Bool
is_target ds name = (family_at (families_in ds) (family_number (family_names ds) name)).target

-- the expression builds a node of the left side's family
pub record BuildsNode (g : NamedGrammar) (ds : List (Declared AstSaying)) (rule : Rule) (e : Spoken) : Type 0 where
  pub means : Expression
  pub is : resolved (build_words (nodes_by g ds).table (length rule.right)) e ≡ Some means
  pub builds : Builds (nodes_by g ds) rule.right (slice_index (nodes_by g ds).families rule.left) means

-- among these declarations, for the grammar, the one at the place has a fault of the kind
pub data AstFault (g : NamedGrammar) (ds : List (Declared AstSaying)) : Kind → ℕ → AstSaying → Type 0 where
  named_again : (i : ℕ) (said : AstSaying) (name : List ℕ) → DeclaresName said name → Contains (names_in (take i ds)) name
      → AstFault g ds Twice i said
  second_node : (i : ℕ) (nonterminal name : List ℕ) → Contains (nodes_in (take i ds)) nonterminal
      → AstFault g ds Twice i (node nonterminal name)
  second_build : (i : ℕ) (label : List ℕ) (e : Spoken) → Contains (labels_in (take i ds)) label
      → AstFault g ds Twice i (build label e)
  reserved_name : (i : ℕ) (said : AstSaying) (name : List ℕ) → DeclaresName said name → Contains reserved_words name
      → AstFault g ds Twice i said
  reserved_item : (i : ℕ) (name base : List ℕ) (items : List SaidItem) (item : SaidItem) → Contains items item
      → Contains reserved_words item.name → AstFault g ds Twice i (a_type name base items)
  -- an item's name stands twice among its own and those of its base
  item_twice : (i : ℕ) (name base : List ℕ) (items : List SaidItem) (item : List ℕ)
      → IsTwice (map (λ x. x.name) (row_at ds i name base items).items) item → AstFault g ds Twice i (a_type name base items)
  -- a nonterminal's value is used twice
  used_twice : (i : ℕ) (label : List ℕ) (e : Spoken) (rule : Rule) (k n : ℕ) → IsRuleOf g label rule
      → slice_get rule.right k ≡ Some (N n) → IsTwice (dollars_in e) (k + 1) → AstFault g ds Twice i (build label e)
  -- a base is a family or a type of a line before
  no_base : (i : ℕ) (name base : List ℕ) (items : List SaidItem) → (Contains (family_names (take i ds)) base → ⊥)
      → (Contains (type_names (take i ds)) base → ⊥) → AstFault g ds Unknown i (a_type name base items)
  no_item_type : (i : ℕ) (name base : List ℕ) (items : List SaidItem) (item : SaidItem) → Contains items item
      → (Contains item_words item.of → ⊥) → (Contains (family_names ds) item.of → ⊥)
      → AstFault g ds Unknown i (a_type name base items)
  no_nonterminal : (i : ℕ) (nonterminal name : List ℕ) → (Contains g.nonterminals nonterminal → ⊥)
      → AstFault g ds Unknown i (node nonterminal name)
  no_family : (i : ℕ) (nonterminal name : List ℕ) → (Contains (family_names ds) name → ⊥)
      → AstFault g ds Unknown i (node nonterminal name)
  no_rule : (i : ℕ) (label : List ℕ) (e : Spoken) → (Contains g.labels label → ⊥) → AstFault g ds Unknown i (build label e)
  -- a name before parentheses is neither that of a function nor that of a type
  no_maker : (i : ℕ) (label : List ℕ) (e : Spoken) → has_unknown (type_names ds) e ≡ true
      → AstFault g ds Unknown i (build label e)
  map_item : (i : ℕ) (name base : List ℕ) (items : List SaidItem) (item : SaidItem) → Contains items item
      → item.of ≡ codes "map" → AstFault g ds Typing i (a_type name base items)
  item_of_other_side : (i : ℕ) (name base : List ℕ) (items : List SaidItem) (item : SaidItem) → Contains items item
      → (Contains item_words item.of → ⊥)
      → (is_target ds item.of ≡ is_target ds (row_at ds i name base items).family → ⊥)
      → AstFault g ds Typing i (a_type name base items)
  target_node : (i : ℕ) (nonterminal name : List ℕ) → is_target ds name ≡ true
      → AstFault g ds Typing i (node nonterminal name)
  builds_no_node : (i : ℕ) (label : List ℕ) (e : Spoken) (rule : Rule) → IsRuleOf g label rule
      → (BuildsNode g ds rule e → ⊥) → AstFault g ds Typing i (build label e)
  too_many_families : (i : ℕ) (said : AstSaying) → 128 < length (families_in (take (i + 1) ds)) → AstFault g ds Limit i said
  too_many_types : (i : ℕ) (said : AstSaying) → 512 < length (rows_in (take (i + 1) ds)) → AstFault g ds Limit i said
  too_many_children : (i : ℕ) (name base : List ℕ) (items : List SaidItem)
      → 8 < length (child_families (map (item_of (family_names ds)) (row_at ds i name base items).items))
      → AstFault g ds Limit i (a_type name base items)
  too_many_fields : (i : ℕ) (name base : List ℕ) (items : List SaidItem)
      → 8 < length (field_types (map (item_of (family_names ds)) (row_at ds i name base items).items))
      → AstFault g ds Limit i (a_type name base items)

-- at the line of the section's head
pub data AstHeadFault (g : NamedGrammar) (ds : List (Declared AstSaying)) : Kind → Type 0 where
  -- a nonterminal has neither a NODE line nor a family of its name
  no_node : (nonterminal : List ℕ) → Contains g.nonterminals nonterminal → node_family ds nonterminal ≡ None
      → (Contains (family_names ds) nonterminal → ⊥) → AstHeadFault g ds Unknown
  -- the family of its name is one of the target side
  no_source_node : (nonterminal : List ℕ) → Contains g.nonterminals nonterminal → node_family ds nonterminal ≡ None
      → is_target ds nonterminal ≡ true → AstHeadFault g ds Unknown
  -- a rule has neither a BUILD line nor exactly one nonterminal
  no_build : (label : List ℕ) (rule : Rule) → IsRuleOf g label rule → build_line ds label ≡ None
      → only_nonterminal rule.right ≡ None → AstHeadFault g ds Unknown
  -- a rule without BUILD line has a nonterminal of another family
  other_family : (label : List ℕ) (rule : Rule) (k n : ℕ) → IsRuleOf g label rule → build_line ds label ≡ None
      → only_nonterminal rule.right ≡ Some k → slice_get rule.right k ≡ Some (N n)
      → (slice_index (nodes_by g ds).families n ≡ slice_index (nodes_by g ds).families rule.left → ⊥)
      → AstHeadFault g ds Typing

-- the notation of AST, for a grammar
abbrev pub ast : NamedGrammar → Notation AstSaying
ast g = record { Shape = AstShape; Fault = AstFault g }
