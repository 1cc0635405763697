-- What the passes for names that are there twice look for. Only contracts within the crate cite these.
use Rattle.std.specs.Prelude.{◌≡◌, ℕ, ◌+◌, ◌≤◌, Bool, true, false, List, [], ◌∷◌, ◌++◌, length, map, take, Contains, Option, Some, None, is_some, if◌then◌else◌, slice_get, slice_index_or, slice_set}
use Rattle.cfg_model.specs.Cfg.{Rule}
use Rattle.cfg_model.specs.declared.named.NamedGrammar.{NamedGrammar}
use Rattle.cfg_model.specs.declared.symbol.Sym.{Sym}
use Rattle.cfg_model.specs.declared.symbol.Sym.TheVariants.{N}
use Rattle.ck_base.specs.Numbered.{number_of}
use Rattle.section_frame.specs.Declares.{Declared}
use Rattle.node_spec.specs.AstShapes.{AstSaying, SaidItem, family, target, a_type, node, build}
use Rattle.node_spec.specs.AstFaults.{DeclaresName, IsRuleOf, IsTwice, reserved_words, row_at}
use Rattle.node_spec.specs.AstTables.{Row}
use Rattle.expr_read.specs.Mentions.{dollars_in}
use Rattle.expr_read.specs.Spoken.{Spoken}
use Rattle.node_spec.specs.declared.declared_again.Sort.{Sort}
use Rattle.node_spec.specs.declared.declared_again.Sort.TheVariants as sort
use Rattle.node_spec.specs.declared.rows.FirstRows.{FirstRows}

-- of the names in `names` each has its first row in `rows`
abbrev pub row_numbered : List ℕ → Option ℕ → Option ℕ
row_numbered rows None = None
row_numbered rows (Some n) = slice_get rows n

-- the row in which a name stands first
abbrev pub first_row : List (List ℕ) → List ℕ → List ℕ → Option ℕ
first_row names rows name = row_numbered rows (number_of names name)

-- the first rows with one row more, which is the first one of its name where that is new
abbrev pub rows_after : List (List ℕ) → List ℕ → List ℕ → ℕ → List ℕ
rows_after names rows name row = if is_some (number_of names name) then rows else rows ++ row ∷ []

-- the first rows of rows with these names
pub record AreFirstRows (firsts : FirstRows) (names : List (List ℕ)) : Type 0 where
  pub few : length firsts.names ≤ length names
  pub as_many : length firsts.rows.items ≡ length firsts.names
  pub each : (name : List ℕ) → first_row firsts.names firsts.rows.items name ≡ number_of names name

-- the name by which a line declares something of the sort
abbrev pub name_said : Sort → AstSaying → Option (List ℕ)
name_said sort.Declared (family name) = Some name
name_said sort.Declared (target name) = Some name
name_said sort.Declared (a_type name base items) = Some name
name_said sort.Declared (node nonterminal name) = None
name_said sort.Declared (build label e) = None
name_said sort.Nonterminal (family name) = None
name_said sort.Nonterminal (target name) = None
name_said sort.Nonterminal (a_type name base items) = None
name_said sort.Nonterminal (node nonterminal name) = Some nonterminal
name_said sort.Nonterminal (build label e) = None
name_said sort.Label (family name) = None
name_said sort.Label (target name) = None
name_said sort.Label (a_type name base items) = None
name_said sort.Label (node nonterminal name) = None
name_said sort.Label (build label e) = Some label

-- a name before others, where there is one
abbrev pub name_before : Option (List ℕ) → List (List ℕ) → List (List ℕ)
name_before None more = more
name_before (Some name) more = name ∷ more

-- the names of the sort, in the order of the lines
abbrev pub names_said : Sort → List (Declared AstSaying) → List (List ℕ)
names_said s [] = []
names_said s (d ∷ ds) = name_before (name_said s d.said) (names_said s ds)

-- what the line at the place declares of the sort, a line before has declared
pub record IsAgain (s : Sort) (ds : List (Declared AstSaying)) (i : ℕ) (said : AstSaying) : Type 0 where
  pub name : List ℕ
  pub is : name_said s said ≡ Some name
  pub before : Contains (names_said s (take i ds)) name

-- whether the name is there already; else it is there now
pub data IsMet (old new : List (List ℕ)) (name : List ℕ) : Bool → Type 0 where
  again : Contains old name → IsMet old new name true
  fresh : (Contains old name → ⊥) → new ≡ old ++ name ∷ [] → IsMet old new name false

-- the same of what may be no name
abbrev pub Meets : List (List ℕ) → List (List ℕ) → Option (List ℕ) → Bool → Type 0
Meets old new None found = (found ≡ false) × (new ≡ old)
Meets old new (Some name) found = IsMet old new name found

-- an item is called by a reserved word
pub record HasReserved (items : List SaidItem) : Type 0 where
  pub item : SaidItem
  pub among : Contains items item
  pub word : Contains reserved_words item.name

-- the line calls a family, a type or an item by a reserved word
pub data IsReserved : ℕ → AstSaying → Type 0 where
  of_name : (i : ℕ) (said : AstSaying) (name : List ℕ) → DeclaresName said name → Contains reserved_words name
      → IsReserved i said
  of_item : (i : ℕ) (name base : List ℕ) (items : List SaidItem) → HasReserved items
      → IsReserved i (a_type name base items)

-- a name stands at two places
pub record HasDouble (names : List (List ℕ)) : Type 0 where
  pub name : List ℕ
  pub twice : IsTwice names name

-- an item's name stands twice in the type that the line declares
pub data HasItemTwice (ds : List (Declared AstSaying)) : ℕ → AstSaying → Type 0 where
  item_again : (i : ℕ) (name base : List ℕ) (items : List SaidItem)
      → HasDouble (map (λ x. x.name) (row_at ds i name base items).items) → HasItemTwice ds i (a_type name base items)

-- the line declares a type, and that of this number has an item's name twice
pub data RepeatsItem (rows : List Row) (number : ℕ) : AstSaying → Type 0 where
  repeats : (name base : List ℕ) (items : List SaidItem) (row : Row) → slice_get rows number ≡ Some row
      → HasDouble (map (λ x. x.name) row.items) → RepeatsItem rows number (a_type name base items)

-- the number, which counts from 1, is that of the nonterminal at the place
pub record IsValue (right : List Sym) (number place : ℕ) : Type 0 where
  pub nonterminal : ℕ
  pub from_one : number ≡ place + 1
  pub at : slice_get right place ≡ Some (N nonterminal)

-- the numbers have the value of a nonterminal twice
pub record UsedTwice (right : List Sym) (numbers : List ℕ) : Type 0 where
  pub place : ℕ
  pub nonterminal : ℕ
  pub at : slice_get right place ≡ Some (N nonterminal)
  pub twice : IsTwice numbers (place + 1)

-- whether the number is that of a nonterminal whose place is marked already; else it is marked now
pub data Uses (right : List Sym) (number : ℕ) (old new : List Bool) : Bool → Type 0 where
  no_value : ((place : ℕ) → IsValue right number place → ⊥) → new ≡ old → Uses right number old new false
  used_again : (place : ℕ) → IsValue right number place → slice_index_or old place false ≡ true
      → Uses right number old new true
  used_now : (place : ℕ) → IsValue right number place → slice_index_or old place false ≡ false
      → new ≡ slice_set old place true → Uses right number old new false

-- the BUILD line uses the value of a nonterminal twice
pub data UsesTwice (g : NamedGrammar) : ℕ → AstSaying → Type 0 where
  of_rule : (i : ℕ) (label : List ℕ) (e : Spoken) (rule : Rule) → IsRuleOf g label rule
      → UsedTwice rule.right (dollars_in e) → UsesTwice g i (build label e)
