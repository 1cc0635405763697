-- The words for faults of names and counts. One fault of a section is one of these, of what its lines say.
use Rattle.std.specs.Prelude.{◌≡◌, ◌<◌, ◌+◌, ℕ, Bool, true, false, List, [], ◌∷◌, ◌++◌, length, take, Option, None, Some, Contains, slice_get}
use Rattle.std.specs.Borrow.{Bor}
use Rattle.ck_base.specs.Numbered.{met}
use Rattle.section_frame.specs.Declares.{Declared}

-- a name, where there is one, and then the others
abbrev pub name_before : Option (List ℕ) → List (List ℕ) → List (List ℕ)
name_before None more = more
name_before (Some name) more = name ∷ more

-- the names by which lines declare something, in their order
abbrev pub names_by : {S : Type 0} → (S → Option (List ℕ)) → List (Declared S) → List (List ℕ)
names_by name [] = []
names_by name (d ∷ ds) = name_before (name d.said) (names_by name ds)

-- what the line at the place declares, a line before has declared
pub record IsAgain {S : Type 0} (name : S → Option (List ℕ)) (ds : List (Declared S)) (i : ℕ) (said : S) : Type 0 where
  pub called : List ℕ
  pub is : name said ≡ Some called
  pub before : Contains (names_by name (take i ds)) called

-- the line is called by one of the words
pub record IsAmong {S : Type 0} (name : S → Option (List ℕ)) (words : List (List ℕ)) (said : S) : Type 0 where
  pub called : List ℕ
  pub is : name said ≡ Some called
  pub among : Contains words called

-- a name that is used is none of the words
pub record IsMissing (words uses : List (List ℕ)) : Type 0 where
  pub name : List ℕ
  pub used : Contains uses name
  pub none : Contains words name → ⊥

-- a name that is used is one of the words
pub record HasAmong (words uses : List (List ℕ)) : Type 0 where
  pub name : List ℕ
  pub used : Contains uses name
  pub among : Contains words name

-- a name that is used, no line before the place has declared
abbrev pub IsUndeclared : {S : Type 0} → (S → Option (List ℕ)) → List (Declared S) → ℕ → List (List ℕ) → Type 0
IsUndeclared name ds i uses = IsMissing (names_by name (take i ds)) uses

-- a name is there twice
pub record HasDouble (names : List (List ℕ)) : Type 0 where
  pub name : List ℕ
  pub place : ℕ
  pub other : ℕ
  pub before : place < other
  pub first : slice_get names place ≡ Some name
  pub second : slice_get names other ≡ Some name

-- how much lines add together
abbrev pub sum_by : {S : Type 0} → (S → ℕ) → List (Declared S) → ℕ
sum_by adds [] = 0
sum_by adds (d ∷ ds) = adds d.said + sum_by adds ds

-- with the line at the place the count is above the limit
abbrev pub IsPast : {S : Type 0} → (S → ℕ) → ℕ → List (Declared S) → ℕ → Type 0
IsPast adds limit ds i = limit < sum_by adds (take (i + 1) ds)

-- with the line at the place there are more names than the limit, each counted once, and so many before
abbrev pub ArePast : {S : Type 0} → (S → Option (List ℕ)) → ℕ → ℕ → List (Declared S) → ℕ → Type 0
ArePast name before limit ds i = limit < before + length (met [] (names_by name (take (i + 1) ds)))

-- whether the name is there already; else it is there now
pub data Meets (old new : List (List ℕ)) (name : List ℕ) : Bool → Type 0 where
  again : Contains old name → Meets old new name true
  fresh : (Contains old name → ⊥) → new ≡ old ++ name ∷ [] → Meets old new name false

-- the name that the program has, where it has one
abbrev pub read_name : Option (Bor (List ℕ)) → Option (List ℕ)
read_name None = None
read_name (Some name) = Some name.now
