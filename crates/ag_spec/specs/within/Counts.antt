-- How many attributes of each family there are so far. Only contracts within the crate cite these.
use Rattle.std.specs.Prelude.{◌≡◌, ℕ, ◌+◌, ◌<◌, ◌≤◌, List, Option, None, length, slice_index}
use Rattle.ck_base.specs.Numbered.{number_of}
use Rattle.node_model.specs.TypeNames.{names_of_families}
use Rattle.ast_types.specs.TypeTable.{TypeTable}
use Rattle.section_frame.specs.Declares.{Declared}
use Rattle.ag_spec.specs.AgShapes.{AgSaying, attribute, equation}
use Rattle.ag_spec.specs.AgAttributes.{attributes_for}

-- the family of the attribute that a line declares, by its number
abbrev pub family_said : TypeTable → AgSaying → Option ℕ
family_said table (attribute said) = number_of (names_of_families table) said.family
family_said table (equation said) = None

-- these are the numbers of attributes that the lines, so many of them, declare for each family
pub record AreCounts (table : TypeTable) (ds : List (Declared AgSaying)) (counts : List ℕ) (lines : ℕ) : Type 0 where
  pub each : length counts ≡ length table.families
  pub count : (x : ℕ) → x < length counts → slice_index counts x ≡ length (attributes_for table ds x)
  pub few : (x : ℕ) → length (attributes_for table ds x) ≤ lines

-- one of the numbers is greater by one, and no other one changed
pub record IsRaised (old new : List ℕ) (n : ℕ) : Type 0 where
  pub each : length new ≡ length old
  pub here : slice_index new n ≡ slice_index old n + 1
  pub others : (m : ℕ) → (m ≡ n → ⊥) → slice_index new m ≡ slice_index old m
