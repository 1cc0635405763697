-- What a run finds, and what a scan answers with it.
use Rattle.std.specs.Prelude.{ℕ, ◌<◌, ◌≤◌, List, length, Option, Some, None}
use Rattle.rex_model.specs.Winner.{Winner}
use Rattle.rex_model.specs.Rules.{Rule}
use Rattle.rex_model.specs.Tables.{GivesWinners}
use Rattle.rex_model.specs.Tables.{Tables}
use Rattle.rex_model.specs.declared.scan.Scan.{Scan}
use Rattle.rex_model.specs.declared.scan.Scan.TheVariants as scan
use Rattle.scan_driver.specs.declared.running.Found.{Found}
use Rattle.rex_model.specs.declared.tables.ScanAction.{ScanAction}

-- what was found, with what is accepted after len bytes
abbrev pub found_with : Option ℕ → ℕ → Option Found → Option Found
found_with None len found = found
found_with (Some rule) len found = Some (record { rule = rule; len = len })

-- the state that is named, else the old one
abbrev pub state_or : Option ℕ → ℕ → ℕ
state_or None old = old
state_or (Some new) old = new

-- what a scan answers with this action
abbrev pub scan_with : ScanAction → ℕ → ℕ → ℕ → Scan
scan_with action i to state = by_token action.token
  where
    by_token : Option ℕ → Scan
    by_token None = scan.Skip i to (state_or action.next state)
    by_token (Some t) = scan.Token i to (state_or action.next state)

-- rule i wins with a text of n bytes, by all rules whose winners the tables give
pub record IsWon (tables : Tables) (state : ℕ) (rest : List ℕ) (i n : ℕ) : Type 0 where
  pub within : n ≤ length rest
  pub has_action : i < length tables.actions
  pub wins : (rules : List Rule) → GivesWinners tables rules → (m : ℕ) × Winner rules state rest i n m
