-- What one scan answers, and the tokens of a whole text.
use Rattle.std.specs.Prelude.{◌≡◌, ℕ, ◌+◌, ◌<◌, ◌≤◌, List, [], ◌∷◌, length, drop, Some, None}
use Rattle.rex_model.specs.Rules.{Rule}
use Rattle.rex_model.specs.Winner.{Winner, HasNoCandidate, next_state}
use Rattle.rex_model.specs.declared.scan.Scan.{Scan}
use Rattle.rex_model.specs.declared.scan.Scan.TheVariants as scan

-- what a scan at a place in a state answers
pub data Scans (rules : List Rule) (text : List ℕ) (state at : ℕ) : Scan → Type 0 where
  token : (i n m t : ℕ) (won : Winner rules state (drop at text) i n m) → won.candidate.rule.token ≡ Some t
      → Scans rules text state at (scan.Token i (at + n) (next_state won.candidate.rule state))
  skip : (i n m : ℕ) (won : Winner rules state (drop at text) i n m) → won.candidate.rule.token ≡ None
      → Scans rules text state at (scan.Skip i (at + n) (next_state won.candidate.rule state))
  end : length text ≤ at → Scans rules text state at scan.End
  bad : at < length text → HasNoCandidate rules state (drop at text) → Scans rules text state at (scan.BadToken at)

-- a token of a text: its number, and the places where its bytes begin and end
pub record Token : Type 0 where
  pub number : ℕ
  pub from : ℕ
  pub to : ℕ

-- how the tokens of a text end: with END at the text's end, or at a bad place
pub data Ending : Type 0 where
  finished : Ending
  bad_at : ℕ → Ending

-- the tokens from a place in a state on: the winners one after the other, without those that are
-- skipped
pub data Tokens (rules : List Rule) (text : List ℕ) : ℕ → ℕ → List Token → Ending → Type 0 where
  end : (state at : ℕ) → at ≡ length text → Tokens rules text state at [] finished
  bad : (state at : ℕ) → at < length text → HasNoCandidate rules state (drop at text)
      → Tokens rules text state at [] (bad_at at)
  token : (state at i n m t : ℕ) (more : List Token) (ending : Ending)
      (won : Winner rules state (drop at text) i n m) → won.candidate.rule.token ≡ Some t
      → Tokens rules text (next_state won.candidate.rule state) (at + n) more ending
      → Tokens rules text state at (record { number = t; from = at; to = at + n } ∷ more) ending
  skip : (state at i n m : ℕ) (more : List Token) (ending : Ending)
      (won : Winner rules state (drop at text) i n m) → won.candidate.rule.token ≡ None
      → Tokens rules text (next_state won.candidate.rule state) (at + n) more ending
      → Tokens rules text state at more ending
