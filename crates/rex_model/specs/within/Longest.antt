-- The longest word that a text begins with.
use Rattle.std.specs.Prelude.{ℕ, ◌<◌, ◌≤◌, List, length, take, Option, Some, None}
use Rattle.rex_model.specs.Language.{Re, Language}

-- the first n bytes of the text are a word and not empty, and no more of them are a word
pub record IsLongestWord (r : Re) (text : List ℕ) (n : ℕ) : Type 0 where
  pub some : 0 < n
  pub within : n ≤ length text
  pub word : Language r (take n text)
  pub longest : (m : ℕ) → m ≤ length text → Language r (take m text) → m ≤ n

-- the text begins with no word but, maybe, the empty one
abbrev pub HasNoWord : Re → List ℕ → Type 0
HasNoWord r text = (m : ℕ) → 0 < m → m ≤ length text → Language r (take m text) → ⊥

-- how many bytes the longest word has, the empty word apart; None where there is none
abbrev pub IsLongest : Re → List ℕ → Option ℕ → Type 0
IsLongest r text None = HasNoWord r text
IsLongest r text (Some n) = IsLongestWord r text n

-- how many bytes the longest word has, the empty word among them; None where there is none
abbrev pub IsLongestOrEmpty : Re → List ℕ → Option ℕ → Type 0
IsLongestOrEmpty r text None = (n : ℕ) → n ≤ length text → Language r (take n text) → ⊥
IsLongestOrEmpty r text (Some n) =
    (n ≤ length text) × Language r (take n text) × ((m : ℕ) → m ≤ length text → Language r (take m text) → m ≤ n)
