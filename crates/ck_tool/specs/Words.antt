-- Which words of a command line are right, and what they ask for.
use Rattle.std.specs.Prelude.{◌≡◌, ◌≢◌, ℕ, List, [], ◌∷◌, codes}
use Rattle.ck_chain.specs.declared.stage.Stage.{Stage}
use Rattle.ck_chain.specs.declared.stage.Stage.TheVariants.{Tokens, Derive, Tree}

-- the command that asks for the stage
abbrev pub name_of : Stage → List ℕ
name_of Tokens = codes "tokens"
name_of Derive = codes "derive"
name_of Tree = codes "tree"

-- a file's name: not empty, and not beginning with `-`
abbrev pub IsFileName : List ℕ → Type 0
IsFileName [] = ⊥
IsFileName (byte ∷ rest) = byte ≢ 45

-- the words are the stage's command, a specification's name and a source's name
pub record AreOfStage (words : List (List ℕ)) (stage : Stage) (spec source : List ℕ) : Type 0 where
  pub words_are : words ≡ name_of stage ∷ spec ∷ source ∷ []
  pub is_spec : IsFileName spec
  pub is_source : IsFileName source

-- the words ask for what takes memory; one case for each shape of a command line that does
pub data NeedMemory (words : List (List ℕ)) : Type 0 where
  for_stage : (stage : Stage) (spec source : List ℕ) → AreOfStage words stage spec source → NeedMemory words

-- the words are right; one case for each shape of a command line
pub data AreRight (words : List (List ℕ)) : Type 0 where
  of_stage : (stage : Stage) (spec source : List ℕ) → AreOfStage words stage spec source → AreRight words
