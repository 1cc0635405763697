-- What a run is to answer, by its words and the files that they name, and which of these it reads.
use Rattle.std.specs.Prelude.{◌≡◌, ℕ, List, [], ◌∷◌, ◌++◌, drop, Option, IsSome}
use Rattle.ck_base.specs.Found.{HasNo}
use Rattle.ck_base.specs.declared.refusal.Refusal.{Refusal}
use Rattle.ck_base.specs.declared.refusal.Refusal.TheVariants.{Usage}
use Rattle.ck_io.specs.Contents.{IsTold}
use Rattle.ck_io.specs.Faults.{Rose}
use Rattle.ck_chain.specs.declared.stage.Stage.{Stage}
use Rattle.ck_chain.specs.Accepts.{RefusesSpec, Accepts}
use Rattle.ck_chain.specs.Answers.{AnswerOf, Misses, missing_refusal}
use Rattle.ck_chain.specs.Outcome.{Outcome, refused}
use Rattle.ck_chain.specs.Tools.{Tools}
use Rattle.spec_text.specs.declared.section.Section.{Section}
use Rattle.ck_tool.specs.Words.{AreOfStage, AreRight}

-- the bytes of the first files that the words name settle this answer, and fewer of them settle none
pub data Settles (words : List (List ℕ)) : List (List ℕ) → Outcome → Type 0 where
  by_words : (AreRight words → ⊥) → Settles words [] (refused Usage)
  by_spec : (stage : Stage) (spec_name source_name spec : List ℕ) (r : Refusal)
      → AreOfStage words stage spec_name source_name → RefusesSpec spec r
      → Settles words (spec ∷ []) (refused r)
  by_tools : (stage : Stage) (spec_name source_name spec : List ℕ) (tools : Tools) (section : Section)
      → AreOfStage words stage spec_name source_name → Accepts spec tools → Misses tools stage section
      → Settles words (spec ∷ []) (refused (missing_refusal section))
  by_source : (stage : Stage) (spec_name source_name spec source : List ℕ) (tools : Tools)
      (answer : Outcome) → AreOfStage words stage spec_name source_name → Accepts spec tools
      → HasNo (Misses tools stage) → AnswerOf stage tools source answer → Settles words (spec ∷ source ∷ []) answer

-- the names of files: the words behind the command
abbrev pub names_in : List (List ℕ) → List (List ℕ)
names_in words = drop 1 words

-- each of the files holds these bytes, where it is told
pub data Hold (contents : List ℕ → Option (List ℕ)) : List (List ℕ) → List (List ℕ) → Type 0 where
  no_files : Hold contents [] []
  one_more : (name bytes : List ℕ) (names files : List (List ℕ)) → IsTold (contents name) bytes
      → Hold contents names files → Hold contents (name ∷ names) (bytes ∷ files)

-- what a run is to answer; where a file isn't told, for some bytes that it may hold
pub record Wanted (contents : List ℕ → Option (List ℕ)) (words : List (List ℕ)) (answer : Outcome) : Type 0 where
  pub names : List (List ℕ)
  pub others : List (List ℕ)
  pub files : List (List ℕ)
  pub named : names_in words ≡ names ++ others
  pub hold : Hold contents names files
  pub settles : Settles words files answer

-- the run reads the file of this name: it comes next behind files that, as far as they are told,
-- don't settle an answer, nor do the first ones of them
pub record Reads (contents : List ℕ → Option (List ℕ)) (words : List (List ℕ)) (name : List ℕ) : Type 0 where
  pub before : List (List ℕ)
  pub others : List (List ℕ)
  pub files : List (List ℕ)
  pub named : names_in words ≡ before ++ name ∷ others
  pub hold : Hold contents before files
  pub unsettled : (first rest : List (List ℕ)) → files ≡ first ++ rest → HasNo (Settles words first)

-- each file that the run reads is told
abbrev pub AreTold : (List ℕ → Option (List ℕ)) → List (List ℕ) → Type 0
AreTold contents words = (name : List ℕ) → Reads contents words name → IsSome (contents name)

-- the count of faults of some name that the run reads rose between these states of the files
abbrev pub ReadFailed : {F : Type 0} → (F → List ℕ → Option (List ℕ)) → (F → List ℕ → ℕ)
    → List (List ℕ) → F → F → Type 0
ReadFailed contents faults words before now =
    (name : List ℕ) × Reads (contents before) words name × Rose (faults before name) (faults now name)
