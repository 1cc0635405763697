-- What a run is to answer, by what each of its steps found.
use Rattle.std.proofs.Common.{◌≡◌, ℕ, ◌+◌, ◌<◌, ◌≤◌, List, [], ◌∷◌, ◌++◌, length, Option, Result, Vec, Ok, Err, None, Some, IfSome, refl, sym, subst, arith}
use Rattle.std.specs.Prelude.{replicate, IsErrAnd}
use Rattle.std.specs.Global.{Global}
use Rattle.std.proofs.lemmas.List.{length-replicate}
use Rattle.ck_base.specs.declared.refusal.Refusal.{Refusal}
use Rattle.ck_base.specs.declared.refusal.Refusal.TheVariants as refusal
use Rattle.ck_io.specs.Contents.{IsTold, IsLonger}
use Rattle.ck_io.specs.Faults.{Rose}
use Rattle.ck_chain.specs.Accepts.{RefusesSpec, Accepts}
use Rattle.ck_base.specs.Found.{HasNo}
use Rattle.spec_text.specs.declared.section.Section.{Section}
use Rattle.ck_chain.specs.Answers.{AnswerOf, Misses, missing_refusal}
use Rattle.ck_chain.specs.Outcome.{Outcome, output, refused}
use Rattle.ck_chain.specs.Promise.{Refuses, answer_in}
use Rattle.ck_chain.specs.Tools.{Tools}
use Rattle.ck_chain.specs.declared.refused.Refused.{Refused as Why}
use Rattle.ck_chain.specs.declared.refused.Refused.TheVariants as why
use Rattle.ck_chain.specs.declared.stage.Stage.{Stage}
use Rattle.ck_chain.proofs.AcceptedOrRefused.{refused_or_accepted, one_acceptance}
use Rattle.ck_tool.proofs.OneOutcome.{same_stage}
use Rattle.ck_tool.specs.Wanted.{Settles, by_words, by_spec, by_tools, by_source, no_files, one_more, Wanted, Reads, names_in}
use Rattle.ck_tool.specs.Words.{AreOfStage, AreRight, of_stage}
use Rattle.ck_tool.specs.within.Stops.{IsMissing, IsStopOfRead, Meets, stop_of}
use Rattle.ck_tool.specs.declared.stop.Stop.{Stop}
use Rattle.ck_tool.specs.declared.stop.Stop.TheVariants.{Refused, ReadFault, NoMemory}

-- a file that has more bytes than the limit may hold some so long
longer_bytes : (told : Option (List ℕ)) (limit : ℕ) → IsLonger told limit → (bytes : List ℕ) × IsTold told bytes × (limit < length bytes)
longer_bytes None limit longer = (replicate (limit + 1) 0, tt, omega (arith, length-replicate {A = ℕ} (limit + 1) 0))
longer_bytes (Some all) limit longer = (all, refl, longer)

-- a count that rose later rose from the beginning
pub rose_before : (old mid new : ℕ) → old ≤ mid → Rose mid new → Rose old new
rose_before old mid new later rose = omega arith

-- the words are wrong
pub wanted_of_words : (contents : List ℕ → Option (List ℕ)) (words : List (List ℕ)) → (AreRight words → ⊥) → Wanted contents words (refused refusal.Usage)
wanted_of_words contents words wrong =
    record { names = []; others = names_in words; files = []; named = refl; hold = no_files; settles = by_words wrong }

module _ (contents : List ℕ → Option (List ℕ)) (words : List (List ℕ)) (stage : Stage) (spec_name source_name : List ℕ)
    (are : AreOfStage words stage spec_name source_name) where
  -- the specification is read
  pub reads_spec : Reads contents words spec_name
  reads_spec = record {
    before = [];
    others = source_name ∷ [];
    files = [];
    named = rw are.words_are refl;
    hold = no_files;
    unsettled = λ first rest same o settles. before_spec first rest o settles same;
  }
    where
      before_spec : (first rest : List (List ℕ)) (o : Outcome) → Settles words first o → [] ≡ first ++ rest → ⊥
      before_spec _ rest _ (by_words wrong) same = wrong (of_stage stage spec_name source_name are)
      before_spec _ rest _ (by_spec _ _ _ spec r _ refuses) same = cc
      before_spec _ rest _ (by_tools _ _ _ spec tools section _ accepts misses) same = cc
      before_spec _ rest _ (by_source _ _ _ spec source tools o _ accepts none answers) same = cc

  -- the specification refuses the run
  pub wanted_of_spec : (spec : List ℕ) (r : Refusal) → IsTold (contents spec_name) spec → RefusesSpec spec r → Wanted contents words (refused r)
  wanted_of_spec spec r is refuses = record {
    names = spec_name ∷ [];
    others = source_name ∷ [];
    files = spec ∷ [];
    named = rw are.words_are refl;
    hold = one_more spec_name spec [] [] is no_files;
    settles = by_spec stage spec_name source_name spec r are refuses;
  }

  module _ (spec : List ℕ) (tools : Tools) (spec_is_told : IsTold (contents spec_name) spec) (accepts : Accepts spec tools) where
    -- a section is missing
    pub wanted_of_tools : (section : Section) → Misses tools stage section → Wanted contents words (refused (missing_refusal section))
    wanted_of_tools section misses = record {
      names = spec_name ∷ [];
      others = source_name ∷ [];
      files = spec ∷ [];
      named = rw are.words_are refl;
      hold = one_more spec_name spec [] [] spec_is_told no_files;
      settles = by_tools stage spec_name source_name spec tools section are accepts misses;
    }

  module _ (spec : List ℕ) (tools : Tools) (spec_is_told : IsTold (contents spec_name) spec) (accepts : Accepts spec tools)
      (none : HasNo (Misses tools stage)) where
    -- the source is read
    pub reads_source : Reads contents words source_name
    reads_source = record {
      before = spec_name ∷ [];
      others = [];
      files = spec ∷ [];
      named = rw are.words_are refl;
      hold = one_more spec_name spec [] [] spec_is_told no_files;
      unsettled = λ first rest same o settles. before_source first rest o settles same;
    }
      where
        before_source : (first rest : List (List ℕ)) (o : Outcome) → Settles words first o → spec ∷ [] ≡ first ++ rest → ⊥
        before_source _ rest _ (by_words wrong) same = wrong (of_stage stage spec_name source_name are)
        before_source _ rest _ (by_spec _ _ _ first r _ refuses) same =
            let is : first ≡ spec = cc in
            refused_or_accepted spec r tools (rw is at refuses) accepts
        before_source _ rest _ (by_tools other s x first others section are2 its misses) same =
            let is : first ≡ spec = cc in
            let one = one_acceptance spec others tools (rw is at its) accepts in
            let stages = same_stage words other stage s x spec_name source_name are2 are in
            none section (rw (stages, one) at misses)
        before_source _ rest _ (by_source _ _ _ first source others o _ its all answers) same = cc

    -- the source settles
    pub wanted_of_source : (source : List ℕ) (o : Outcome) → IsTold (contents source_name) source → AnswerOf stage tools source o
        → Wanted contents words o
    wanted_of_source source o is answers = record {
      names = spec_name ∷ source_name ∷ [];
      others = [];
      files = spec ∷ source ∷ [];
      named = rw are.words_are refl;
      hold = one_more spec_name spec _ _ spec_is_told (one_more source_name source [] [] is no_files);
      settles = by_source stage spec_name source_name spec source tools o are accepts none answers;
    }

-- what a stop that `?` passes on meets
pub stop_meets : (wants : Outcome → Type 0) (failed : Type 0) (found : Result (Vec ℕ Global) Stop) (stop : Stop)
    → IsErrAnd found (λ other. other ≡ stop) → Meets wants failed (Err stop) → Meets wants failed found
stop_meets wants failed (Ok bytes) stop is meets = absurd is
stop_meets wants failed (Err other) stop is meets = subst (λ same. Meets wants failed (Err same)) (sym is) meets

-- a file wasn't read
stop_of_read : (wants : Outcome → Type 0) (failed : Type 0) (told : Option (List ℕ)) (limit : ℕ) (too_long : Refusal) (rose : Type 0) (stop : Stop)
    → ((bytes : List ℕ) → IsTold told bytes → limit < length bytes → wants (refused too_long)) → (rose → failed)
    → IsStopOfRead too_long (IsLonger told limit) rose stop → Meets wants failed (Err stop)
stop_of_read wants failed told limit too_long rose (Refused r) longer fails stop =
    let (bytes, is, more) = longer_bytes told limit stop.1 in
    (rw stop.0 (longer bytes is more), λ is. cc)
stop_of_read wants failed told limit too_long rose ReadFault longer fails stop = (tt, λ is. fails stop)
stop_of_read wants failed told limit too_long rose NoMemory longer fails stop = (tt, λ is. cc)

module _ (contents : List ℕ → Option (List ℕ)) (words : List (List ℕ)) (stage : Stage) (spec_name source_name : List ℕ)
    (are : AreOfStage words stage spec_name source_name) where
  -- the specification wasn't read
  pub stop_at_spec : (failed : Type 0) (limit : ℕ) (rose : Type 0) (stop : Stop) → limit ≡ 1048576 → (rose → failed)
      → IsStopOfRead refusal.SpecTooLong (IsLonger (contents spec_name) limit) rose stop → Meets (Wanted contents words) failed (Err stop)
  stop_at_spec failed limit rose stop at fails is = stop_of_read (Wanted contents words) failed (contents spec_name) limit refusal.SpecTooLong rose stop
      (λ bytes told longer. wanted_of_spec contents words stage spec_name source_name are bytes refusal.SpecTooLong told (RefusesSpec.too_long (omega arith)))
      fails is

  -- the specification is refused
  pub stop_at_refusal : (failed : Type 0) (spec : List ℕ) (r : Why) → IsTold (contents spec_name) spec → Refuses (RefusesSpec spec) r
      → Meets (Wanted contents words) failed (Err (stop_of r))
  stop_at_refusal failed spec (why.Refusal r) told refuses =
      (wanted_of_spec contents words stage spec_name source_name are spec r told refuses, λ same. cc)
  stop_at_refusal failed spec why.NoMemory told free = (tt, λ same. cc)

  -- a section is missing
  pub stop_at_tools : (failed : Type 0) (spec : List ℕ) (tools : Tools) (r : Why) → IsTold (contents spec_name) spec → Accepts spec tools
      → IsMissing tools stage r → Meets (Wanted contents words) failed (Err (stop_of r))
  stop_at_tools failed spec tools (why.Refusal r) told accepts (section, misses, is) =
      (rw is (wanted_of_tools contents words stage spec_name source_name are spec tools told accepts section misses), λ same. cc)
  stop_at_tools failed spec tools why.NoMemory told accepts missing = (tt, λ same. cc)

  module _ (spec : List ℕ) (tools : Tools) (told : IsTold (contents spec_name) spec) (accepts : Accepts spec tools)
      (none : HasNo (Misses tools stage)) where
    -- the source wasn't read
    pub stop_at_source : (failed : Type 0) (limit : ℕ) (rose : Type 0) (stop : Stop) → limit ≡ 4194304 → (rose → failed)
        → IsStopOfRead refusal.SourceTooLong (IsLonger (contents source_name) limit) rose stop → Meets (Wanted contents words) failed (Err stop)
    stop_at_source failed limit rose stop at fails is = stop_of_read (Wanted contents words) failed (contents source_name) limit refusal.SourceTooLong rose stop
        (λ bytes is_source longer. wanted_of_source contents words stage spec_name source_name are spec tools told accepts none bytes
        (refused refusal.SourceTooLong) is_source (AnswerOf.too_long none (omega arith))) fails is

    -- the source is refused
    pub stop_at_meaning : (failed : Type 0) (source : List ℕ) (r : Why) → IsTold (contents source_name) source
        → IfSome (answer_in (Err r)) (AnswerOf stage tools source) → Meets (Wanted contents words) failed (Err (stop_of r))
    stop_at_meaning failed source (why.Refusal r) is_source answers =
        (wanted_of_source contents words stage spec_name source_name are spec tools told accepts none source (refused r) is_source answers, λ same. cc)
    stop_at_meaning failed source why.NoMemory is_source free = (tt, λ same. cc)

    -- the stage has its output
    pub output_meets : (failed : Type 0) (source : List ℕ) (bytes : Vec ℕ Global) → IsTold (contents source_name) source
        → AnswerOf stage tools source (output bytes.items) → Meets (Wanted contents words) failed (Ok bytes)
    output_meets failed source bytes is_source answers =
        (wanted_of_source contents words stage spec_name source_name are spec tools told accepts none source (output bytes.items) is_source answers, λ same. cc)
