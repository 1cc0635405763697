-- What a stop says of the run that it ends.
use Rattle.std.specs.Prelude.{◌≡◌, ℕ, ◌⊎◌, List, Option, Some, None, IfSome, Vec, Result, Ok, Err, codes}
use Rattle.std.specs.Global.{Global}
use Rattle.ck_base.specs.Lines.{line_of, status_of}
use Rattle.ck_base.specs.declared.refusal.Refusal.{Refusal}
use Rattle.ck_base.specs.declared.status.Status.{Status}
use Rattle.ck_base.specs.declared.status.Status.TheVariants as status
use Rattle.spec_text.specs.declared.section.Section.{Section}
use Rattle.ck_chain.specs.Answers.{Misses, missing_refusal}
use Rattle.ck_chain.specs.Promise.{Refuses}
use Rattle.ck_chain.specs.Tools.{Tools}
use Rattle.ck_chain.specs.declared.stage.Stage.{Stage}
use Rattle.ck_chain.specs.Outcome.{Outcome, output, refused}
use Rattle.ck_chain.specs.declared.refused.Refused.{Refused as Why}
use Rattle.ck_chain.specs.declared.refused.Refused.TheVariants as why
use Rattle.ck_tool.specs.Ran.{Sunk, Tells}
use Rattle.ck_tool.specs.Words.{AreOfStage}
use Rattle.ck_tool.specs.declared.stop.Stop.{Stop}
use Rattle.ck_tool.specs.declared.stop.Stop.TheVariants.{Refused, ReadFault, NoMemory}
use Rattle.ck_tool.specs.declared.words.Command.{Command}

-- the command is what the words ask for
abbrev pub IsAsked : List (List ℕ) → Command → Type 0
IsAsked words command = AreOfStage words command.stage command.spec.now command.source.now

-- the stop is this refusal, or for a read that failed or want of memory; `longer` says that the file
-- has too many bytes, `rose` that its count of faults rose
abbrev pub IsStopOfRead : Refusal → Type 0 → Type 0 → Stop → Type 0
IsStopOfRead too_long longer rose (Refused r) = (r ≡ too_long) × longer
IsStopOfRead too_long longer rose ReadFault = rose
IsStopOfRead too_long longer rose NoMemory = Unit {0}

-- the stage misses a section, and it is the refusal for that, or want of memory
abbrev pub IsMissing : Tools → Stage → Why → Type 0
IsMissing tools stage reason =
    (section : Section) × Misses tools stage section × Refuses (λ r. r ≡ missing_refusal section) reason

-- the stop for a refusal
abbrev pub stop_of : Why → Stop
stop_of (why.Refusal r) = Refused r
stop_of why.NoMemory = NoMemory

-- the answer that was found: the output, or the refusal that was met
abbrev pub answer_in : Result (Vec ℕ Global) Stop → Option Outcome
answer_in (Ok bytes) = Some (output bytes.items)
answer_in (Err (Refused r)) = Some (refused r)
answer_in (Err ReadFault) = None
answer_in (Err NoMemory) = None

-- the answer that was found is wanted, and where a read failed, `read_failed` holds
abbrev pub Meets : (Outcome → Type 0) → Type 0 → Result (Vec ℕ Global) Stop → Type 0
Meets wants read_failed found = IfSome (answer_in found) wants × (found ≡ Err ReadFault → read_failed)

-- the line of the stop is told; memory may want for the line of a refusal
abbrev pub Explains : Stop → Sunk → Status → Type 0
Explains (Refused r) sunk ends =
    Tells (line_of r) (status_of r) sunk ends ⊎ Tells (codes "out of memory") status.Memory sunk ends
Explains ReadFault sunk ends = Tells (codes "device: read fault") status.Device sunk ends
Explains NoMemory sunk ends = Tells (codes "out of memory") status.Memory sunk ends
