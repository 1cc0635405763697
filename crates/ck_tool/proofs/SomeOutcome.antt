-- A run has an answer to give: it can't be that there is none.
use Rattle.std.proofs.Common.{ℕ, List, Option, None, Some, IsSome, refl}
use Rattle.ck_base.specs.Found.{HasNo}
use Rattle.ck_io.specs.Contents.{IsTold}
use Rattle.ck_chain.specs.Answers.{missing_refusal, Misses}
use Rattle.ck_chain.specs.Outcome.{refused}
use Rattle.ck_chain.proofs.AcceptedOrRefused.{accepted_or_refused}
use Rattle.ck_chain.proofs.OneAnswer.{some_answer}
use Rattle.ck_tool.specs.Wanted.{Wanted, AreTold}
use Rattle.ck_tool.specs.Words.{AreRight, of_stage}
use Rattle.ck_tool.proofs.AnswerOfRun.{reads_spec, reads_source, wanted_of_words, wanted_of_spec, wanted_of_tools, wanted_of_source}

-- a file that is told has bytes
some_bytes : (told : Option (List ℕ)) → IsSome told → (bytes : List ℕ) × IsTold told bytes
some_bytes None some = cc
some_bytes (Some bytes) some = (bytes, refl)

pub some_outcome : (contents : List ℕ → Option (List ℕ)) (words : List (List ℕ)) → AreTold contents words → HasNo (Wanted contents words) → ⊥
some_outcome contents words are_told none = none (refused _) (wanted_of_words contents words right)
  where
    right : AreRight words → ⊥
    right (of_stage stage spec_name source_name are) =
        let (spec, is_spec) = some_bytes (contents spec_name) (are_told spec_name (reads_spec contents words stage spec_name source_name are)) in
        accepted_or_refused spec (λ r refuses. none (refused r) (wanted_of_spec contents words stage spec_name source_name are spec r is_spec refuses))
        (λ tools accepts.
        let none_missing : HasNo (Misses tools stage) = λ section misses.
        none (refused (missing_refusal section)) (wanted_of_tools contents words stage spec_name source_name are spec tools is_spec accepts section misses) in
        let name_is_read = reads_source contents words stage spec_name source_name are spec tools is_spec accepts none_missing in
        let (source, is_source) = some_bytes (contents source_name) (are_told source_name name_is_read) in
        some_answer spec tools accepts source stage (λ answer answers.
        none answer (wanted_of_source contents words stage spec_name source_name are spec tools is_spec accepts none_missing source answer is_source answers)))
