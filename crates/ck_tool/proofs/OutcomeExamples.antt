-- The answer of a run, the names that it reads and how it ends, tried on cases that are worked by hand.
use Rattle.std.proofs.Common.{◌≡◌, ◌⊎◌, inl, inr, ℕ, List, [], ◌∷◌, ◌++◌, length, Option, None, Some, codes, refl, arith, take, length-take, ap, sym, ◌∙◌, subst}
use Rattle.std.specs.Fmt.{digits}
use Rattle.ck_base.specs.Found.{HasNo}
use Rattle.ck_base.specs.declared.fault.Kind.TheVariants.{Section}
use Rattle.ck_base.specs.Lines.{status_of}
use Rattle.ck_base.specs.declared.refusal.Refusal.{Refusal}
use Rattle.ck_base.specs.declared.refusal.Refusal.TheVariants as refusal
use Rattle.ck_base.specs.declared.status.Status.{Status}
use Rattle.ck_base.specs.declared.status.Status.TheVariants as status
use Rattle.ck_io.specs.Contents.{IsTold}
use Rattle.rex_model.specs.Run.{Tokens}
use Rattle.spec_text.specs.declared.section.Section.TheVariants.{Lalr}
use Rattle.spec_text.proofs.SectionExamples.{rex_end_file, empty_file}
use Rattle.ck_chain.specs.Accepts.{of_sections}
use Rattle.ck_chain.specs.Answers.{makes, tokens}
use Rattle.ck_chain.specs.Outcome.{Outcome, output, refused}
use Rattle.ck_chain.specs.Scanning.{bad_token}
use Rattle.ck_chain.specs.InOrder as printed
use Rattle.ck_chain.specs.declared.stage.Stage.TheVariants.{Tokens as of_tokens, Derive as of_derive}
use Rattle.ck_chain.proofs.Examples.{accepts_none, tokens_need_none, derivation_needs_grammar}
use Rattle.ck_tool.specs.Ran.{Sunk, Kept, FaultsRose, WritesOnlyDone, Gained, GainedPart, Answers, UsageExactly, Tells, told, cut, Ran, done, refusing, memory, reading, writing, ended}
use Rattle.ck_tool.specs.Wanted.{Settles, by_spec, by_tools, names_in, Hold, no_files, one_more, Wanted, Reads}
use Rattle.ck_tool.specs.Words.{AreOfStage, AreRight, of_stage}
use Rattle.ck_tool.proofs.AnswerOfRun.{wanted_of_words, wanted_of_spec, wanted_of_tools, wanted_of_source}

-- the words `tokens s x`
abbrev pub words : List (List ℕ)
words = codes "tokens" ∷ codes "s" ∷ codes "x" ∷ []

are_tokens : AreOfStage words of_tokens (codes "s") (codes "x")
are_tokens = record { words_are = refl; is_spec = λ e. cc; is_source = λ e. cc }

-- the words `derive s x`
abbrev pub derive_words : List (List ℕ)
derive_words = codes "derive" ∷ codes "s" ∷ codes "x" ∷ []

are_derive : AreOfStage derive_words of_derive (codes "s") (codes "x")
are_derive = record { words_are = refl; is_spec = λ e. cc; is_source = λ e. cc }

-- two words are wrong, and Usage is the answer
one_file : (contents : List ℕ → Option (List ℕ)) → Wanted contents (codes "tokens" ∷ codes "s" ∷ []) (refused refusal.Usage)
one_file contents = wanted_of_words contents _ wrong
  where
    wrong : AreRight (codes "tokens" ∷ codes "s" ∷ []) → ⊥
    wrong (of_stage stage spec source are) = let is = are.words_are in cc

module _ (contents : List ℕ → Option (List ℕ)) where
  -- no rules and an empty source: `1:1 END` is printed
  wants_end : contents (codes "s") ≡ Some rex_end_file → contents (codes "x") ≡ Some [] → Wanted contents words (output (codes "1:1 END" ++ 10 ∷ []))
  unfolding digits
  wants_end spec source = wanted_of_source contents words of_tokens _ _ are_tokens rex_end_file _ (rw spec refl) accepts_none (tokens_need_none _) [] _ (rw source refl)
      (makes _ (tokens_need_none _) (omega arith) (tokens _ (printed.told [] (Tokens.end 0 0 refl))))

  -- no rules and any byte: its place is bad
  wants_bad_token : contents (codes "s") ≡ Some rex_end_file → contents (codes "x") ≡ Some (codes "a")
      → Wanted contents words (refused (refusal.BadToken 1 1))
  wants_bad_token spec source = wanted_of_source contents words of_tokens _ _ are_tokens rex_end_file _ (rw spec refl) accepts_none (tokens_need_none _) (codes "a") _
      (rw source refl) (makes _ (tokens_need_none _) (omega arith) (tokens _ (printed.failed _ (bad_token [] 0 (Tokens.bad 0 0 (omega arith) (λ i n m c. let is = c.is_rule in cc))))))

  -- an empty specification is refused for its first line, whatever the source is
  wants_bad_spec : contents (codes "s") ≡ Some [] → Wanted contents words (refused (refusal.BadSpec 1 Section))
  wants_bad_spec spec = wanted_of_spec contents words of_tokens _ _ are_tokens [] _ (rw spec refl) (of_sections (omega arith) 1 empty_file)

  -- without a grammar its section is missing, whatever the source is
  wants_no_grammar : contents (codes "s") ≡ Some rex_end_file → Wanted contents derive_words (refused (refusal.MissingSection (codes "LALR")))
  wants_no_grammar spec = wanted_of_tools contents derive_words of_derive _ _ are_derive rex_end_file _ (rw spec refl) accepts_none Lalr (derivation_needs_grammar _)

  -- behind a specification that settles the answer the source isn't read
  reads_no_source : (words : List (List ℕ)) (spec : List ℕ) (o : Outcome) → names_in words ≡ codes "s" ∷ codes "x" ∷ []
      → contents (codes "s") ≡ Some spec → Settles words (spec ∷ []) o → Reads contents words (codes "x") → ⊥
  reads_no_source words spec o names holds settles reads =
      none_before reads.before reads.others reads.files (sym names ∙ reads.named) reads.hold reads.unsettled
    where
      same_bytes : (found : Option (List ℕ)) (bytes : List ℕ) → found ≡ Some spec → IsTold found bytes → bytes ≡ spec
      same_bytes None bytes at is = cc
      same_bytes (Some all) bytes at is = cc

      none_before : (before others files : List (List ℕ)) → codes "s" ∷ codes "x" ∷ [] ≡ before ++ codes "x" ∷ others → Hold contents before files
          → ((first rest : List (List ℕ)) → files ≡ first ++ rest → HasNo (Settles words first)) → ⊥
      none_before [] others files named hold unsettled =
          let other : codes "x" ≡ codes "s" = cc in
          let byte : ◌≡◌ {A = ℕ} 120 115 = cc in
          omega arith
      none_before (name ∷ []) others _ named (one_more _ bytes _ _ is (no_files)) unsettled =
          let first : name ≡ codes "s" = cc in
          let all : bytes ≡ spec = same_bytes (contents name) bytes (subst (λ n. contents n ≡ Some spec) (sym first) holds) is in
          unsettled (bytes ∷ []) [] refl o (subst (λ b. Settles words (b ∷ []) o) (sym all) settles)
      none_before (name ∷ other ∷ []) others files named hold unsettled = cc
      none_before (name ∷ other ∷ next ∷ more) others files named hold unsettled = cc

  refused_reads_no_source : contents (codes "s") ≡ Some [] → Reads contents words (codes "x") → ⊥
  refused_reads_no_source spec = reads_no_source words [] (refused (refusal.BadSpec 1 Section)) refl spec
      (by_spec of_tokens (codes "s") (codes "x") [] _ are_tokens (of_sections (omega arith) 1 empty_file))

  missing_reads_no_source : contents (codes "s") ≡ Some rex_end_file → Reads contents derive_words (codes "x") → ⊥
  missing_reads_no_source spec = reads_no_source derive_words rex_end_file (refused (refusal.MissingSection (codes "LALR"))) refl spec
      (by_tools of_derive (codes "s") (codes "x") rex_end_file _ Lalr are_derive accepts_none (derivation_needs_grammar _))

-- a sink that took all bytes didn't take a part of them, whatever its count says
whole_is_no_part : (count : ℕ) → GainedPart (record { old = Some []; new = Some (codes "ab"); before = 0; now = count }) (codes "ab") → ⊥
whole_is_no_part count (written, fewer, took, rose) =
    let all : codes "ab" ≡ take written (codes "ab") = cc in
    omega (arith, ap length all, length-take written (codes "ab"))

-- a line is told with its end
told_with_end : (count : ℕ) → Gained (record { old = Some []; new = Some (codes "ab"); before = 0; now = count }) (ended (codes "ab")) → ⊥
told_with_end count took =
    let same : codes "ab" ≡ ended (codes "ab") = cc in
    omega (arith, ap length same)

-- a line that was cut ends in status 8
cut_is_device : (ends : Status) → Tells (codes "ab") status.Usage (record { old = Some []; new = Some (codes "a"); before = 0; now = 1 }) ends
    → ends ≡ status.Device
cut_is_device _ (told took) =
    let same : codes "a" ≡ ended (codes "ab") = cc in
    absurd (omega (arith, ap length same))
cut_is_device _ (cut part) = refl

-- a fault from before the run is none of the run
old_fault : (bytes : Option (List ℕ)) → FaultsRose (record { old = bytes; new = bytes; before = 3; now = 3 }) → ⊥
old_fault bytes rose = omega arith

-- bytes that were given with a line beside them aren't the answer
bytes_and_line : (out : Sunk) → Answers (output []) out (record { old = Some []; new = Some (codes "a"); before = 0; now = 0 }) status.Done → ⊥
bytes_and_line out (is, gained, kept) = cc

-- a refusal follows no byte of output
refusal_after_output : WritesOnlyDone (record { old = Some []; new = Some (codes "a"); before = 0; now = 0 }) status.Spec → ⊥
refusal_after_output only = elim (only (λ is. cc)) [ inl kept ↦ cc | inr failed ↦ omega (arith, failed.1) ]

-- wrong words never end in want of memory
wrong_words_want_none : (words : List (List ℕ)) (err : Sunk) → UsageExactly words err status.Memory → (AreRight words → ⊥) → ⊥
wrong_words_want_none words err exactly wrong = neither (exactly.always wrong)
  where
    neither : (status.Memory ≡ status.Usage) ⊎ ((status.Memory ≡ status.Device) × FaultsRose err) → ⊥
    neither (inl is) = cc
    neither (inr (is, failed)) = cc

-- no refusal has the status of a run that is done
refusal_is_not_done : (r : Refusal) → status_of r ≡ status.Done → ⊥
refusal_is_not_done refusal.Usage is = cc
refusal_is_not_done _ is = cc

module _ (words : List (List ℕ)) (wants : Outcome → Type 0) (failed : Type 0) (out err : Sunk) where
  -- a run that is done has told no line
  done_tells_nothing : (ends : Status) → Ran words wants failed out err ends → ends ≡ status.Done → Kept err
  done_tells_nothing _ (done bytes wanted gained kept) is = kept
  done_tells_nothing _ (refusing _ r wanted kept (told gained)) is = absurd (refusal_is_not_done r is)
  done_tells_nothing _ (refusing _ r wanted kept (cut part)) is = cc
  done_tells_nothing _ (memory _ right kept (told gained)) is = cc
  done_tells_nothing _ (memory _ right kept (cut part)) is = cc
  done_tells_nothing _ (reading _ rose kept (told gained)) is = cc
  done_tells_nothing _ (reading _ rose kept (cut part)) is = cc
  done_tells_nothing _ (writing _ bytes wanted part (told gained)) is = cc
  done_tells_nothing _ (writing _ bytes wanted part (cut rest)) is = cc

  -- want of memory follows no byte of output
  memory_writes_nothing : (ends : Status) → Ran words wants failed out err ends → ends ≡ status.Memory → Kept out
  memory_writes_nothing _ (done bytes wanted gained kept) is = cc
  memory_writes_nothing _ (refusing ends r wanted kept tells) is = kept
  memory_writes_nothing _ (memory ends right kept tells) is = kept
  memory_writes_nothing _ (reading ends rose kept tells) is = kept
  memory_writes_nothing _ (writing _ bytes wanted part (told gained)) is = cc
  memory_writes_nothing _ (writing _ bytes wanted part (cut rest)) is = cc
