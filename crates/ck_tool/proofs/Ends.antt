-- How a run ends, by the line that it told.
use Rattle.std.proofs.Common.{◌≡◌, ℕ, ◌⊎◌, List, Vec, Option, Result, Some, Err, refl, subst, inl, inr}
use Rattle.std.specs.Global.{Global}
use Rattle.ck_base.specs.Lines.{line_of, status_of}
use Rattle.ck_base.specs.declared.refusal.Refusal.{Refusal}
use Rattle.ck_base.specs.declared.refusal.Refusal.TheVariants as refusal
use Rattle.ck_base.specs.declared.status.Status.{Status}
use Rattle.ck_base.specs.declared.status.Status.TheVariants as status
use Rattle.ck_chain.specs.Outcome.{Outcome, output, refused}
use Rattle.ck_chain.proofs.AcceptedOrRefused.{spec_never_usage}
use Rattle.ck_chain.proofs.OneAnswer.{never_usage}
use Rattle.ck_tool.specs.Ran.{Sunk, Kept, Tells, told, cut, Ran, done, refusing, memory, reading, writing, UsageExactly, WritesOnlyDone, Answers, WantedMemory, NoneRose}
use Rattle.ck_tool.specs.Wanted.{Settles, by_words, by_spec, by_tools, by_source, Wanted, AreTold}
use Rattle.ck_tool.specs.Words.{AreRight, NeedMemory}
use Rattle.ck_tool.specs.declared.stop.Stop.{Stop}
use Rattle.ck_tool.specs.declared.stop.Stop.TheVariants.{Refused, ReadFault, NoMemory}
use Rattle.ck_tool.specs.within.Stops.{Explains, Meets, answer_in}
use Rattle.ck_tool.proofs.AnswerOfRun.{wanted_of_words}
use Rattle.ck_tool.proofs.OneOutcome.{one_outcome}

-- a stop was explained
pub by_stop : (words : List (List ℕ)) (found : Result (Vec ℕ Global) Stop) (out err : Sunk) (ends : Status) (stop : Stop) → found ≡ Err stop
    → NeedMemory words → Kept out → Explains stop err ends → Ran words (λ answer. answer_in found ≡ Some answer) (found ≡ Err ReadFault) out err ends
by_stop words found out err ends (Refused r) is right kept (inl tells) = refusing ends r (rw is refl) kept tells
by_stop words found out err ends (Refused r) is right kept (inr tells) = memory ends right kept tells
by_stop words found out err ends ReadFault is right kept tells = reading ends is kept tells
by_stop words found out err ends NoMemory is right kept tells = memory ends right kept tells

-- other answers may be wanted, and the reads that failed be said otherwise
pub Ran-map : (words : List (List ℕ)) (wants wants' : Outcome → Type 0) (failed failed' : Type 0) (out err : Sunk) (ends : Status)
    → ((answer : Outcome) → wants answer → wants' answer) → (failed → failed')
    → Ran words wants failed out err ends → Ran words wants' failed' out err ends
Ran-map words wants wants' failed failed' out err _ f g (done bytes wanted gained kept) = done bytes (f (output bytes) wanted) gained kept
Ran-map words wants wants' failed failed' out err _ f g (refusing ends r wanted kept tells) = refusing ends r (f (refused r) wanted) kept tells
Ran-map words wants wants' failed failed' out err _ f g (memory ends right kept tells) = memory ends right kept tells
Ran-map words wants wants' failed failed' out err _ f g (reading ends rose kept tells) = reading ends (g rose) kept tells
Ran-map words wants wants' failed failed' out err _ f g (writing ends bytes wanted part tells) = writing ends bytes (f (output bytes) wanted) part tells

-- the run ends by what was found
pub by_found : (words : List (List ℕ)) (wants : Outcome → Type 0) (failed : Type 0) (out err : Sunk) (ends : Status) (found : Result (Vec ℕ Global) Stop)
    → Meets wants failed found → Ran words (λ answer. answer_in found ≡ Some answer) (found ≡ Err ReadFault) out err ends
    → Ran words wants failed out err ends
by_found words wants failed out err ends found meets ran =
    Ran-map words _ wants _ failed out err ends (λ answer is. rw is at meets.0) meets.1 ran

-- the words are wrong
pub by_wrong_words : (contents : List ℕ → Option (List ℕ)) (words : List (List ℕ)) (failed : Type 0) (out err : Sunk) (ends : Status)
    → (AreRight words → ⊥) → Kept out → Tells (line_of refusal.Usage) status.Usage err ends → Ran words (Wanted contents words) failed out err ends
by_wrong_words contents words failed out err ends wrong kept tells =
    refusing ends refusal.Usage (wanted_of_words contents words wrong) kept tells

-- Usage is wanted for wrong words alone
usage_is_wrong : (words files : List (List ℕ)) → Settles words files (refused refusal.Usage) → AreRight words → ⊥
usage_is_wrong words files settles right = by files (refused refusal.Usage) settles refl
  where
    by : (files : List (List ℕ)) (o : Outcome) → Settles words files o → o ≡ refused refusal.Usage → ⊥
    by _ _ (by_words wrong) is = wrong right
    by _ _ (by_spec stage s x spec r are refuses) is = let same : r ≡ refusal.Usage = cc in spec_never_usage spec (rw same at refuses)
    by _ _ (by_tools stage s x spec tools section are accepts misses) is = cc
    by _ _ (by_source stage s x spec source tools o are accepts none answers) is = never_usage stage tools source (rw is at answers)

-- the one refusal with status 1
usage_of_status : (r : Refusal) → status_of r ≡ status.Usage → r ≡ refusal.Usage
usage_of_status refusal.Usage is = refl
usage_of_status _ is = cc

-- a run ends in status 1 only where the words aren't right
usage_only : (contents : List ℕ → Option (List ℕ)) (words : List (List ℕ)) (failed : Type 0) (out err : Sunk) (ends : Status)
    → Ran words (Wanted contents words) failed out err ends → ends ≡ status.Usage → AreRight words → ⊥
usage_only contents words failed out err _ (done bytes wanted gained kept) is = cc
usage_only contents words failed out err _ (refusing _ r wanted kept (told gained)) is =
    let usage = usage_of_status r is in
    usage_is_wrong words wanted.files (rw usage at wanted.settles)
usage_only contents words failed out err _ (refusing _ r wanted kept (cut part)) is = cc
usage_only contents words failed out err _ (memory _ right kept (told gained)) is = cc
usage_only contents words failed out err _ (memory _ right kept (cut part)) is = cc
usage_only contents words failed out err _ (reading _ rose kept (told gained)) is = cc
usage_only contents words failed out err _ (reading _ rose kept (cut part)) is = cc
usage_only contents words failed out err _ (writing _ bytes wanted part (told gained)) is = cc
usage_only contents words failed out err _ (writing _ bytes wanted part (cut rest)) is = cc

-- for wrong words status 1 comes, unless the sink failed
pub usage_by_words : (words : List (List ℕ)) (err : Sunk) (ends : Status) → (AreRight words → ⊥)
    → Tells (line_of refusal.Usage) status.Usage err ends → UsageExactly words err ends
usage_by_words words err _ wrong (told gained) = record { only = λ _. wrong; always = λ _. inl refl }
usage_by_words words err _ wrong (cut part) = record { only = λ _. wrong; always = λ _. inr (refl, part.3) }

-- and never where they are right
pub usage_by_run : (contents : List ℕ → Option (List ℕ)) (words : List (List ℕ)) (failed : Type 0) (out err : Sunk) (ends : Status) → AreRight words
    → Ran words (Wanted contents words) failed out err ends → UsageExactly words err ends
usage_by_run contents words failed out err ends right ran = record {
  only = usage_only contents words failed out err ends ran;
  always = λ wrong. absurd (wrong right);
}

-- only a run that is done has written, unless the sink failed
pub writes_only_done : (words : List (List ℕ)) (wants : Outcome → Type 0) (failed : Type 0) (out err : Sunk) (ends : Status)
    → Ran words wants failed out err ends → WritesOnlyDone out ends
writes_only_done words wants failed out err _ (done bytes wanted gained kept) other = absurd (other refl)
writes_only_done words wants failed out err _ (refusing ends r wanted kept tells) other = inl kept
writes_only_done words wants failed out err _ (memory ends right kept tells) other = inl kept
writes_only_done words wants failed out err _ (reading ends rose kept tells) other = inl kept
writes_only_done words wants failed out err _ (writing _ bytes wanted part (told gained)) other = inr (refl, part.3)
writes_only_done words wants failed out err _ (writing _ bytes wanted part (cut rest)) other = inr (refl, part.3)

-- where files are told and no device failed, the run gives the wanted answer, or memory was wanting
pub exactly_wanted : (contents : List ℕ → Option (List ℕ)) (words : List (List ℕ)) (failed : Type 0) (out err : Sunk) (ends : Status)
    → Ran words (Wanted contents words) failed out err ends → AreTold contents words → NoneRose failed out err
    → (answer : Outcome) → Wanted contents words answer → Answers answer out err ends ⊎ WantedMemory words out err ends
exactly_wanted contents words failed out err _ (done bytes wanted gained kept) are_told none answer other =
    let same = one_outcome contents words (output bytes) answer are_told wanted other in
    inl (subst (λ o. Answers o out err status.Done) same (refl, gained, kept))
exactly_wanted contents words failed out err _ (refusing _ r wanted kept (told gained)) are_told none answer other =
    let same = one_outcome contents words (refused r) answer are_told wanted other in
    inl (subst (λ o. Answers o out err (status_of r)) same (refl, kept, gained))
exactly_wanted contents words failed out err _ (refusing _ r wanted kept (cut part)) are_told none answer other = absurd (none.lines part.3)
exactly_wanted contents words failed out err _ (memory _ right kept (told gained)) are_told none answer other =
    inr (record { needs = right; is_memory = refl; kept = kept; told = gained })
exactly_wanted contents words failed out err _ (memory _ right kept (cut part)) are_told none answer other = absurd (none.lines part.3)
exactly_wanted contents words failed out err _ (reading ends rose kept tells) are_told none answer other = absurd (none.files rose)
exactly_wanted contents words failed out err _ (writing ends bytes wanted part tells) are_told none answer other = absurd (none.output part.3)
