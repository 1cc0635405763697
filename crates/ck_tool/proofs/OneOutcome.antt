-- A run has one answer to give at most.
use Rattle.std.proofs.Common.{◌≡◌, ℕ, List, [], ◌∷◌, ◌++◌, refl, sym, ap, ◌∙◌, subst, Option, None, Some, IsSome, append_assoc, arith, get_or, if◌then◌else◌, nat_eq}
use Rattle.std.proofs.lemmas.List.{append-nil}
use Rattle.ck_io.specs.Contents.{IsTold}
use Rattle.ck_chain.specs.Answers.{missing_refusal}
use Rattle.ck_chain.specs.Outcome.{Outcome, refused}
use Rattle.ck_tool.specs.Wanted.{Settles, by_words, by_spec, by_tools, by_source, names_in, Hold, no_files, one_more, Wanted, Reads, AreTold}
use Rattle.ck_tool.specs.Words.{AreOfStage, of_stage, name_of}
use Rattle.ck_chain.specs.declared.stage.Stage.{Stage}
use Rattle.ck_chain.specs.declared.stage.Stage.TheVariants as stages
use Rattle.ck_chain.proofs.AcceptedOrRefused.{one_refusal, refused_or_accepted, one_acceptance}
use Rattle.ck_chain.proofs.OneAnswer.{one_answer, one_missing}

-- each stage has a name of its own
abbrev stage_named : List ℕ → Stage
stage_named name =
    if nat_eq (get_or name 0 0) 100 then stages.Derive else if nat_eq (get_or name 1 0) 111 then stages.Tokens else stages.Tree

-- one case for each stage
named_back : (stage : Stage) → stage_named (name_of stage) ≡ stage
named_back stages.Tokens = refl
named_back stages.Derive = refl
named_back stages.Tree = refl

one_stage : (these those : Stage) → name_of these ≡ name_of those → these ≡ those
one_stage these those same = sym (named_back these) ∙ ap stage_named same ∙ named_back those

-- the words ask for one stage
pub same_stage : (words : List (List ℕ)) (s t : Stage) (spec source spec2 source2 : List ℕ) → AreOfStage words s spec source
    → AreOfStage words t spec2 source2 → s ≡ t
same_stage words s t spec source spec2 source2 a b =
    let first = a.words_are in
    let second = b.words_are in
    one_stage s t (cc)

-- files that decide an answer decide no other, and with more behind them they decide none
pub one_settled : (words files more others : List (List ℕ)) (o p : Outcome) → Settles words files o → Settles words others p
    → others ≡ files ++ more → (more ≡ []) × (o ≡ p)
one_settled words _ more _ _ _ (by_words wrong) (by_words wrong2) same = (sym same, refl)
one_settled words _ more _ _ _ (by_words wrong) (by_spec stage s x spec r are refuses) same = absurd (wrong (of_stage stage s x are))
one_settled words _ more _ _ _ (by_words wrong) (by_tools stage s x spec tools section are accepts misses) same = absurd (wrong (of_stage stage s x are))
one_settled words _ more _ _ _ (by_words wrong) (by_source stage s x spec source tools p are accepts none answers) same =
    absurd (wrong (of_stage stage s x are))
one_settled words _ more _ _ _ (by_spec stage s x spec r are refuses) (by_words wrong) same = absurd (wrong (of_stage stage s x are))
one_settled words _ more _ _ _ (by_spec stage s x spec r are refuses) (by_spec stage2 s2 x2 spec2 r2 are2 refuses2) same =
    let specs : spec ≡ spec2 = cc in
    (cc, ap (λ all. refused all) (one_refusal spec2 r r2 (rw specs at refuses) refuses2))
one_settled words _ more _ _ _ (by_spec stage s x spec r are refuses) (by_tools stage2 s2 x2 spec2 tools section are2 accepts misses) same =
    let specs : spec ≡ spec2 = cc in
    absurd (refused_or_accepted spec2 r tools (rw specs at refuses) accepts)
one_settled words _ more _ _ _ (by_spec stage s x spec r are refuses) (by_source stage2 s2 x2 spec2 source tools p are2 accepts none answers) same =
    let specs : spec ≡ spec2 = cc in
    absurd (refused_or_accepted spec2 r tools (rw specs at refuses) accepts)
one_settled words _ more _ _ _ (by_tools stage s x spec tools section are accepts misses) (by_words wrong) same = absurd (wrong (of_stage stage s x are))
one_settled words _ more _ _ _ (by_tools stage s x spec tools section are accepts misses) (by_spec stage2 s2 x2 spec2 r are2 refuses) same =
    let specs : spec2 ≡ spec = cc in
    absurd (refused_or_accepted spec r tools (rw specs at refuses) accepts)
one_settled words _ more _ _ _ (by_tools stage s x spec tools section are accepts misses)
    (by_tools stage2 s2 x2 spec2 tools2 section2 are2 accepts2 misses2) same =
    let specs : spec ≡ spec2 = cc in
    let stage_is = same_stage words stage stage2 s x s2 x2 are are2 in
    let same_tools = one_acceptance spec2 tools tools2 (rw specs at accepts) accepts2 in
    (cc, ap (λ all. refused (missing_refusal all)) (one_missing tools2 stage2 section section2 (rw (stage_is, same_tools) at misses) misses2))
one_settled words _ more _ _ _ (by_tools stage s x spec tools section are accepts misses)
    (by_source stage2 s2 x2 spec2 source tools2 p are2 accepts2 none answers) same =
    let specs : spec ≡ spec2 = cc in
    let stage_is = same_stage words stage stage2 s x s2 x2 are are2 in
    let same_tools = one_acceptance spec2 tools tools2 (rw specs at accepts) accepts2 in
    absurd (none section (rw (stage_is, same_tools) at misses))
one_settled words _ more _ _ _ (by_source stage s x spec source tools o are accepts none answers) (by_words wrong) same =
    absurd (wrong (of_stage stage s x are))
one_settled words _ more _ _ _ (by_source stage s x spec source tools o are accepts none answers) (by_spec stage2 s2 x2 spec2 r are2 refuses) same = cc
one_settled words _ more _ _ _ (by_source stage s x spec source tools o are accepts none answers)
    (by_tools stage2 s2 x2 spec2 tools2 section are2 accepts2 misses) same = cc
one_settled words _ more _ _ _ (by_source stage s x spec source tools o are accepts none answers)
    (by_source stage2 s2 x2 spec2 source2 tools2 p are2 accepts2 none2 answers2) same =
    let specs : spec ≡ spec2 = cc in
    let sources : source ≡ source2 = cc in
    let stage_is = same_stage words stage stage2 s x s2 x2 are are2 in
    let same_tools = one_acceptance spec2 tools tools2 (rw specs at accepts) accepts2 in
    (cc, one_answer spec2 tools2 accepts2 source2 stage2 o p (rw (stage_is, sources, same_tools) at answers) answers2)

-- a file that is told has these bytes alone
one_told : (told : Option (List ℕ)) (bytes others : List ℕ) → IsSome told → IsTold told bytes → IsTold told others → bytes ≡ others
one_told None bytes others some is is2 = cc
one_told (Some all) bytes others some is is2 = is ∙ sym is2

-- one file more at the end
pub hold_more : {contents : List ℕ → Option (List ℕ)} {names files : List (List ℕ)} (name bytes : List ℕ) → IsTold (contents name) bytes
    → Hold contents names files → Hold contents (names ++ name ∷ []) (files ++ bytes ∷ [])
hold_more name bytes is (no_files) = one_more name bytes [] [] is no_files
hold_more name bytes is (one_more first all names files its hold) = one_more first all _ _ its (hold_more name bytes is hold)

module _ (contents : List ℕ → Option (List ℕ)) (words : List (List ℕ)) (told : AreTold contents words) where
  -- files that the run reads before it has its answer
  reads_next : (before others files more : List (List ℕ)) (name bytes : List ℕ) (o : Outcome) → names_in words ≡ before ++ name ∷ others
      → Hold contents before files → Settles words (files ++ bytes ∷ more) o → Reads contents words name
  reads_next before others files more name bytes o named hold settles = record {
    before = before;
    others = others;
    files = files;
    named = named;
    hold = hold;
    unsettled = λ first rest are p fewer.
        let longer = ap (λ all. all ++ bytes ∷ more) are ∙ append_assoc first rest (bytes ∷ more) in
        nothing rest bytes more (one_settled words first _ _ p o fewer settles longer).0;
  }
    where
      nothing : (all : List (List ℕ)) (bytes : List ℕ) (more : List (List ℕ)) → all ++ bytes ∷ more ≡ [] → ⊥
      nothing [] bytes more same = cc
      nothing (first ∷ all) bytes more same = cc

  -- both answers are decided by the same files, those before and the ones to come
  same_answer : (before done these those names names2 others others2 : List (List ℕ)) (o p : Outcome) → names_in words ≡ before ++ (names ++ others)
      → names ++ others ≡ names2 ++ others2 → Hold contents before done → Hold contents names these → Hold contents names2 those
      → Settles words (done ++ these) o → Settles words (done ++ those) p → o ≡ p
  same_answer before done _ those _ names2 others others2 o p named same hold (no_files) hold2 settles settles2 =
      (one_settled words (done ++ []) those _ o p settles settles2 (ap (λ all. all ++ those) (sym (append-nil done)))).1
  same_answer before done these _ names _ others others2 o p named same hold hold1 (no_files) settles settles2 =
      sym (one_settled words (done ++ []) these _ p o settles2 settles (ap (λ all. all ++ these) (sym (append-nil done)))).1
  same_answer before done _ _ _ _ others others2 o p named same hold (one_more name x names these is rest) (one_more name2 y names2 those is2 rest2)
      settles settles2 =
      let name_is : name2 ≡ name = cc in
      let next : names ++ others ≡ names2 ++ others2 = cc in
      let some = told name (reads_next before (names ++ others) done these name x o named hold settles) in
      let bytes : x ≡ y = one_told (contents name) x y some is (rw name_is at is2) in
      same_answer (before ++ name ∷ []) (done ++ x ∷ []) these those names names2 others others2 o p
      (named ∙ sym (append_assoc before (name ∷ []) (names ++ others))) next (hold_more name x is hold) rest rest2
      (subst (λ files. Settles words files o) (sym (append_assoc done (x ∷ []) these)) settles)
      (subst (λ files. Settles words files p) (ap (λ z. done ++ z ∷ those) (sym bytes) ∙ sym (append_assoc done (x ∷ []) those)) settles2)

-- a run has one answer to give
pub one_outcome : (contents : List ℕ → Option (List ℕ)) (words : List (List ℕ)) (o p : Outcome) → AreTold contents words
    → Wanted contents words o → Wanted contents words p → o ≡ p
one_outcome contents words o p told a b =
    same_answer contents words told [] [] a.files b.files a.names b.names a.others b.others o p a.named (sym a.named ∙ b.named)
    no_files a.hold b.hold a.settles b.settles
