-- The answers of a parse exclude one another, and it can't be that there is none.
use Rattle.std.proofs.Common.{◌≡◌, ℕ, ◌+◌, ◌<◌, inl, inr, List, [], ◌∷◌, ◌++◌, length, refl, sym, ap, ap₂, ◌∙◌, subst, append_assoc, arith}
use Rattle.std.proofs.lemmas.Bool.{cases_lt}
use Rattle.std.proofs.lemmas.List.{append-nil}
use Rattle.cfg_model.specs.Cfg.{Cfg, IsGrammar}
use Rattle.cfg_model.specs.Derivation.{Forest, Derivation, IsViable}
use Rattle.cfg_model.specs.Sets.{AllProductive}
use Rattle.cfg_model.proofs.Viable.{viable_front, sentence_viable, nothing_viable}
use Rattle.parse_driver.specs.Parse.{IsParsed, IsFirstWrong, a_token, the_end, IsBadToken}
use Rattle.parse_driver.specs.Stream.{Ending, finished, bad_at, terminal_of, terminals_of}
use Rattle.parse_driver.specs.declared.step.Step.{Step}
use Rattle.parse_driver.specs.declared.tokens.TokenRef.{TokenRef}
use Rattle.parse_driver.specs.within.LlStack.{steps_of}
use Rattle.parse_driver.proofs.Labels.{terminals_beside, plain_sentence, labelled_sentence, steps_in_postorder}

-- of two cuts of a list the one that comes first lies in front of the other
in_front : (a b c d : List TokenRef) (t u : TokenRef) → a ++ (t ∷ c) ≡ b ++ (u ∷ d) → length a < length b
    → (more : List TokenRef) × (b ≡ (a ++ (t ∷ [])) ++ more)
in_front [] [] c d t u same less = absurd (omega (arith, less))
in_front [] (x ∷ b) c d t u same less = let first : x ≡ t = cc in (b, ap (λ z. z ∷ b) first)
in_front (y ∷ a) [] c d t u same less = absurd (omega (arith, less))
in_front (y ∷ a) (x ∷ b) c d t u same less =
    let first : x ≡ y = cc in
    let others : a ++ (t ∷ c) ≡ b ++ (u ∷ d) = cc in
    let (more, is) = in_front a b c d t u others (omega (arith, less)) in
    (more, ap₂ (λ z l. z ∷ l) first is)

at_one_place : (a b c d : List TokenRef) (t u : TokenRef) → a ++ (t ∷ c) ≡ b ++ (u ∷ d) → length a ≡ length b → t ≡ u
at_one_place [] [] c d t u same len = cc
at_one_place [] (x ∷ b) c d t u same len = absurd (omega (arith, len))
at_one_place (y ∷ a) [] c d t u same len = absurd (omega (arith, len))
at_one_place (y ∷ a) (x ∷ b) c d t u same len =
    let others : a ++ (t ∷ c) ≡ b ++ (u ∷ d) = cc in at_one_place a b c d t u others (omega (arith, len))

with_next : (before after : List TokenRef) (t : TokenRef) → before ++ (t ∷ after) ≡ (before ++ (t ∷ [])) ++ after
with_next before after t = sym (append_assoc before (t ∷ []) after)

module _ (g : Cfg) (tokens : List TokenRef) (ending : Ending) where
  front_viable : (a b : List TokenRef) → IsViable g (terminals_of (a ++ b)) → IsViable g (terminals_of a)
  front_viable a b viable =
      viable_front g (terminals_of a) (terminals_of b) (subst (IsViable g) (terminals_beside a b) viable)

  -- a list that is viable has no token that isn't
  none_wrong : (before after : List TokenRef) (t : TokenRef) → tokens ≡ before ++ (t ∷ after)
      → (IsViable g (terminals_of (before ++ (t ∷ []))) → ⊥) → IsViable g (terminals_of tokens) → ⊥
  none_wrong before after t are wrong viable =
      wrong (front_viable (before ++ (t ∷ [])) after (subst (λ l. IsViable g (terminals_of l)) (are ∙ with_next before after t) viable))

  -- there is one first wrong token
  pub one_wrong : (k j at place : ℕ) → IsFirstWrong g tokens ending k at → IsFirstWrong g tokens ending j place → (k ≡ j) × (at ≡ place)
  one_wrong _ _ _ _ (a_token a c t are viable wrong) (a_token b d u are2 viable2 wrong2) = elim (cases_lt (length a) (length b)) [
    | inl less ↦ (
        let (more, is) = in_front a b c d t u (sym are ∙ are2) less in
        absurd (wrong (front_viable (a ++ (t ∷ [])) more (subst (λ l. IsViable g (terminals_of l)) is viable2))))
    | inr not_less ↦ elim (cases_lt (length b) (length a)) [
      | inl less ↦ (
          let (more, is) = in_front b a d c u t (sym are2 ∙ are) less in
          absurd (wrong2 (front_viable (b ++ (u ∷ [])) more (subst (λ l. IsViable g (terminals_of l)) is viable))))
      | inr also ↦ (
        omega (arith, not_less, also),
        ap (λ x. x.from) (at_one_place a b c d t u (sym are ∙ are2) (omega (arith, not_less, also))),
      )
    ]
  ]
  one_wrong _ _ _ _ (a_token a c t are viable wrong) (the_end place ended all_viable none) = absurd (none_wrong a c t are wrong all_viable)
  one_wrong _ _ _ _ (the_end place ended all_viable none) (a_token a c t are viable wrong) = absurd (none_wrong a c t are wrong all_viable)
  one_wrong _ _ _ _ (the_end place ended viable none) (the_end place2 ended2 viable2 none2) =
      let same : finished place ≡ finished place2 = sym ended ∙ ended2 in (refl, cc)

  pub wrong_not_bad : (k at place : ℕ) → IsFirstWrong g tokens ending k at → IsBadToken g tokens ending place → ⊥
  wrong_not_bad _ _ place (a_token a c t are viable wrong) bad = none_wrong a c t are wrong bad.viable
  wrong_not_bad _ _ place (the_end at ended viable none) bad = let same : finished at ≡ bad_at place = sym ended ∙ bad.ended in cc

  pub wrong_not_derived : (k at : ℕ) (f : Forest TokenRef) → IsFirstWrong g tokens ending k at → Derivation terminal_of g tokens f → ⊥
  wrong_not_derived _ _ f (a_token a c t are viable wrong) d =
      none_wrong a c t are wrong (sentence_viable g (terminals_of tokens) (plain_sentence g tokens f d))
  wrong_not_derived _ _ f (the_end at ended viable none) d = none (plain_sentence g tokens f d)

  pub wrong_not_parsed : (k at : ℕ) (steps : List Step) → IsParsed g tokens ending steps → IsFirstWrong g tokens ending k at → ⊥
  wrong_not_parsed k at steps parsed wrong = wrong_not_derived k at parsed.forest wrong parsed.derivation

  pub bad_not_parsed : (place : ℕ) (steps : List Step) → IsParsed g tokens ending steps → IsBadToken g tokens ending place → ⊥
  bad_not_parsed place steps parsed bad = let same : finished parsed.place ≡ bad_at place = sym parsed.ended ∙ bad.ended in cc

  pub one_bad : (at place : ℕ) → IsBadToken g tokens ending at → IsBadToken g tokens ending place → at ≡ place
  one_bad at place bad bad2 = let same : bad_at at ≡ bad_at place = sym bad.ended ∙ bad2.ended in cc

  -- where no token is the first wrong one it can't be that the list isn't viable
  pub viable_all : ((k at : ℕ) → IsFirstWrong g tokens ending k at → ⊥) → (before rest : List TokenRef) → tokens ≡ before ++ rest
      → IsViable g (terminals_of before) → (IsViable g (terminals_of tokens) → ⊥) → ⊥
  viable_all none_is before [] are viable not =
      not (subst (λ l. IsViable g (terminals_of l)) (sym (are ∙ append-nil before)) viable)
  viable_all none_is before (t ∷ rest) are viable not = none_is (length before + 1) t.from (a_token before rest t are viable
      (λ next. viable_all none_is (before ++ (t ∷ [])) rest (are ∙ with_next before rest t) next not))

-- a sentence has the steps of a derivation of its tokens
parsed_sentence : (g : Cfg) (tokens : List TokenRef) (place : ℕ) → ((steps : List Step) → IsParsed g tokens (finished place) steps → ⊥)
    → (f : Forest TokenRef) × Derivation terminal_of g tokens f → ⊥
parsed_sentence g tokens place none (f, d) =
    none (steps_of f) (record { place = place; ended = refl; forest = f; derivation = d; in_postorder = steps_in_postorder f })

-- one of the answers holds
pub some_parse : (g : Cfg) → IsGrammar g → AllProductive g → (tokens : List TokenRef) (ending : Ending)
    → ((steps : List Step) → IsParsed g tokens ending steps → ⊥) → ((k at : ℕ) → IsFirstWrong g tokens ending k at → ⊥)
    → ((place : ℕ) → IsBadToken g tokens ending place → ⊥) → ⊥
some_parse g ok all tokens ending none none_wrong_is none_bad =
    viable_all g tokens ending none_wrong_is [] tokens refl (nothing_viable g ok all) (by ending refl)
  where
    by : (e : Ending) → ending ≡ e → IsViable g (terminals_of tokens) → ⊥
    by (finished place) is viable = none_wrong_is (length tokens + 1) place (the_end place is viable
        (λ sentence. parsed_sentence g tokens place (subst (λ x. (steps : List Step) → IsParsed g tokens x steps → ⊥) is none)
        (labelled_sentence g tokens sentence)))
    by (bad_at place) is viable = none_bad place (record { ended = is; viable = viable })
