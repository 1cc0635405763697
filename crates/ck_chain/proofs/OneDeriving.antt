-- Deriving a source by a grammar with a table is a step: it gives one derivation, or fails with one refusal.
use Rattle.std.proofs.Common.{◌≡◌, ℕ, List, length, map, refl, sym, ap, ap₂, ◌∙◌, subst, arith}
use Rattle.ck_base.specs.Found.{HasNo}
use Rattle.ck_base.specs.declared.refusal.Refusal.{Refusal}
use Rattle.ck_base.specs.declared.refusal.Refusal.TheVariants as refusal
use Rattle.cfg_model.specs.Cfg.{IsGrammar}
use Rattle.cfg_model.specs.Derivation.{Forest, Derivation}
use Rattle.cfg_model.specs.Sets.{AllProductive}
use Rattle.cfg_model.specs.declared.named.NamedGrammar.{NamedGrammar}
use Rattle.rex_model.specs.Place.{line_at, column_at}
use Rattle.rex_model.specs.Rules.{Rule, Rules}
use Rattle.rex_model.specs.Run.{Token}
use Rattle.rex_model.specs.Run as run
use Rattle.rex_model.proofs.OneRun.{one_run}
use Rattle.rex_model.proofs.SomeRun.{some_run}
use Rattle.parse_driver.specs.Parse.{IsFirstWrong, IsBadToken}
use Rattle.parse_driver.specs.Stream.{Ending, finished, bad_at, terminal_of}
use Rattle.parse_driver.specs.declared.tokens.TokenRef.{TokenRef}
use Rattle.parse_driver.proofs.LrOneDerivation as lr
use Rattle.parse_driver.proofs.OneDerivation as ll
use Rattle.parse_driver.proofs.OneParse.{one_wrong, wrong_not_bad, wrong_not_derived, some_parse}
use Rattle.ck_chain.specs.Deriving.{Comes, ref_of, ending_at, Derived, Derives, DerivingFails, syntax_error, bad_token}
use Rattle.ck_chain.specs.GrammarAccepts.{HasTable, for_ll, for_lr}
use Rattle.ck_chain.proofs.InOrder.{IsStep}

-- the tokens of a source and their ending are determined
pub one_stream : (rules : List Rule) (source : List ℕ) (ks ls : List TokenRef) (e f : Ending)
    → Comes rules source 0 0 ks e → Comes rules source 0 0 ls f
    → (ks ≡ ls) × (e ≡ f)
one_stream rules source ks ls e f a b =
    let (tokens, endings) = one_run rules source 0 0 a.scanned b.scanned a.ended b.ended a.run b.run in
    (a.tokens_are ∙ ap (map ref_of) tokens ∙ sym b.tokens_are, a.ending_is ∙ ap (ending_at (length source)) endings ∙ sym b.ending_is)

pub one_forest : (g : NamedGrammar) → HasTable g → (tokens : List TokenRef) (f h : Forest TokenRef)
    → Derivation terminal_of g.grammar tokens f
    → Derivation terminal_of g.grammar tokens h → f ≡ h
one_forest g (for_ll is has) tokens f h a b = ll.one_derivation g.grammar has.no_conflict tokens f h a b
one_forest g (for_lr is has) tokens f h a b = lr.one_derivation g.grammar has.accepted.no_conflict tokens f h a b

in_range : (g : NamedGrammar) → HasTable g → IsGrammar g.grammar
in_range g (for_ll is has) = has.grammar
in_range g (for_lr is has) = has.accepted.grammar

productive : (g : NamedGrammar) → HasTable g → AllProductive g.grammar
productive g (for_ll is has) = has.productive
productive g (for_lr is has) = has.accepted.productive

module _ (rules : Rules) (g : NamedGrammar) (has : HasTable g) (source : List ℕ) where
  -- the answers exclude one another, for one list of tokens
  by_stream : (ks ls : List TokenRef) (e f : Ending) → Comes rules.list source 0 0 ks e → Comes rules.list source 0 0 ls f
      → (P : List TokenRef → Ending → Type 0) → P ls f → P ks e
  by_stream ks ls e f a b P p =
      let (tokens, endings) = one_stream rules.list source ks ls e f a b in
      subst (λ l. P l e) (sym tokens) (subst (P ls) (sym endings) p)

  one_derivation : (a b : Derived) → Derives rules g source a → Derives rules g source b → a ≡ b
  one_derivation a b its its2 =
      let (tokens, endings) = one_stream rules.list source a.tokens b.tokens (finished its.place) (finished its2.place) its.comes its2.comes in
      let forests = one_forest g has b.tokens a.forest b.forest (subst (λ l. Derivation terminal_of g.grammar l a.forest) tokens its.derivation) its2.derivation in
      ap₂ (λ l f. record { tokens = l; forest = f }) tokens forests

  one_failure : (r s : Refusal) → DerivingFails rules g source r → DerivingFails rules g source s → r ≡ s
  one_failure _ _ (syntax_error ks e k at a wrong) (syntax_error ls f j place b wrong2) =
      let same = one_wrong g.grammar ks e k j at place wrong (by_stream ks ls e f a b (λ l x. IsFirstWrong g.grammar l x j place) wrong2) in
      ap (λ n. refusal.SyntaxError (line_at source n) (column_at source n)) same.1
  one_failure _ _ (syntax_error ks e k at a wrong) (bad_token ls f place b bad) =
      absurd (wrong_not_bad g.grammar ks e k at place wrong (by_stream ks ls e f a b (λ l x. IsBadToken g.grammar l x place) bad))
  one_failure _ _ (bad_token ks e at a bad) (syntax_error ls f j place b wrong) =
      absurd (wrong_not_bad g.grammar ls f j place at wrong (by_stream ls ks f e b a (λ l x. IsBadToken g.grammar l x at) bad))
  one_failure _ _ (bad_token ks e at a bad) (bad_token ls f place b bad2) =
      let other = by_stream ks ls e f a b (λ l x. IsBadToken g.grammar l x place) bad2 in
      let ends : bad_at at ≡ bad_at place = sym bad.ended ∙ other.ended in
      let same : at ≡ place = cc in
      ap (λ n. refusal.BadToken (line_at source n) (column_at source n)) same

  not_both : (d : Derived) (r : Refusal) → Derives rules g source d → DerivingFails rules g source r → ⊥
  not_both d _ its (syntax_error ks e k at a wrong) =
      wrong_not_derived g.grammar ks e k at d.forest wrong
      (by_stream ks d.tokens e (finished its.place) a its.comes (λ l x. Derivation terminal_of g.grammar l d.forest) its.derivation)
  not_both d _ its (bad_token ks e at a bad) =
      let (tokens, endings) = one_stream rules.list source ks d.tokens e (finished its.place) a its.comes in
      let ends : bad_at at ≡ finished its.place = sym bad.ended ∙ endings in
      cc

  some_derivation : HasNo (Derives rules g source) → HasNo (DerivingFails rules g source) → ⊥
  some_derivation none no_failure = some_run rules.list source 0 0 (omega arith) (λ scanned found. by scanned found.0 found.1)
    where
      answer : (tokens : List TokenRef) (ending : Ending) → Comes rules.list source 0 0 tokens ending → ⊥
      answer tokens ending comes = some_parse g.grammar (in_range g has) (productive g has) tokens ending
          (λ steps parsed. none (record { tokens = tokens; forest = parsed.forest })
          (record { place = parsed.place; comes = subst (Comes rules.list source 0 0 tokens) parsed.ended comes; derivation = parsed.derivation }))
          (λ k at wrong. no_failure _ (syntax_error tokens ending k at comes wrong))
          (λ place bad. no_failure _ (bad_token tokens ending place comes bad))

      by : (scanned : List Token) (ended : run.Ending) → run.Tokens rules.list source 0 0 scanned ended → ⊥
      by scanned ended its = answer (map ref_of scanned) (ending_at (length source) ended)
          (record { scanned = scanned; ended = ended; run = its; tokens_are = refl; ending_is = refl })

  -- deriving is a step
  pub derive_step : IsStep (Derives rules g source) (DerivingFails rules g source)
  derive_step = record { one_gift = one_derivation; one_failure = one_failure; not_both = not_both; some = some_derivation }

-- it isn't refused as wrong words
pub deriving_never_usage : (rules : Rules) (g : NamedGrammar) (source : List ℕ) → DerivingFails rules g source refusal.Usage → ⊥
deriving_never_usage rules g source fails = by refusal.Usage fails refl
  where
    by : (r : Refusal) → DerivingFails rules g source r → r ≡ refusal.Usage → ⊥
    by _ (syntax_error ks e k at comes wrong) is = cc
    by _ (bad_token ks e at comes bad) is = cc
