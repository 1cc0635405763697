-- Steps that give something or fail: each in one way, and so do two of them, one after the other.
use Rattle.std.proofs.Common.{◌≡◌, ℕ, inl, inr, List, refl, sym, ap, ap₂, ◌∙◌, subst, Result, Ok, IfSome, Err}
use Rattle.std.specs.Result.{IsErrAnd}
use Rattle.std.specs.Prelude.{Vec}
use Rattle.std.specs.Global.{Global}
use Rattle.ck_base.specs.Found.{HasNo}
use Rattle.ck_base.specs.declared.refusal.Refusal.{Refusal}
use Rattle.ck_base.specs.declared.refusal.Refusal.TheVariants.{Usage}
use Rattle.ck_chain.specs.InOrder.{Both, Either, Printed, told, failed}
use Rattle.ck_chain.specs.Outcome.{Outcome, output, refused}
use Rattle.ck_chain.specs.Promise.{Refuses, answer_in}
use Rattle.ck_chain.specs.declared.refused.Refused.{Refused}
use Rattle.ck_chain.specs.declared.refused.Refused.TheVariants as why

-- a step gives one thing, or fails with one refusal; not both, and it can't be neither
pub record IsStep {A : Type 0} (gives : A → Type 0) (fails : Refusal → Type 0) : Type 0 where
  pub one_gift : (a b : A) → gives a → gives b → a ≡ b
  pub one_failure : (r s : Refusal) → fails r → fails s → r ≡ s
  pub not_both : (a : A) (r : Refusal) → gives a → fails r → ⊥
  pub some : HasNo gives → HasNo fails → ⊥

-- a test passes on what it is given, where it holds
abbrev pub Passes : {A : Type 0} → A → Type 0 → A → Type 0
Passes x holds a = (a ≡ x) × holds

pub test : {A : Type 0} (x : A) (holds : Type 0) (fails : Refusal → Type 0) → ((r s : Refusal) → fails r → fails s → r ≡ s)
    → ((r : Refusal) → holds → fails r → ⊥) → ((holds → ⊥) → HasNo fails → ⊥) → IsStep (Passes x holds) fails
test x holds fails one not_both some = record {
  one_gift = λ a b p q. p.0 ∙ sym q.0;
  one_failure = one;
  not_both = λ a r p lost. not_both r p.1 lost;
  some = λ none no_failure. some (λ is. none x (refl, is)) no_failure;
}

module _ {A B : Type 0} (gives : A → Type 0) (fails : Refusal → Type 0) (more : A → B → Type 0) (failing : A → Refusal → Type 0)
    (first : IsStep gives fails) (second : (a : A) → gives a → IsStep (more a) (failing a)) where
  one_failure : (r s : Refusal) → Either gives fails failing r → Either gives fails failing s → r ≡ s
  one_failure r s (inl lost) (inl lost2) = first.one_failure r s lost lost2
  one_failure r s (inl lost) (inr (b, given, lost2)) = absurd (first.not_both b r given lost)
  one_failure r s (inr (a, given, lost)) (inl lost2) = absurd (first.not_both a s given lost2)
  one_failure r s (inr (a, given, lost)) (inr (b, given2, lost2)) =
      let same = first.one_gift a b given given2 in
      (second b given2).one_failure r s (subst (λ x. failing x r) same lost) lost2

  not_both : (both : A × B) (r : Refusal) → Both gives more both → Either gives fails failing r → ⊥
  not_both both r given (inl lost) = first.not_both both.0 r given.0 lost
  not_both both r given (inr (b, given2, lost)) =
      let same = first.one_gift b both.0 given2 given.0 in
      (second both.0 given.0).not_both both.1 r given.1 (subst (λ x. failing x r) same lost)

  one_gift : (a b : A) (c d : B) → gives a → more a c → gives b → more b d → (a ≡ b) × (c ≡ d)
  one_gift a b c d given given_more given2 given_more2 =
      let same = first.one_gift a b given given2 in
      (same, (second b given2).one_gift c d (subst (λ x. more x c) same given_more) given_more2)

  pub then : IsStep (Both gives more) (Either gives fails failing)
  then = record {
    one_gift = λ a b p q. let (same, others) = one_gift a.0 b.0 a.1 b.1 p.0 p.1 q.0 q.1 in ap₂ (λ x y. (x, y)) same others;
    one_failure = one_failure;
    not_both = not_both;
    some = λ none no_failure. first.some
        (λ a given. (second a given).some (λ b given_more. none (a, b) (given, given_more)) (λ r lost. no_failure r (inr (a, given, lost))))
        (λ r lost. no_failure r (inl lost));
  }

module _ {A : Type 0} (gives : A → Type 0) (fails : Refusal → Type 0) (text : A → List ℕ) where
  -- a step in print is one answer
  pub one_printed : IsStep gives fails → (o p : Outcome) → Printed gives fails text o → Printed gives fails text p → o ≡ p
  one_printed step _ _ (told a given) (told b given2) = ap (λ x. output (text x)) (step.one_gift a b given given2)
  one_printed step _ _ (told a given) (failed r refuses) = absurd (step.not_both a r given refuses)
  one_printed step _ _ (failed r refuses) (told a given) = absurd (step.not_both a r given refuses)
  one_printed step _ _ (failed r refuses) (failed s refuses2) = ap refused (step.one_failure r s refuses refuses2)

  -- and it can't be that there is none
  pub some_printed : IsStep gives fails → HasNo (Printed gives fails text) → ⊥
  some_printed step none = step.some (λ a given. none _ (told a given)) (λ r refuses. none _ (failed r refuses))

  -- wrong words are no answer of a step that never fails with them
  pub never_printed : (fails Usage → ⊥) → (o : Outcome) → Printed gives fails text o → o ≡ refused Usage → ⊥
  never_printed never _ (told a given) is = cc
  never_printed never _ (failed r refuses) is = let same : r ≡ Usage = cc in never (subst fails same refuses)

  -- where the program refuses, the answer is the refusal
  pub refused_printed : (refused : Refused) → Refuses fails refused → IfSome (answer_in (Err refused)) (Printed gives fails text)
  refused_printed (why.Refusal r) refuses = failed r refuses
  refused_printed why.NoMemory refuses = tt

  -- and so it is for a refusal that `?` passes on
  pub refused_passed : (r : Result (Vec ℕ Global) Refused) (e : Refused) → IsErrAnd r (λ f. f ≡ e) → Refuses fails e
      → IfSome (answer_in r) (Printed gives fails text)
  refused_passed (Ok x) e is refuses = absurd is
  refused_passed (Err f) e is refuses = refused_printed f (subst (Refuses fails) (sym is) refuses)
