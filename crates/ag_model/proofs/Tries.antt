-- What loops answer that look for a number with a property, or whether all have it.
use Rattle.std.proofs.Common.{◌≡◌, ℕ, ◌+◌, ◌<◌, ◌≤◌, ◌↔◌, inl, inr, Bool, true, false, IsTrue, List, length, map, Some, get_or, refl, sym, ◌∙◌, ap, subst, arith}
use Rattle.std.specs.Prelude.{slice_get, Contains}
use Rattle.std.proofs.lemmas.Bool.{cases_lt}
use Rattle.std.proofs.lemmas.List.{get_or_default, length-map}
use Rattle.std.proofs.lemmas.Option.{slice_get_within, same_Some}
use Rattle.ag_model.specs.Attribution.{PureEquation, equation_of}
use Rattle.ag_model.specs.declared.attribution.Equation.{Equation}
use Rattle.ag_model.specs.declared.plan.PlanStep.{PlanStep}
use Rattle.ag_model.specs.declared.plan.PlanStep.TheVariants.{Evaluate}

no_true : IsTrue false → ⊥
no_true is = let e : false ≡ true = is in cc

is_no : (b : Bool) → b ≡ false → IsTrue b → ⊥
is_no b is holds = no_true (sym is ∙ holds)

module _ (P : ℕ → Type 0) (n : ℕ) where
  -- the next one hasn't it either
  pub none_more : (b : Bool) → ((j : ℕ) → j < n → P j → ⊥) → (IsTrue b ↔ P n) → b ≡ false → (j : ℕ) → j < n + 1 → P j → ⊥
  none_more b none is fails j lt p = elim (cases_lt j n) [
    | inl below ↦ none j below p
    | inr ge ↦ let same : j ≡ n = omega (arith, lt, ge) in is_no b fails (is.1 (subst P same p))
  ]

  -- so none of them has it
  pub none_all : (end : ℕ) → end ≤ n → ((j : ℕ) → j < n → P j → ⊥) → IsTrue false ↔ ((j : ℕ) × (j < end) × P j)
  none_all end le none = ((λ fails. absurd (no_true fails)), (λ found. absurd (none found.0 (let lt = found.1 in omega (arith, le, lt)) found.2)))

  -- this one has it
  pub one_has : (end : ℕ) (b : Bool) → n < end → (IsTrue b ↔ P n) → b ≡ true → IsTrue true ↔ ((j : ℕ) × (j < end) × P j)
  one_has end b lt is holds = ((λ t. (n, lt, is.0 holds)), (λ found. refl))

  -- the next one has it too
  pub all_more : (b : Bool) → ((j : ℕ) → j < n → P j) → (IsTrue b ↔ P n) → b ≡ true → (j : ℕ) → j < n + 1 → P j
  all_more b all is holds j lt = elim (cases_lt j n) [
    | inl below ↦ all j below
    | inr ge ↦ let same : n ≡ j = omega (arith, lt, ge) in subst P same (is.0 holds)
  ]

  -- so all of them have it
  pub all_all : (end : ℕ) → end ≤ n → ((j : ℕ) → j < n → P j) → IsTrue true ↔ ((j : ℕ) → j < end → P j)
  all_all end le all = ((λ t j lt. all j (omega (arith, le, lt))), (λ all'. refl))

  -- this one hasn't it
  pub one_lacks : (end : ℕ) (b : Bool) → n < end → (IsTrue b ↔ P n) → b ≡ false → IsTrue false ↔ ((j : ℕ) → j < end → P j)
  one_lacks end b lt is fails = ((λ f. absurd (no_true f)), (λ all. absurd (is_no b fails (is.1 (all n lt)))))

-- a test of the first of two conditions, and of the second one
pub first_fails : (A C : Type 0) (b : Bool) → (IsTrue b ↔ A) → (C → A) → b ≡ false → IsTrue false ↔ C
first_fails A C b is needs fails = ((λ f. absurd (no_true f)), (λ c. absurd (is_no b fails (is.1 (needs c)))))

pub both_hold : (A B C : Type 0) (a b : Bool) → (IsTrue a ↔ A) → a ≡ true → (IsTrue b ↔ B) → (A → B → C) → (C → B) → IsTrue b ↔ C
both_hold A B C a b first holds second make needs = ((λ t. make (first.0 holds) (second.0 t)), (λ c. second.1 (needs c)))

-- a condition that speaks against it holds
pub refuted : (A C : Type 0) (b : Bool) → (IsTrue b ↔ A) → (C → A → ⊥) → b ≡ true → IsTrue false ↔ C
refuted A C b is against holds = ((λ f. absurd (no_true f)), (λ c. absurd (against c (is.0 holds))))

-- what holds of the elements, place by place, holds of what a list contains
pub of_elements : (Q : ℕ → Type 0) (xs : List ℕ) (b : Bool) → IsTrue b ↔ ((k : ℕ) → k < length xs → Q (get_or xs k 0))
    → IsTrue b ↔ ((a : ℕ) → Contains xs a → Q a)
of_elements Q xs b is = (
  (λ holds a has. let (k, lt, same) = has in subst Q (get_or_default xs k 0 a lt ∙ same) (is.0 holds k lt)),
  (λ all. is.1 (λ k lt. all (get_or xs k 0) (k, lt, get_or_default xs k (get_or xs k 0) 0 lt))),
)

-- a number is in a list of those that have a property
pub by_contents : (xs : List ℕ) (b : Bool) (a : ℕ) (Q : ℕ → Type 0) → ((a : ℕ) → Contains xs a ↔ Q a) → (IsTrue b ↔ Contains xs a) → IsTrue b ↔ Q a
by_contents xs b a Q of is = ((λ holds. (of a).0 (is.0 holds)), (λ q. is.1 ((of a).1 q)))

-- up to a number, and below the next one
pub most_of : (P : ℕ → Type 0) (most : ℕ) (b : Bool) → IsTrue b ↔ ((v : ℕ) × (v < most + 1) × P v) → IsTrue b ↔ ((v : ℕ) × (v ≤ most) × P v)
most_of P most b is = (
  (λ holds. let (v, lt, p) = is.0 holds in (v, omega (arith, lt), p)),
  (λ found. let le = found.1 in is.1 (found.0, omega (arith, le), found.2)),
)

-- a step that is read by its number
pub this_step : (Q : PlanStep → Type 0) (own steps : List PlanStep) (i : ℕ) (got st : PlanStep) (b : Bool) → steps ≡ own
    → slice_get steps i ≡ Some got → got ≡ st → (IsTrue b ↔ Q st) → IsTrue b ↔ ((s : PlanStep) → slice_get own i ≡ Some s → Q s)
this_step Q own steps i got st b same at is fits = (
  (λ holds s at_s. subst Q (same_Some st s (sym here ∙ at_s)) (fits.0 holds)),
  (λ all. fits.1 (all st here)),
)
  where
    here : slice_get own i ≡ Some st
    here = subst (λ xs. slice_get xs i ≡ Some st) same (at ∙ ap Some is)

pub all_steps : (Q : ℕ → PlanStep → Type 0) (own steps : List PlanStep) (n : ℕ) → steps ≡ own → length steps ≤ n
    → ((i : ℕ) → i < n → (st : PlanStep) → slice_get own i ≡ Some st → Q i st)
    → IsTrue true ↔ ((i : ℕ) (st : PlanStep) → slice_get own i ≡ Some st → Q i st)
all_steps Q own steps n same past all = (
  (λ t i st at. all i (let lt = slice_get_within own i st at in let many = ap length same in omega (arith, lt, many, past)) st at),
  (λ each. refl),
)

-- an equation that some step evaluates
pub by_some_step : (own steps : List PlanStep) (e : ℕ) (b : Bool) → steps ≡ own
    → (IsTrue b ↔ ((j : ℕ) × (j < length steps) × (slice_get steps j ≡ Some (Evaluate e))))
    → IsTrue b ↔ ((i : ℕ) × (slice_get own i ≡ Some (Evaluate e)))
by_some_step own steps e b same is = (
  (λ holds. let (j, lt, at) = is.0 holds in (j, subst (λ xs. slice_get xs j ≡ Some (Evaluate e)) same at)),
  (λ found.
      let at : slice_get steps found.0 ≡ Some (Evaluate e) = subst (λ xs. slice_get xs found.0 ≡ Some (Evaluate e)) (sym same) found.1 in
      is.1 (found.0, slice_get_within steps found.0 (Evaluate e) at, at)),
)

pub as_many : (es : List Equation) (own : List PureEquation) → map equation_of es ≡ own → length es ≡ length own
as_many es own same = sym (length-map es equation_of) ∙ ap length same

-- an element that hasn't the property
pub one_unlike : {X : Type 0} (Q : X → Type 0) (xs : List X) (n : ℕ) (d : X) (b : Bool) → n < length xs → (IsTrue b ↔ Q (get_or xs n d)) → b ≡ false
    → IsTrue false ↔ ((x : X) → Contains xs x → Q x)
one_unlike Q xs n d b lt is fails = (
  (λ f. absurd (no_true f)),
  (λ all. absurd (is_no b fails (is.1 (all (get_or xs n d) (n, lt, get_or_default xs n (get_or xs n d) d lt))))),
)
