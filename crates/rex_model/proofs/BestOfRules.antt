-- The best rule of a list, found rule by rule.
use Rattle.std.proofs.Common.{◌≡◌, ℕ, ◌+◌, ◌-◌, ◌<◌, ◌≤◌, IsTrue, Bool, true, false, nat_lt, List, length, take, drop, Option, Some, None, inl, inr, refl, sym, ◌∙◌, subst, arith, Bor}
use Rattle.std.specs.Prelude.{slice_get, if◌then◌else◌}
use Rattle.std.proofs.lemmas.Bool.{cases_eq, ltb-true, ltb-false}
use Rattle.std.proofs.lemmas.Option.{same_Some, slice_get_within}
use Rattle.ck_base.specs.BitSet.{Has}
use Rattle.rex_model.specs.Language.{Language}
use Rattle.rex_model.specs.Meaning.{meaning}
use Rattle.rex_model.specs.RuleMeaning.{context_of, rule_of}
use Rattle.rex_model.specs.Rules.{Rule, trailing}
use Rattle.rex_model.specs.Winner.{Candidate}
use Rattle.rex_model.specs.within.Best.{IsBest, longer_of}
use Rattle.rex_model.specs.within.Pairs.{IsPair, IsAtMost, IsBestUpTo, IsPairOfRule}
use Rattle.rex_model.specs.declared.pairs.Pair.{Pair}
use Rattle.rex_model.specs.declared.regex.Regex.{Regex}
use Rattle.rex_model.specs.declared.rules.ScanRule.{ScanRule}
use Rattle.rex_model.specs.declared.winner.Best.{Best}
use Rattle.rex_model.proofs.MeantRules.{contains_has}

-- the best pair of an active rule
pub pair_of_active : (rule : Rule) (state : ℕ) (rest : List ℕ) (best : Option Pair) → IsTrue (rule.active state)
    → IsBestUpTo rule.body (trailing rule.context) rest (length rest) best → IsPairOfRule rule state rest best
pair_of_active rule state rest None active none = λ _ n m pair.
    let fits = pair.fits in
    let within = pair.within in
    none n m (omega arith) pair
pair_of_active rule state rest (Some best) active is = (active, is)

-- the same for a rule of the program with this context
pub pair_with_context : (rule : ScanRule) (context : Option (Bor Regex)) (state : ℕ) (rest : List ℕ) (best : Option Pair)
    → rule.context ≡ context → Has rule.states state
    → IsBestUpTo (meaning rule.body.now) (trailing (context_of context)) rest (length rest) best
    → IsPairOfRule (rule_of rule) state rest best
pair_with_context rule context state rest best same active is =
    pair_of_active (rule_of rule) state rest best ((contains_has rule.states state).1 active)
    (subst (λ x. IsBestUpTo (meaning rule.body.now) (trailing (context_of x)) rest (length rest) best) (sym same) is)

module _ (rules : List Rule) (state : ℕ) (rest : List ℕ) where
  -- the best of the first n rules
  pub record IsBestOf (n : ℕ) (best : Best) : Type 0 where
    pub below : best.rule < n
    pub candidate : Candidate rules state rest best.rule best.pair.len best.pair.whole
    pub longest : (j k l : ℕ) → j < n → Candidate rules state rest j k l → l ≤ best.pair.whole
    pub first : (j k : ℕ) → j < n → Candidate rules state rest j k best.pair.whole → best.rule ≤ j
    pub greatest : (k : ℕ) → Candidate rules state rest best.rule k best.pair.whole → k ≤ best.pair.len

  abbrev pub IsBestBefore : ℕ → Option Best → Type 0
  IsBestBefore n None = (j k l : ℕ) → j < n → Candidate rules state rest j k l → ⊥
  IsBestBefore n (Some best) = IsBestOf n best

  module _ (i : ℕ) (rule : Rule) (is_rule : slice_get rules i ≡ Some rule) where
    pair_of_candidate : (n m : ℕ) → Candidate rules state rest i n m
        → IsTrue (rule.active state) × IsPair rule.body (trailing rule.context) rest n m
    pair_of_candidate n m c =
        let same : c.rule ≡ rule = same_Some c.rule rule (sym c.is_rule ∙ is_rule) in
        let pair : IsPair rule.body (trailing rule.context) rest n m = record {
          some = c.some;
          fits = c.fits;
          within = c.within;
          front = subst (λ (r : Rule). Language r.body (take n rest)) same c.body;
          behind = subst (λ (r : Rule). Language (trailing r.context) (take (m - n) (drop n rest))) same c.context;
        } in
        (subst (λ (r : Rule). IsTrue (r.active state)) same c.active, pair)

    candidate_of_pair : (n m : ℕ) → IsTrue (rule.active state) → IsPair rule.body (trailing rule.context) rest n m
        → Candidate rules state rest i n m
    candidate_of_pair n m active pair = record {
      rule = rule;
      is_rule = is_rule;
      active = active;
      some = pair.some;
      fits = pair.fits;
      within = pair.within;
      body = pair.front;
      context = pair.behind;
    }

    -- no candidate of the rule is better than its best pair
    at_most : (best : Pair) (k l : ℕ) → IsPairOfRule rule state rest (Some best) → Candidate rules state rest i k l
        → IsAtMost k l best.len best.whole
    at_most best k l (active, is_best) c =
        let pair = (pair_of_candidate k l c).1 in
        let fits = pair.fits in
        let within = pair.within in
        is_best.2 k l (omega arith) pair

    no_longer : (best : Pair) (k l : ℕ) → IsPairOfRule rule state rest (Some best) → Candidate rules state rest i k l → l ≤ best.whole
    no_longer best k l found c = elim (at_most best k l found c) [
      | inl less ↦ omega arith
      | inr equal ↦ let same = equal.0 in omega arith
    ]

    -- a rule without a pair has no candidate
    no_candidate : (k l : ℕ) → IsPairOfRule rule state rest None → Candidate rules state rest i k l → ⊥
    no_candidate k l none c = let (active, pair) = pair_of_candidate k l c in none active k l pair

    -- the rule is the best where the rules before have no candidate that ends as late
    becomes : (pair : Pair) → IsPairOfRule rule state rest (Some pair)
        → ((j k l : ℕ) → j < i → Candidate rules state rest j k l → l < pair.whole)
        → IsBestOf (i + 1) (record { rule = i; pair = pair })
    becomes pair found shorter = record {
      below = omega arith;
      candidate = candidate_of_pair pair.len pair.whole found.0 found.1.0;
      longest = λ j k l below c. elim (cases_eq j i) [
        | inl same ↦ no_longer pair k l found (subst (λ j. Candidate rules state rest j k l) same c)
        | inr other ↦ let less = shorter j k l (omega arith) c in omega arith
      ];
      first = λ j k below c. elim (cases_eq j i) [
        | inl same ↦ omega arith
        | inr other ↦ absurd (let less = shorter j k pair.whole (omega arith) c in omega arith)
      ];
      greatest = λ k c. elim (at_most pair k pair.whole found c) [ inl less ↦ absurd (omega arith) | inr equal ↦ equal.1 ];
    }

    -- the best so far stays the best where no candidate of the rule ends later
    stays : (best : Best) → IsBestOf i best → ((k l : ℕ) → Candidate rules state rest i k l → l ≤ best.pair.whole)
        → IsBestOf (i + 1) best
    stays best before shorter = record {
      below = let below = before.below in omega arith;
      candidate = before.candidate;
      longest = λ j k l below c. elim (cases_eq j i) [
        | inl same ↦ shorter k l (subst (λ j. Candidate rules state rest j k l) same c)
        | inr other ↦ before.longest j k l (omega arith) c
      ];
      first = λ j k below c. elim (cases_eq j i) [
        | inl same ↦ let was = before.below in omega arith
        | inr other ↦ before.first j k (omega arith) c
      ];
      greatest = before.greatest;
    }

    -- one rule more
    pub best_more : (best : Option Best) (found : Option Pair) → IsPairOfRule rule state rest found
        → IsBestBefore i best → IsBestBefore (i + 1) (longer_of best i found)
    best_more None None is before = λ j k l below c. elim (cases_eq j i) [
      | inl same ↦ no_candidate k l is (subst (λ j. Candidate rules state rest j k l) same c)
      | inr other ↦ before j k l (omega arith) c
    ]
    best_more None (Some pair) is before = becomes pair is (λ j k l below c. absurd (before j k l below c))
    best_more (Some best) None is before = stays best before (λ k l c. absurd (no_candidate k l is c))
    best_more (Some best) (Some pair) is before = longer (nat_lt best.pair.whole pair.whole) refl
      where
        longer : (less : Bool) → nat_lt best.pair.whole pair.whole ≡ less
            → IsBestBefore (i + 1) (if less then Some (record { rule = i; pair = pair }) else Some best)
        longer true less = becomes pair is (λ j k l below c.
            let shorter = before.longest j k l below c in
            let longer = ltb-true best.pair.whole pair.whole less in
            omega arith)
        longer false less = stays best before (λ k l c.
            let shorter = no_longer pair k l is c in
            let not_longer = ltb-false best.pair.whole pair.whole less in
            omega arith)

  -- the best of all rules wins
  pub best_of_all : (n : ℕ) (best : Option Best) → length rules ≤ n → IsBestBefore n best → IsBest rules state rest best
  best_of_all n None all before = λ i k m c.
      let below = slice_get_within rules i c.rule c.is_rule in
      before i k m (omega arith) c
  best_of_all n (Some best) all before = record {
    candidate = before.candidate;
    longest = λ j k l c.
        let below = slice_get_within rules j c.rule c.is_rule in
        before.longest j k l (omega arith) c;
    first = λ j k c.
        let below = slice_get_within rules j c.rule c.is_rule in
        before.first j k (omega arith) c;
    greatest = before.greatest;
  }
