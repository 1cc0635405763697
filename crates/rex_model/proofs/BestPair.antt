-- The best pair, by the texts of the body one after the other.
use Rattle.std.proofs.Common.{◌≡◌, ℕ, ◌+◌, ◌-◌, ◌<◌, ◌≤◌, Bool, true, false, List, length, take, drop, Option, Some, None, nat_lt, refl, sym, inl, inr, subst, arith, length-drop, length-take, ap, []}
use Rattle.std.proofs.lemmas.Bool.{cases_eq, cases_lt, ltb-false, ltb-true}
use Rattle.ck_base.specs.BitSet.{BitSet}
use Rattle.rex_model.specs.Language.{Re, bytes, Language}
use Rattle.rex_model.specs.within.Longest.{IsLongest, IsLongestOrEmpty}
use Rattle.rex_model.specs.within.Pairs.{IsPair, IsAtMost, IsBestUpTo, better_of, plain_of}
use Rattle.rex_model.specs.declared.pairs.Pair.{Pair}
use Rattle.rex_model.proofs.LongestBySets.{Searching}

module _ (body context : Re) (text : List ℕ) where
  pub record Pairing (size i : ℕ) (from to first second : BitSet) (context_size : ℕ) (best : Option Pair) : Type 0 where
    pub found : Option ℕ
    pub searching : Searching body text size i from to found
    pub best_is : IsBestUpTo body context text i best
    pub first_size : first.size ≡ context_size
    pub second_size : second.size ≡ context_size

  pub best_same : (i j : ℕ) (best : Option Pair) → i ≤ j → ((n m : ℕ) → i < n → n ≤ j → IsPair body context text n m → ⊥) → IsBestUpTo body context text i best → IsBestUpTo body context text j best
  best_same i j None less none before = λ n m below pair. elim (cases_lt i n) [
    | inl large ↦ none n m large below pair
    | inr small ↦ before n m small pair
  ]
  best_same i j (Some b) less none (pair_b, within, best) = (
    pair_b,
    omega arith,
    λ n m below pair. elim (cases_lt i n) [
      | inl large ↦ absurd (none n m large below pair)
      | inr small ↦ best n m small pair
    ],
  )

  module _ (i : ℕ) (inside : i < length text) where
    -- pairs whose text has i + 1 bytes
    end_of : (k : Option ℕ) → IsLongestOrEmpty context (drop (i + 1) text) k → (n m : ℕ) → n ≡ i + 1 → IsPair body context text n m → (j : ℕ) × (k ≡ Some j) × (m ≤ i + 1 + j)
    end_of None none n m at pair =
        let within = pair.within in
        absurd (none (m - n) (omega (arith, length-drop (i + 1) text)) (subst (λ x. Language context (take (m - n) (drop x text))) at pair.behind))
    end_of (Some j) (below, word, longest) n m at pair =
        let within = pair.within in
        let fits = pair.fits in
        let less = longest (m - n) (omega (arith, length-drop (i + 1) text)) (subst (λ x. Language context (take (m - n) (drop x text))) at pair.behind) in
        (j, refl, omega arith)

    pair_here : (k : ℕ) → Language body (take (i + 1) text) → k ≤ length (drop (i + 1) text) → Language context (take k (drop (i + 1) text)) → IsPair body context text (i + 1) (i + 1 + k)
    pair_here k front below word =
        let rest : i + 1 + k - (i + 1) ≡ k = omega arith in
        record {
          some = omega arith;
          fits = omega arith;
          within = omega (arith, length-drop (i + 1) text);
          front = front;
          behind = subst (λ x. Language context (take x (drop (i + 1) text))) (sym rest) word;
        }

    pub best_more : (best : Option Pair) (k : Option ℕ) → IsBestUpTo body context text i best → Language body (take (i + 1) text) → IsLongestOrEmpty context (drop (i + 1) text) k
        → IsBestUpTo body context text (i + 1) (better_of best (i + 1) k)
    best_more best None before front none = best_same i (i + 1) best (omega arith) (λ n m large below pair.
        let (j, is, less) = end_of None none n m (omega arith) pair in (cc)) before
    best_more None (Some k) before front (below, word, longest) = (
      pair_here k front below word,
      omega arith,
      λ n m small pair. elim (cases_eq n (i + 1)) [
        | inl here ↦
            let (j, is, less) = end_of (Some k) (below, word, longest) n m here pair in
            let same : k ≡ j = (cc) in
            elim (cases_eq m (i + 1 + k)) [ inl equal ↦ inr (equal, omega arith) | inr other ↦ inl (omega arith) ]
        | inr early ↦ absurd (before n m (omega arith) pair)
      ],
    )
    best_more (Some b) (Some k) (pair_b, at, best) front (below, word, longest) = by_case (nat_lt (i + 1 + k) b.whole) refl
      where
        here : (n m : ℕ) → n ≡ i + 1 → IsPair body context text n m → m ≤ i + 1 + k
        here n m is pair =
            let (j, e, less) = end_of (Some k) (below, word, longest) n m is pair in
            let same : k ≡ j = (cc) in
            omega arith

        at_end : (n m : ℕ) → n ≤ i + 1 → m ≤ i + 1 + k → IsAtMost n m (i + 1) (i + 1 + k)
        at_end n m small below = elim (cases_eq m (i + 1 + k)) [ inl equal ↦ inr (equal, small) | inr other ↦ inl (omega arith) ]

        by_case : (t : Bool) → t ≡ nat_lt (i + 1 + k) b.whole → IsBestUpTo body context text (i + 1) (better_of (Some b) (i + 1) (Some k))
        by_case true e = let less_than : i + 1 + k < b.whole = ltb-true (i + 1 + k) b.whole (sym e) in rw (← e) (
          pair_b,
          omega arith,
          λ n m small pair. elim (cases_eq n (i + 1)) [
            | inl is ↦ let less = here n m is pair in inl (omega arith)
            | inr early ↦ best n m (omega arith) pair
          ],
        )
        by_case false e = let at_least : b.whole ≤ i + 1 + k = ltb-false (i + 1 + k) b.whole (sym e) in rw (← e) (
          pair_here k front below word,
          omega arith,
          λ n m small pair. elim (cases_eq n (i + 1)) [
            | inl is ↦ let less = here n m is pair in elim (cases_eq m (i + 1 + k)) [ inl equal ↦ inr (equal, omega arith) | inr other ↦ inl (omega arith) ]
            | inr early ↦ elim (best n m (omega arith) pair) [ inl less ↦ at_end n m (omega arith) (omega arith) | inr same ↦ at_end n m (omega arith) (let x = same.0 in omega arith) ]
          ],
        )

-- where nothing has to follow, the longest text makes the best pair
pub plain_pair : (body : Re) (text : List ℕ) (o : Option ℕ) → IsLongest body text o → IsBestUpTo body (bytes []) text (length text) (plain_of o)
plain_pair body text None none = λ n m below pair. none n pair.some below pair.front
plain_pair body text (Some k) longest =
    let zero_left : k - k ≡ 0 = omega arith in (
      record {
        some = longest.some;
        fits = omega arith;
        within = longest.within;
        front = longest.word;
        behind = rw zero_left refl;
      },
      longest.within,
      λ n m below pair.
          let less = longest.longest n below pair.front in
          let fits = pair.fits in
          let within = pair.within in
          let none_behind = ap length pair.behind in
          let same : m ≡ n = omega (arith, none_behind, length-take (m - n) (drop n text), length-drop n text) in
          elim (cases_eq n k) [ inl equal ↦ inr (omega arith, omega arith) | inr other ↦ inl (omega arith) ],
    )
