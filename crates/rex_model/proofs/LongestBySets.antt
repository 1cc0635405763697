-- The longest word of a text, found by the sets of positions along it.
use Rattle.std.proofs.Common.{◌≡◌, ℕ, ◌+◌, ◌<◌, ◌≤◌, ◌↔◌, Bool, true, false, IsTrue, List, length, get_or, take, Option, Some, None, inl, inr, ◌∙◌, subst, arith}
use Rattle.std.proofs.lemmas.Bool.{cases_eq, cases_lt}
use Rattle.ck_base.specs.BitSet.{BitSet, Has, IsEmpty, Adds}
use Rattle.rex_model.specs.Language.{Re, Language}
use Rattle.rex_model.specs.within.Longest.{IsLongest}
use Rattle.rex_model.specs.Positions.{Moves, Ends}
use Rattle.rex_model.proofs.Comes.{Comes, position_before, position_after, ends_of_word, word_of_ends, none_longer}

module _ (r : Re) (text : List ℕ) where
  -- the longest word among the text's beginnings of at most i bytes
  pub record IsLongestUpTo (i n : ℕ) : Type 0 where
    pub some : 0 < n
    pub within : n ≤ i
    pub word : Language r (take n text)
    pub longest : (m : ℕ) → m ≤ i → Language r (take m text) → m ≤ n

  abbrev pub IsFoundUpTo : ℕ → Option ℕ → Type 0
  IsFoundUpTo i None = (m : ℕ) → 0 < m → m ≤ i → Language r (take m text) → ⊥
  IsFoundUpTo i (Some n) = IsLongestUpTo i n

  -- the first set has the positions that come next after i bytes, and the second is empty
  pub record Searching (size i : ℕ) (from to : BitSet) (found : Option ℕ) : Type 0 where
    pub from_size : from.size ≡ size
    pub to_size : to.size ≡ size
    pub places : (q : ℕ) → Has from q ↔ Comes r text i q
    pub cleared : IsEmpty to
    pub found_is : IsFoundUpTo i found

  -- a word of at most i + 1 bytes is that of i + 1 or has at most i
  up_to_more : (i : ℕ) (found : Option ℕ) → IsFoundUpTo i found → (Language r (take (i + 1) text) → ⊥)
      → IsFoundUpTo (i + 1) found
  up_to_more i None none here = λ m some within word. elim (cases_eq m (i + 1)) [
    | inl same ↦ here (subst (λ n. Language r (take n text)) same word)
    | inr other ↦ none m some (omega arith) word
  ]
  up_to_more i (Some n) found here = record {
    some = found.some;
    within = let below = found.within in omega arith;
    word = found.word;
    longest = λ m within word. elim (cases_eq m (i + 1)) [
      | inl same ↦ absurd (here (subst (λ n. Language r (take n text)) same word))
      | inr other ↦ found.longest m (omega arith) word
    ];
  }

  up_to_here : (i : ℕ) → Language r (take (i + 1) text) → IsLongestUpTo (i + 1) (i + 1)
  up_to_here i word = record { some = omega arith; within = omega arith; word = word; longest = λ m within also. within }

  -- no word is longer than i bytes
  longest_of_all : (i : ℕ) (found : Option ℕ) → IsFoundUpTo i found → i ≤ length text
      → ((m : ℕ) → i < m → m ≤ length text → Language r (take m text) → ⊥) → IsLongest r text found
  longest_of_all i None none within longer = λ m some below word. elim (cases_lt i m) [
    | inl large ↦ longer m large below word
    | inr small ↦ none m some small word
  ]
  longest_of_all i (Some n) found within longer = record {
    some = found.some;
    within = let below = found.within in omega arith;
    word = found.word;
    longest = λ m below word. elim (cases_lt i m) [
      | inl large ↦ absurd (longer m large below word)
      | inr small ↦ found.longest m small word
    ];
  }

  module _ (size i : ℕ) (from to mid next : BitSet) (found : Option ℕ) (ended : Bool)
      (before : Searching size i from to found) (within : i < length text)
      (moves : Adds to mid (Moves r 0 from (get_or text i 0))) (ends : IsTrue ended ↔ Ends r 0 from (get_or text i 0))
      (same_size : next.size ≡ from.size) (empty : IsEmpty next) where
    -- the moves lead to the positions that come next after one more byte
    comes_of_has : (q : ℕ) → Has mid q → Comes r text (i + 1) q
    comes_of_has q has = elim (moves.only q has) [
      | inl was ↦ absurd (before.cleared q was)
      | inr (p, from_has, takes, follows) ↦ position_after r text i p q ((before.places p).0 from_has) takes follows
    ]

    has_of_comes : (q : ℕ) → Comes r text (i + 1) q → Has mid q
    has_of_comes q comes =
        let (p, before_it, takes, follows) = position_before r text i q comes in
        moves.more q (p, (before.places p).1 before_it, takes, follows)

    pub word_of_ended : ended ≡ true → Language r (take (i + 1) text)
    word_of_ended is =
        let (p, has, takes, last) = ends.0 is in
        word_of_ends r text i within (p, (before.places p).0 has, takes, last)

    pub ended_of_word : Language r (take (i + 1) text) → ended ≡ true
    ended_of_word word =
        let (p, comes, takes, last) = ends_of_word r text i within word in
        ends.1 (p, (before.places p).1 comes, takes, last)

    searching_on : (now : Option ℕ) → IsFoundUpTo (i + 1) now → Searching size (i + 1) mid next now
    searching_on now is = record {
      from_size = moves.size ∙ before.to_size;
      to_size = same_size ∙ before.from_size;
      places = λ q. (comes_of_has q, has_of_comes q);
      cleared = empty;
      found_is = is;
    }

    pub search_found : ended ≡ true → Searching size (i + 1) mid next (Some (i + 1))
    search_found is = searching_on (Some (i + 1)) (up_to_here i (word_of_ended is))

    pub search_goes_on : ended ≡ false → Searching size (i + 1) mid next found
    search_goes_on is = searching_on found (up_to_more i found before.found_is (λ word. let also = ended_of_word word in cc))

  -- the search ends where no position comes next, and at the text's end
  pub search_stopped : (size i : ℕ) (from to : BitSet) (found : Option ℕ) → Searching size i from to found → i ≤ length text
      → IsEmpty from → IsLongest r text found
  search_stopped size i from to found searching within empty = longest_of_all i found searching.found_is within
      (none_longer r text i (λ q comes. empty q ((searching.places q).1 comes)))
