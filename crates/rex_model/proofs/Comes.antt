-- Positions along a text: an expression's words that a text begins with are where its positions end.
use Rattle.std.proofs.Common.{◌≡◌, ℕ, zero, suc, ◌+◌, ◌<◌, ◌≤◌, ◌⊎◌, List, [], ◌∷◌, ◌++◌, length, get_or, take, subst, append_assoc, add-one, arith, inl, inr}
use Rattle.std.proofs.lemmas.List.{take_more}
use Rattle.rex_model.specs.Language.{Re, Language}
use Rattle.rex_model.specs.Positions.{Takes, First, Last, Follow}
use Rattle.rex_model.proofs.After.{After}
use Rattle.rex_model.proofs.WordsToPositions.{goes_first, goes_on, ends}
use Rattle.rex_model.proofs.PositionsToWords.{comes_first, comes_on, ended}

-- position q may come next after the first n bytes of the text were taken
abbrev pub Comes : Re → List ℕ → ℕ → ℕ → Type 0
Comes r text zero q = First r 0 q
Comes r text (suc n) q = (p : ℕ) × Comes r text n p × Takes r 0 p (get_or text n 0) × Follow r 0 p q

-- a word may end with byte n of the text, taken after the bytes before it
abbrev pub EndsAt : Re → List ℕ → ℕ → Type 0
EndsAt r text n = (p : ℕ) × Comes r text n p × Takes r 0 p (get_or text n 0) × Last r 0 p

-- the position before one that comes next after n + 1 bytes
pub position_before : (r : Re) (text : List ℕ) (n q : ℕ) → Comes r text (n + 1) q
    → (p : ℕ) × Comes r text n p × Takes r 0 p (get_or text n 0) × Follow r 0 p q
position_before r text n q comes = rw add-one at comes

-- a position that follows one that takes byte n comes next after n + 1 bytes
pub position_after : (r : Re) (text : List ℕ) (n p q : ℕ) → Comes r text n p → Takes r 0 p (get_or text n 0)
    → Follow r 0 p q → Comes r text (n + 1) q
position_after r text n p q comes takes follows = rw add-one (p, comes, takes, follows)

-- the first n bytes of a text with one more before a word are those bytes, and the one before the word
pub take_before : (text : List ℕ) (n : ℕ) (w : List ℕ) → n < length text
    → take (suc n) text ++ w ≡ take n text ++ (get_or text n 0 ∷ w)
take_before text n w within =
    let e = take_more text n 0 within in
    rw (← add-one) (rw (e, append_assoc))

-- along a word that goes on after n bytes of the text with byte b and then w, b is taken at a
-- position that comes next, after which w completes the word
pub goes_along : (r : Re) (text : List ℕ) (n b : ℕ) (w : List ℕ) → n ≤ length text
    → Language r (take n text ++ (b ∷ w)) → (p : ℕ) × Comes r text n p × Takes r 0 p b × After r 0 p w
goes_along r text zero b w within h = goes_first r 0 b w h
goes_along r text (suc n) b w within h =
    let word = rw take_before at h in
    let (p, comes, takes, after) = goes_along r text n (get_or text n 0) (b ∷ w) (omega arith) word in
    let (q, follows, next, more) = goes_on r 0 p b w after in
    (q, (p, comes, takes, follows), next, more)

-- a byte taken at a position that comes next after n bytes of the text, and what completes a word
-- after it, make a word with those n bytes before them
pub comes_along : (r : Re) (text : List ℕ) (n p b : ℕ) (w : List ℕ) → n ≤ length text → Comes r text n p
    → Takes r 0 p b → After r 0 p w → Language r (take n text ++ (b ∷ w))
comes_along r text zero p b w within comes takes after = comes_first r 0 p b w comes takes after
comes_along r text (suc n) q b w within (p, comes, takes, follows) next more =
    let after = comes_on r 0 p q b w follows next more in
    rw take_before (comes_along r text n p (get_or text n 0) (b ∷ w) (omega arith) comes takes after)

-- a word that the text begins with ends with its last byte
pub ends_of_word : (r : Re) (text : List ℕ) (n : ℕ) → n < length text → Language r (take (n + 1) text)
    → EndsAt r text n
ends_of_word r text n within h =
    let e = take_more text n 0 within in
    let (p, comes, takes, after) = goes_along r text n (get_or text n 0) [] (omega arith) (rw e at h) in
    (p, comes, takes, ends r 0 p after)

-- the bytes of the text up to where a word may end are a word
pub word_of_ends : (r : Re) (text : List ℕ) (n : ℕ) → n < length text → EndsAt r text n
    → Language r (take (n + 1) text)
word_of_ends r text n within (p, comes, takes, last) =
    let e = take_more text n 0 within in
    rw e (comes_along r text n p (get_or text n 0) [] (omega arith) comes takes (ended r 0 p last))

-- a number that n isn't above is n, or n isn't above the one before it
same_or_past : (n m : ℕ) → n ≤ suc m → (suc m ≡ n) ⊎ (n ≤ m)
same_or_past n m h = grind arith

-- once no position may come next, none may after more bytes
pub none_later : (r : Re) (text : List ℕ) (n : ℕ) → ((q : ℕ) → Comes r text n q → ⊥)
    → (m q : ℕ) → n ≤ m → Comes r text m q → ⊥
none_later r text n none zero q later comes =
    let same : zero ≡ n = omega arith in
    none q (subst (λ i. Comes r text i q) same comes)
none_later r text n none (suc m) q later comes = elim (same_or_past n m later) [
  | inl same ↦ none q (subst (λ i. Comes r text i q) same comes)
  | inr past ↦ none_later r text n none m comes.0 past comes.1
]

-- once no position may come next, no longer beginning of the text is a word
pub none_longer : (r : Re) (text : List ℕ) (n : ℕ) → ((q : ℕ) → Comes r text n q → ⊥)
    → (m : ℕ) → n < m → m ≤ length text → Language r (take m text) → ⊥
none_longer r text n none (suc m) longer within h =
    let (p, comes, takes, last) = ends_of_word r text m within (rw add-one h) in
    none_later r text n none m p (omega arith) comes
none_longer r text n none zero longer within h = omega arith
