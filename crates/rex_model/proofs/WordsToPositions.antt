-- From words to positions: what a word begins with, goes on with and ends with, its positions say.
use Rattle.std.proofs.Common.{◌≡◌, ℕ, ◌+◌, ◌<◌, ◌≤◌, List, [], ◌∷◌, ◌++◌, length, arith, refl, sym, subst, inl, inr}
use Rattle.rex_model.specs.Language.{Re, none, bytes, class, sequence, alternative, star, plus, optional, IsIn, Repeats, no_more, one_more, Language}
use Rattle.rex_model.specs.Positions.{position_count, TakesIn, Takes, First, Last, Follow}
use Rattle.rex_model.proofs.EmptyWord.{both_empty, empty_of}
use Rattle.rex_model.proofs.After.{AfterIn, After}

-- the words of a repetition that begin with a byte, from the first one that isn't empty on
pub first_round : (words : List ℕ → Type 0) (z : List ℕ) (b : ℕ) (w : List ℕ) → Repeats words z → z ≡ b ∷ w
    → (u : List ℕ) × (v : List ℕ) × (w ≡ u ++ v) × words (b ∷ u) × Repeats words v
first_round words z b w no_more is = cc
first_round words z b w (one_more [] v one more) is = first_round words v b w more is
first_round words z b w (one_more (c ∷ u) v one more) is =
    let same : c ≡ b = cc in
    let rest : w ≡ u ++ v = cc in
    (u, v, rest, subst (λ x. words (x ∷ u)) same one, more)

-- a word's first byte is taken at a first position, after which the rest completes the word
pub goes_first : (r : Re) (k b : ℕ) (w : List ℕ) → Language r (b ∷ w)
    → (p : ℕ) × First r k p × Takes r k p b × After r k p w
goes_first none k b w h = elim h [ ]
goes_first (bytes []) k b w h = (cc)
goes_first (bytes (c ∷ cs)) k b w h = (k, (refl, omega arith), inl (refl, (cc)), inl (refl, (cc)))
goes_first (class set) k b w (byte, is, among) =
    let same : byte ≡ b = cc in
    (k, refl, (refl, subst (λ x. IsIn set x) same among), (refl, (cc)))
goes_first (sequence r s) k b w ([], v, is, first, second) =
    let (p, begins, takes, after) = goes_first s (k + position_count r) b w (rw is second) in
    (p, inr (empty_of r first, begins), inr takes, inr after)
goes_first (sequence r s) k b w (c ∷ u, v, is, first, second) =
    let same : c ≡ b = cc in
    let rest : w ≡ u ++ v = cc in
    let (p, begins, takes, after) = goes_first r k b u (subst (λ x. Language r (x ∷ u)) same first) in
    (p, inl begins, inl takes, inl (u, v, rest, after, second))
goes_first (alternative r s) k b w (inl h) =
    let (p, begins, takes, after) = goes_first r k b w h in
    (p, inl begins, inl takes, inl after)
goes_first (alternative r s) k b w (inr h) =
    let (p, begins, takes, after) = goes_first s (k + position_count r) b w h in
    (p, inr begins, inr takes, inr after)
goes_first (star r) k b w h =
    let (u, v, is, one, more) = first_round (Language r) (b ∷ w) b w h refl in
    let (p, begins, takes, after) = goes_first r k b u one in
    (p, begins, takes, (u, v, is, after, more))
goes_first (plus r) k b w ([], v, is, one, more) =
    let (u, z, rest, two, others) = first_round (Language r) v b w more (sym is) in
    let (p, begins, takes, after) = goes_first r k b u two in
    (p, begins, takes, (u, z, rest, after, others))
goes_first (plus r) k b w (c ∷ u, v, is, one, more) =
    let same : c ≡ b = cc in
    let rest : w ≡ u ++ v = cc in
    let (p, begins, takes, after) = goes_first r k b u (subst (λ x. Language r (x ∷ u)) same one) in
    (p, begins, takes, (u, v, rest, after, more))
goes_first (optional r) k b w (inl h) = (cc)
goes_first (optional r) k b w (inr h) = goes_first r k b w h

-- a position of a string that nothing is left after is its last
pub ends_in : (string : List ℕ) (k p : ℕ) → AfterIn string k p [] → (k ≤ p) × (p + 1 ≡ k + length string)
ends_in [] k p h = elim h [ ]
ends_in (c ∷ []) k p (inl (at, is)) = (omega arith, omega arith)
ends_in (c ∷ d ∷ cs) k p (inl (at, is)) = (cc)
ends_in (c ∷ cs) k p (inr h) = let e = ends_in cs (k + 1) p h in (omega arith, omega arith)

-- a word may end with a position that the empty word completes it after
pub ends : (r : Re) (k p : ℕ) → After r k p [] → Last r k p
ends none k p h = elim h [ ]
ends (bytes string) k p h = ends_in string k p h
ends (class set) k p h = h.0
ends (sequence r s) k p (inl (u, v, is, after, second)) =
    let e = both_empty u v is in
    inr (empty_of s (rw e.1 at second), ends r k p (rw e.0 at after))
ends (sequence r s) k p (inr h) = inl (ends s _ p h)
ends (alternative r s) k p (inl h) = inl (ends r k p h)
ends (alternative r s) k p (inr h) = inr (ends s _ p h)
ends (star r) k p (u, v, is, after, more) = let e = both_empty u v is in ends r k p (rw e.0 at after)
ends (plus r) k p (u, v, is, after, more) = let e = both_empty u v is in ends r k p (rw e.0 at after)
ends (optional r) k p h = ends r k p h

-- the next byte of a string is taken at the next position
pub goes_on_in : (string : List ℕ) (k p b : ℕ) (w : List ℕ) → AfterIn string k p (b ∷ w)
    → (q : ℕ) × ((k ≤ p) × (q ≡ p + 1) × (q < k + length string)) × TakesIn string k q b × AfterIn string k q w
goes_on_in [] k p b w h = elim h [ ]
goes_on_in (c ∷ []) k p b w (inl (at, is)) = (cc)
goes_on_in (c ∷ d ∷ cs) k p b w (inl (at, is)) =
    (k + 1, (omega arith, omega arith, omega arith), inr (inl (refl, (cc))), inr (inl (refl, (cc))))
goes_on_in (c ∷ cs) k p b w (inr h) =
    let (q, follows, takes, after) = goes_on_in cs (k + 1) p b w h in
    (q, (omega arith, follows.1, omega arith), inr takes, inr after)

-- the next byte of a word is taken at a position that follows, after which the rest completes it
pub goes_on : (r : Re) (k p b : ℕ) (w : List ℕ) → After r k p (b ∷ w)
    → (q : ℕ) × Follow r k p q × Takes r k q b × After r k q w
goes_on none k p b w h = elim h [ ]
goes_on (bytes string) k p b w h = goes_on_in string k p b w h
goes_on (class set) k p b w h = let e = h.1 in cc
goes_on (sequence r s) k p b w (inl ([], v, is, after, second)) =
    let (q, begins, takes, more) = goes_first s (k + position_count r) b w (rw is second) in
    (q, inr (inr (ends r k p after, begins)), inr takes, inr more)
goes_on (sequence r s) k p b w (inl (c ∷ u, v, is, after, second)) =
    let same : c ≡ b = cc in
    let rest : w ≡ u ++ v = cc in
    let (q, follows, takes, more) = goes_on r k p b u (subst (λ x. After r k p (x ∷ u)) same after) in
    (q, inl follows, inl takes, inl (u, v, rest, more, second))
goes_on (sequence r s) k p b w (inr h) =
    let (q, follows, takes, more) = goes_on s (k + position_count r) p b w h in
    (q, inr (inl follows), inr takes, inr more)
goes_on (alternative r s) k p b w (inl h) =
    let (q, follows, takes, more) = goes_on r k p b w h in
    (q, inl follows, inl takes, inl more)
goes_on (alternative r s) k p b w (inr h) =
    let (q, follows, takes, more) = goes_on s (k + position_count r) p b w h in
    (q, inr follows, inr takes, inr more)
goes_on (star r) k p b w ([], v, is, after, more) =
    let (u, z, rest, one, others) = first_round (Language r) v b w more (sym is) in
    let (q, begins, takes, next) = goes_first r k b u one in
    (q, inr (ends r k p after, begins), takes, (u, z, rest, next, others))
goes_on (star r) k p b w (c ∷ u, v, is, after, more) =
    let same : c ≡ b = cc in
    let rest : w ≡ u ++ v = cc in
    let (q, follows, takes, next) = goes_on r k p b u (subst (λ x. After r k p (x ∷ u)) same after) in
    (q, inl follows, takes, (u, v, rest, next, more))
goes_on (plus r) k p b w ([], v, is, after, more) =
    let (u, z, rest, one, others) = first_round (Language r) v b w more (sym is) in
    let (q, begins, takes, next) = goes_first r k b u one in
    (q, inr (ends r k p after, begins), takes, (u, z, rest, next, others))
goes_on (plus r) k p b w (c ∷ u, v, is, after, more) =
    let same : c ≡ b = cc in
    let rest : w ≡ u ++ v = cc in
    let (q, follows, takes, next) = goes_on r k p b u (subst (λ x. After r k p (x ∷ u)) same after) in
    (q, inl follows, takes, (u, v, rest, next, more))
goes_on (optional r) k p b w h = goes_on r k p b w h
