-- A word is read from its end by going the ways of its positions backwards.
use Rattle.std.proofs.Common.{◌≡◌, ℕ, List, [], ◌∷◌, ◌++◌, reverse, arith, refl, sym, subst, inl, inr}
use Rattle.std.proofs.lemmas.List.{reverse-append}
use Rattle.rex_model.specs.Language.{Re, Language}
use Rattle.rex_model.specs.Positions.{position_count, Takes, First, Follow}
use Rattle.rex_model.proofs.Within.{Takes-within, Last-within, Follow-within}
use Rattle.rex_model.proofs.EmptyWord.{empty_of, has_empty_of}
use Rattle.rex_model.proofs.After.{After}
use Rattle.rex_model.proofs.WordsToPositions.{goes_first, goes_on, ends}
use Rattle.rex_model.proofs.PositionsToWords.{comes_first, comes_on, ended}
use Rattle.rex_dfa.proofs.Paths.{goes_further, goes_before}
use Rattle.rex_model.specs.Sets.{Goes, there, on, ComesNext, FirstBackwards, FollowBackwards}

-- the first byte goes last
pub reverse_more : (b : ℕ) (w : List ℕ) → reverse (b ∷ w) ≡ reverse w ++ b ∷ []
reverse_more b w = reverse-append (b ∷ []) w

module _ (r : Re) where
  -- position p comes next after the word, in the expression itself
  abbrev Reached : List ℕ → ℕ → Type 0
  Reached w p = ComesNext (Takes r 0) (Follow r 0) (First r 0) w p

  pub reached_further : (w : List ℕ) (q next b : ℕ) → Reached w q → Takes r 0 q b → Follow r 0 q next
      → Reached (w ++ b ∷ []) next
  reached_further w q next b (p, begins, goes) taken follows = (p, begins, goes_further (Takes r 0) (Follow r 0) w p q next b goes taken follows)

  pub reached_before : (w : List ℕ) (next b : ℕ) → Reached (w ++ b ∷ []) next
      → (q : ℕ) × Reached w q × Takes r 0 q b × Follow r 0 q next
  reached_before w next b (p, begins, goes) =
      let (q, more, taken, follows) = goes_before (Takes r 0) (Follow r 0) w p next b goes in
      (q, (p, begins, more), taken, follows)

  -- along a word that goes on with byte b and then v, b is taken at a position that comes next
  goes_along : (w : List ℕ) (p c b : ℕ) (v : List ℕ) → Takes r 0 p c → After r 0 p (w ++ b ∷ v)
      → (q : ℕ) × Goes (Takes r 0) (Follow r 0) p (c ∷ w) q × Takes r 0 q b × After r 0 q v
  goes_along [] p c b v taken after =
      let (q, follows, takes, more) = goes_on r 0 p b v after in
      (q, on p q q c [] taken follows (there q), takes, more)
  goes_along (d ∷ w) p c b v taken after =
      let (next, follows, takes, more) = goes_on r 0 p d (w ++ b ∷ v) after in
      let (q, goes, took, rest) = goes_along w next d b v takes more in
      (q, on p next q c (d ∷ w) taken follows goes, took, rest)

  pub reached_of_word : (w : List ℕ) (b : ℕ) (v : List ℕ) → Language r (w ++ b ∷ v)
      → (q : ℕ) × Reached w q × Takes r 0 q b × After r 0 q v
  reached_of_word [] b v h =
      let (p, begins, takes, after) = goes_first r 0 b v h in
      (p, (p, begins, there p), takes, after)
  reached_of_word (c ∷ w) b v h =
      let (p, begins, takes, after) = goes_first r 0 c (w ++ b ∷ v) h in
      let (q, goes, took, rest) = goes_along w p c b v takes after in
      (q, (p, begins, goes), took, rest)

  comes_along : (w : List ℕ) (p q b : ℕ) (v : List ℕ) → Goes (Takes r 0) (Follow r 0) p w q → Takes r 0 q b → After r 0 q v
      → (d : ℕ) × (u : List ℕ) × (w ++ b ∷ v ≡ d ∷ u) × Takes r 0 p d × After r 0 p u
  comes_along w p q b v (there _) takes after = (b, v, refl, takes, after)
  comes_along w p q b v (on _ next _ c z taken follows more) takes after =
      let (d, u, is, took, rest) = comes_along z next q b v more takes after in
      (c, z ++ b ∷ v, refl, taken, rw is (comes_on r 0 p next d u follows took rest))

  pub word_of_reached : (w : List ℕ) (q b : ℕ) (v : List ℕ) → Reached w q → Takes r 0 q b → After r 0 q v
      → Language r (w ++ b ∷ v)
  word_of_reached w q b v (p, begins, goes) takes after =
      let (d, u, is, took, rest) = comes_along w p q b v goes takes after in
      rw is (comes_first r 0 p d u begins took rest)

  -- backwards, position p leads to the end mark over b and then w exactly where p takes b after w read forwards
  abbrev Back : ℕ → List ℕ → ℕ → Type 0
  Back = Goes (Takes r 0) (FollowBackwards r)

  mark_of_reached : (w : List ℕ) (p b : ℕ) → Reached (reverse w) p → Takes r 0 p b → Back p (b ∷ w) (position_count r)
  mark_of_reached [] p b (first, begins, there _) taken =
      on p (position_count r) (position_count r) b [] taken (inr (begins, refl)) (there (position_count r))
  mark_of_reached (c ∷ w) p b reached taken =
      let (q, before, takes, follows) = reached_before (reverse w) p c (subst (λ z. Reached z p) (reverse_more c w) reached) in
      on p q (position_count r) b (c ∷ w) taken (inl follows) (mark_of_reached w q c before takes)

  past_mark : (p b : ℕ) → p ≡ position_count r → Takes r 0 p b → ⊥
  past_mark p b is takes = let i = Takes-within r 0 p b takes in omega arith

  reached_of_mark : (w : List ℕ) (p b q : ℕ) → q ≡ position_count r → Back p (b ∷ w) q → Reached (reverse w) p × Takes r 0 p b
  reached_of_mark w p b q is (on _ next _ _ [] taken (inl follows) (there _)) =
      let i = Follow-within r 0 next p follows in absurd (omega arith)
  reached_of_mark w p b q is (on _ next _ _ [] taken (inr (begins, at)) (there _)) = ((p, begins, there p), taken)
  reached_of_mark w p b q is (on _ next _ _ (c ∷ v) taken (inl follows) more) =
      let (before, takes) = reached_of_mark v next c q is more in
      (subst (λ z. Reached z p) (sym (reverse_more c v)) (reached_further (reverse v) next p c before takes follows), taken)
  reached_of_mark w p b q is (on _ next _ _ (c ∷ v) taken (inr (begins, at)) more) =
      let (before, takes) = reached_of_mark v next c q is more in
      absurd (past_mark next c at takes)

  -- read backwards, the end mark comes next exactly after the words of the expression from their ends
  pub mark_of_backwards : (w : List ℕ) → Language r (reverse w)
      → ComesNext (Takes r 0) (FollowBackwards r) (FirstBackwards r) w (position_count r)
  mark_of_backwards [] h = (position_count r, inr (empty_of r h, refl), there (position_count r))
  mark_of_backwards (b ∷ w) h =
      let (q, reached, takes, after) = reached_of_word (reverse w) b [] (subst (Language r) (reverse_more b w) h) in
      (q, inl (ends r 0 q after), mark_of_reached w q b reached takes)

  pub backwards_of_mark : (w : List ℕ) (q : ℕ) → q ≡ position_count r
      → ComesNext (Takes r 0) (FollowBackwards r) (FirstBackwards r) w q → Language r (reverse w)
  backwards_of_mark [] q is (p, inl last, there _) = let i = Last-within r 0 p last in absurd (omega arith)
  backwards_of_mark [] q is (p, inr (empty, at), there _) = has_empty_of r empty
  backwards_of_mark (b ∷ w) q is (p, inl last, goes) =
      let (reached, takes) = reached_of_mark w p b q is goes in
      subst (Language r) (sym (reverse_more b w)) (word_of_reached (reverse w) p b [] reached takes (ended r 0 p last))
  backwards_of_mark (b ∷ w) q is (p, inr (empty, at), goes) =
      let (reached, takes) = reached_of_mark w p b q is goes in
      absurd (past_mark p b at takes)
