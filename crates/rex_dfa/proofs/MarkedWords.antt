-- The end mark comes next exactly after the words of the expression.
use Rattle.std.proofs.Common.{◌≡◌, ℕ, ◌+◌, List, [], ◌∷◌, arith, refl, inl, inr}
use Rattle.rex_model.specs.Language.{Re, Language}
use Rattle.rex_model.specs.Positions.{position_count, Takes, First, Follow}
use Rattle.rex_model.proofs.Within.{Takes-within, First-within, Follow-within}
use Rattle.rex_model.proofs.EmptyWord.{empty_of, has_empty_of}
use Rattle.rex_model.proofs.After.{After}
use Rattle.rex_model.proofs.WordsToPositions.{goes_first, goes_on, ends}
use Rattle.rex_model.proofs.PositionsToWords.{comes_first, comes_on, ended}
use Rattle.rex_model.specs.Sets.{Goes, there, on, ComesNext, marked}

module _ (r : Re) (k : ℕ) where
  abbrev mark : ℕ
  mark = k + position_count r

  abbrev takes : ℕ → ℕ → Type 0
  takes = Takes (marked r) k

  abbrev follow : ℕ → ℕ → Type 0
  follow = Follow (marked r) k

  -- from a position of the expression a word that completes it leads to the end mark
  pub goes_of_after : (p b : ℕ) (w : List ℕ) → Takes r k p b → After r k p w → Goes takes follow p (b ∷ w) mark
  goes_of_after p b [] takes after = on p mark mark b [] (inl takes) (inr (inr (ends r k p after, refl))) (there mark)
  goes_of_after p b (c ∷ w) takes after =
      let (q, follows, next, more) = goes_on r k p c w after in
      on p q mark b (c ∷ w) (inl takes) (inl follows) (goes_of_after q c w next more)

  -- the end mark takes no byte
  takes_of : (p b : ℕ) → Takes (marked r) k p b → Takes r k p b
  takes_of p b (inl taken) = taken
  takes_of p b (inr (is, in_none)) = let e = in_none.1 in cc

  past_mark : (p b : ℕ) → p ≡ mark → Takes r k p b → ⊥
  past_mark p b is takes = let i = Takes-within r k p b takes in omega arith

  pub after_of_goes : (p b q : ℕ) (w : List ℕ) → q ≡ mark → Goes takes follow p (b ∷ w) q → Takes r k p b × After r k p w
  after_of_goes p b q w is (on _ next _ _ [] taken (inl follows) (there _)) =
      let i = Follow-within r k p next follows in absurd (omega arith)
  after_of_goes p b q w is (on _ next _ _ [] taken (inr (inl follows)) (there _)) = elim follows [ ]
  after_of_goes p b q w is (on _ next _ _ [] taken (inr (inr (last, at))) (there _)) =
      (takes_of p b taken, ended r k p last)
  after_of_goes p b q w is (on _ next _ _ (c ∷ v) taken (inl follows) more) =
      let (then, after) = after_of_goes next c q v is more in
      (takes_of p b taken, comes_on r k p next c v follows then after)
  after_of_goes p b q w is (on _ next _ _ (c ∷ v) taken (inr (inl follows)) more) = elim follows [ ]
  after_of_goes p b q w is (on _ next _ _ (c ∷ v) taken (inr (inr (last, at))) more) =
      let (then, after) = after_of_goes next c q v is more in
      absurd (past_mark next c at then)

  -- after a word of the expression the end mark comes next
  pub mark_of_word : (w : List ℕ) → Language r w → ComesNext takes follow (First (marked r) k) w mark
  mark_of_word [] h = (mark, inr (empty_of r h, refl), there mark)
  mark_of_word (b ∷ w) h =
      let (p, begins, takes, after) = goes_first r k b w h in
      (p, inl begins, goes_of_after p b w takes after)

  -- the end mark comes next after words of the expression alone
  pub word_of_mark : (q : ℕ) (w : List ℕ) → q ≡ mark → ComesNext takes follow (First (marked r) k) w q → Language r w
  word_of_mark q [] is (p, inl begins, there _) = let i = First-within r k p begins in absurd (omega arith)
  word_of_mark q [] is (p, inr (empty, at), there _) = has_empty_of r empty
  word_of_mark q (b ∷ w) is (p, inl begins, goes) =
      let (taken, after) = after_of_goes p b q w is goes in
      comes_first r k p b w begins taken after
  word_of_mark q (b ∷ w) is (p, inr (empty, at), goes) =
      let (taken, after) = after_of_goes p b q w is goes in
      absurd (past_mark p b at taken)
