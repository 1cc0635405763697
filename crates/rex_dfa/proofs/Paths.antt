-- Paths through positions, over one byte more at their end.
use Rattle.std.proofs.Common.{ℕ, List, [], ◌∷◌, ◌++◌}
use Rattle.rex_model.specs.Sets.{Goes, there, on}

module _ (takes follow : ℕ → ℕ → Type 0) where
  -- a path with one byte more at its end
  pub goes_further : (w : List ℕ) (p q next b : ℕ) → Goes takes follow p w q → takes q b → follow q next
      → Goes takes follow p (w ++ b ∷ []) next
  goes_further w p q next b (there _) taken follows = on p next next b [] taken follows (there next)
  goes_further w p q next b (on _ then _ c v took followed more) taken follows =
      on p then next c (v ++ b ∷ []) took followed (goes_further v then q next b more taken follows)

  pub goes_before : (w : List ℕ) (p next b : ℕ) → Goes takes follow p (w ++ b ∷ []) next
      → (q : ℕ) × Goes takes follow p w q × takes q b × follow q next
  goes_before [] p next b (on _ _ _ _ _ taken follows (there _)) = (p, there p, taken, follows)
  goes_before (c ∷ w) p next b (on _ then _ _ _ took followed more) =
      let (q, goes, taken, follows) = goes_before w then next b more in
      (q, on p then q c w took followed goes, taken, follows)
