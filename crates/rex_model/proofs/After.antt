-- What may stand in a word after a position: the words that complete it there.
use Rattle.std.proofs.Common.{◌≡◌, ℕ, ◌+◌, ◌⊎◌, List, [], ◌∷◌, ◌++◌, length, arith, inl, inr}
use Rattle.rex_model.specs.Language.{Re, none, bytes, class, sequence, alternative, star, plus, optional, Repeats, Language}
use Rattle.rex_model.specs.Positions.{position_count}
use Rattle.rex_model.proofs.Within.{IsAmong, among_first, among_second}

-- w is what is left of a string, whose first position is k, after its position p
abbrev pub AfterIn : List ℕ → ℕ → ℕ → List ℕ → Type 0
AfterIn [] k p w = ⊥
AfterIn (b ∷ bs) k p w = ((p ≡ k) × (w ≡ bs)) ⊎ AfterIn bs (k + 1) p w

-- w completes a word of which position p has taken its byte
abbrev pub After : Re → ℕ → ℕ → List ℕ → Type 0
After none k p w = ⊥
After (bytes string) k p w = AfterIn string k p w
After (class set) k p w = (p ≡ k) × (w ≡ [])
After (sequence r s) k p w =
    ((u : List ℕ) × (v : List ℕ) × (w ≡ u ++ v) × After r k p u × Language s v) ⊎ After s (k + position_count r) p w
After (alternative r s) k p w = After r k p w ⊎ After s (k + position_count r) p w
After (star r) k p w = (u : List ℕ) × (v : List ℕ) × (w ≡ u ++ v) × After r k p u × Repeats (Language r) v
After (plus r) k p w = (u : List ℕ) × (v : List ℕ) × (w ≡ u ++ v) × After r k p u × Repeats (Language r) v
After (optional r) k p w = After r k p w

-- a position of a string after which something completes it is one of the string's
pub AfterIn-within : (string : List ℕ) (k p : ℕ) (w : List ℕ) → AfterIn string k p w → IsAmong k (length string) p
AfterIn-within [] k p w h = elim h [ ]
AfterIn-within (b ∷ bs) k p w (inl h) = record { from = omega arith; below = omega arith }
AfterIn-within (b ∷ bs) k p w (inr h) =
    let i = AfterIn-within bs (k + 1) p w h in
    record { from = omega arith; below = omega arith }

-- a position after which something completes a word is one of the expression's
pub After-within : (r : Re) (k p : ℕ) (w : List ℕ) → After r k p w → IsAmong k (position_count r) p
After-within none k p w h = elim h [ ]
After-within (bytes string) k p w h = AfterIn-within string k p w h
After-within (class set) k p w h = record { from = omega arith; below = omega arith }
After-within (sequence r s) k p w (inl (u, v, is, after, second)) = among_first k _ _ p (After-within r k p u after)
After-within (sequence r s) k p w (inr h) = among_second k _ _ p (After-within s _ p w h)
After-within (alternative r s) k p w (inl h) = among_first k _ _ p (After-within r k p w h)
After-within (alternative r s) k p w (inr h) = among_second k _ _ p (After-within s _ p w h)
After-within (star r) k p w (u, v, is, after, more) = After-within r k p u after
After-within (plus r) k p w (u, v, is, after, more) = After-within r k p u after
After-within (optional r) k p w h = After-within r k p w h
