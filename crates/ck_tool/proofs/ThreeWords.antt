-- Three words that are read one by one.
use Rattle.std.proofs.Common.{◌≡◌, ◌<◌, ◌≤◌, List, [], ◌∷◌, length, map, get_or, refl, ap, ◌∙◌, arith}

-- a list of three elements is these three
three : {X : Type 0} (xs : List X) (a b c : X) → 3 ≤ length xs → length xs < 4 → a ≡ get_or xs 0 a → b ≡ get_or xs 1 b
    → c ≡ get_or xs 2 c → xs ≡ a ∷ b ∷ c ∷ []
three [] a b c least most p q r = absurd (omega arith)
three (x ∷ []) a b c least most p q r = absurd (omega arith)
three (x ∷ y ∷ []) a b c least most p q r = absurd (omega arith)
three (x ∷ y ∷ z ∷ []) a b c least most p q r = cc
three (x ∷ y ∷ z ∷ w ∷ xs) a b c least most p q r = absurd (omega arith)

-- and their texts are these three
pub three_texts : {X Y : Type 0} (f : X → Y) (xs : List X) (a b c : X) (k l m : Y) → 3 ≤ length xs → length xs < 4 → a ≡ get_or xs 0 a
    → b ≡ get_or xs 1 b → c ≡ get_or xs 2 c → f a ≡ k → f b ≡ l → f c ≡ m → map f xs ≡ k ∷ l ∷ m ∷ []
three_texts f xs a b c k l m least most p q r is_k is_l is_m = ap (map f) (three xs a b c least most p q r) ∙ rw (is_k, is_l, is_m) refl
