-- Where an element of a list that is cut in three stands.
use Rattle.std.proofs.Common.{◌≡◌, List, [], ◌∷◌, ◌++◌, refl, ap, sym}

-- c, which stands between x and y, is in p, in w or in q
pub data Found {A : Type 0} (c : A) (x y p w q : List A) : Type 0 where
  in_first : (m : List A) → p ≡ x ++ (c ∷ m) → y ≡ m ++ (w ++ q) → Found c x y p w q
  in_middle : (m k : List A) → x ≡ p ++ m → w ≡ m ++ (c ∷ k) → y ≡ k ++ q → Found c x y p w q
  in_last : (m : List A) → x ≡ p ++ (w ++ m) → q ≡ m ++ (c ∷ y) → Found c x y p w q

pub not_empty : {A : Type 0} (x : List A) (c : A) (m : List A) → [] ≡ x ++ (c ∷ m) → ⊥
not_empty [] c m e = cc
not_empty (a ∷ x) c m e = cc

pub in_two : {A : Type 0} (c : A) (x y w q : List A) → x ++ (c ∷ y) ≡ w ++ q → Found c x y [] w q
in_two c x y [] q same = in_last x refl (sym same)
in_two c [] y (b ∷ w) q same = let head : c ≡ b = cc in let tail : y ≡ w ++ q = cc in in_middle [] w refl (rw head refl) tail
in_two c (a ∷ x) y (b ∷ w) q same =
    let head : a ≡ b = cc in
    let tail : x ++ (c ∷ y) ≡ w ++ q = cc in
    elim (in_two c x y w q tail) [
      | in_first m empty is ↦ absurd (not_empty x c m empty)
      | in_middle m k is_x is_w is_y ↦ in_middle (b ∷ m) k (rw head (ap (λ l. b ∷ l) is_x)) (ap (λ l. b ∷ l) is_w) is_y
      | in_last m is_x is_q ↦ in_last m (rw head (ap (λ l. b ∷ l) is_x)) is_q
    ]

pub locate : {A : Type 0} (c : A) (x y p w q : List A) → x ++ (c ∷ y) ≡ p ++ (w ++ q) → Found c x y p w q
locate c x y [] w q same = in_two c x y w q same
locate c [] y (b ∷ p) w q same = let head : c ≡ b = cc in let tail : y ≡ p ++ (w ++ q) = cc in in_first p (rw head refl) tail
locate c (a ∷ x) y (b ∷ p) w q same =
    let head : a ≡ b = cc in
    let tail : x ++ (c ∷ y) ≡ p ++ (w ++ q) = cc in
    elim (locate c x y p w q tail) [
      | in_first m is_p is_y ↦ in_first m (rw head (ap (λ l. b ∷ l) is_p)) is_y
      | in_middle m k is_x is_w is_y ↦ in_middle m k (rw head (ap (λ l. b ∷ l) is_x)) is_w is_y
      | in_last m is_x is_q ↦ in_last m (rw head (ap (λ l. b ∷ l) is_x)) is_q
    ]
