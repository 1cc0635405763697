-- Numbers in the order in which they are met; kernels as rising lists.
use Rattle.std.proofs.Common.{◌≡◌, ℕ, zero, suc, ◌+◌, ◌<◌, ◌≤◌, ◌↔◌, ◌⊎◌, inl, inr, List, [], ◌∷◌, ◌++◌, refl, sym, ap, ap₂, subst, arith, Contains}
use Rattle.std.proofs.lemmas.List.Elements.{Contains-append_left, Contains-append_right}
use Rattle.cfg_model.specs.Cores.{FirstMet}
use Rattle.lalr_look.specs.within.Rising.{Met, Climbs, ends, climbs}

-- a number at the end of a list, or before
pub data Cut (ns : List ℕ) (n : ℕ) (a b : List ℕ) (m : ℕ) : Type 0 where
  before : (c : List ℕ) → ns ≡ a ++ (m ∷ c) → Cut ns n a b m
  last : a ≡ ns → m ≡ n → Cut ns n a b m

pub cut : (ns : List ℕ) (n : ℕ) (a b : List ℕ) (m : ℕ) → ns ++ (n ∷ []) ≡ a ++ (m ∷ b) → Cut ns n a b m
cut [] n [] b m e = let one : n ≡ m = cc in last refl (sym one)
cut [] n (x ∷ a) b m e =
    let none : [] ≡ a ++ (m ∷ b) = tail_is n x [] (a ++ (m ∷ b)) e in absurd (no_empty a m b none)
  where
    tail_is : (x y : ℕ) (u v : List ℕ) → x ∷ u ≡ y ∷ v → u ≡ v
    tail_is x y u v e = cc

    no_empty : (a : List ℕ) (m : ℕ) (b : List ℕ) → [] ≡ a ++ (m ∷ b) → ⊥
    no_empty [] m b e = cc
    no_empty (x ∷ a) m b e = cc
cut (x ∷ ns) n [] b m e = let one : x ≡ m = cc in before ns (ap (λ y. y ∷ ns) one)
cut (x ∷ ns) n (y ∷ a) b m e =
    let heads : x ≡ y = cc in
    let tails : ns ++ (n ∷ []) ≡ a ++ (m ∷ b) = tail_is x y (ns ++ (n ∷ [])) (a ++ (m ∷ b)) e in
    longer x y ns n a b m heads (cut ns n a b m tails)
  where
    tail_is : (x y : ℕ) (u v : List ℕ) → x ∷ u ≡ y ∷ v → u ≡ v
    tail_is x y u v e = cc

    longer : (x y : ℕ) (ns : List ℕ) (n : ℕ) (a b : List ℕ) (m : ℕ) → x ≡ y → Cut ns n a b m → Cut (x ∷ ns) n (y ∷ a) b m
    longer x y ns n a b m h (before c e) = before c (ap₂ (λ u v. u ∷ v) h e)
    longer x y ns n a b m h (last e f) = last (ap₂ (λ u v. u ∷ v) (sym h) e) f

-- one number more: a known one, or the next
pub meet : (ns : List ℕ) (count n : ℕ) → Met ns count → n ≤ count → FirstMet (ns ++ (n ∷ []))
meet ns count n t le a b m k e low = go (cut ns n a b m e)
  where
    go : Cut ns n a b m → Contains a k
    go (before c is) = t.first a c m k is low
    go (last is same) = subst (λ l. Contains l k) (sym is) (t.each k (omega (arith, le, low, same)))

pub meet_known : (ns : List ℕ) (count n : ℕ) → Met ns count → n < count → Met (ns ++ (n ∷ [])) count
meet_known ns count n t low =
    record { first = meet ns count n t (omega (arith, low)); each = λ k l. Contains-append_left ns (n ∷ []) k (t.each k l) }

pub meet_next : (ns : List ℕ) (count : ℕ) → Met ns count → Met (ns ++ (count ∷ [])) (count + 1)
meet_next ns count t =
    record { first = meet ns count count t (omega arith); each = λ k l. go k (which k count l) }
  where
    which : (k c : ℕ) → k < c + 1 → (k < c) ⊎ (k ≡ c)
    which k c l = grind arith

    go : (k : ℕ) → (k < count) ⊎ (k ≡ count) → Contains (ns ++ (count ∷ [])) k
    go k (inl l) = Contains-append_left ns (count ∷ []) k (t.each k l)
    go k (inr e) = Contains-append_right ns (count ∷ []) k (0, omega arith, sym e)

-- rising lists of numbers with the same members are the same
pub climbs_above : (k : ℕ) (ns : List ℕ) → Climbs k ns → (m : ℕ) → Contains ns m → k ≤ m
climbs_above k ns (ends _) m (i, low, is) = absurd (omega (arith, low))
climbs_above k ns (climbs _ n rest le c) m (zero, low, is) = omega (arith, le, is)
climbs_above k ns (climbs _ n rest le c) m (suc i, low, is) =
    let ih = climbs_above (suc n) rest c m (i, omega (arith, low), is) in omega (arith, ih, le)

here_or_there : (n m : ℕ) (ns : List ℕ) → Contains (n ∷ ns) m → (m ≡ n) ⊎ Contains ns m
here_or_there n m ns (zero, low, is) = inl (sym is)
here_or_there n m ns (suc i, low, is) = inr (i, omega (arith, low), is)

pub one_rising : (j k : ℕ) (ms ns : List ℕ) → Climbs j ms → Climbs k ns → ((m : ℕ) → Contains ms m ↔ Contains ns m) → ms ≡ ns
one_rising j k ms ns (ends _) (ends _) same = refl
one_rising j k ms ns (ends _) (climbs _ n rest le c) same =
    let (i, low, is) = (same n).1 (0, omega arith, refl) in absurd (omega (arith, low))
one_rising j k ms ns (climbs _ m rest le c) (ends _) same =
    let (i, low, is) = (same m).0 (0, omega arith, refl) in absurd (omega (arith, low))
one_rising j k ms ns (climbs _ m us le c) (climbs _ n vs le2 c2) same =
    let up = climbs_above n (n ∷ vs) (climbs n n vs (omega arith) c2) m ((same m).0 (0, omega arith, refl)) in
    let down = climbs_above m (m ∷ us) (climbs m m us (omega arith) c) n ((same n).1 (0, omega arith, refl)) in
    let heads : m ≡ n = omega (arith, up, down) in
    let rest = one_rising (suc m) (suc n) us vs c c2 (λ o. (part m n us vs c heads (λ h. (same o).0 h) o, part n m vs us c2 (sym heads) (λ h. (same o).1 h) o)) in
    ap₂ (λ u v. u ∷ v) heads rest
  where
    part : (m n : ℕ) (us vs : List ℕ) → Climbs (suc m) us → m ≡ n → {o : ℕ} → (Contains (m ∷ us) o → Contains (n ∷ vs) o) → (o2 : ℕ) → Contains us o → Contains vs o
    part m n us vs c heads {o} f o2 (i, low, is) = go (here_or_there n o vs (f (suc i, omega (arith, low), is)))
      where
        go : (o ≡ n) ⊎ Contains vs o → Contains vs o
        go (inl e) = let above = climbs_above (suc m) us c o (i, low, is) in absurd (omega (arith, above, heads, e))
        go (inr h) = h
