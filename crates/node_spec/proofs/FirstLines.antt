-- First lines: with a fault that is the same by another word; the earlier of two is the first with either fault.
use Rattle.std.proofs.Common.{◌≡◌, ℕ, ◌<◌, ◌≤◌, ◌⊎◌, inl, inr, min, List, subst, Option, Some, None, arith}
use Rattle.section_frame.specs.Declares.{Declared, HasAt}
use Rattle.spec_text.specs.Least.{Least}
use Rattle.spec_text.proofs.Lists.{order}
use Rattle.node_spec.specs.AstShapes.{AstSaying}
use Rattle.node_spec.specs.within.AstSteps.{FirstWith, Either, earlier_of}

module _ (ds : List (Declared AstSaying)) (F G : ℕ → AstSaying → Type 0) where
  has_as : ((i : ℕ) (said : AstSaying) → F i said → G i said) → (line : ℕ) → HasAt ds F line → HasAt ds G line
  has_as to line has = record {
    place = has.place;
    declared = has.declared;
    is = has.is;
    number = has.number;
    fault = to has.place has.declared.said has.fault;
  }

-- the first line with F is that with G, where these are the same
pub first_as : (ds : List (Declared AstSaying)) (F G : ℕ → AstSaying → Type 0)
    → ((i : ℕ) (said : AstSaying) → F i said → G i said) → ((i : ℕ) (said : AstSaying) → G i said → F i said)
    → (found : Option ℕ) → FirstWith ds F found → FirstWith ds G found
first_as ds F G to from None none = λ line has. none line (has_as ds G F from line has)
first_as ds F G to from (Some n) least = record {
  is = has_as ds F G to n least.is;
  least = λ m has. least.least m (has_as ds G F from m has);
}

-- the first line with one of two faults is the earlier of two
module _ (ds : List (Declared AstSaying)) (F G : ℕ → AstSaying → Type 0) where
  on_left : (line : ℕ) → HasAt ds F line → HasAt ds (Either F G) line
  on_left = has_as ds F (Either F G) (λ i said f. inl f)

  on_right : (line : ℕ) → HasAt ds G line → HasAt ds (Either F G) line
  on_right = has_as ds G (Either F G) (λ i said f. inr f)

  which : (line : ℕ) → HasAt ds (Either F G) line → HasAt ds F line ⊎ HasAt ds G line
  which line has = by has.fault
    where
      by : Either F G has.place has.declared.said → HasAt ds F line ⊎ HasAt ds G line
      by (inl f) = inl (record { place = has.place; declared = has.declared; is = has.is; number = has.number; fault = f })
      by (inr f) = inr (record { place = has.place; declared = has.declared; is = has.is; number = has.number; fault = f })

  at_least : (n m line : ℕ) → Least (HasAt ds F) n → Least (HasAt ds G) m → HasAt ds (Either F G) line → min n m ≤ line
  at_least n m line a b has = by (which line has)
    where
      by : HasAt ds F line ⊎ HasAt ds G line → min n m ≤ line
      by (inl f) = let less = a.least line f in omega (arith, less)
      by (inr f) = let less = b.least line f in omega (arith, less)

  lesser : (n m : ℕ) → HasAt ds (Either F G) n → HasAt ds (Either F G) m → HasAt ds (Either F G) (min n m)
  lesser n m a b = by (order n m)
    where
      by : (n < m) ⊎ ((m < n) ⊎ (n ≡ m)) → HasAt ds (Either F G) (min n m)
      by (inl less) = let is : n ≡ min n m = omega (arith, less) in subst (HasAt ds (Either F G)) is a
      by (inr (inl more)) = let is : m ≡ min n m = omega (arith, more) in subst (HasAt ds (Either F G)) is b
      by (inr (inr same)) = let is : n ≡ min n m = omega (arith, same) in subst (HasAt ds (Either F G)) is a

  pub first_of_two : (a b : Option ℕ) → FirstWith ds F a → FirstWith ds G b → FirstWith ds (Either F G) (earlier_of a b)
  first_of_two None None none_f none_g = λ line has. by line (which line has)
    where
      by : (line : ℕ) → HasAt ds F line ⊎ HasAt ds G line → ⊥
      by line (inl f) = none_f line f
      by line (inr f) = none_g line f
  first_of_two None (Some m) none_f least =
      record { is = on_right m least.is; least = λ line has. by line (which line has) }
    where
      by : (line : ℕ) → HasAt ds F line ⊎ HasAt ds G line → m ≤ line
      by line (inl f) = absurd (none_f line f)
      by line (inr f) = least.least line f
  first_of_two (Some n) None least none_g =
      record { is = on_left n least.is; least = λ line has. by line (which line has) }
    where
      by : (line : ℕ) → HasAt ds F line ⊎ HasAt ds G line → n ≤ line
      by line (inl f) = least.least line f
      by line (inr f) = absurd (none_g line f)
  first_of_two (Some n) (Some m) a b = record {
    is = lesser n m (on_left n a.is) (on_right m b.is);
    least = λ line has. at_least n m line a b has;
  }
