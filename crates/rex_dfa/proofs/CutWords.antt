-- A beginning of a text that is put together from two words, and the greatest number of which a test says yes.
use Rattle.std.proofs.Common.{◌≡◌, ℕ, suc, zero, ◌+◌, ◌-◌, ◌<◌, ◌≤◌, ◌⊎◌, List, ◌++◌, length, take, drop, reverse, arith, sym, ap, subst, ◌∙◌, inl, inr, length-take, length-append}
use Rattle.std.proofs.lemmas.Bool.{cases_eq}
use Rattle.std.proofs.lemmas.List.{get_or-reverse, length-reverse}
use Rattle.std.specs.List.{All}
use Rattle.std.proofs.Math.Seq.{take-add, take-append_seam, drop-append_seam}

module _ (rest u v : List ℕ) (m : ℕ) (within : m ≤ length rest) (is : take m rest ≡ u ++ v) where
  pub length_parts : m ≡ length u + length v
  length_parts = omega (arith, ap length is, length-take m rest, length-append u v)

  abbrev behind : List ℕ
  behind = take (length v) (drop (length u) rest)

  same_parts : u ++ v ≡ take (length u) rest ++ behind
  same_parts = sym is ∙ ap (λ k. take k rest) length_parts ∙ take-add (length u) (length v) rest

  front_length : length (take (length u) rest) ≡ length u
  front_length = omega (arith, length-take (length u) rest, length_parts)

  pub first_part : u ≡ take (length u) rest
  first_part = sym (take-append_seam u v) ∙ ap (take (length u)) same_parts
      ∙ subst (λ k. take k (take (length u) rest ++ behind) ≡ take (length u) rest) front_length (take-append_seam (take (length u) rest) behind)

  pub second_part : v ≡ take (m - length u) (drop (length u) rest)
  second_part = sym (drop-append_seam u v) ∙ ap (drop (length u)) same_parts
      ∙ subst (λ k. drop k (take (length u) rest ++ behind) ≡ behind) front_length (drop-append_seam (take (length u) rest) behind)
      ∙ ap (λ k. take k (drop (length u) rest)) (omega (arith, length_parts))

-- a beginning of m bytes is its first n bytes and the others
pub cut_at : (rest : List ℕ) (n m : ℕ) → n ≤ m → take m rest ≡ take n rest ++ take (m - n) (drop n rest)
cut_at rest n m fits = ap (λ k. take k rest) (omega arith) ∙ take-add n (m - n) rest

pub record Greatest (P : ℕ → Type 0) : Type 0 where
  pub n : ℕ
  pub holds : P n
  pub greatest : (k : ℕ) → P k → k ≤ n

-- of numbers up to m of which some has the property, one is the greatest
pub greatest_up_to : (P : ℕ → Type 0) → ((n : ℕ) → P n ⊎ (P n → ⊥)) → (m n : ℕ) → P n → ((k : ℕ) → P k → k ≤ m) → Greatest P
greatest_up_to P test zero n holds bound = record { n = n; holds = holds; greatest = λ k h. let b = bound k h in omega arith }
greatest_up_to P test (suc m) n holds bound = elim (test (suc m)) [
  | inl here ↦ record { n = suc m; holds = here; greatest = bound }
  | inr not_here ↦ greatest_up_to P test m n holds (λ k h. elim (cases_eq k (suc m)) [
    | inl same ↦ absurd (not_here (subst P same h))
    | inr other ↦ let b = bound k h in omega arith
  ])
]

-- what holds of each number of a list holds of each of the reversed list
pub All-reverse : (P : ℕ → Type 0) (xs : List ℕ) → All P xs → All P (reverse xs)
All-reverse P xs all k d within =
    let inside : k < length xs = omega (arith, within, length-reverse xs) in
    subst P (sym (get_or-reverse xs k d inside)) (all (length xs - 1 - k) d (omega arith))
