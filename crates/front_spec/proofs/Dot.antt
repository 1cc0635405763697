-- The words of the set that `.` stands for.
use Rattle.std.proofs.Common.{◌≡◌, ℕ, zero, suc, ◌/◌, ◌<◌, ◌≤◌, inl, inr, Bool, true, false, ◌&&◌, List, [], ◌∷◌, get_or, refl, sym, ◌∙◌, arith}
use Rattle.std.proofs.lemmas.Bool.{cases_lt}
use Rattle.std.proofs.lemmas.Bool.Decides.{nat_tests}
use Rattle.std.proofs.lemmas.List.{get_or_past}
use Rattle.std.proofs.Math.Path.{fun_ext}
use Rattle.rex_model.specs.Meaning.{set_of}
use Rattle.front_spec.specs.Regexes.{is_dot_byte}

abbrev dot_words : List ℕ
dot_words = 18446744073709550591 ∷ 18446744073709551615 ∷ 18446744073709551615 ∷ 18446744073709551615 ∷ []

abbrev same_bit : Bool → Bool → Bool
same_bit true true = true
same_bit false false = true
same_bit true false = false
same_bit false true = false

abbrev agree : (ℕ → Bool) → (ℕ → Bool) → ℕ → Bool
agree p q zero = true
agree p q (suc n) = same_bit (p n) (q n) && agree p q n

agree_at : (p q : ℕ → Bool) (n i : ℕ) → agree p q n ≡ true → i < n → p i ≡ q i
agree_at p q zero i all less = absurd (omega (arith, less))
agree_at p q (suc n) i all less = elim (cases_lt i n) [
  | inl below ↦ agree_at p q n i (rest (same_bit (p n) (q n)) (agree p q n) all) below
  | inr past ↦ let same : i ≡ n = omega (arith, less, past) in rw same (bits (p n) (q n) (first (same_bit (p n) (q n)) (agree p q n) all))
]
  where
    first : (a b : Bool) → (a && b) ≡ true → a ≡ true
    first true b is = refl
    first false b is = is

    rest : (a b : Bool) → (a && b) ≡ true → b ≡ true
    rest true b is = is
    rest false b is = cc

    bits : (a b : Bool) → same_bit a b ≡ true → a ≡ b
    bits true true is = refl
    bits false false is = refl
    bits true false is = sym is
    bits false true is = is

past_dot : (byte : ℕ) → 256 ≤ byte → is_dot_byte byte ≡ false
past_dot byte past = grind (arith, nat_tests)

past_words : (byte : ℕ) → 256 ≤ byte → set_of dot_words byte ≡ false
past_words byte past = let none : get_or dot_words (byte / 64) 0 ≡ 0 = get_or_past dot_words (byte / 64) 0 (omega arith) in rw none refl

pub dot_same : (words : List ℕ) → words ≡ dot_words → set_of words ≡ is_dot_byte
dot_same words are = rw are (fun_ext (λ byte. elim (cases_lt byte 256) [
  | inl below ↦ agree_at (set_of dot_words) is_dot_byte 256 byte refl below
  | inr past ↦ past_words byte past ∙ sym (past_dot byte past)
]))
