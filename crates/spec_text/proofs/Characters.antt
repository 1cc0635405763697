-- The characters of a string, one after the other.
use Rattle.std.proofs.Common.{◌≡◌, ℕ, zero, suc, ◌+◌, true, false, List, [], ◌∷◌, ◌++◌, length, take, drop, refl, sym, ap, ◌∙◌, Some, arith, append_assoc, length-drop}
use Rattle.std.specs.List.{slice_get}
use Rattle.std.proofs.Math.Seq.{take-add}
use Rattle.std.proofs.lemmas.List.{append-nil, drop-drop}
use Rattle.std.proofs.lemmas.Bool.{and_parts}
use Rattle.spec_text.specs.Bytes.{is_text_byte}
use Rattle.spec_text.specs.Lexemes.{Quoted, nothing, itself, escaped, coded}
use Rattle.spec_text.specs.Escapes.{named, is_named, is_hex}
use Rattle.spec_text.specs.Steps.{IsCharacter, HasNoCharacter, IsInside, begins_hex}

pub one_itself : (byte : ℕ) (after : List ℕ) → is_text_byte byte ≡ true → IsCharacter (byte ∷ after) 1
one_itself byte after is = record {
  fits = omega arith;
  some = omega arith;
  before = λ inside meant quoted. (byte ∷ meant, itself byte inside meant is quoted);
  behind = λ inside meant rest are quoted. back inside meant rest are quoted;
}
  where
    back : (inside meant rest : List ℕ) → byte ∷ after ≡ inside ++ 34 ∷ rest → Quoted inside meant → (u : List ℕ) × (v : List ℕ) × (inside ≡ byte ∷ u) × Quoted u v × (after ≡ u ++ 34 ∷ rest)
    back _ _ rest are nothing = let e : byte ≡ 34 = cc in let f = rw e at is in cc
    back _ _ rest are (itself b u v is2 quoted) = (u, v, (let e : byte ≡ b = cc in rw e refl), quoted, (cc))
    back _ _ rest are (escaped slash letter u v at names quoted) = let e : byte ≡ slash = cc in let f = rw (e, at) at is in cc
    back _ _ rest are (coded slash x high low u v at at_x is_high is_low quoted) = let e : byte ≡ slash = cc in let f = rw (e, at) at is in cc

pub one_escaped : (slash letter : ℕ) (after : List ℕ) → slash ≡ 92 → is_named letter ≡ true → IsCharacter (slash ∷ letter ∷ after) 2
one_escaped slash letter after is_slash names = record {
  fits = omega arith;
  some = omega arith;
  before = λ inside meant quoted. (named letter ∷ meant, escaped slash letter inside meant is_slash names quoted);
  behind = λ inside meant rest are quoted. back inside meant rest are quoted;
}
  where
    back : (inside meant rest : List ℕ) → slash ∷ letter ∷ after ≡ inside ++ 34 ∷ rest → Quoted inside meant → (u : List ℕ) × (v : List ℕ) × (inside ≡ slash ∷ letter ∷ u) × Quoted u v × (after ≡ u ++ 34 ∷ rest)
    back _ _ rest are nothing = let e : slash ≡ 34 = cc in absurd (omega (arith, e, is_slash))
    back _ _ rest are (itself b u v is quoted) = let e : b ≡ slash = cc in let f = rw (e, is_slash) at is in cc
    back _ _ rest are (escaped s l u v at names2 quoted) = (u, v, (let e : letter ≡ l = cc in let f : slash ≡ s = cc in rw (f, e) refl), quoted, (cc))
    back _ _ rest are (coded s x high low u v at at_x is_high is_low quoted) = let e : letter ≡ x = cc in let f = rw (e, at_x) at names in cc

pub one_coded : (slash letter high low : ℕ) (after : List ℕ) → slash ≡ 92 → letter ≡ 120 → is_hex high ≡ true → is_hex low ≡ true
    → IsCharacter (slash ∷ letter ∷ high ∷ low ∷ after) 4
one_coded slash letter high low after is_slash is_x is_high is_low = record {
  fits = omega arith;
  some = omega arith;
  before = λ inside meant quoted. (_, coded slash letter high low inside meant is_slash is_x is_high is_low quoted);
  behind = λ inside meant rest are quoted. back inside meant rest are quoted;
}
  where
    back : (inside meant rest : List ℕ) → slash ∷ letter ∷ high ∷ low ∷ after ≡ inside ++ 34 ∷ rest → Quoted inside meant
        → (u : List ℕ) × (v : List ℕ) × (inside ≡ slash ∷ letter ∷ high ∷ low ∷ u) × Quoted u v × (after ≡ u ++ 34 ∷ rest)
    back _ _ rest are nothing = let e : slash ≡ 34 = cc in absurd (omega (arith, e, is_slash))
    back _ _ rest are (itself b u v is quoted) = let e : b ≡ slash = cc in let f = rw (e, is_slash) at is in cc
    back _ _ rest are (escaped s l u v at names2 quoted) = let e : l ≡ letter = cc in let f = rw (e, is_x) at names2 in cc
    back _ _ rest are (coded s x h l u v at at_x is_high2 is_low2 quoted) =
        (u, v, (let d : slash ≡ s = cc in let c : letter ≡ x = cc in let e : high ≡ h = cc in let f : low ≡ l = cc in rw (d, c, e, f) refl), quoted, (cc))

pub begins_coded : (slash letter : ℕ) (after : List ℕ) → slash ≡ 92 → letter ≡ 120 → begins_hex after ≡ true → IsCharacter (slash ∷ letter ∷ after) 4
begins_coded slash letter [] is_slash is_x hex = cc
begins_coded slash letter (high ∷ []) is_slash is_x hex = cc
begins_coded slash letter (high ∷ low ∷ after) is_slash is_x hex = let both = and_parts (is_hex high) (is_hex low) hex in
    one_coded slash letter high low after is_slash is_x both.0 both.1

-- no character
pub no_escape : (letter : ℕ) (after : List ℕ) → is_named letter ≡ false → (letter ≡ 120 → begins_hex after ≡ true → ⊥) → HasNoCharacter (92 ∷ letter ∷ after)
no_escape letter after unnamed uncoded = λ inside meant rest are quoted. back inside meant rest are quoted
  where
    back : (inside meant rest : List ℕ) → 92 ∷ letter ∷ after ≡ inside ++ 34 ∷ rest → Quoted inside meant → inside ≡ []
    back _ _ rest are nothing = refl
    back _ _ rest are (itself b u v is quoted) = let e : 92 ≡ b = cc in let f = rw (← e) at is in cc
    back _ _ rest are (escaped slash l u v at names quoted) = let e : letter ≡ l = cc in let f = rw (← e) at names in cc
    back _ _ rest are (coded slash x h l u v at at_x is_high is_low quoted) =
        let e : letter ≡ x = cc in let tail : after ≡ h ∷ l ∷ (u ++ 34 ∷ rest) = cc in
        absurd (uncoded (e ∙ at_x) (rw tail (rw (is_high, is_low) refl)))

-- the characters so far
pub record TextSoFar (bytes rest : List ℕ) (len : ℕ) : Type 0 where
  pub fits : len + length rest ≡ length bytes
  pub are : drop len bytes ≡ rest
  pub before : (inside meant : List ℕ) → Quoted inside meant → (more : List ℕ) × Quoted (take len bytes ++ inside) more
  pub behind : (inside meant after : List ℕ) → bytes ≡ inside ++ 34 ∷ after → Quoted inside meant
      → (u : List ℕ) × (v : List ℕ) × (inside ≡ take len bytes ++ u) × Quoted u v × (rest ≡ u ++ 34 ∷ after)

pub more_text : (bytes rest : List ℕ) (len n : ℕ) → TextSoFar bytes rest len → IsCharacter rest n → TextSoFar bytes (drop n rest) (len + n)
more_text bytes rest len n so is =
    let taken : take (len + n) bytes ≡ take len bytes ++ take n rest = take-add len n bytes ∙ ap (λ l. take len bytes ++ take n l) so.are in
    record {
      fits = let long = length-drop n rest in omega (arith, long, so.fits, is.fits);
      are = rw (← so.are) (sym (drop-drop n len bytes));
      before = λ inside meant quoted.
          let one = is.before inside meant quoted in
          let all = so.before (take n rest ++ inside) one.0 one.1 in
          (all.0, rw (taken, append_assoc (take len bytes) (take n rest) inside) all.1);
      behind = λ inside meant after are quoted.
          let all = so.behind inside meant after are quoted in
          let one = is.behind all.0 all.1 after all.4 all.3 in
          (one.0, one.1, all.2 ∙ ap (λ l. take len bytes ++ l) one.2 ∙ sym (append_assoc (take len bytes) (take n rest) one.0) ∙ ap (λ l. l ++ one.0) (sym taken), one.3, one.4);
    }

pub all_text : (bytes rest more : List ℕ) (len first : ℕ) → TextSoFar bytes rest len → rest ≡ first ∷ more → first ≡ 34 → IsInside bytes len
all_text bytes rest more len first so are is = record {
  meant = (so.before [] [] nothing).0;
  quoted = rw append-nil at (so.before [] [] nothing).1;
  ends = at_drop len bytes more (so.are ∙ are ∙ ap (λ b. b ∷ more) is);
}
  where
    at_drop : (n : ℕ) (bytes more : List ℕ) → drop n bytes ≡ 34 ∷ more → slice_get bytes n ≡ Some 34
    at_drop zero [] more at = cc
    at_drop zero (byte ∷ bytes) more at = (let e : byte ≡ 34 = cc in rw e refl)
    at_drop (suc n) [] more at = cc
    at_drop (suc n) (byte ∷ bytes) more at = at_drop n bytes more at
