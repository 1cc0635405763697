-- What the characters of a string mean.
use Rattle.std.proofs.Common.{◌≡◌, ℕ, ◌+◌, ◌*◌, List, [], ◌∷◌, ◌++◌, refl, sym, ap, ◌∙◌, arith, append_assoc}
use Rattle.std.specs.Char.{digit_value}
use Rattle.std.proofs.lemmas.List.{append-nil}
use Rattle.spec_text.specs.Escapes.{named}
use Rattle.spec_text.specs.Lexemes.{Quoted, itself, escaped, coded}
use Rattle.spec_text.specs.Steps.{MeansFirst, MeansNothing}

pub itself_first : (first : ℕ) (after : List ℕ) → (first ≡ 92 → ⊥) → MeansFirst (first ∷ after) first after
itself_first first after plain = record { shorter = omega arith; left = λ meant quoted. by after meant quoted }
  where
    by : (after meant : List ℕ) → Quoted (first ∷ after) meant → (more : List ℕ) × (meant ≡ first ∷ more) × Quoted after more
    by _ _ (itself _ _ more is quoted) = (more, refl, quoted)
    by _ _ (escaped _ letter rest more at names quoted) = absurd (plain at)
    by _ _ (coded _ x high low rest more at at_x h l quoted) = absurd (plain at)

pub named_first : (slash letter : ℕ) (after : List ℕ) → slash ≡ 92 → (letter ≡ 120 → ⊥) → MeansFirst (slash ∷ letter ∷ after) (named letter) after
named_first slash letter after is_slash no_x = record { shorter = omega arith; left = λ meant quoted. by after meant quoted }
  where
    by : (after meant : List ℕ) → Quoted (slash ∷ letter ∷ after) meant → (more : List ℕ) × (meant ≡ named letter ∷ more) × Quoted after more
    by _ _ (itself _ _ more is quoted) = let e = rw is_slash at is in cc
    by _ _ (escaped _ _ _ more at names quoted) = (more, refl, quoted)
    by _ _ (coded _ _ high low rest more at at_x h l quoted) = absurd (no_x at_x)

pub coded_first : (slash x high low : ℕ) (after : List ℕ) (value : ℕ) → slash ≡ 92 → x ≡ 120 → value ≡ digit_value high * 16 + digit_value low → MeansFirst (slash ∷ x ∷ high ∷ low ∷ after) value after
coded_first slash x high low after value is_slash is_x is = rw is (record { shorter = omega arith; left = λ meant quoted. by meant quoted })
  where
    by : (meant : List ℕ) → Quoted (slash ∷ x ∷ high ∷ low ∷ after) meant → (more : List ℕ) × (meant ≡ (digit_value high * 16 + digit_value low) ∷ more) × Quoted after more
    by _ (itself _ _ more is quoted) = let e = rw is_slash at is in cc
    by _ (escaped _ _ _ more at names quoted) = let e = rw is_x at names in cc
    by _ (coded _ _ _ _ _ more at at_x h l quoted) = (more, refl, quoted)

-- the bytes so far
abbrev pub MeantSoFar : List ℕ → List ℕ → List ℕ → Type 0
MeantSoFar inside rest done = (meant : List ℕ) → Quoted inside meant → (more : List ℕ) × (meant ≡ done ++ more) × Quoted rest more

pub none_yet : (inside done : List ℕ) → done ≡ [] → MeantSoFar inside inside done
none_yet inside done empty meant quoted = (meant, rw empty refl, quoted)

pub one_more_byte : (inside rest after done new : List ℕ) (byte : ℕ) → MeantSoFar inside rest done → MeansFirst rest byte after → new ≡ done ++ byte ∷ [] → MeantSoFar inside after new
one_more_byte inside rest after done new byte so first are meant quoted =
    let all = so meant quoted in
    let one = first.left all.0 all.2 in
    (one.0, all.1 ∙ ap (λ l. done ++ l) one.1 ∙ sym (append_assoc done (byte ∷ []) one.0) ∙ ap (λ l. l ++ one.0) (sym are), one.2)

pub all_meant : (inside rest done : List ℕ) → MeantSoFar inside rest done → MeansNothing rest → (meant : List ℕ) → Quoted inside meant → done ≡ meant
all_meant inside rest done so none meant quoted =
    let all = so meant quoted in
    let empty = none all.0 all.2 in
    sym (all.1 ∙ ap (λ l. done ++ l) empty ∙ append-nil done)
