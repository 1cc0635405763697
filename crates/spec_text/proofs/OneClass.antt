-- A class lists one thing, and ends in one place.
use Rattle.std.specs.Prelude.{nat_lt, ◌&&◌, not}
use Rattle.std.proofs.Common.{◌≡◌, ℕ, ◌<◌, Bool, false, List, [], ◌∷◌, ◌++◌, length, get_or, refl, sym, ap, ◌∙◌, arith}
use Rattle.spec_text.specs.Escapes.{named}
use Rattle.spec_text.specs.Classes.{is_class_byte, ClassChar, plain, by_name, by_code, Span, Listed, no_spans, single, range, set_of_spans, ClassSays, these, others}

module _ (a b : List ℕ) where
  -- two characters with which one text begins
  pub one_char : (xs ys rest more : List ℕ) (v w : ℕ) → ClassChar xs v rest → ClassChar ys w more → xs ++ 93 ∷ a ≡ ys ++ 93 ∷ b
      → (v ≡ w) × (rest ++ 93 ∷ a ≡ more ++ 93 ∷ b)
  one_char _ _ _ _ _ _ (plain byte rest is) (plain byte2 more is2) same = ((cc), (cc))
  one_char _ _ _ _ _ _ (plain byte rest is) (by_name slash letter more at names) same = let e : byte ≡ slash = cc in let f = rw (e, at) at is in cc
  one_char _ _ _ _ _ _ (plain byte rest is) (by_code slash x high low more at at_x h l) same = let e : byte ≡ slash = cc in let f = rw (e, at) at is in cc
  one_char _ _ _ _ _ _ (by_name slash letter rest at names) (plain byte more is) same = let e : byte ≡ slash = cc in let f = rw (e, at) at is in cc
  one_char _ _ _ _ _ _ (by_name slash letter rest at names) (by_name slash2 letter2 more at2 names2) same =
      let e : letter ≡ letter2 = cc in (ap named e, (cc))
  one_char _ _ _ _ _ _ (by_name slash letter rest at names) (by_code slash2 x high low more at2 at_x h l) same =
      let e : letter ≡ x = cc in let f = rw (e, at_x) at names in cc
  one_char _ _ _ _ _ _ (by_code slash x high low rest at at_x h l) (plain byte more is) same = let e : byte ≡ slash = cc in let f = rw (e, at) at is in cc
  one_char _ _ _ _ _ _ (by_code slash x high low rest at at_x h l) (by_name slash2 letter more at2 names) same =
      let e : letter ≡ x = cc in let f = rw (e, at_x) at names in cc
  one_char _ _ _ _ _ _ (by_code slash x high low rest at at_x h l) (by_code slash2 x2 high2 low2 more at2 at_x2 h2 l2) same =
      let e : high ≡ high2 = cc in let f : low ≡ low2 = cc in (rw (e, f) refl, (cc))

  -- no character begins with `]` or `-`
  no_char : (xs ys rest : List ℕ) (v byte : ℕ) → ClassChar xs v rest → is_class_byte byte ≡ false → (byte ≡ 92 → ⊥) → xs ++ 93 ∷ a ≡ byte ∷ ys → ⊥
  no_char _ ys _ _ byte (plain first rest is) no_byte no_slash same = let e : first ≡ byte = cc in let f = rw e at is in cc
  no_char _ ys _ _ byte (by_name slash letter rest at names) no_byte no_slash same = let e : slash ≡ byte = cc in no_slash (sym e ∙ at)
  no_char _ ys _ _ byte (by_code slash x high low rest at at_x h l) no_byte no_slash same = let e : slash ≡ byte = cc in no_slash (sym e ∙ at)

bracket_no_byte : is_class_byte 93 ≡ false
bracket_no_byte = refl

dash_no_byte : (dash : ℕ) → dash ≡ 45 → is_class_byte dash ≡ false
dash_no_byte dash at = rw at refl

no_slash : (byte n : ℕ) → byte ≡ n → n < 92 → byte ≡ 92 → ⊥
no_slash byte n at less is = omega (arith, at, less, is)

bracket_no_slash : (byte : ℕ) → byte ≡ 93 → byte ≡ 92 → ⊥
bracket_no_slash byte at is = omega (arith, at, is)

-- nothing is listed behind a dash, and the end is no character
pub no_dash : (a rest ys : List ℕ) (spans : List Span) (dash : ℕ) → dash ≡ 45 → Listed rest spans → rest ++ 93 ∷ a ≡ dash ∷ ys → ⊥
no_dash a _ ys _ dash at no_spans same = let e : 93 ≡ dash = cc in omega (arith, e, at)
no_dash a _ ys _ dash at (single inside rest byte spans is listed) same = no_char a a inside ys rest byte dash is (dash_no_byte dash at) (no_slash dash 45 at (omega arith)) same
no_dash a _ ys _ dash at (range inside after rest low high d spans is at_d is2 order listed) same =
    no_char a a inside ys (d ∷ after) low dash is (dash_no_byte dash at) (no_slash dash 45 at (omega arith)) same

pub one_listed : (a b xs ys : List ℕ) (u v : List Span) → Listed xs u → Listed ys v → xs ++ 93 ∷ a ≡ ys ++ 93 ∷ b → (u ≡ v) × (a ≡ b)
one_listed a b _ _ _ _ no_spans no_spans same = (refl, (cc))
one_listed a b _ _ _ _ no_spans (single ys rest byte v is listed) same = absurd (no_char b a ys a rest byte 93 is bracket_no_byte (bracket_no_slash 93 refl) (sym same))
one_listed a b _ _ _ _ no_spans (range ys after rest low high d v is at_d is2 order listed) same =
    absurd (no_char b a ys a (d ∷ after) low 93 is bracket_no_byte (bracket_no_slash 93 refl) (sym same))
one_listed a b _ _ _ _ (single xs rest byte u is listed) no_spans same = absurd (no_char a b xs b rest byte 93 is bracket_no_byte (bracket_no_slash 93 refl) same)
one_listed a b _ _ _ _ (range xs after rest low high d u is at_d is2 order listed) no_spans same =
    absurd (no_char a b xs b (d ∷ after) low 93 is bracket_no_byte (bracket_no_slash 93 refl) same)
one_listed a b _ _ _ _ (single xs rest byte u is listed) (single ys more byte2 v is2 listed2) same =
    let first = one_char a b xs ys rest more byte byte2 is is2 same in
    let next = one_listed a b rest more u v listed listed2 first.1 in (rw (first.0, next.0) refl, next.1)
one_listed a b _ _ _ _ (single xs rest byte u is listed) (range ys after more low high d v is2 at_d is3 order listed2) same =
    let first = one_char a b xs ys rest (d ∷ after) byte low is is2 same in
    absurd (no_dash a rest (after ++ 93 ∷ b) u d at_d listed first.1)
one_listed a b _ _ _ _ (range xs after rest low high d u is at_d is3 order listed) (single ys more byte v is2 listed2) same =
    let first = one_char a b xs ys (d ∷ after) more low byte is is2 same in
    absurd (no_dash b more (after ++ 93 ∷ a) v d at_d listed2 (sym first.1))
one_listed a b _ _ _ _ (range xs after rest low high d u is at_d is3 order listed) (range ys behind more low2 high2 d2 v is2 at_d2 is4 order2 listed2) same =
    let first = one_char a b xs ys (d ∷ after) (d2 ∷ behind) low low2 is is2 same in
    let tail : after ++ 93 ∷ a ≡ behind ++ 93 ∷ b = (let e = first.1 in cc) in
    let second = one_char a b after behind rest more high high2 is3 is4 tail in
    let next = one_listed a b rest more u v listed listed2 second.1 in (rw (first.0, second.0, next.0) refl, next.1)

pub first_is : (xs t ys : List ℕ) (y : ℕ) → 0 < length xs → xs ++ t ≡ y ∷ ys → get_or xs 0 0 ≡ y
first_is [] t ys y some same = absurd (omega (arith, some))
first_is (x ∷ xs) t ys y some same = cc

pub one_class : (a b xs ys : List ℕ) (p q : ℕ → Bool) → ClassSays xs p → ClassSays ys q → xs ++ 93 ∷ a ≡ ys ++ 93 ∷ b → (p ≡ q) × (a ≡ b)
one_class a b _ _ _ _ (these xs u listed some plain_first) (these ys v listed2 some2 plain_first2) same =
    let all = one_listed a b xs ys u v listed listed2 same in (ap set_of_spans all.0, all.1)
one_class a b _ _ _ _ (these xs u listed some plain_first) (others hat ys v at listed2 some2) same = absurd (plain_first (first_is xs (93 ∷ a) (ys ++ 93 ∷ b) hat some same ∙ at))
one_class a b _ _ _ _ (others hat xs u at listed some) (these ys v listed2 some2 plain_first) same = absurd (plain_first (first_is ys (93 ∷ b) (xs ++ 93 ∷ a) hat some2 (sym same) ∙ at))
one_class a b _ _ _ _ (others hat xs u at listed some) (others hat2 ys v at2 listed2 some2) same =
    let tail : xs ++ 93 ∷ a ≡ ys ++ 93 ∷ b = cc in
    let all = one_listed a b xs ys u v listed listed2 tail in (ap (λ s byte. nat_lt byte 256 && not (set_of_spans s byte)) all.0, all.1)
