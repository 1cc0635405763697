-- What stands as a token, by its first byte; a line begins with one token at most.
use Rattle.std.proofs.Common.{◌≡◌, ℕ, ◌⊎◌, inl, inr, Bool, true, false, List, [], ◌∷◌, ◌++◌, take, get_or, refl, sym, ap, ◌∙◌, arith, rules}
use Rattle.std.specs.List.{list_all}
use Rattle.std.specs.Str.Parse.{digits_value}
use Rattle.std.proofs.lemmas.Bool.Decides.{nat_tests}
use Rattle.spec_text.specs.Bytes.{is_letter, is_digit, is_word_byte, is_sign_byte, is_sign_pair}
use Rattle.spec_text.specs.Classes.{ClassSays}
use Rattle.spec_text.proofs.OneClass.{one_class}
use Rattle.spec_text.specs.Lexemes.{Lexeme, word, number, text, class, sign, Form, a_word, a_number, a_text, a_class, a_sign, a_pair, Quoted, nothing, itself, escaped, coded, Begins}

-- first bytes are apart
letter_no_digit : (byte : ℕ) → is_letter byte ≡ true → is_digit byte ≡ true → ⊥
letter_no_digit byte is other = grind (arith, nat_tests)

letter_no_sign : (byte : ℕ) → is_letter byte ≡ true → is_sign_byte byte ≡ true → ⊥
letter_no_sign byte is other = grind (arith, nat_tests)

digit_no_sign : (byte : ℕ) → is_digit byte ≡ true → is_sign_byte byte ≡ true → ⊥
digit_no_sign byte is other = grind (arith, nat_tests)

letter_no_pair : (first second : ℕ) → is_letter first ≡ true → is_sign_pair first second ≡ true → ⊥
letter_no_pair first second is other = grind (arith, nat_tests)

digit_no_pair : (first second : ℕ) → is_digit first ≡ true → is_sign_pair first second ≡ true → ⊥
digit_no_pair first second is other = grind (arith, nat_tests)

-- what a token is that begins with a letter
pub as_word : (bytes : List ℕ) (said : Lexeme) → Form bytes said → is_letter (get_or bytes 0 0) ≡ true
    → (list_all is_word_byte bytes ≡ true) × (said ≡ word bytes)
as_word _ _ (a_word byte rest first others) is = (rw (first, others) refl, refl)
as_word _ _ (a_number byte rest first others) is = absurd (letter_no_digit byte is first)
as_word _ _ (a_text quote inside meant at quoted) is = let e = rw at at is in cc
as_word _ _ (a_class bracket inside set at says) is = let e = rw at at is in cc
as_word _ _ (a_sign byte first) is = absurd (letter_no_sign byte is first)
as_word _ _ (a_pair first second pair) is = absurd (letter_no_pair first second is pair)

-- with a digit
pub as_number : (bytes : List ℕ) (said : Lexeme) → Form bytes said → is_digit (get_or bytes 0 0) ≡ true
    → (list_all is_digit bytes ≡ true) × (said ≡ number (digits_value 10 bytes))
as_number _ _ (a_word byte rest first others) is = absurd (letter_no_digit byte first is)
as_number _ _ (a_number byte rest first others) is = (rw (first, others) refl, refl)
as_number _ _ (a_text quote inside meant at quoted) is = let e = rw at at is in cc
as_number _ _ (a_class bracket inside set at says) is = let e = rw at at is in cc
as_number _ _ (a_sign byte first) is = absurd (digit_no_sign byte is first)
as_number _ _ (a_pair first second pair) is = absurd (digit_no_pair first second is pair)

-- with a quote
pub record IsText (bytes : List ℕ) (said : Lexeme) : Type 0 where
  pub inside : List ℕ
  pub meant : List ℕ
  pub are : bytes ≡ 34 ∷ (inside ++ 34 ∷ [])
  pub quoted : Quoted inside meant
  pub says : said ≡ text meant

pub as_text : (bytes : List ℕ) (said : Lexeme) → Form bytes said → get_or bytes 0 0 ≡ 34 → IsText bytes said
as_text _ _ (a_word byte rest first others) is = let e = rw is at first in cc
as_text _ _ (a_number byte rest first others) is = let e = rw is at first in cc
as_text _ _ (a_text quote inside meant at quoted) is = record { inside = inside; meant = meant; are = rw at refl; quoted = quoted; says = refl }
as_text _ _ (a_class bracket inside set at says) is = absurd (omega (arith, at, is))
as_text _ _ (a_sign byte first) is = let e = rw is at first in cc
as_text _ _ (a_pair first second pair) is = let e = rw is at pair in absurd (no_pair second e)
  where
    no_pair : (second : ℕ) → is_sign_pair 34 second ≡ true → ⊥
    no_pair second pair = grind (arith, nat_tests)

-- with a bracket
pub record IsClass (bytes : List ℕ) (said : Lexeme) : Type 0 where
  pub inside : List ℕ
  pub set : ℕ → Bool
  pub are : bytes ≡ 91 ∷ (inside ++ 93 ∷ [])
  pub says : ClassSays inside set
  pub is : said ≡ class set

pub as_class : (bytes : List ℕ) (said : Lexeme) → Form bytes said → get_or bytes 0 0 ≡ 91 → IsClass bytes said
as_class _ _ (a_word byte rest first others) is = let e = rw is at first in cc
as_class _ _ (a_number byte rest first others) is = let e = rw is at first in cc
as_class _ _ (a_text quote inside meant at quoted) is = absurd (omega (arith, at, is))
as_class _ _ (a_class bracket inside set at says) is = record { inside = inside; set = set; are = rw at refl; says = says; is = refl }
as_class _ _ (a_sign byte first) is = let e = rw is at first in cc
as_class _ _ (a_pair first second pair) is = let e = rw is at pair in absurd (no_pair second e)
  where
    no_pair : (second : ℕ) → is_sign_pair 91 second ≡ true → ⊥
    no_pair second pair = grind (arith, nat_tests)

-- with anything else
pub data IsSign : List ℕ → Lexeme → Type 0 where
  alone : (byte : ℕ) → is_sign_byte byte ≡ true → IsSign (byte ∷ []) (sign (byte ∷ []))
  pair : (first second : ℕ) → is_sign_pair first second ≡ true → IsSign (first ∷ second ∷ []) (sign (first ∷ second ∷ []))

pub as_sign : (bytes : List ℕ) (said : Lexeme) → Form bytes said → is_letter (get_or bytes 0 0) ≡ false → is_digit (get_or bytes 0 0) ≡ false
    → (get_or bytes 0 0 ≡ 34 → ⊥) → (get_or bytes 0 0 ≡ 91 → ⊥) → IsSign bytes said
as_sign _ _ (a_word byte rest first others) no_letter no_digit no_quote no_bracket = cc
as_sign _ _ (a_number byte rest first others) no_letter no_digit no_quote no_bracket = cc
as_sign _ _ (a_class bracket inside set at says) no_letter no_digit no_quote no_bracket = absurd (no_bracket at)
as_sign _ _ (a_text quote inside meant at quoted) no_letter no_digit no_quote no_bracket = absurd (no_quote at)
as_sign _ _ (a_sign byte first) no_letter no_digit no_quote no_bracket = alone byte first
as_sign _ _ (a_pair first second both) no_letter no_digit no_quote no_bracket = pair first second both

-- a string ends in one place, and means one list of bytes
pub one_text : (inside other rest more meant others : List ℕ) → Quoted inside meant → Quoted other others
    → inside ++ 34 ∷ rest ≡ other ++ 34 ∷ more → (inside ≡ other) × (meant ≡ others)
one_text _ _ rest more _ _ nothing nothing same = (refl, refl)
one_text _ _ rest more _ _ nothing (itself byte _ _ is quoted) same = let e : byte ≡ 34 = cc in let f = rw e at is in cc
one_text _ _ rest more _ _ nothing (escaped slash letter _ _ at names quoted) same = let e : slash ≡ 34 = cc in absurd (omega (arith, e, at))
one_text _ _ rest more _ _ nothing (coded slash x high low _ _ at at_x is_high is_low quoted) same = let e : slash ≡ 34 = cc in absurd (omega (arith, e, at))
one_text _ _ rest more _ _ (itself byte _ _ is quoted) nothing same = let e : byte ≡ 34 = cc in let f = rw e at is in cc
one_text _ _ rest more _ _ (escaped slash letter _ _ at names quoted) nothing same = let e : slash ≡ 34 = cc in absurd (omega (arith, e, at))
one_text _ _ rest more _ _ (coded slash x high low _ _ at at_x is_high is_low quoted) nothing same = let e : slash ≡ 34 = cc in absurd (omega (arith, e, at))
one_text _ _ rest more _ _ (itself byte u a is quoted) (itself byte2 v b is2 quoted2) same =
    let first : byte ≡ byte2 = cc in
    let next = one_text u v rest more a b quoted quoted2 (cc) in (rw (first, next.0) refl, rw (first, next.1) refl)
one_text _ _ rest more _ _ (itself byte u a is quoted) (escaped slash letter v b at names quoted2) same =
    let e : byte ≡ slash = cc in let f = rw (e, at) at is in cc
one_text _ _ rest more _ _ (itself byte u a is quoted) (coded slash x high low v b at at_x is_high is_low quoted2) same =
    let e : byte ≡ slash = cc in let f = rw (e, at) at is in cc
one_text _ _ rest more _ _ (escaped slash letter v b at names quoted) (itself byte u a is quoted2) same =
    let e : byte ≡ slash = cc in let f = rw (e, at) at is in cc
one_text _ _ rest more _ _ (coded slash x high low v b at at_x is_high is_low quoted) (itself byte u a is quoted2) same =
    let e : byte ≡ slash = cc in let f = rw (e, at) at is in cc
one_text _ _ rest more _ _ (escaped slash letter u a at names quoted) (escaped slash2 letter2 v b at2 names2 quoted2) same =
    let first : slash ≡ slash2 = cc in let second : letter ≡ letter2 = cc in
    let next = one_text u v rest more a b quoted quoted2 (cc) in (rw (first, second, next.0) refl, rw (second, next.1) refl)
one_text _ _ rest more _ _ (escaped slash letter u a at names quoted) (coded slash2 x high low v b at2 at_x is_high is_low quoted2) same =
    let e : letter ≡ x = cc in let f = rw (e, at_x) at names in cc
one_text _ _ rest more _ _ (coded slash2 x high low v b at2 at_x is_high is_low quoted) (escaped slash letter u a at names quoted2) same =
    let e : letter ≡ x = cc in let f = rw (e, at_x) at names in cc
one_text _ _ rest more _ _ (coded slash x high low u a at at_x is_high is_low quoted) (coded slash2 x2 high2 low2 v b at2 at_x2 is_high2 is_low2 quoted2) same =
    let first : slash ≡ slash2 = cc in let second : x ≡ x2 = cc in let third : high ≡ high2 = cc in let fourth : low ≡ low2 = cc in
    let next = one_text u v rest more a b quoted quoted2 (cc) in (rw (first, second, third, fourth, next.0) refl, rw (third, fourth, next.1) refl)

-- the same bytes say one thing
one_sign : (bytes : List ℕ) (said other : Lexeme) → IsSign bytes said → IsSign bytes other → said ≡ other
one_sign _ _ _ (alone byte is) (alone _ is2) = refl
one_sign _ _ _ (pair first second is) (pair _ _ is2) = refl

by_first : (bytes : List ℕ) (said other : Lexeme) (letter digit : Bool) → is_letter (get_or bytes 0 0) ≡ letter
    → is_digit (get_or bytes 0 0) ≡ digit → (get_or bytes 0 0 ≡ 34) ⊎ (get_or bytes 0 0 ≡ 34 → ⊥) → (get_or bytes 0 0 ≡ 91) ⊎ (get_or bytes 0 0 ≡ 91 → ⊥) → Form bytes said → Form bytes other → said ≡ other
by_first bytes said other true digit is is_d quote bracket f g = (as_word bytes said f is).1 ∙ sym (as_word bytes other g is).1
by_first bytes said other false true is is_d quote bracket f g = (as_number bytes said f is_d).1 ∙ sym (as_number bytes other g is_d).1
by_first bytes said other false false is is_d (inl quote) bracket f g =
    let t = as_text bytes said f quote in let u = as_text bytes other g quote in
    let same : t.inside ++ 34 ∷ [] ≡ u.inside ++ 34 ∷ [] = (let e = sym t.are ∙ u.are in cc) in
    t.says ∙ ap text (one_text t.inside u.inside [] [] t.meant u.meant t.quoted u.quoted same).1 ∙ sym u.says
by_first bytes said other false false is is_d (inr quote) (inl bracket) f g =
    let t = as_class bytes said f bracket in let u = as_class bytes other g bracket in
    let same : t.inside ++ 93 ∷ [] ≡ u.inside ++ 93 ∷ [] = (let e = sym t.are ∙ u.are in cc) in
    t.is ∙ ap class (one_class [] [] t.inside u.inside t.set u.set t.says u.says same).0 ∙ sym u.is
by_first bytes said other false false is is_d (inr quote) (inr bracket) f g =
    one_sign bytes said other (as_sign bytes said f is is_d quote bracket) (as_sign bytes other g is is_d quote bracket)

is_or_not : (n m : ℕ) → (n ≡ m) ⊎ (n ≡ m → ⊥)
is_or_not n m = search rules

pub one_form : (bytes : List ℕ) (said other : Lexeme) → Form bytes said → Form bytes other → said ≡ other
one_form bytes said other = by_first bytes said other (is_letter (get_or bytes 0 0)) (is_digit (get_or bytes 0 0)) refl refl (is_or_not (get_or bytes 0 0) 34) (is_or_not (get_or bytes 0 0) 91)

-- a line begins with one token
pub one_begin : (line : List ℕ) (said other : Lexeme) (n m : ℕ) → Begins line said n → Begins line other m → (said ≡ other) × (n ≡ m)
one_begin line said other n m f g =
    let same : n ≡ m = omega (arith, f.longest m other g.fits g.is_token, g.longest n said f.fits f.is_token) in
    (one_form (take m line) said other (rw same at f.is_token) g.is_token, same)
