-- A class as a token.
use Rattle.std.proofs.Common.{◌≡◌, ℕ, zero, suc, ◌+◌, ◌<◌, Bool, List, [], ◌∷◌, ◌++◌, length, take, drop, refl, sym, ap, ◌∙◌, arith, append_assoc, length-drop, length-append}
use Rattle.std.specs.Prelude.{nat_lt, ◌&&◌, not}
use Rattle.std.proofs.lemmas.List.{take-append-drop}
use Rattle.spec_text.specs.Lexemes.{class, a_class, Begins}
use Rattle.spec_text.specs.Classes.{set_of, ClassSays, these, others, IsClassOf, HasNoClass, IsSetAt, HasNoSet}
use Rattle.spec_text.specs.Steps.{IsFirst, HasNo2}
use Rattle.spec_text.specs.declared.token.SpecSort.TheVariants.{Class}
use Rattle.spec_text.proofs.Forms.{as_class}
use Rattle.spec_text.proofs.OneClass.{one_class, first_is}
use Rattle.spec_text.proofs.Begin.{first_of_form}

pub set_these : (bytes words rest : List ℕ) (first : ℕ) (after : List ℕ) → bytes ≡ first ∷ after → (first ≡ 94 → ⊥) → IsClassOf bytes words rest → IsSetAt bytes words rest
set_these bytes words rest first after at plain is = record {
  inside = is.inside;
  are = is.are;
  says = rw is.same (these is.inside is.spans is.listed is.some (λ hat. plain (sym (first_is is.inside (93 ∷ rest) after first is.some (sym is.are ∙ at)) ∙ hat)));
}

pub set_others : (bytes words new rest : List ℕ) (first : ℕ) (after : List ℕ) → bytes ≡ first ∷ after → first ≡ 94 → IsClassOf after words rest
    → set_of new ≡ (λ byte. nat_lt byte 256 && not (set_of words byte)) → IsSetAt bytes new rest
set_others bytes words new rest first after at hat is flipped = record {
  inside = first ∷ is.inside;
  are = at ∙ ap (λ l. first ∷ l) is.are;
  says = rw (flipped ∙ ap (λ s byte. nat_lt byte 256 && not (s byte)) is.same) (others first is.inside is.spans hat is.listed is.some);
}

-- the class is the longest token
whole : (m : ℕ) (line inside : List ℕ) → take m (91 ∷ line) ≡ 91 ∷ (inside ++ 93 ∷ []) → line ≡ inside ++ 93 ∷ drop m (91 ∷ line)
whole m line inside at =
    let all = sym (take-append-drop m (91 ∷ line)) ∙ ap (λ l. l ++ drop m (91 ∷ line)) at in
    let tail : line ≡ (inside ++ 93 ∷ []) ++ drop m (91 ∷ line) = cc in
    tail ∙ append_assoc inside (93 ∷ []) (drop m (91 ∷ line))

take_front : (xs ys : List ℕ) (n : ℕ) → n ≡ length xs → take n (xs ++ ys) ≡ xs
take_front [] ys n is = rw is refl
take_front (x ∷ xs) ys zero is = absurd (omega (arith, is))
take_front (x ∷ xs) ys (suc n) is = ap (λ l. x ∷ l) (take_front xs ys n (omega (arith, is)))

pub begins_class : (line words rest : List ℕ) (n : ℕ) → IsSetAt line words rest → n + length rest ≡ length (91 ∷ line) → IsFirst (91 ∷ line) Class n
begins_class line words rest n is long =
    let a = ap length is.are in
    let b = length-append is.inside (93 ∷ rest) in
    let front : 91 ∷ line ≡ (91 ∷ (is.inside ++ 93 ∷ [])) ++ rest = ap (λ l. 91 ∷ l) (is.are ∙ sym (append_assoc is.inside (93 ∷ []) rest)) in
    let size : n ≡ length (91 ∷ (is.inside ++ 93 ∷ [])) = (let c = length-append is.inside (93 ∷ []) in omega (arith, a, b, c, long)) in
    record {
      said = class (set_of words);
      is_sort = refl;
      begins = record {
        fits = omega (arith, long);
        is_token = rw (front, take_front (91 ∷ (is.inside ++ 93 ∷ [])) rest n size) (a_class 91 is.inside (set_of words) refl is.says);
        longest = λ m other fits form.
            let t = as_class (take m (91 ∷ line)) other form (first_of_form m (91 ∷ line) other form) in
            let same = (one_class rest (drop m (91 ∷ line)) is.inside t.inside (set_of words) t.set is.says t.says (sym is.are ∙ whole m line t.inside t.are)).1 in
            let long_m = length-drop m (91 ∷ line) in let eq = ap length same in
            omega (arith, long, long_m, eq, fits);
      };
    }

pub no_class_there : (line : List ℕ) → HasNoSet line → HasNo2 (Begins (91 ∷ line))
no_class_there line none = λ said m begins.
    let t = as_class (take m (91 ∷ line)) said begins.is_token (first_of_form m (91 ∷ line) said begins.is_token) in
    none t.inside (drop m (91 ∷ line)) t.set (whole m line t.inside t.are) t.says

pub set_shorter : (bytes words rest : List ℕ) → IsSetAt bytes words rest → length rest < length bytes
set_shorter bytes words rest is = let a = ap length is.are in let b = length-append is.inside (93 ∷ rest) in omega (arith, a, b)

pub no_these : (bytes : List ℕ) (first : ℕ) (after : List ℕ) → bytes ≡ first ∷ after → (first ≡ 94 → ⊥) → HasNoClass bytes → HasNoSet bytes
no_these bytes first after at plain none inside rest set are says = by inside set are says
  where
    by : (inside : List ℕ) (set : ℕ → Bool) → bytes ≡ inside ++ 93 ∷ rest → ClassSays inside set → ⊥
    by _ _ are (these inside spans listed some plain_first) = none inside rest spans are some listed
    by _ _ are (others hat inside spans is_hat listed some) = plain (let e : first ≡ hat = (let f = sym at ∙ are in cc) in e ∙ is_hat)
