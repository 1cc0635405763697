-- An expression at a place among some of the tokens, and among all of them; how far it goes, and what it has.
use Rattle.std.proofs.Common.{◌≡◌, ap, refl, sym, ◌∙◌, subst, arith, ℕ, zero, suc, ◌+◌, ◌-◌, ◌<◌, ◌≤◌, List, [], ◌∷◌, ◌++◌, length, take, drop, Some, append_assoc, length-append, Result, Ok, Err, IfErr}
use Rattle.std.specs.List.{take-map}
use Rattle.std.specs.Result.{IsErrAnd}
use Rattle.std.proofs.lemmas.List.{drop-append-le, drop-map, length-drop, length-map, length-take-le, take-append-drop}
use Rattle.std.proofs.lemmas.List.Elements.{All-drop, All-take}
use Rattle.spec_text.specs.Lexemes.{Lexeme}
use Rattle.spec_text.specs.Reading.{Placed}
use Rattle.spec_text.specs.Sizes.{token_bytes}
use Rattle.spec_text.specs.Spans.{Spells, span_of}
use Rattle.spec_text.specs.declared.token.SpecToken.{SpecToken}
use Rattle.expr_lang.specs.Expression.{Expression}
use Rattle.expr_lang.specs.Units.{units_of}
use Rattle.expr_read.specs.Notation.{MayFollow}
use Rattle.expr_read.specs.Resolving.{Vocabulary, resolved}
use Rattle.expr_read.specs.Spoken.{Spoken}
use Rattle.expr_read.specs.Strings.{string_bytes}
use Rattle.expr_read.specs.Written.{AreTokensOf, StandsAt, bytes_between, bytes_told, said_in}
use Rattle.expr_read.specs.declared.fault.ExprFault.{ExprFault}
use Rattle.expr_read.specs.declared.fault.ExprFault.TheVariants.{NoMemory}
use Rattle.expr_read.proofs.FewUnits.{few_units}
use Rattle.expr_read.proofs.Moved.{IsMovedLevel, follows_longer, moved_level}
use Rattle.expr_read.proofs.StringBytes.{all_meant, all_spelled, level_bytes}

-- the first ones of the tokens
pub front_tokens : (file : List ℕ) (tokens : List SpecToken) (n : ℕ) (said : List Placed) → AreTokensOf file tokens said
    → AreTokensOf file (take n tokens) (take n said)
front_tokens file tokens n said are = record {
  same = ap (take n) are.same ∙ take-map span_of n said;
  spelled = All-take (Spells file) n said are.spelled;
}

pub front_there : (file : List ℕ) (tokens : List SpecToken) (n : ℕ) → ((said : List Placed) × AreTokensOf file tokens said)
    → (said : List Placed) × AreTokensOf file (take n tokens) said
front_there file tokens n (said, are) = (take n said, front_tokens file tokens n said are)

-- an expression goes on by one token at least
pub stands_further : (tokens : List Lexeme) (at next : ℕ) (e : Spoken) → StandsAt tokens at next e → at < next
stands_further tokens at next e stands =
    let moved = moved_level 0 (drop at tokens) e (drop next tokens) stands.is.at_level in
    let all = ap length moved.are ∙ length-append moved.own (drop next tokens) in
    let first = length-drop at tokens in
    let second = length-drop next tokens in
    let some = moved.some in
    let within = stands.within in omega (arith, all, first, second, some, within)

-- what stands among the first tokens, with one of them behind it, stands among all of them
pub stands_longer : (all : List Lexeme) (end at next : ℕ) (e : Spoken) → StandsAt (take end all) at next e → next < end
    → end ≤ length all → StandsAt all at next e
stands_longer all end at next e stands before within = record {
  within = omega (arith, before, within);
  is = record { at_level = moved.again (drop at all) (drop next all) begins; few = stands.is.few };
  follows = subst MayFollow (sym behind) (follows_longer (drop next front) back some stands.follows);
}
  where
    front : List Lexeme
    front = take end all

    back : List Lexeme
    back = drop end all

    long : length front ≡ end
    long = length-take-le end all within

    moved : IsMovedLevel 0 (drop at front) e (drop next front)
    moved = moved_level 0 (drop at front) e (drop next front) stands.is.at_level

    here : drop at all ≡ drop at front ++ back
    here = ap (drop at) (sym (take-append-drop end all))
        ∙ drop-append-le at front back (let less = stands_further front at next e stands in omega (arith, less, before, long))

    behind : drop next all ≡ drop next front ++ back
    behind = ap (drop next) (sym (take-append-drop end all)) ∙ drop-append-le next front back (omega (arith, before, long))

    begins : drop at all ≡ moved.own ++ drop next all
    begins = here ∙ ap (λ l. l ++ back) moved.are ∙ append_assoc moved.own (drop next front) back
        ∙ ap (λ l. moved.own ++ l) (sym behind)

    some : 0 < length (drop next front)
    some = let left = length-drop next front in omega (arith, left, before, long)

-- the same of the program's tokens
pub placed_longer : (file : List ℕ) (tokens : List SpecToken) (end at next : ℕ) (e : Spoken)
    → ((said : List Placed) → AreTokensOf file (take end tokens) said → StandsAt (said_in said) at next e)
    → next < end → end ≤ length tokens → (said : List Placed) → AreTokensOf file tokens said → StandsAt (said_in said) at next e
placed_longer file tokens end at next e each before within said are =
    let there = each (take end said) (front_tokens file tokens end said are) in
    let long = ap length are.same ∙ length-map said span_of in
    let as_many = length-map said (λ token. token.said) in
    stands_longer (said_in said) end at next e
    (subst (λ ts. StandsAt ts at next e) (sym (take-map (λ token. token.said) end said)) there) before
    (omega (arith, within, long, as_many))

-- what is taken and what is left
meant_parts : (n : ℕ) (tokens : List Lexeme) → all_meant (take n tokens) + all_meant (drop n tokens) ≡ all_meant tokens
meant_parts zero [] = omega arith
meant_parts zero (x ∷ tokens) = omega arith
meant_parts (suc n) [] = omega arith
meant_parts (suc n) (x ∷ tokens) = let rest = meant_parts n tokens in omega (arith, rest)

none_left_out : {X : Type 0} (xs : List X) → xs ≡ drop 0 xs
none_left_out [] = refl
none_left_out (x ∷ xs) = refl

nothing_left : {X : Type 0} (k : ℕ) → drop {A = X} k [] ≡ []
nothing_left zero = refl
nothing_left (suc k) = refl

left_over : {X : Type 0} (n m : ℕ) (xs : List X) → n ≤ m → drop m xs ≡ drop (m - n) (drop n xs)
left_over zero m xs less = ap (λ k. drop k xs) (omega arith) ∙ ap (drop (m - 0)) (none_left_out xs)
left_over (suc n) zero xs less = absurd (omega (arith, less))
left_over (suc n) (suc m) [] less = sym (nothing_left (suc m - suc n))
left_over (suc n) (suc m) (x ∷ xs) less =
    left_over n m xs (omega (arith, less)) ∙ ap (λ k. drop k (drop n xs)) (omega arith)

-- the strings of what stands there have no more bytes than its tokens
pub stands_bytes : (file : List ℕ) (tokens : List SpecToken) (said : List Placed) (at next : ℕ) (e : Spoken)
    → AreTokensOf file tokens said → StandsAt (said_in said) at next e → string_bytes e ≤ bytes_between said at next
stands_bytes file tokens said at next e are stands =
    let further = stands_further (said_in said) at next e stands in
    let n : ℕ = next - at in
    let less = level_bytes 0 (drop at (said_in said)) e (drop next (said_in said)) stands.is.at_level in
    let rest = ap all_meant (left_over at next (said_in said) (omega (arith, further))) in
    let parts = meant_parts n (drop at (said_in said)) in
    let own = ap (λ l. all_meant (take n l)) (drop-map (λ token. token.said) at said)
    ∙ ap all_meant (take-map (λ token. token.said) n (drop at said)) in
    let most = all_spelled file (take n (drop at said)) (All-take (Spells file) n (drop at said) (All-drop (Spells file) at said are.spelled)) in
    omega (arith, less, rest, parts, own, most)

-- some of the tokens have no more bytes than all
pub front_bytes : (n : ℕ) (said : List Placed) → token_bytes (take n said) ≤ token_bytes said
front_bytes zero [] = omega arith
front_bytes zero (x ∷ said) = omega arith
front_bytes (suc n) [] = omega arith
front_bytes (suc n) (x ∷ said) = let rest = front_bytes n said in omega (arith, rest)

-- what it means takes no more units than its tokens
pub stands_units : (words : Vocabulary) (tokens : List Lexeme) (at next : ℕ) (e : Spoken) (x : Expression)
    → StandsAt tokens at next e → resolved words e ≡ Some x → units_of x ≤ next - at
stands_units words tokens at next e x stands is =
    let few = few_units words (drop at tokens) (drop next tokens) e x stands.is.at_level is in
    let further = stands_further tokens at next e stands in
    let first = length-drop at tokens in
    let second = length-drop next tokens in
    let within = stands.within in omega (arith, few, further, first, second, within)

-- the strings of what stands there go behind the literals
module _ (file : List ℕ) (tokens : List SpecToken) (at next : ℕ) (e : Spoken)
    (each : (said : List Placed) → AreTokensOf file tokens said → StandsAt (said_in said) at next e)
    (old new : List ℕ) (few : length new ≤ length old + string_bytes e) where
  pub grown_between : (said : List Placed) → AreTokensOf file tokens said → length new ≤ length old + bytes_between said at next
  grown_between said are = let most = stands_bytes file tokens said at next e are (each said are) in omega (arith, few, most)

  pub grown_behind : (said : List Placed) → AreTokensOf file tokens said → length new ≤ length old + token_bytes (drop at said)
  grown_behind said are =
      let most = grown_between said are in let all = front_bytes (next - at) (drop at said) in omega (arith, most, all)

-- tokens of a file, where there are some
pub place_further : (file : List ℕ) (tokens : List SpecToken) (at next : ℕ) (e : Spoken)
    → ((said : List Placed) → AreTokensOf file tokens said → StandsAt (said_in said) at next e)
    → ((said : List Placed) × AreTokensOf file tokens said) → at < next
place_further file tokens at next e each (said, are) = stands_further (said_in said) at next e (each said are)

pub place_units : (file : List ℕ) (tokens : List SpecToken) (at next : ℕ) (e : Spoken)
    → ((said : List Placed) → AreTokensOf file tokens said → StandsAt (said_in said) at next e)
    → ((said : List Placed) × AreTokensOf file tokens said) → (words : Vocabulary) (x : Expression) → resolved words e ≡ Some x
    → units_of x ≤ next - at
place_units file tokens at next e each (said, are) words x is = stands_units words (said_in said) at next e x (each said are) is

-- where memory was wanted, no end is told
pub wanted_told : {A : Type 0} (result : Result A ExprFault) (file : List ℕ) (tokens : List SpecToken) (at : ℕ) (old new : List ℕ)
    → IsErrAnd result (λ fault. fault ≡ NoMemory)
    → ((said : List Placed) → AreTokensOf file tokens said → length new ≤ length old + token_bytes (drop at said))
    → IfErr result (λ fault. (said : List Placed) → AreTokensOf file tokens said → length new ≤ length old + bytes_told said at fault)
wanted_told (Ok x) file tokens at old new wants few = tt
wanted_told (Err fault) file tokens at old new wants few = λ said are.
    subst (λ f. length new ≤ length old + bytes_told said at f) (sym wants) (few said are)
