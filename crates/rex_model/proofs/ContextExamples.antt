-- The order in which candidates win, tried on rules with right contexts that are worked by hand.
use Rattle.std.proofs.Common.{◌≡◌, ℕ, zero, suc, ◌+◌, ◌-◌, ◌<◌, ◌≤◌, List, [], ◌∷◌, length, take, drop, Some, slice_get, refl, ap, subst, arith, length-take, length-drop, length-append}
use Rattle.std.specs.Prelude.{codes}
use Rattle.rex_model.specs.Language.{Re, bytes, class, plus, no_more, Language}
use Rattle.rex_model.specs.Rules.{Rule, trailing}
use Rattle.rex_model.specs.Winner.{Candidate, Winner, HasNoCandidate}
use Rattle.rex_model.proofs.WinnerExamples.{letters, name, plain_rule, rule_text, name_before_if, f_is_in, if_is_a_name, if_is_a_keyword}

-- the texts of a name before "if" that "xif" begins with, and where their contexts end
text_before_if : (rules : List Rule) (i k m : ℕ) → slice_get rules i ≡ Some name_before_if
    → Candidate rules 0 (codes "xif") i k m → (k ≤ 1) × (m ≡ k + 2)
text_before_if rules i k m is_rule c =
    let same : c.rule ≡ name_before_if = cc in
    let word = subst (λ r. Language (trailing r.context) (take (m - k) (drop k (codes "xif")))) same c.context in
    let is_if = word in
    let fits = c.fits in
    let within = c.within in
    let two = ap length is_if in
    let shown = length-take (m - k) (drop k (codes "xif")) in
    let left = length-drop k (codes "xif") in
    (omega arith, omega arith)

-- "x" is one of them
x_is_before_if : (rules : List Rule) (i : ℕ) → slice_get rules i ≡ Some name_before_if
    → Candidate rules 0 (codes "xif") i 1 3
x_is_before_if rules i is_rule = record {
  rule = name_before_if;
  is_rule = is_rule;
  active = refl;
  some = omega arith;
  fits = omega arith;
  within = omega arith;
  body = (codes "x", [], refl, (120, refl, (omega arith, refl)), no_more);
  context = if_is_a_keyword;
}

-- the expression of "xi"
abbrev xi : Re
xi = bytes (codes "xi")

-- "xi", and then names before "if"
abbrev xi_first : List Rule
xi_first = plain_rule xi 1 ∷ name_before_if ∷ []

-- at "xif" the context counts: "x" with it is longer than "xi", which is written first
context_counts : Winner xi_first 0 (codes "xif") 1 1 3
context_counts = record {
  candidate = x_is_before_if xi_first 1 refl;
  longest = λ j k l c. c.within;
  first = not_xi;
  greatest = λ k c. (text_before_if xi_first 1 k 3 refl c).0;
}
  where
    not_xi : (j k : ℕ) → Candidate xi_first 0 (codes "xif") j k 3 → 1 ≤ j
    not_xi zero k c =
        let (all, word) = rule_text xi_first 0 (codes "xif") 0 k 3 (plain_rule xi 1) refl refl c in
        let three = subst (λ n. Language xi (take n (codes "xif"))) all word in
        let is_xi = three in
        (let e = is_xi in cc)
    not_xi (suc j) k c = omega arith

-- names before "if", and then names
abbrev context_first : List Rule
context_first = name_before_if ∷ plain_rule name 0 ∷ []

-- of equally long ones the first rule wins, though the text of the second is longer
first_before_text : Winner context_first 0 (codes "xif") 0 1 3
first_before_text = record {
  candidate = x_is_before_if context_first 0 refl;
  longest = λ j k l c. c.within;
  first = λ j k c. omega arith;
  greatest = λ k c. (text_before_if context_first 0 k 3 refl c).0;
}

-- a name that stands before a name
abbrev name_before_name : Rule
name_before_name = record (plain_rule name 0) { context = Some name }

-- a name isn't empty
some_name : (w : List ℕ) → Language name w → 0 < length w
some_name w h =
    let word : Language (plus (class letters)) w = h in
    let (u, v, is, first, more) = word in
    let (b, one, among) = first in
    omega (arith, ap length is, ap length one, length-append u v)

-- at "iff" its text is "if", and not "i": of one rule's texts the longest wins
longest_text : Winner (name_before_name ∷ []) 0 (codes "iff") 0 2 3
longest_text = record {
  candidate = record {
    rule = name_before_name;
    is_rule = refl;
    active = refl;
    some = omega arith;
    fits = omega arith;
    within = omega arith;
    body = if_is_a_name;
    context = (codes "f", [], refl, (102, refl, f_is_in), no_more);
  };
  longest = λ j k l c. c.within;
  first = λ j k c. omega arith;
  greatest = leaves_one;
}
  where
    leaves_one : (k : ℕ) → Candidate (name_before_name ∷ []) 0 (codes "iff") 0 k 3 → k ≤ 2
    leaves_one k c =
        let same : c.rule ≡ name_before_name = cc in
        let word = subst (λ r. Language (trailing r.context) (take (3 - k) (drop k (codes "iff")))) same c.context in
        let some = some_name (take (3 - k) (drop k (codes "iff"))) word in
        let shown = length-take (3 - k) (drop k (codes "iff")) in
        omega arith

-- the expression of the empty word
abbrev nothing : Re
nothing = bytes []

-- the empty word is no text of a candidate
empty_is_no_candidate : HasNoCandidate (plain_rule nothing 1 ∷ []) 0 (codes "if")
empty_is_no_candidate zero n m c =
    let (all, word) = rule_text (plain_rule nothing 1 ∷ []) 0 (codes "if") 0 n m (plain_rule nothing 1) refl refl c in
    let is_empty = word in
    let none = ap length is_empty in
    let shown = length-take n (codes "if") in
    let some = c.some in
    let within = c.within in
    omega arith
empty_is_no_candidate (suc i) n m c = (let e = c.is_rule in cc)
