-- The rules of a scanner, tried on cases that are worked by hand: names and a keyword.
use Rattle.std.proofs.Common.{◌≡◌, ℕ, zero, suc, Bool, ◌+◌, ◌-◌, ◌<◌, ◌≤◌, ◌==◌, ◌&&◌, nat_lt, IsTrue, List, [], ◌∷◌, length, take, drop, Some, None, slice_get, refl, ap, subst, arith, length-take, length-drop}
use Rattle.std.specs.Prelude.{codes}
use Rattle.rex_model.specs.Language.{Re, bytes, class, plus, IsIn, Repeats, no_more, one_more, Language}
use Rattle.rex_model.specs.Rules.{Rule, trailing}
use Rattle.rex_model.specs.Run.{Tokens, end, bad, token, skip, finished, bad_at}
use Rattle.rex_model.specs.Winner.{Candidate, Winner, HasNoCandidate}

-- the letters a to z
abbrev pub letters : ℕ → Bool
letters byte = nat_lt 96 byte && nat_lt byte 123

-- a name: one letter or more
abbrev pub name : Re
name = plus (class letters)

-- a keyword
abbrev pub keyword : Re
keyword = bytes (codes "if")

-- a rule without context that is active in state 0
abbrev pub plain_rule : Re → ℕ → Rule
plain_rule body number = record {
  active = λ state. state == 0;
  body = body;
  context = None;
  token = Some number;
  next = None;
}

-- such a rule has a candidate where the text begins with one of its words
unfoldable pub candidate_of : (rules : List Rule) (rest : List ℕ) (i number n : ℕ) (body : Re)
    → slice_get rules i ≡ Some (plain_rule body number) → 0 < n → n ≤ length rest → Language body (take n rest)
    → Candidate rules 0 rest i n n
candidate_of rules rest i number n body is_rule some within word = record {
  rule = plain_rule body number;
  is_rule = is_rule;
  active = refl;
  some = some;
  fits = omega arith;
  within = within;
  body = word;
  context = let nothing : n - n ≡ 0 = omega arith in rw nothing;
}

-- of a rule without context the candidate's text is all of it, and a word of the body
pub rule_text : (rules : List Rule) (state : ℕ) (rest : List ℕ) (i n m : ℕ) (rule : Rule)
    → rule.context ≡ None → slice_get rules i ≡ Some rule → Candidate rules state rest i n m
    → (n ≡ m) × Language rule.body (take n rest)
rule_text rules state rest i n m rule plain is_rule c =
    let same : c.rule ≡ rule = cc in
    let behind = subst (λ r. Language (trailing r.context) (take (m - n) (drop n rest))) same c.context in
    let context = subst (λ x. Language (trailing x) (take (m - n) (drop n rest))) plain behind in
    let word = subst (λ r. Language r.body (take n rest)) same c.body in
    let fits = c.fits in
    let within = c.within in
    (omega (arith, ap length context, length-take (m - n) (drop n rest), length-drop n rest), word)

-- names, and then a keyword
abbrev pub names_first : List Rule
names_first = plain_rule name 0 ∷ plain_rule keyword 1 ∷ []

-- the keyword, and then names
abbrev pub keyword_first : List Rule
keyword_first = plain_rule keyword 1 ∷ plain_rule name 0 ∷ []

-- one of the letters before a word of letters
letter : (b : ℕ) (w : List ℕ) → IsIn letters b → Repeats (Language (class letters)) w
    → Repeats (Language (class letters)) (b ∷ w)
letter b w among more = one_more (b ∷ []) w (b, refl, among) more

-- i is a letter
i_is_in : IsIn letters 105
i_is_in = (omega arith, refl)

-- f is a letter
pub f_is_in : IsIn letters 102
f_is_in = (omega arith, refl)

-- y is a letter
y_is_in : IsIn letters 121
y_is_in = (omega arith, refl)

-- "if" is a name
pub if_is_a_name : Language name (codes "if")
if_is_a_name = (codes "i", codes "f", refl, (105, refl, i_is_in), letter 102 [] f_is_in no_more)

-- so is "iffy"
iffy_is_a_name : Language name (codes "iffy")
iffy_is_a_name = (
  codes "i",
  codes "ffy",
  refl,
  (105, refl, i_is_in),
  letter 102 _ f_is_in (letter 102 _ f_is_in (letter 121 _ y_is_in no_more)),
)

-- "if" is a keyword
pub if_is_a_keyword : Language keyword (codes "if")
if_is_a_keyword = refl

-- at "iffy" the keyword is a candidate
keyword_is_a_candidate : Candidate names_first 0 (codes "iffy") 1 2 2
keyword_is_a_candidate =
    candidate_of names_first (codes "iffy") 1 1 2 keyword refl (omega arith) (omega arith) if_is_a_keyword

-- so is the name
name_is_a_candidate : Candidate names_first 0 (codes "iffy") 0 4 4
name_is_a_candidate =
    candidate_of names_first (codes "iffy") 0 0 4 name refl (omega arith) (omega arith) iffy_is_a_name

-- the keyword isn't the winner: the name is longer
keyword_is_no_winner : Winner names_first 0 (codes "iffy") 1 2 2 → ⊥
keyword_is_no_winner won = omega (arith, won.longest 0 4 4 name_is_a_candidate)

-- the name is the winner
name_is_the_winner : Winner names_first 0 (codes "iffy") 0 4 4
name_is_the_winner = record {
  candidate = name_is_a_candidate;
  longest = λ j k l c. c.within;
  first = λ j k c. omega arith;
  greatest = λ k c. c.fits;
}

-- at "if" both are equally long, and the name wins where it is written first
names_first_wins : Winner names_first 0 (codes "if") 0 2 2
names_first_wins = record {
  candidate = candidate_of names_first (codes "if") 0 0 2 name refl (omega arith) (omega arith) if_is_a_name;
  longest = λ j k l c. c.within;
  first = λ j k c. omega arith;
  greatest = λ k c. c.fits;
}

-- the keyword wins where it is written first
keyword_first_wins : Winner keyword_first 0 (codes "if") 0 2 2
keyword_first_wins = record {
  candidate = candidate_of keyword_first (codes "if") 0 1 2 keyword refl (omega arith) (omega arith) if_is_a_keyword;
  longest = λ j k l c. c.within;
  first = λ j k c. omega arith;
  greatest = λ k c. c.fits;
}

-- at "iffy" the name wins wherever it is written
pub longer_wins : Winner keyword_first 0 (codes "iffy") 1 4 4
longer_wins = record {
  candidate = candidate_of keyword_first (codes "iffy") 1 0 4 name refl (omega arith) (omega arith) iffy_is_a_name;
  longest = λ j k l c. c.within;
  first = not_the_keyword;
  greatest = λ k c. c.fits;
}
  where
    not_the_keyword : (j k : ℕ) → Candidate keyword_first 0 (codes "iffy") j k 4 → 1 ≤ j
    not_the_keyword zero k c =
        let (all, word) = rule_text keyword_first 0 (codes "iffy") 0 k 4 (plain_rule keyword 1) refl refl c in
        let four = subst (λ n. Language keyword (take n (codes "iffy"))) all word in
        let is_if = four in
        (let e = is_if in cc)
    not_the_keyword (suc j) k c = omega arith

-- a name that stands before "if"
abbrev pub name_before_if : Rule
name_before_if = record (plain_rule name 0) { context = Some keyword }

-- at "xif" its text is "x", and "if" is the context; "xif" without context is no candidate
x_before_if : Winner (name_before_if ∷ []) 0 (codes "xif") 0 1 3
x_before_if = record {
  candidate = record {
    rule = name_before_if;
    is_rule = refl;
    active = refl;
    some = omega arith;
    fits = omega arith;
    within = omega arith;
    body = (codes "x", [], refl, (120, refl, (omega arith, refl)), no_more);
    context = if_is_a_keyword;
  };
  longest = λ j k l c. c.within;
  first = λ j k c. omega arith;
  greatest = λ k c. (text_is_x k 3 c).0;
}
  where
    text_is_x : (k m : ℕ) → Candidate (name_before_if ∷ []) 0 (codes "xif") 0 k m → (k ≤ 1) × (m ≡ k + 2)
    text_is_x k m c =
        let same : c.rule ≡ name_before_if = cc in
        let word = subst (λ r. Language (trailing r.context) (take (m - k) (drop k (codes "xif")))) same c.context in
        let is_if = word in
        let fits = c.fits in
        let within = c.within in
        let two = ap length is_if in
        let shown = length-take (m - k) (drop k (codes "xif")) in
        let left = length-drop k (codes "xif") in
        (omega arith, omega arith)

-- the tokens of "if"
tokens_of_if : Tokens keyword_first (codes "if") 0 0 (record { number = 1; from = 0; to = 2 } ∷ []) finished
unfolding keyword_first_wins candidate_of
tokens_of_if = token 0 0 0 2 2 1 [] finished keyword_first_wins refl (end 0 2 refl)

-- with no rules every byte is a bad place
bad_without_rules : Tokens [] (codes "if") 0 0 [] (bad_at 0)
bad_without_rules = bad 0 0 (omega arith) (λ i n m c. let e = c.is_rule in cc)

-- the keyword, skipped, and once only: state 1 comes after it, in which it isn't active
abbrev pub skipped_once : Rule
skipped_once = record (plain_rule keyword 1) { token = None; next = Some 1 }

-- at "ifif" its text is "if"
unfoldable pub skipped_wins : Winner (skipped_once ∷ []) 0 (codes "ifif") 0 2 2
skipped_wins = record {
  candidate = record {
    rule = skipped_once;
    is_rule = refl;
    active = refl;
    some = omega arith;
    fits = omega arith;
    within = omega arith;
    body = if_is_a_keyword;
    context = refl;
  };
  longest = length_is_two;
  first = λ j k c. omega arith;
  greatest = λ k c. c.fits;
}
  where
    length_is_two : (j k l : ℕ) → Candidate (skipped_once ∷ []) 0 (codes "ifif") j k l → l ≤ 2
    length_is_two zero k l c =
        let (all, word) = rule_text (skipped_once ∷ []) 0 (codes "ifif") 0 k l skipped_once refl refl c in
        let is_if = word in
        let two = ap length is_if in
        let shown = length-take k (codes "ifif") in
        let within = c.within in
        omega arith
    length_is_two (suc j) k l c = (let e = c.is_rule in cc)

-- the second "if" is a bad place
bad_second : Tokens (skipped_once ∷ []) (codes "ifif") 0 0 [] (bad_at 2)
unfolding skipped_wins
bad_second = skip 0 0 0 2 2 [] (bad_at 2) skipped_wins refl (bad 1 2 (omega arith) not_active)
  where
    not_active : HasNoCandidate (skipped_once ∷ []) 1 (codes "if")
    not_active zero n m c =
        let same : c.rule ≡ skipped_once = cc in
        let active = subst (λ r. IsTrue (r.active 1)) same c.active in
        cc
    not_active (suc j) n m c = (let e = c.is_rule in cc)
