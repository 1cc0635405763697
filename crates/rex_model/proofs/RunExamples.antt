-- What a scan answers and how a run goes on, tried on cases that are worked by hand.
use Rattle.std.proofs.Common.{◌≡◌, ℕ, zero, suc, ◌≤◌, List, [], ◌∷◌, length, refl, ap, arith, length-take}
use Rattle.std.specs.Prelude.{codes}
use Rattle.rex_model.specs.Rules.{Rule}
use Rattle.rex_model.specs.Run.{Scans, Tokens, end, token, skip, finished}
use Rattle.rex_model.specs.Winner.{Candidate, Winner, next_state}
use Rattle.rex_model.specs.declared.scan.Scan.TheVariants as scan
use Rattle.rex_model.proofs.WinnerExamples.{keyword, plain_rule, rule_text, candidate_of, if_is_a_keyword, skipped_once, skipped_wins}

-- a rule that names no state leaves it as it is
state_stays : next_state (plain_rule keyword 1) 7 ≡ 7
state_stays = refl

-- the state that a rule names is the next one
state_is_named : next_state skipped_once 7 ≡ 1
state_is_named = refl

-- the keyword alone
abbrev keywords : List Rule
keywords = plain_rule keyword 1 ∷ []

-- it has two bytes, wherever it stands
two_bytes : (rest : List ℕ) (j k l : ℕ) → Candidate keywords 0 rest j k l → l ≤ 2
two_bytes rest zero k l c =
    let (all, word) = rule_text keywords 0 rest 0 k l (plain_rule keyword 1) refl refl c in
    let is_if = word in
    let two = ap length is_if in
    let shown = length-take k rest in
    let within = c.within in
    omega arith
two_bytes rest (suc j) k l c = (let e = c.is_rule in cc)

-- at "ifif" the first "if" wins
first_if : Winner keywords 0 (codes "ifif") 0 2 2
first_if = record {
  candidate = candidate_of keywords (codes "ifif") 0 1 2 keyword refl (omega arith) (omega arith) if_is_a_keyword;
  longest = two_bytes (codes "ifif");
  first = λ j k c. omega arith;
  greatest = λ k c. c.fits;
}

-- then the second one
second_if : Winner keywords 0 (codes "if") 0 2 2
second_if = record {
  candidate = candidate_of keywords (codes "if") 0 1 2 keyword refl (omega arith) (omega arith) if_is_a_keyword;
  longest = two_bytes (codes "if");
  first = λ j k c. omega arith;
  greatest = λ k c. c.fits;
}

-- a scan answers the place in the whole text, and not the length
scan_of_second : Scans keywords (codes "ifif") 0 2 (scan.Token 0 4 0)
unfolding second_if candidate_of
scan_of_second = token 0 2 2 1 second_if refl

-- a text that is skipped leads to the state that its rule names
scan_of_skipped : Scans (skipped_once ∷ []) (codes "ifif") 0 0 (scan.Skip 0 2 1)
unfolding skipped_wins
scan_of_skipped = skip 0 2 2 skipped_wins refl

-- at the end and past it a scan answers END
scan_past_end : Scans [] (codes "if") 0 7 scan.End
scan_past_end = end (omega arith)

-- and nowhere before, also where no rule has a candidate
no_end_before : Scans [] (codes "if") 0 1 scan.End → ⊥
no_end_before (end past) = omega arith

-- both tokens of "ifif", with their places in the whole text
two_tokens : Tokens keywords (codes "ifif") 0 0
    (record { number = 1; from = 0; to = 2 } ∷ record { number = 1; from = 2; to = 4 } ∷ []) finished
unfolding first_if second_if candidate_of
two_tokens =
    token 0 0 0 2 2 1 (record { number = 1; from = 2; to = 4 } ∷ []) finished first_if refl
    (token 0 2 0 2 2 1 [] finished second_if refl (end 0 4 refl))
