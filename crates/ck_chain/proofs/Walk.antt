-- The walk over a text from scan to scan, and what it has written on the way.
use Rattle.std.proofs.Common.{◌≡◌, ℕ, ◌+◌, ◌<◌, ◌≤◌, List, [], ◌∷◌, ◌++◌, length, Option, None, Some, slice_get, flat_map, refl, ap, ◌∙◌, append_assoc, drop, arith, length-drop}
use Rattle.std.proofs.lemmas.List.{append-nil, flat_map_more}
use Rattle.rex_model.specs.Run.{Scans, Token, Tokens, Ending, finished, bad_at}
use Rattle.rex_model.specs.Winner.{Candidate, state_or, next_state}
use Rattle.rex_model.specs.Rules.{Rule}
use Rattle.rex_model.specs.declared.scan.Scan.TheVariants as scan
use Rattle.ck_chain.specs.TokenText.{token_line, tokens_text, end_line}

-- the tokens from here on follow those that were found; the lines of these are written
pub record Walked (rules : List Rule) (names : List (List ℕ)) (text : List ℕ) (state at : ℕ) (written : List ℕ) : Type 0 where
  pub found : List Token
  pub tokens : (more : List Token) (ending : Ending) → Tokens rules text state at more ending → Tokens rules text 0 0 (found ++ more) ending
  pub lines : written ≡ flat_map (token_line names text) found

-- what a scan says that gives a token
pub record GivesToken (rules : List Rule) (text : List ℕ) (state at i to next : ℕ) : Type 0 where
  pub rule : Rule
  pub number : ℕ
  pub is_rule : slice_get rules i ≡ Some rule
  pub has_number : rule.token ≡ Some number
  pub forward : at < to
  pub within : to ≤ length text
  pub goes_on : (more : List Token) (ending : Ending) → Tokens rules text next to more ending
      → Tokens rules text state at (record { number = number; from = at; to = to } ∷ more) ending

-- what a scan says that gives none
pub record GivesNone (rules : List Rule) (text : List ℕ) (state at to next : ℕ) : Type 0 where
  pub forward : at < to
  pub within : to ≤ length text
  pub goes_on : (more : List Token) (ending : Ending) → Tokens rules text next to more ending → Tokens rules text state at more ending

-- a winner's text is not empty, and lies in the text
pub ends_within : (rules : List Rule) (text : List ℕ) (state at i n m : ℕ) → Candidate rules state (drop at text) i n m → at + n ≤ length text
ends_within rules text state at i n m candidate =
    omega (arith, candidate.some, candidate.fits, candidate.within, length-drop at text)

-- the scan goes on in a state
pub next_inside : (rule : Rule) (state count : ℕ) → ((n : ℕ) → rule.next ≡ Some n → n < count) → state < count → next_state rule state < count
next_inside rule state count inside old = by rule.next inside
  where
    by : (next : Option ℕ) → ((n : ℕ) → next ≡ Some n → n < count) → state_or next state < count
    by None inside = old
    by (Some n) inside = inside n refl

module _ (rules : List Rule) (count : ℕ) (inside : (i n : ℕ) (rule : Rule) → slice_get rules i ≡ Some rule → rule.next ≡ Some n → n < count) where
  pub token_inside : (text : List ℕ) (state at i to next : ℕ) → state < count → Scans rules text state at (scan.Token i to next) → next < count
  token_inside text state at _ _ _ old (Scans.token i n m t won is) =
      next_inside won.candidate.rule state count (λ k named. inside i k won.candidate.rule won.candidate.is_rule named) old

  pub skip_inside : (text : List ℕ) (state at i to next : ℕ) → state < count → Scans rules text state at (scan.Skip i to next) → next < count
  skip_inside text state at _ _ _ old (Scans.skip i n m won is) =
      next_inside won.candidate.rule state count (λ k named. inside i k won.candidate.rule won.candidate.is_rule named) old

-- what each scan says
pub gives_token : (rules : List Rule) (text : List ℕ) (state at i to next : ℕ) → Scans rules text state at (scan.Token i to next)
    → GivesToken rules text state at i to next
gives_token rules text state at _ _ _ (Scans.token i n m t won is) = record {
  rule = won.candidate.rule;
  number = t;
  is_rule = won.candidate.is_rule;
  has_number = is;
  forward = omega (arith, won.candidate.some);
  within = ends_within rules text state at i n m won.candidate;
  goes_on = λ more ending rest. Tokens.token state at i n m t more ending won is rest;
}

pub gives_none : (rules : List Rule) (text : List ℕ) (state at i to next : ℕ) → Scans rules text state at (scan.Skip i to next)
    → GivesNone rules text state at to next
gives_none rules text state at _ _ _ (Scans.skip i n m won is) = record {
  forward = omega (arith, won.candidate.some);
  within = ends_within rules text state at i n m won.candidate;
  goes_on = λ more ending rest. Tokens.skip state at i n m more ending won is rest;
}

pub gives_end : (rules : List Rule) (text : List ℕ) (state at : ℕ) → at ≤ length text → Scans rules text state at scan.End
    → (at ≡ length text) × Tokens rules text state at [] finished
gives_end rules text state at within (Scans.end past) =
    let at_end : at ≡ length text = omega arith in
    (at_end, Tokens.end state at at_end)

pub gives_bad : (rules : List Rule) (text : List ℕ) (state at place : ℕ) → Scans rules text state at (scan.BadToken place)
    → Tokens rules text state at [] (bad_at at)
gives_bad rules text state at _ (Scans.bad left nothing) = Tokens.bad state at left nothing

-- a token more
pub takes : (rules : List Rule) (names : List (List ℕ)) (text : List ℕ) (state at i to next : ℕ) (written : List ℕ)
    → Walked rules names text state at written → (gives : GivesToken rules text state at i to next)
    → Walked rules names text next to (written ++ token_line names text (record { number = gives.number; from = at; to = to }))
takes rules names text state at i to next written walked gives =
    let last : Token = record { number = gives.number; from = at; to = to } in
    record {
      found = walked.found ++ last ∷ [];
      tokens = λ more ending rest. rw append_assoc (walked.tokens (last ∷ more) ending (gives.goes_on more ending rest));
      lines = ap (λ before. before ++ token_line names text last) walked.lines ∙ flat_map_more (token_line names text) [] walked.found last;
    }

-- a text that is skipped
pub passes : (rules : List Rule) (names : List (List ℕ)) (text : List ℕ) (state at to next : ℕ) (written : List ℕ)
    → Walked rules names text state at written → GivesNone rules text state at to next → Walked rules names text next to written
passes rules names text state at to next written walked gives = record {
  found = walked.found;
  tokens = λ more ending rest. walked.tokens more ending (gives.goes_on more ending rest);
  lines = walked.lines;
}

-- the walk ends at the text's end
pub finishes : (rules : List Rule) (names : List (List ℕ)) (text : List ℕ) (state at : ℕ) (written : List ℕ)
    → Walked rules names text state at written → Tokens rules text state at [] finished
    → (tokens : List Token) × Tokens rules text 0 0 tokens finished × (written ++ end_line text ≡ tokens_text names text tokens)
finishes rules names text state at written walked rest =
    (walked.found, rw append-nil at (walked.tokens [] finished rest), ap (λ before. before ++ end_line text) walked.lines)

-- the walk ends at a bad place
pub stops : (rules : List Rule) (names : List (List ℕ)) (text : List ℕ) (state at : ℕ) (written : List ℕ)
    → Walked rules names text state at written → Tokens rules text state at [] (bad_at at)
    → (tokens : List Token) × Tokens rules text 0 0 tokens (bad_at at)
stops rules names text state at written walked rest = (walked.found, rw append-nil at (walked.tokens [] (bad_at at) rest))
