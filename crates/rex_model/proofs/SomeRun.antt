-- A text has tokens: it can't be that there are none.
use Rattle.std.proofs.Common.{◌≡◌, ℕ, zero, suc, ◌+◌, ◌<◌, ◌≤◌, inl, inr, List, [], ◌∷◌, length, drop, Option, None, Some, refl, arith, length-drop}
use Rattle.std.proofs.lemmas.Bool.{cases_lt}
use Rattle.ck_base.specs.Found.{HasNo}
use Rattle.rex_model.specs.Rules.{Rule}
use Rattle.rex_model.specs.Run.{Token, Ending, finished, bad_at, Tokens}
use Rattle.rex_model.specs.Winner.{Candidate, Winner, next_state}

-- of numbers below a bound there is a greatest one
some_greatest : (P : ℕ → Type 0) (bound steps n : ℕ) → ((k : ℕ) → P k → k ≤ bound) → bound ≤ n + steps → P n
    → HasNo (λ k. P k × ((j : ℕ) → P j → j ≤ k)) → ⊥
some_greatest P bound zero n within near p none = none n (p, λ j q. omega (arith, within j q))
some_greatest P bound (suc steps) n within near p none = none n (
  p,
  λ j q. elim (cases_lt n j) [
    | inl less ↦ absurd (some_greatest P bound steps j within (omega arith) q none)
    | inr more ↦ more
  ],
)

-- and of any numbers a least one
some_least : (P : ℕ → Type 0) (steps n : ℕ) → n ≤ steps → P n → HasNo (λ k. P k × ((j : ℕ) → P j → k ≤ j)) → ⊥
some_least P zero n near p none = none n (p, λ j q. omega arith)
some_least P (suc steps) n near p none = none n (
  p,
  λ j q. elim (cases_lt j n) [
    | inl less ↦ absurd (some_least P steps j (omega arith) q none)
    | inr more ↦ more
  ],
)

-- where there is a candidate, one of them wins
some_winner : (rules : List Rule) (state : ℕ) (rest : List ℕ) (i n m : ℕ) → Candidate rules state rest i n m
    → ((j k l : ℕ) → Winner rules state rest j k l → ⊥) → ⊥
some_winner rules state rest i n m candidate none =
    some_greatest (λ l. (j : ℕ) × (k : ℕ) × Candidate rules state rest j k l) (length rest) (length rest) m
    (λ l some. some.2.within) (omega arith) (i, n, candidate) (λ l longest.
    some_least (λ j. (k : ℕ) × Candidate rules state rest j k l) longest.0.0 longest.0.0 (omega arith) (longest.0.1, longest.0.2) (λ j first.
    some_greatest (λ k. Candidate rules state rest j k l) l l first.0.0 (λ k other. other.fits) (omega arith) first.0.1 (λ k greatest.
    none j k l (record {
      candidate = greatest.0;
      longest = λ j2 k2 l2 other. longest.1 l2 (j2, k2, other);
      first = λ j2 k2 other. first.1 j2 (k2, other);
      greatest = λ k2 other. greatest.1 k2 other;
    }))))

-- nothing is a run from the place and the state on
abbrev NoRun : List Rule → List ℕ → ℕ → ℕ → Type 0
NoRun rules text state at = (tokens : List Token) (ending : Ending) → Tokens rules text state at tokens ending → ⊥

-- a run goes on behind the winner, or ends in a bad place
one_step : (rules : List Rule) (text : List ℕ) (state at : ℕ) → at < length text
    → ((next to : ℕ) → at < to → to ≤ length text → NoRun rules text next to → ⊥) → NoRun rules text state at → ⊥
one_step rules text state at left some none = none [] (bad_at at) (Tokens.bad state at left (λ i n m candidate.
    some_winner rules state (drop at text) i n m candidate (λ j k l won. behind j k l won won.candidate.rule.token refl)))
  where
    behind : (j k l : ℕ) (won : Winner rules state (drop at text) j k l) (token : Option ℕ) → won.candidate.rule.token ≡ token → ⊥
    behind j k l won None is = some (next_state won.candidate.rule state) (at + k) (omega (arith, won.candidate.some))
        (omega (arith, won.candidate.fits, won.candidate.within, length-drop at text)) (λ tokens ending more.
        none tokens ending (Tokens.skip state at j k l tokens ending won is more))
    behind j k l won (Some t) is = some (next_state won.candidate.rule state) (at + k) (omega (arith, won.candidate.some))
        (omega (arith, won.candidate.fits, won.candidate.within, length-drop at text)) (λ tokens ending more.
        none (record { number = t; from = at; to = at + k } ∷ tokens) ending (Tokens.token state at j k l t tokens ending won is more))

-- from a place and a state on
run_within : (rules : List Rule) (text : List ℕ) (steps state at : ℕ) → at ≤ length text → length text ≤ at + steps → NoRun rules text state at → ⊥
run_within rules text zero state at within near none = none [] finished (Tokens.end state at (omega arith))
run_within rules text (suc steps) state at within near none = elim (cases_lt at (length text)) [
  | inr past ↦ none [] finished (Tokens.end state at (omega arith))
  | inl left ↦ one_step rules text state at left (λ next to forward inside. run_within rules text steps next to inside (omega arith)) none
]

pub some_run : (rules : List Rule) (text : List ℕ) (state at : ℕ) → at ≤ length text
    → HasNo (λ tokens. (ending : Ending) × Tokens rules text state at tokens ending) → ⊥
some_run rules text state at within none =
    run_within rules text (length text) state at within (omega arith) (λ tokens ending run. none tokens (ending, run))
