-- The tokens of a text are determined.
use Rattle.std.proofs.Common.{◌≡◌, ℕ, ◌+◌, ◌≤◌, List, length, drop, Some, None, arith, refl, length-drop}
use Rattle.rex_model.specs.Rules.{Rule}
use Rattle.rex_model.specs.Winner.{Winner, next_state}
use Rattle.rex_model.specs.Run.{Token, Ending, Tokens, end, bad, token, skip}
use Rattle.rex_model.proofs.OneWinner.{one_winner}

-- there is no winner where the text ends
pub none_at_end : (rules : List Rule) (text : List ℕ) (state at i n m : ℕ) → length text ≤ at
    → Winner rules state (drop at text) i n m → ⊥
none_at_end rules text state at i n m past won =
    let some = won.candidate.some in
    let fits = won.candidate.fits in
    let within = won.candidate.within in
    omega (arith, length-drop at text)

-- two winners have the same rule and the same text
pub same_winner : (rules : List Rule) (state : ℕ) (rest : List ℕ) (i n m j k l : ℕ)
    (a : Winner rules state rest i n m) (b : Winner rules state rest j k l)
    → (a.candidate.rule ≡ b.candidate.rule) × (n ≡ k)
same_winner rules state rest i n m j k l a b =
    let (rule, text, with_context) = one_winner rules state rest i n m j k l a b in
    let first = a.candidate.is_rule in
    let second = b.candidate.is_rule in
    (cc, text)

-- the tokens after one of two equal winners are those after the other
pub same_after : (rules : List Rule) (text : List ℕ) (state at i n m j k l : ℕ)
    (a : Winner rules state (drop at text) i n m) (b : Winner rules state (drop at text) j k l)
    (ts : List Token) (e : Ending)
    → Tokens rules text (next_state b.candidate.rule state) (at + k) ts e
    → Tokens rules text (next_state a.candidate.rule state) (at + n) ts e
same_after rules text state at i n m j k l a b ts e rest =
    let (rule, length) = same_winner rules state (drop at text) i n m j k l a b in
    rw (rule, length) rest

-- the tokens from a place in a state on are determined
pub one_run : (rules : List Rule) (text : List ℕ) (state at : ℕ) (ts us : List Token) (e f : Ending)
    → Tokens rules text state at ts e → Tokens rules text state at us f → (ts ≡ us) × (e ≡ f)
one_run rules text state at ts us e f (end _ _ past) (end _ _ past2) = (refl, refl)
one_run rules text state at ts us e f (end _ _ past) (bad _ _ before none) = absurd (omega arith)
one_run rules text state at ts us e f (end _ _ past) (token _ _ j k l t more ending won is rest) =
    absurd (none_at_end rules text state at j k l (omega arith) won)
one_run rules text state at ts us e f (end _ _ past) (skip _ _ j k l more ending won is rest) =
    absurd (none_at_end rules text state at j k l (omega arith) won)
one_run rules text state at ts us e f (bad _ _ before none) (end _ _ past) = absurd (omega arith)
one_run rules text state at ts us e f (bad _ _ before none) (bad _ _ before2 none2) = (refl, refl)
one_run rules text state at ts us e f (bad _ _ before none) (token _ _ j k l t more ending won is rest) =
    absurd (none j k l won.candidate)
one_run rules text state at ts us e f (bad _ _ before none) (skip _ _ j k l more ending won is rest) =
    absurd (none j k l won.candidate)
one_run rules text state at ts us e f (token _ _ i n m t more ending won is rest) (end _ _ past) =
    absurd (none_at_end rules text state at i n m (omega arith) won)
one_run rules text state at ts us e f (token _ _ i n m t more ending won is rest) (bad _ _ before none) =
    absurd (none i n m won.candidate)
one_run rules text state at ts us e f (token _ _ i n m t more ending won is rest)
    (token _ _ j k l t2 more2 ending2 won2 is2 rest2) =
    let (rule, length) = same_winner rules state (drop at text) i n m j k l won won2 in
    let number : t ≡ t2 = cc in
    let others = same_after rules text state at i n m j k l won won2 more2 ending2 rest2 in
    let same = one_run rules text _ _ more more2 ending ending2 rest others in
    (rw (length, number, same.0), same.1)
one_run rules text state at ts us e f (token _ _ i n m t more ending won is rest)
    (skip _ _ j k l more2 ending2 won2 is2 rest2) =
    let (rule, length) = same_winner rules state (drop at text) i n m j k l won won2 in
    let number : Some t ≡ None = cc in
    cc
one_run rules text state at ts us e f (skip _ _ i n m more ending won is rest) (end _ _ past) =
    absurd (none_at_end rules text state at i n m (omega arith) won)
one_run rules text state at ts us e f (skip _ _ i n m more ending won is rest) (bad _ _ before none) =
    absurd (none i n m won.candidate)
one_run rules text state at ts us e f (skip _ _ i n m more ending won is rest)
    (token _ _ j k l t more2 ending2 won2 is2 rest2) =
    let (rule, length) = same_winner rules state (drop at text) i n m j k l won won2 in
    let number : Some t ≡ None = cc in
    cc
one_run rules text state at ts us e f (skip _ _ i n m more ending won is rest)
    (skip _ _ j k l more2 ending2 won2 is2 rest2) =
    let others = same_after rules text state at i n m j k l won won2 more2 ending2 rest2 in
    one_run rules text _ _ more more2 ending ending2 rest others
