-- At a place and in a state there is at most one winner.
use Rattle.std.proofs.Common.{◌≡◌, ℕ, List, arith, subst}
use Rattle.rex_model.specs.Rules.{Rule}
use Rattle.rex_model.specs.Winner.{Winner}

-- two winners are equally long with their contexts
pub same_end : (rules : List Rule) (state : ℕ) (rest : List ℕ) (i n m j k l : ℕ)
    → Winner rules state rest i n m → Winner rules state rest j k l → m ≡ l
same_end rules state rest i n m j k l a b = omega (arith, a.longest j k l b.candidate, b.longest i n m a.candidate)

-- two winners that are equally long are of one rule
pub same_rule : (rules : List Rule) (state : ℕ) (rest : List ℕ) (i n m j k : ℕ)
    → Winner rules state rest i n m → Winner rules state rest j k m → i ≡ j
same_rule rules state rest i n m j k a b = omega (arith, a.first j k b.candidate, b.first i n a.candidate)

-- two equally long winners of one rule have the same text
pub same_text : (rules : List Rule) (state : ℕ) (rest : List ℕ) (i n m k : ℕ)
    → Winner rules state rest i n m → Winner rules state rest i k m → n ≡ k
same_text rules state rest i n m k a b = omega (arith, a.greatest k b.candidate, b.greatest n a.candidate)

-- two winners are the same
pub one_winner : (rules : List Rule) (state : ℕ) (rest : List ℕ) (i n m j k l : ℕ)
    → Winner rules state rest i n m → Winner rules state rest j k l → (i ≡ j) × (n ≡ k) × (m ≡ l)
one_winner rules state rest i n m j k l a b =
    let end : l ≡ m = same_end rules state rest j k l i n m b a in
    let c = subst (λ x. Winner rules state rest j k x) end b in
    let rule : j ≡ i = same_rule rules state rest j k m i n c a in
    let d = subst (λ x. Winner rules state rest x k m) rule c in
    (omega arith, same_text rules state rest i n m k a d, omega arith)
