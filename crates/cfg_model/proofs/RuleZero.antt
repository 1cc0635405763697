-- Where the grammar isn't cyclic, rule 0 stands in no conflict.
use Rattle.std.proofs.Common.{◌≡◌, ◌≢◌, ℕ, zero, suc, ◌<◌, ◌≤◌, ◌⊎◌, inl, inr, List, [], ◌∷◌, ◌++◌, refl, ap, ap₂, subst, append-nil, ◌∙◌, arith, Option, Some, None, All}
use mathlib.Core.List.{reverse, reverse-cons}
use Rattle.std.proofs.lemmas.List.Elements.{All-head}
use Rattle.cfg_model.specs.declared.symbol.Sym.{Sym}
use Rattle.cfg_model.specs.declared.symbol.Sym.TheVariants.{T, N}
use Rattle.cfg_model.specs.Cfg.{Cfg, IsGrammar, IsSymbol}
use Rattle.cfg_model.specs.Steps.{none, StepsOnce, word}
use Rattle.cfg_model.specs.Sets.{Reachable}
use Rattle.cfg_model.specs.Searches.{Cyclic}
use Rattle.cfg_model.specs.Valid.{Valid, start, closure, move, first_of}
use Rattle.cfg_model.specs.LalrConflicts.{Completes, Shifts, LalrConflict}
use Rattle.cfg_model.proofs.Around.{around}
use Rattle.cfg_model.proofs.InGrammar.{behind_dot}

-- rule 0 is complete for one prefix alone
pub zero_prefix : (g : Cfg) (q : List Sym) (d : ℕ) (y : List Sym) (a : ℕ) → Valid g q 0 d y a
    → (a ≡ g.terminals) × (((q ≡ []) × (y ≡ N g.start ∷ [])) ⊎ ((q ≡ N g.start ∷ []) × (y ≡ [])))
zero_prefix g q d y a start = (refl, inl (refl, refl))
zero_prefix g q d y a (closure _ r2 d2 n y2 a2 _ _ _ v is begins) = absurd (let one = is.from_one in omega (arith, one))
zero_prefix g q d y a (move p2 r2 d2 x _ _ v) = (let h = zero_prefix g p2 d2 (x ∷ y) a v in (h.0, go h.1))
  where
    go : ((p2 ≡ []) × (x ∷ y ≡ N g.start ∷ [])) ⊎ ((p2 ≡ N g.start ∷ []) × (x ∷ y ≡ []))
        → ((x ∷ p2 ≡ []) × (y ≡ N g.start ∷ [])) ⊎ ((x ∷ p2 ≡ N g.start ∷ []) × (y ≡ []))
    go (inl (e, f)) = let one : x ≡ N g.start = cc in let two : y ≡ [] = cc in inr (ap₂ (λ z l. z ∷ l) one e, two)
    go (inr (e, f)) = cc

the_second : (g : Cfg) (q y : List Sym) → y ≡ [] → ((q ≡ []) × (y ≡ N g.start ∷ [])) ⊎ ((q ≡ N g.start ∷ []) × (y ≡ [])) → q ≡ N g.start ∷ []
the_second g q y is (inl (e, f)) = cc
the_second g q y is (inr (e, f)) = e

ends_zero : (g : Cfg) (q : List Sym) (d a : ℕ) → Valid g q 0 d [] a → (q ≡ N g.start ∷ []) × (a ≡ g.terminals)
ends_zero g q d a v = let h = zero_prefix g q d [] a v in (the_second g q [] refl h.1, h.0)

no_rest : (g : Cfg) (rest : List ℕ) → All (λ t. t < g.terminals) rest → first_of rest g.terminals ≡ g.terminals → rest ≡ []
no_rest g [] below e = refl
no_rest g (b ∷ rest) below e = let low = All-head (λ t. t < g.terminals) b rest below in absurd (omega (arith, low, e))

pub rule_zero : (g : Cfg) → IsGrammar g → (Cyclic g g.start → ⊥) → (p : List Sym) (s t : ℕ) → Completes g p 0 t → Completes g p s t → 1 ≤ s → ⊥
rule_zero g ok free p s t (d, (q0, same0, v0)) (e, (q1, same1, v1)) one =
    let (b, w) = (same1 0 d []).0 ((same0 0 d []).1 (t, v0)) in
    let (prefix, end) = ends_zero g q1 d b w in
    let last = (ends_zero g q0 d t v0).1 in
    let h = around g ok q1 s e [] t v1 in
    let none_left = no_rest g h.rest h.below (h.begins ∙ last) in
    let back : reverse q1 ++ ([] ++ word h.rest) ≡ N g.start ∷ [] =
    ap (λ l. reverse l ++ word h.rest) prefix ∙ (ap (λ l. reverse (N g.start ∷ []) ++ word l) none_left
    ∙ (append-nil (reverse (N g.start ∷ [])) ∙ reverse-cons (N g.start) [])) in
    free (subst (λ l. StepsOnce g (N g.start ∷ []) l) back (h.some one))

pub no_shift_at_end : (g : Cfg) → IsGrammar g → (p : List Sym) (t : ℕ) → Completes g p 0 t → Shifts g p t → ⊥
no_shift_at_end g ok p t (d, (q0, same0, v0)) (r, e, y, (a, v)) =
    let last = (ends_zero g q0 d t v0).1 in
    let low = All-head (IsSymbol g) (T t) y (behind_dot g ok p r e _ a v) in
    omega (arith, last, low)

-- so it stands in no conflict
pub zero_first : (g : Cfg) → IsGrammar g → (Cyclic g g.start → ⊥) → (t : ℕ) (other : Option ℕ) → LalrConflict g t 0 other → ⊥
zero_first g ok free t None (p, complete, shifts) = no_shift_at_end g ok p t complete shifts
zero_first g ok free t (Some s) (p, complete, second, differ) = rule_zero g ok free p s t complete second (positive s differ)
  where
    positive : (s : ℕ) → 0 ≢ s → 1 ≤ s
    positive zero differ = absurd (differ refl)
    positive (suc s) differ = omega arith

pub zero_second : (g : Cfg) → IsGrammar g → (Cyclic g g.start → ⊥) → (t r : ℕ) → LalrConflict g t r (Some 0) → ⊥
zero_second g ok free t r (p, first, complete, differ) = rule_zero g ok free p r t complete first (positive r differ)
  where
    positive : (r : ℕ) → r ≢ 0 → 1 ≤ r
    positive zero differ = absurd (differ refl)
    positive (suc r) differ = omega arith

-- the start symbol is reachable
pub start_reachable : (g : Cfg) → Reachable g g.start
start_reachable g = ([], [], none)
