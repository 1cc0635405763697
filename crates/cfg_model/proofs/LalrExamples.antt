-- Cores, united lookaheads and LALR conflicts, each on a case where the nearest wrong reading differs.
use Rattle.std.proofs.Common.{◌≡◌, ℕ, zero, suc, ◌≤◌, ◌⊎◌, inl, inr, List, [], ◌∷◌, refl, ap, ap₂, subst, Option, Some, None, slice_get, slice_index_or, Contains, arith}
use Rattle.cfg_model.specs.declared.symbol.Sym.{Sym}
use Rattle.cfg_model.specs.declared.symbol.Sym.TheVariants.{T, N}
use Rattle.cfg_model.specs.Cfg.{Cfg, IsRule}
use Rattle.cfg_model.specs.Steps.{step, Steps, none, more, word}
use Rattle.cfg_model.specs.Valid.{first_of, Begins, Valid, start, closure, move, InCore, SameCore, HasCore, Look, Spreads}
use Rattle.cfg_model.specs.Cores.{CoreList, IsCore, IsCores, FirstMet, Before, Rising, none as no_moves, one as one_move, more as and_moves, targets, HasMoreCores}
use Rattle.cfg_model.specs.LalrConflicts.{Completes, LalrConflict, LalrReport}
use Rattle.cfg_model.proofs.LooksSpread.{same_self, same_back, valid_spreads}
use Rattle.cfg_model.proofs.RuleZero.{zero_prefix}
use Rattle.cfg_model.proofs.GrammarExamples.{as_rule, by_rules, stays}

-- S = A D, S = B E, S = X A E, S = X B D, A = C, B = C
abbrev crossed : Cfg
crossed = record {
  terminals = 4;
  nonterminals = 3;
  start = 0;
  rules = as_rule 0 (N 1 ∷ T 0 ∷ []) ∷ as_rule 0 (N 2 ∷ T 1 ∷ []) ∷ as_rule 0 (T 2 ∷ N 1 ∷ T 1 ∷ []) ∷ as_rule 0 (T 2 ∷ N 2 ∷ T 0 ∷ [])
      ∷ as_rule 1 (T 3 ∷ []) ∷ as_rule 2 (T 3 ∷ []) ∷ [];
}

at_a : Valid crossed [] 1 0 (N 1 ∷ T 0 ∷ []) 4
at_a = closure [] 0 0 0 [] 4 1 4 _ start (record { place = 0; from_one = refl; read = refl }) ([], none, refl)

at_b : Valid crossed [] 2 0 (N 2 ∷ T 1 ∷ []) 4
at_b = closure [] 0 0 0 [] 4 2 4 _ start (record { place = 1; from_one = refl; read = refl }) ([], none, refl)

a_behind_x : Valid crossed (T 2 ∷ []) 3 1 (N 1 ∷ T 1 ∷ []) 4
a_behind_x = move [] 3 0 (T 2) _ 4 (closure [] 0 0 0 [] 4 3 4 _ start (record { place = 2; from_one = refl; read = refl }) ([], none, refl))

b_behind_x : Valid crossed (T 2 ∷ []) 4 1 (N 2 ∷ T 0 ∷ []) 4
b_behind_x = move [] 4 0 (T 2) _ 4 (closure [] 0 0 0 [] 4 4 4 _ start (record { place = 3; from_one = refl; read = refl }) ([], none, refl))

rule_of_a : IsRule crossed 5 1 (T 3 ∷ [])
rule_of_a = record { place = 4; from_one = refl; read = refl }

rule_of_b : IsRule crossed 6 2 (T 3 ∷ [])
rule_of_b = record { place = 5; from_one = refl; read = refl }

-- at the beginning A = C has D ahead and B = C has E; behind X it is the other way round
a_with_d : Valid crossed (T 3 ∷ []) 5 1 [] 0
a_with_d = move [] 5 0 (T 3) [] 0 (closure [] 1 0 1 (T 0 ∷ []) 4 5 0 _ at_a rule_of_a (0 ∷ [], none, refl))

b_with_e : Valid crossed (T 3 ∷ []) 6 1 [] 1
b_with_e = move [] 6 0 (T 3) [] 1 (closure [] 2 0 2 (T 1 ∷ []) 4 6 1 _ at_b rule_of_b (1 ∷ [], none, refl))

a_before_c : Valid crossed (T 2 ∷ []) 5 0 (T 3 ∷ []) 1
a_before_c = closure (T 2 ∷ []) 3 1 1 (T 1 ∷ []) 4 5 1 _ a_behind_x rule_of_a (1 ∷ [], none, refl)

b_before_c : Valid crossed (T 2 ∷ []) 6 0 (T 3 ∷ []) 0
b_before_c = closure (T 2 ∷ []) 4 1 2 (T 0 ∷ []) 4 6 0 _ b_behind_x rule_of_b (0 ∷ [], none, refl)

a_with_e : Valid crossed (T 3 ∷ T 2 ∷ []) 5 1 [] 1
a_with_e = move (T 2 ∷ []) 5 0 (T 3) [] 1 a_before_c

b_with_d : Valid crossed (T 3 ∷ T 2 ∷ []) 6 1 [] 0
b_with_d = move (T 2 ∷ []) 6 0 (T 3) [] 0 b_before_c

-- C begins a rule of A or of B, no rule has X C, and none is empty
c_rule : (y : List Sym) (r n : ℕ) (w : List Sym) → IsRule crossed r n w → w ≡ T 3 ∷ y → (n ≡ 1) ⊎ (n ≡ 2)
c_rule y r n w is = by_rules crossed (λ r n w. w ≡ T 3 ∷ y → (n ≡ 1) ⊎ (n ≡ 2))
    ((λ e. cc), ((λ e. cc), ((λ e. cc), ((λ e. cc), ((λ e. inl refl), ((λ e. inr refl), tt)))))) r n w is

no_xc : (y : List Sym) (r n : ℕ) (w : List Sym) → IsRule crossed r n w → w ≡ T 2 ∷ T 3 ∷ y → ⊥
no_xc y r n w is = by_rules crossed (λ r n w. w ≡ T 2 ∷ T 3 ∷ y → ⊥)
    ((λ e. cc), ((λ e. cc), ((λ e. cc), ((λ e. cc), ((λ e. cc), ((λ e. cc), tt)))))) r n w is

none_empty : (r n : ℕ) (w : List Sym) → IsRule crossed r n w → w ≡ [] → ⊥
none_empty r n w is = by_rules crossed (λ r n w. w ≡ [] → ⊥)
    ((λ e. cc), ((λ e. cc), ((λ e. cc), ((λ e. cc), ((λ e. cc), ((λ e. cc), tt)))))) r n w is

-- so the item of such a rule stands at the beginning and behind X
c_at_start : (r n : ℕ) (y : List Sym) → IsRule crossed r n (T 3 ∷ y) → InCore crossed [] r 0 (T 3 ∷ y)
c_at_start r n y is = elim (c_rule y r n (T 3 ∷ y) is refl) [
  | inl e ↦ (0, closure [] 1 0 1 (T 0 ∷ []) 4 r 0 (T 3 ∷ y) at_a (subst (λ k. IsRule crossed r k (T 3 ∷ y)) e is) (0 ∷ [], none, refl))
  | inr e ↦ (1, closure [] 2 0 2 (T 1 ∷ []) 4 r 1 (T 3 ∷ y) at_b (subst (λ k. IsRule crossed r k (T 3 ∷ y)) e is) (1 ∷ [], none, refl))
]

c_behind_x : (r n : ℕ) (y : List Sym) → IsRule crossed r n (T 3 ∷ y) → InCore crossed (T 2 ∷ []) r 0 (T 3 ∷ y)
c_behind_x r n y is = elim (c_rule y r n (T 3 ∷ y) is refl) [
  | inl e ↦ (1, closure (T 2 ∷ []) 3 1 1 (T 1 ∷ []) 4 r 1 (T 3 ∷ y) a_behind_x (subst (λ k. IsRule crossed r k (T 3 ∷ y)) e is) (1 ∷ [], none, refl))
  | inr e ↦ (0, closure (T 2 ∷ []) 4 1 2 (T 0 ∷ []) 4 r 0 (T 3 ∷ y) b_behind_x (subst (λ k. IsRule crossed r k (T 3 ∷ y)) e is) (0 ∷ [], none, refl))
]

moved : (p : List Sym) (r d : ℕ) (y : List Sym) → InCore crossed p r d (T 3 ∷ y) → InCore crossed (T 3 ∷ p) r (suc d) y
moved p r d y (a, v) = (a, move p r d (T 3) y a v)

closed : (p : List Sym) (r d n : ℕ) (y : List Sym) (s b a : ℕ) (z : List Sym) → InCore crossed p r d (N n ∷ y) → IsRule crossed s n z
    → Begins crossed y a b → InCore crossed p s 0 z
closed p r d n y s b a z (c, v) is (w, derives, first) = (first_of w c, closure p r d n y c s (first_of w c) z v is (w, derives, refl))

-- what shifts C at the beginning is there behind X, and the other way round
from_start : (q z y : List Sym) (r d a : ℕ) → q ≡ [] → z ≡ T 3 ∷ y → Valid crossed q r d z a → InCore crossed (T 3 ∷ T 2 ∷ []) r (suc d) y
from_start q z y r d a e f start = cc
from_start q z y r d a e f (closure _ r2 d2 n y2 a2 s b _ v is begins) = moved (T 2 ∷ []) r 0 y (c_behind_x r n y (subst (IsRule crossed r n) f is))
from_start q z y r d a e f (move p2 r2 d2 x _ _ v) = cc

no_xc_at_start : (q z y : List Sym) (r d a : ℕ) → q ≡ [] → z ≡ T 2 ∷ T 3 ∷ y → Valid crossed q r d z a → ⊥
no_xc_at_start q z y r d a e f start = cc
no_xc_at_start q z y r d a e f (closure _ r2 d2 n y2 a2 s b _ v is begins) = no_xc y r n z is f
no_xc_at_start q z y r d a e f (move p2 r2 d2 x _ _ v) = cc

from_x : (q z y : List Sym) (r d a : ℕ) → q ≡ T 2 ∷ [] → z ≡ T 3 ∷ y → Valid crossed q r d z a → InCore crossed (T 3 ∷ []) r (suc d) y
from_x q z y r d a e f start = cc
from_x q z y r d a e f (closure _ r2 d2 n y2 a2 s b _ v is begins) = moved [] r 0 y (c_at_start r n y (subst (IsRule crossed r n) f is))
from_x q z y r d a e f (move p2 r2 d2 x _ _ v) =
    let one : p2 ≡ [] = cc in
    let two : x ≡ T 2 = cc in
    let whole : x ∷ z ≡ T 2 ∷ T 3 ∷ y = ap₂ (λ s l. s ∷ l) two f in
    absurd (no_xc_at_start p2 (x ∷ z) y r d2 a one whole v)

behind_c : (q : List Sym) (r d : ℕ) (y : List Sym) (a : ℕ) → q ≡ T 3 ∷ [] → Valid crossed q r d y a → InCore crossed (T 3 ∷ T 2 ∷ []) r d y
behind_c q r d y a e start = cc
behind_c q r d y a e (closure _ r2 d2 n y2 a2 s b _ v is begins) = closed _ r2 d2 n y2 _ _ a2 y (behind_c q r2 d2 (N n ∷ y2) a2 e v) is begins
behind_c q r d y a e (move p2 r2 d2 x _ _ v) =
    let one : p2 ≡ [] = cc in
    let two : x ≡ T 3 = cc in
    from_start p2 (x ∷ y) y r d2 a one (ap (λ s. s ∷ y) two) v

behind_xc : (q : List Sym) (r d : ℕ) (y : List Sym) (a : ℕ) → q ≡ T 3 ∷ T 2 ∷ [] → Valid crossed q r d y a → InCore crossed (T 3 ∷ []) r d y
behind_xc q r d y a e start = cc
behind_xc q r d y a e (closure _ r2 d2 n y2 a2 s b _ v is begins) = closed _ r2 d2 n y2 _ _ a2 y (behind_xc q r2 d2 (N n ∷ y2) a2 e v) is begins
behind_xc q r d y a e (move p2 r2 d2 x _ _ v) =
    let one : p2 ≡ T 2 ∷ [] = cc in
    let two : x ≡ T 3 = cc in
    from_x p2 (x ∷ y) y r d2 a one (ap (λ s. s ∷ y) two) v

-- the prefixes C and X C have the same core
same_behind_c : SameCore crossed (T 3 ∷ []) (T 3 ∷ T 2 ∷ [])
same_behind_c r d y = (λ h. behind_c (T 3 ∷ []) r d y h.0 refl h.1, λ h. behind_xc (T 3 ∷ T 2 ∷ []) r d y h.0 refl h.1)

-- no item of the grammar begins with D
no_core : HasCore crossed (T 0 ∷ []) → ⊥
no_core (r, d, y, (a, v)) = nothing (T 0 ∷ []) r d y a refl v
  where
    at_start : (q z y : List Sym) (r d a : ℕ) → q ≡ [] → z ≡ T 0 ∷ y → Valid crossed q r d z a → ⊥
    at_start q z y r d a e f start = cc
    at_start q z y r d a e f (closure _ r2 d2 n y2 a2 s b _ v is begins) = by_rules crossed (λ r n w. w ≡ T 0 ∷ y → ⊥)
        ((λ e. cc), ((λ e. cc), ((λ e. cc), ((λ e. cc), ((λ e. cc), ((λ e. cc), tt)))))) r n z is f
    at_start q z y r d a e f (move p2 r2 d2 x _ _ v) = cc

    nothing : (q : List Sym) (r d : ℕ) (y : List Sym) (a : ℕ) → q ≡ T 0 ∷ [] → Valid crossed q r d y a → ⊥
    nothing q r d y a e start = cc
    nothing q r d y a e (closure _ r2 d2 n y2 a2 s b _ v is begins) = nothing q r2 d2 (N n ∷ y2) a2 e v
    nothing q r d y a e (move p2 r2 d2 x _ _ v) =
        let one : p2 ≡ [] = cc in
        let two : x ≡ T 0 = cc in
        at_start p2 (x ∷ y) y r d2 a one (ap (λ s. s ∷ y) two) v

-- E is ahead of A = C . behind C, though for X C alone
e_from_behind_x : Look crossed (T 3 ∷ []) 5 1 [] 1
e_from_behind_x = (T 3 ∷ T 2 ∷ [], same_behind_c, a_with_e)

-- for C alone it isn't ahead, since A stands before D there: at the beginning only D is behind A
d_behind_a : (q z y : List Sym) (r d a : ℕ) → q ≡ [] → z ≡ N 1 ∷ y → Valid crossed q r d z a → y ≡ T 0 ∷ []
d_behind_a q z y r d a e f start = cc
d_behind_a q z y r d a e f (closure _ r2 d2 n y2 a2 s b _ v is begins) = by_rules crossed (λ r n w. w ≡ N 1 ∷ y → y ≡ T 0 ∷ [])
    ((λ e. cc), ((λ e. cc), ((λ e. cc), ((λ e. cc), ((λ e. cc), ((λ e. cc), tt)))))) r n z is f
d_behind_a q z y r d a e f (move p2 r2 d2 x _ _ v) = cc

d_ahead : (q z : List Sym) (r d a : ℕ) → q ≡ [] → r ≡ 5 → Valid crossed q r d z a → a ≡ 0
d_ahead q z r d a e five start = absurd (omega (arith, five))
d_ahead q z r d a e five (closure _ r2 d2 n y2 a2 s b _ v is (w, derives, first)) =
    let one : n ≡ 1 = by_rules crossed (λ r n w. r ≡ 5 → n ≡ 1) (
      (λ e. absurd (omega (arith, e))),
      (
        (λ e. absurd (omega (arith, e))),
        (
          (λ e. absurd (omega (arith, e))),
          (
            (λ e. absurd (omega (arith, e))),
            ((λ e. refl), ((λ e. absurd (omega (arith, e))), tt)),
          ),
        ),
      ),
    ) r n z is five in
    let rest = d_behind_a q (N n ∷ y2) y2 r2 d2 a2 e (ap (λ k. N k ∷ y2) one) v in
    begins_with w a2 (stays crossed (T 0 ∷ []) (word w) refl (subst (λ l. Steps crossed l (word w)) rest derives)) first
  where
    begins_with : (w : List ℕ) (a2 : ℕ) → word w ≡ T 0 ∷ [] → first_of w a2 ≡ a → a ≡ 0
    begins_with [] a2 same first = cc
    begins_with (b ∷ w) a2 same first =
        let head : T b ≡ T 0 = cc in
        let zero_is : b ≡ 0 = cc in
        omega (arith, zero_is, first)
d_ahead q z r d a e five (move p2 r2 d2 x _ _ v) = cc

d_behind_c : (q y : List Sym) (r d a : ℕ) → q ≡ T 3 ∷ [] → r ≡ 5 → d ≡ 1 → Valid crossed q r d y a → a ≡ 0
d_behind_c q y r d a e five one start = cc
d_behind_c q y r d a e five one (closure _ r2 d2 n y2 a2 s b _ v is begins) = absurd (omega (arith, one))
d_behind_c q y r d a e five one (move p2 r2 d2 x _ _ v) = (let before : p2 ≡ [] = cc in d_ahead p2 (x ∷ y) r d2 a before five v)

not_for_c_alone : Valid crossed (T 3 ∷ []) 5 1 [] 1 → ⊥
not_for_c_alone v = let same = d_behind_c (T 3 ∷ []) [] 5 1 1 refl refl refl v in omega (arith, same)

-- it spreads from the core behind X
e_spreads : Spreads crossed (T 3 ∷ []) 5 1 [] 1
e_spreads = Spreads.move (T 2 ∷ []) (T 3 ∷ []) 5 0 (T 3) [] 1 (valid_spreads crossed (T 2 ∷ []) 5 0 (T 3 ∷ []) 1 a_before_c)
    (same_back crossed (T 3 ∷ []) (T 3 ∷ T 2 ∷ []) same_behind_c)

-- D is ahead of both rules in that core, though for no one prefix
no_prefix_has_both : LalrConflict crossed 0 5 (Some 6)
no_prefix_has_both = (
  T 3 ∷ [],
  (1, (T 3 ∷ [], same_self crossed (T 3 ∷ []), a_with_d)),
  (1, (T 3 ∷ T 2 ∷ [], same_behind_c, b_with_d)),
  λ e. omega (arith, e),
)

-- two shifts of one terminal are no conflict: at the beginning rules 3 and 4 shift X, and no rule is complete
two_shifts : InCore crossed [] 3 0 (T 2 ∷ N 1 ∷ T 1 ∷ []) × InCore crossed [] 4 0 (T 2 ∷ N 2 ∷ T 0 ∷ [])
two_shifts = (
  (4, closure [] 0 0 0 [] 4 3 4 _ start (record { place = 2; from_one = refl; read = refl }) ([], none, refl)),
  (4, closure [] 0 0 0 [] 4 4 4 _ start (record { place = 3; from_one = refl; read = refl }) ([], none, refl)),
)

none_complete : (r t : ℕ) → Completes crossed [] r t → ⊥
none_complete r t (d, (q, same, v)) = let (a, w) = (same r d []).1 (t, v) in complete [] [] r d a refl refl w
  where
    complete : (q y : List Sym) (r d a : ℕ) → q ≡ [] → y ≡ [] → Valid crossed q r d y a → ⊥
    complete q y r d a e f start = cc
    complete q y r d a e f (closure _ r2 d2 n y2 a2 s b _ v is begins) = none_empty r n y is f
    complete q y r d a e f (move p2 r2 d2 x _ _ v) = cc

-- cores are numbered in the order in which they are met
met_too_late : FirstMet (0 ∷ 2 ∷ 1 ∷ []) → ⊥
met_too_late first = lacks (first (0 ∷ []) (1 ∷ []) 2 1 refl (omega arith))
  where
    lacks : Contains {X = ℕ} (0 ∷ []) 1 → ⊥
    lacks (zero, under, e) = omega (arith, e)
    lacks (suc k, under, e) = omega (arith, under)

other_numbers : (g : Cfg) (cores : CoreList) → cores.moves ≡ ((T 0, 2) ∷ (N 0, 1) ∷ []) ∷ [] ∷ [] ∷ [] → IsCores g cores → ⊥
other_numbers g cores e is = met_too_late (subst (λ ms. FirstMet (0 ∷ targets ms)) e is.order)

-- a terminal's move stands before a nonterminal's
other_order : (g : Cfg) (cores : CoreList) → cores.moves ≡ ((N 0, 1) ∷ (T 0, 2) ∷ []) ∷ [] ∷ [] ∷ [] → IsCores g cores → ⊥
other_order g cores e is = falls _ refl (subst (λ (ms : List (List (Sym × ℕ))). Rising (slice_index_or ms 0 [])) e (is.rising 0))
  where
    falls : (ms : List (Sym × ℕ)) → ms ≡ (N 0, 1) ∷ (T 0, 2) ∷ [] → Rising ms → ⊥
    falls _ same no_moves = cc
    falls _ same (one_move x n) = cc
    falls _ same (and_moves x y n m rest before next) =
        let first : (x, n) ≡ (N 0, 1) = cc in
        let second : (y, m) ≡ (T 0, 2) = cc in
        let left : x ≡ N 0 = ap (λ (z : Sym × ℕ). z.0) first in
        let right : y ≡ T 0 = ap (λ (z : Sym × ℕ). z.0) second in
        subst (λ s. Before s (T 0)) left (subst (λ s. Before x s) right before)

-- no core stands twice
not_twice : (g : Cfg) (cores : CoreList) (p : List Sym) → IsCores g cores → IsCore g cores 1 p → IsCore g cores 2 p → ⊥
not_twice g cores p is one two = let same : 1 ≡ 2 = is.once p 1 2 one two in omega (arith, same)

-- prefixes with one core count once
one_core : (is : HasMoreCores crossed 1) → is.some ≡ (T 3 ∷ []) ∷ (T 3 ∷ T 2 ∷ []) ∷ [] → ⊥
one_core is e =
    let same : 0 ≡ 1 = is.apart 0 1 (T 3 ∷ []) (T 3 ∷ T 2 ∷ []) (ap (λ l. slice_get l 0) e) (ap (λ l. slice_get l 1) e) same_behind_c in
    omega (arith, same)

-- S = S P S, S = S P S, S = X: on P rule 1 is complete beside a shift and beside rule 2, and the shift is reported
abbrev doubled : Cfg
doubled = record {
  terminals = 2;
  nonterminals = 1;
  start = 0;
  rules = as_rule 0 (N 0 ∷ T 0 ∷ N 0 ∷ []) ∷ as_rule 0 (N 0 ∷ T 0 ∷ N 0 ∷ []) ∷ as_rule 0 (T 1 ∷ []) ∷ [];
}

sum_1 : IsRule doubled 1 0 (N 0 ∷ T 0 ∷ N 0 ∷ [])
sum_1 = record { place = 0; from_one = refl; read = refl }

sum_2 : IsRule doubled 2 0 (N 0 ∷ T 0 ∷ N 0 ∷ [])
sum_2 = record { place = 1; from_one = refl; read = refl }

sum_begins : Valid doubled [] 1 0 (N 0 ∷ T 0 ∷ N 0 ∷ []) 2
sum_begins = closure [] 0 0 0 [] 2 1 2 _ start sum_1 ([], none, refl)

-- with P ahead behind S P S
sum_done : (r : ℕ) → IsRule doubled r 0 (N 0 ∷ T 0 ∷ N 0 ∷ []) → Valid doubled (N 0 ∷ T 0 ∷ N 0 ∷ []) r 3 [] 0
sum_done r is = move _ r 2 (N 0) [] 0 (move _ r 1 (T 0) (N 0 ∷ []) 0 (move [] r 0 (N 0) (T 0 ∷ N 0 ∷ []) 0
    (closure [] 1 0 0 (T 0 ∷ N 0 ∷ []) 2 r 0 _ sum_begins is
    (0 ∷ 1 ∷ [], more _ _ none (step 3 0 (T 1 ∷ []) (T 0 ∷ []) [] (record { place = 2; from_one = refl; read = refl })), refl))))

sum_goes_on : Valid doubled (N 0 ∷ T 0 ∷ N 0 ∷ []) 1 1 (T 0 ∷ N 0 ∷ []) 2
sum_goes_on = move _ 1 0 (N 0) (T 0 ∷ N 0 ∷ []) 2 (closure (T 0 ∷ N 0 ∷ []) 1 2 0 [] 2 1 2 _
    (move _ 1 1 (T 0) (N 0 ∷ []) 2 (move [] 1 0 (N 0) (T 0 ∷ N 0 ∷ []) 2 sum_begins)) sum_1 ([], none, refl))

completes : (r : ℕ) → IsRule doubled r 0 (N 0 ∷ T 0 ∷ N 0 ∷ []) → Completes doubled (N 0 ∷ T 0 ∷ N 0 ∷ []) r 0
completes r is = (3, (N 0 ∷ T 0 ∷ N 0 ∷ [], same_self doubled (N 0 ∷ T 0 ∷ N 0 ∷ []), sum_done r is))

beside_shift : LalrConflict doubled 0 1 None
beside_shift = (N 0 ∷ T 0 ∷ N 0 ∷ [], completes 1 sum_1, (1, 1, N 0 ∷ [], (2, sum_goes_on)))

beside_rule : LalrConflict doubled 0 1 (Some 2)
beside_rule = (N 0 ∷ T 0 ∷ N 0 ∷ [], completes 1 sum_1, completes 2 sum_2, λ e. omega (arith, e))

-- rule 0 is complete with END alone
not_rule_0 : (p : List Sym) → Completes doubled p 0 0 → ⊥
not_rule_0 p (d, (q, same, v)) = let end : 0 ≡ 2 = (zero_prefix doubled q d [] 0 v).0 in omega (arith, end)

shift_reported : LalrReport doubled 0 1 None
shift_reported = record { conflict = beside_shift; terminal = λ u s o c. omega arith; rule = from_1; least = λ o c. tt }
  where
    from_1 : (s : ℕ) (o : Option ℕ) → LalrConflict doubled 0 s o → 1 ≤ s
    from_1 zero None (p, complete, shifts) = absurd (not_rule_0 p complete)
    from_1 zero (Some q) (p, complete, second, differ) = absurd (not_rule_0 p complete)
    from_1 (suc s) o c = omega arith

no_rule_before_shift : LalrReport doubled 0 1 (Some 2) → ⊥
no_rule_before_shift is = is.least None beside_shift

-- a lower rule beside a rule counts before a shift beside a higher one, and a terminal before the rules
lower_rule_first : (g : Cfg) (t : ℕ) → LalrConflict g t 1 (Some 3) → LalrReport g t 2 None → ⊥
lower_rule_first g t lower is = let most = is.rule 1 (Some 3) lower in omega (arith, most)

lower_terminal_first : (g : Cfg) (o : Option ℕ) → LalrConflict g 0 2 None → LalrReport g 1 1 o → ⊥
lower_terminal_first g o lower is = let most = is.terminal 0 2 None lower in omega (arith, most)
