-- The cores of the grammar whose one rule is S = X .. X with n times X: that of the empty prefix, that
-- of S, and those of 1 to n times X, so n + 2 in all. They are tried at the limit on cores.
use Rattle.std.proofs.Common.{◌≡◌, ℕ, zero, suc, ◌+◌, ◌-◌, ◌<◌, ◌≤◌, ◌⊎◌, inl, inr, List, [], ◌∷◌, length, drop, refl, sym, ap, subst, ◌∙◌, arith}
use Rattle.std.proofs.lemmas.Bool.{cases_lt}
use Rattle.std.proofs.lemmas.Option.{slice_get_within}
use Rattle.ck_base.proofs.Counting.{collect, not_more}
use Rattle.cfg_model.specs.declared.symbol.Sym.{Sym}
use Rattle.cfg_model.specs.declared.symbol.Sym.TheVariants.{T, N}
use Rattle.cfg_model.specs.declared.refused.LalrError.TheVariants as fault
use Rattle.cfg_model.specs.Cfg.{Cfg, IsRule}
use Rattle.cfg_model.specs.Steps.{none}
use Rattle.cfg_model.specs.Items.{right_of}
use Rattle.cfg_model.specs.Valid.{Valid, start, closure, move, InCore, HasCore, SameCore}
use Rattle.cfg_model.specs.Cores.{HasMoreCores}
use Rattle.cfg_model.proofs.CoreNumbers.{behind_is}
use Rattle.cfg_model.proofs.LooksSpread.{same_self, same_back}
use Rattle.cfg_model.proofs.RuleZero.{zero_prefix}
use Rattle.lalr_look.specs.Promise.{NoCores}

pub xs : ℕ → List Sym
xs zero = []
xs (suc n) = T 0 ∷ xs n

-- S = X .. X
abbrev pub run_of : ℕ → Cfg
run_of n = record { terminals = 1; nonterminals = 1; start = 0; rules = record { left = 0; right = xs n } ∷ [] }

pub the_rule : (n : ℕ) → IsRule (run_of n) 1 0 (xs n)
the_rule n = record { place = 0; from_one = refl; read = refl }

length_xs : (n : ℕ) → length (xs n) ≡ n
unfolding xs
length_xs zero = refl
length_xs (suc n) = (let rest = length_xs n in omega (arith, rest))

pub same_count : (k n : ℕ) → xs k ≡ xs n → k ≡ n
same_count k n same = sym (length_xs k) ∙ (ap length same ∙ length_xs n)

pub drop_xs : (d n : ℕ) (x : Sym) (y : List Sym) → drop d (xs n) ≡ x ∷ y → (x ≡ T 0) × (d < n)
unfolding xs
drop_xs zero zero x y e = (let same : [] ≡ x ∷ y = e in cc)
drop_xs zero (suc n) x y e = (let same : T 0 ∷ xs n ≡ x ∷ y = e in let one : x ≡ T 0 = cc in (one, omega arith))
drop_xs (suc d) zero x y e = (let same : [] ≡ x ∷ y = e in cc)
drop_xs (suc d) (suc n) x y e = (let (one, low) = drop_xs d n x y e in (one, omega (arith, low)))

pub no_s : (n k : ℕ) → N n ∷ [] ≡ xs k → ⊥
unfolding xs
no_s n zero e = (let same : N n ∷ [] ≡ [] = e in cc)
no_s n (suc k) e = (let same : N n ∷ [] ≡ T 0 ∷ xs k = e in cc)

no_call : (m : ℕ) → N m ≡ T 0 → ⊥
no_call m e = cc

-- of rule 0 the item with S to come is the empty prefix's
pub open_front : (p : List Sym) (m : ℕ) (y : List Sym) → ((p ≡ []) × (N m ∷ y ≡ N 0 ∷ [])) ⊎ ((p ≡ N 0 ∷ []) × (N m ∷ y ≡ [])) → p ≡ []
open_front p m y (inl (none_is, _)) = none_is
open_front p m y (inr (_, ends)) = cc

-- where nothing but S can be called, nothing was read
called_first : (n : ℕ) (p : List Sym) (r d m : ℕ) (y : List Sym) (a : ℕ) → Valid (run_of n) p r d (N m ∷ y) a
    → (1 ≤ r → (r ≡ 1) × (d ≤ n) × (p ≡ xs d)) → (0 < r) ⊎ (r ≤ 0) → p ≡ []
called_first n p r d m y a v within (inl some) =
    let (first, _, _) = within (omega (arith, some)) in
    let behind = subst (λ k. drop d (right_of (run_of n) k) ≡ N m ∷ y) first (behind_is (run_of n) p r d (N m ∷ y) a v) in
    absurd (no_call m (drop_xs d n (N m) y behind).0)
called_first n p r d m y a v within (inr none_is) =
    let zero_is : r ≡ 0 = omega (arith, none_is) in
    open_front p m y (zero_prefix (run_of n) p d (N m ∷ y) a (subst (λ k. Valid (run_of n) p k d (N m ∷ y) a) zero_is v)).1

-- an item of the rule, dot d, stands behind d times X
pub placed : (n : ℕ) (p : List Sym) (r d : ℕ) (y : List Sym) (a : ℕ) → Valid (run_of n) p r d y a → 1 ≤ r → (r ≡ 1) × (d ≤ n) × (p ≡ xs d)
unfolding xs
placed n p r d y a start one = absurd (omega (arith, one))
placed n p r d y a (closure _ r2 d2 m y2 a2 _ _ _ v is begins) one =
    let low = slice_get_within (run_of n).rules is.place _ is.read in
    let from = is.from_one in
    (omega (arith, low, from), omega arith, called_first n p r2 d2 m y2 a2 v (λ some. placed n p r2 d2 (N m ∷ y2) a2 v some) (cases_lt 0 r2))
placed n p r d y a (move p2 _ d2 x _ _ v) one =
    let (first, low, prefix) = placed n p2 r d2 (x ∷ y) a v one in
    let behind = subst (λ k. drop d2 (right_of (run_of n) k) ≡ x ∷ y) first (behind_is (run_of n) p2 r d2 (x ∷ y) a v) in
    let (is_x, less) = drop_xs d2 n x y behind in
    (first, omega (arith, less), ap (λ z. z ∷ p2) is_x ∙ ap (λ l. T 0 ∷ l) prefix)

-- behind d times X the other e are to come
stands : (n d e : ℕ) → d + e ≡ n → Valid (run_of n) (xs d) 1 d (xs e) 1
unfolding xs
stands n zero e sum =
    let same : n ≡ e = omega (arith, sum) in
    subst (λ k. Valid (run_of n) [] 1 0 (xs k) 1) same (closure [] 0 0 0 [] 1 1 1 (xs n) start (the_rule n) ([], none, refl))
stands n (suc d) e sum = move (xs d) 1 d (T 0) (xs e) 1 (stands n d (suc e) (omega (arith, sum)))

stands_in : (n d : ℕ) → d ≤ n → (y : List Sym) × InCore (run_of n) (xs d) 1 d y
stands_in n d low = (xs (n - d), (1, stands n d (n - d) (omega (arith, low))))

-- prefix k of those that have a core: k times X, and S behind them
abbrev IsNumber : ℕ → List Sym → ℕ → Type 0
IsNumber n p k = ((k ≤ n) × (p ≡ xs k)) ⊎ ((k ≡ n + 1) × (p ≡ N 0 ∷ []))

of_rule_0 : (n : ℕ) (p y : List Sym) → ((p ≡ []) × (y ≡ N 0 ∷ [])) ⊎ ((p ≡ N 0 ∷ []) × (y ≡ [])) → (k : ℕ) × (k < n + 2) × IsNumber n p k
unfolding xs
of_rule_0 n p y (inl (none_is, _)) = (0, omega arith, inl (omega arith, none_is))
of_rule_0 n p y (inr (whole, _)) = (n + 1, omega arith, inr (refl, whole))

numbered : (n : ℕ) (p : List Sym) → HasCore (run_of n) p → (k : ℕ) × (k < n + 2) × IsNumber n p k
numbered n p (r, d, y, (a, v)) = elim (cases_lt 0 r) [
  | inl some ↦ (let (first, low, prefix) = placed n p r d y a v (omega (arith, some)) in (d, omega (arith, low), inl (low, prefix)))
  | inr none_is ↦ (let zero_is : r ≡ 0 = omega (arith, none_is) in
      of_rule_0 n p y (zero_prefix (run_of n) p d y a (subst (λ k. Valid (run_of n) p k d y a) zero_is v)).1)
]

one_prefix : (n : ℕ) (p q : List Sym) (k : ℕ) → IsNumber n p k → IsNumber n q k → SameCore (run_of n) p q
one_prefix n p q k (inl (low, x)) (inl (_, y)) = subst (λ l. SameCore (run_of n) p l) (x ∙ sym y) (same_self (run_of n) p)
one_prefix n p q k (inl (low, x)) (inr (e, y)) = absurd (omega (arith, low, e))
one_prefix n p q k (inr (e, x)) (inl (low, y)) = absurd (omega (arith, low, e))
one_prefix n p q k (inr (e, x)) (inr (_, y)) = subst (λ l. SameCore (run_of n) p l) (x ∙ sym y) (same_self (run_of n) p)

-- not more than n + 2
pub no_more_cores : (n : ℕ) → HasMoreCores (run_of n) (n + 2) → ⊥
no_more_cores n more = not_more (HasCore (run_of n)) (SameCore (run_of n)) (n + 2) (IsNumber n) (numbered n)
    (λ p q k _ _ x y. one_prefix n p q k x y) more

nth_prefix : (n k : ℕ) → k < n + 2 → (p : List Sym) × (HasCore (run_of n) p × IsNumber n p k)
nth_prefix n k below = elim (cases_lt k (n + 1)) [
  | inl low ↦ (let (y, item) = stands_in n k (omega (arith, low)) in
      (xs k, ((1, k, y, item), inl (omega (arith, low), refl))))
  | inr high ↦ (N 0 ∷ [], ((0, 1, [], (1, move [] 0 0 (N 0) [] 1 start)), inr (omega (arith, high, below), refl)))
]

-- a prefix with the core of k times X is k times X
same_is : (n k : ℕ) (p q : List Sym) → k ≤ n → p ≡ xs k → SameCore (run_of n) p q → q ≡ xs k
same_is n k p q low e same =
    let (y, item) = stands_in n k low in
    let (a, v) = (same 1 k y).0 (subst (λ l. InCore (run_of n) l 1 k y) (sym e) item) in
    (placed n q 1 k y a v (omega arith)).2

apart : (n i j : ℕ) (p q : List Sym) → IsNumber n p i → IsNumber n q j → SameCore (run_of n) p q → i ≡ j
apart n i j p q (inl (low, x)) (inl (_, y)) same =
    sym (same_count j i (sym y ∙ same_is n i p q low x same))
apart n i j p q (inl (low, x)) (inr (_, y)) same = absurd (no_s 0 i (sym y ∙ same_is n i p q low x same))
apart n i j p q (inr (_, x)) (inl (low, y)) same = absurd (no_s 0 j (sym x ∙ same_is n j q p low y (same_back (run_of n) p q same)))
apart n i j p q (inr (e, _)) (inr (h, _)) same = e ∙ sym h

-- but more than n + 1
pub more_cores : (n : ℕ) → HasMoreCores (run_of n) (n + 1)
more_cores n =
    let all = collect (λ k p. HasCore (run_of n) p × IsNumber n p k) (n + 2) (nth_prefix n) in
    record {
      some = all.list;
      each = λ i p at. (all.each i p at).0;
      apart = λ i j p q at_i at_j same. apart n i j p q (all.each i p at_i).1 (all.each j q at_j).1 same;
      many = let count = all.count in omega (arith, count);
    }

-- of 4,094 X's the cores are 4,096, and not too many; of one more they are
limit_is_kept : NoCores (run_of 4094) fault.TooManyStates → ⊥
limit_is_kept = no_more_cores 4094

one_too_many : NoCores (run_of 4095) fault.TooManyStates
one_too_many = more_cores 4095
