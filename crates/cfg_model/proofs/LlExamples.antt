-- LL(1) tables and the conflict that is reported, each on a case where the nearest wrong reading differs.
use Rattle.std.proofs.Common.{◌≡◌, ℕ, ◌⊎◌, inl, inr, List, [], ◌∷◌, ◌++◌, refl, sym, subst, Option, None, arith}
use Rattle.cfg_model.specs.declared.symbol.Sym.{Sym}
use Rattle.cfg_model.specs.declared.symbol.Sym.TheVariants.{T, N}
use Rattle.cfg_model.specs.Cfg.{Cfg, IsRule}
use Rattle.cfg_model.specs.Steps.{step, Steps, none, more}
use Rattle.cfg_model.specs.Derivation.{Forest, yield, Derive, token}
use Rattle.cfg_model.specs.Sets.{Nullable, Reachable}
use Rattle.cfg_model.specs.LlConflicts.{IsFor, Predicts, LlConflict, LlReport}
use Rattle.cfg_model.specs.LlTables.{IsLl, IsPrediction, IsLlTable}
use Rattle.cfg_model.proofs.Examples.{rights, for_end, hides, left, apart, Clean, clean_there, clean_after, clean_rule}
use Rattle.cfg_model.proofs.GrammarExamples.{as_rule, by_rules}
use Rattle.cfg_model.proofs.Forests.{gives_of_steps}
use Rattle.cfg_model.proofs.FollowSets.{first_cut, only_terminal}

-- a list that begins with a terminal doesn't vanish, and begins with that one alone
stops : (g : Cfg) (a : ℕ) (u : List Sym) → Nullable g (T a ∷ u) → ⊥
stops g a u steps = let tree = gives_of_steps g (T a ∷ u) [] steps in go tree.forest tree.derive (sym tree.yields)
  where
    go : (f : Forest ℕ) → Derive (λ t. t) g (T a ∷ u) f → yield f ≡ [] → ⊥
    go _ (token _ k _ f is d) none_is = cc

for_first : (g : Cfg) (n a t : ℕ) (u : List Sym) → IsFor g n (T a ∷ u) t → t ≡ a
for_first g n a t u (inr (vanish, follows)) = absurd (stops g a u vanish)
for_first g n a t u (inl first) = elim (first_cut g (T a ∷ []) u t first) [
  | inl (w, steps) ↦ only_terminal g a t w (gives_of_steps g (T a ∷ []) (t ∷ w) steps)
  | inr (vanish, rest) ↦ absurd (stops g a [] vanish)
]

-- S = X, S = Y, S = Y, S = X: rules 2 and 3 clash before rule 4 is met, and rules 1 and 4 are reported
abbrev crossing : Cfg
crossing = record {
  terminals = 2;
  nonterminals = 1;
  start = 0;
  rules = as_rule 0 (T 0 ∷ []) ∷ as_rule 0 (T 1 ∷ []) ∷ as_rule 0 (T 1 ∷ []) ∷ as_rule 0 (T 0 ∷ []) ∷ [];
}

-- the letter of a rule, and which terminals it is for
abbrev IsOf : ℕ → ℕ → Type 0
IsOf r t = (((r ≡ 1) ⊎ (r ≡ 4)) × (t ≡ 0)) ⊎ (((r ≡ 2) ⊎ (r ≡ 3)) × (t ≡ 1))

letter_of : (r n : ℕ) (w : List Sym) → IsRule crossing r n w → (t : ℕ) × (w ≡ T t ∷ []) × IsOf r t
letter_of r n w is = by_rules crossing (λ r n w. (t : ℕ) × (w ≡ T t ∷ []) × IsOf r t)
    ((0, refl, inl (inl refl, refl)), ((1, refl, inr (inl refl, refl)), ((1, refl, inr (inr refl, refl)), ((0, refl, inl (inr refl, refl)), tt)))) r n w is

is_of : (n t r : ℕ) → Predicts crossing n t r → IsOf r t
is_of n t r is =
    let (a, right, letter) = letter_of r n is.right is.is_rule in
    let same : t ≡ a = for_first crossing n a t [] (subst (λ w. IsFor crossing n w t) right is.for_terminal) in
    subst (IsOf r) (sym same) letter

on_x : LlConflict crossing 0 1 4 0
on_x = record {
  reachable = ([], [], none);
  first = record { right = T 0 ∷ []; is_rule = record { place = 0; from_one = refl; read = refl }; for_terminal = inl ([], none) };
  second = record { right = T 0 ∷ []; is_rule = record { place = 3; from_one = refl; read = refl }; for_terminal = inl ([], none) };
  in_order = omega arith;
}

first_rule_reported : LlReport crossing 0 1 4 0
first_rule_reported = record {
  conflict = on_x;
  nonterminal = λ m s p u c. omega arith;
  first = λ s p u c. (let h = is_of 0 u s c.first in grind (arith, h));
  second = λ p u c. (let h = is_of 0 u 1 c.first in let k = is_of 0 u p c.second in let l = c.in_order in grind (arith, h, k, l));
  terminal = λ u c. omega arith;
}

first_met_is_not : LlReport crossing 0 2 3 1 → ⊥
first_met_is_not is = let most = is.first 1 4 0 on_x in omega (arith, most)

-- None says that no rule is for the terminal, and not that the table gives none
no_refusal : IsPrediction rights 1 1 None → ⊥
no_refusal none_is = none_is 3 for_end

-- left recursion is a fault, whatever conflicts there are
left_is_no_ll : IsLl hides → ⊥
left_is_no_ll is = is.not_left_recursive 0 ([], [], none) left

-- in S = X, U = S Y nothing is asked of the answers for U, which is unreachable
clean_forms : (v : List Sym) → Steps apart (N 0 ∷ []) v → Clean v
clean_forms _ none = (refl, tt)
clean_forms _ (more _ _ steps (step r n w x y is)) =
    let before = clean_forms (x ++ (N n ∷ y)) steps in
    let zero_is = (clean_there x y n before).0 in
    let read = is.read in
    clean_after x w y n (clean_rule is.place w (rw zero_is at read)) before

s_alone : (n : ℕ) → Reachable apart n → n ≡ 0
s_alone n (x, y, steps) = (clean_there x y n (clean_forms (x ++ (N n ∷ y)) steps)).0

any_for_u : (a b : ℕ → ℕ → Option ℕ) → ((t : ℕ) → a 0 t ≡ b 0 t) → IsLlTable apart a → IsLlTable apart b
any_for_u a b same is = record {
  accepted = is.accepted;
  predicts = λ n t reach under.
      (let zero_is = s_alone n reach in
      let here = is.predicts n t reach under in
      let changed : a n t ≡ b n t = subst (λ k. a k t ≡ b k t) (sym zero_is) (same t) in
      subst (IsPrediction apart n t) changed here);
}
