-- United lookaheads and conflicts, each tried on a small grammar where the nearest wrong reading differs.
use Rattle.std.proofs.Common.{◌≡◌, ℕ, zero, suc, List, [], ◌∷◌, drop, refl, sym, ap, subst, ◌∙◌, arith, None, Some, slice_get}
use Rattle.std.proofs.lemmas.Option.{same_Some}
use Rattle.ck_base.specs.BitSet.{BitSet, Has}
use Rattle.cfg_model.specs.declared.symbol.Sym.{Sym}
use Rattle.cfg_model.specs.declared.symbol.Sym.TheVariants.{T, N}
use Rattle.cfg_model.specs.Cfg.{Cfg, Rule, IsRule}
use Rattle.cfg_model.specs.Cores.{CoreList, IsCore, items_at}
use Rattle.cfg_model.specs.Derivation.{Forest, yield, Derive, nothing, token, rule}
use Rattle.cfg_model.specs.Items.{right_or, right_of}
use Rattle.cfg_model.specs.Sets.{Follow}
use Rattle.cfg_model.specs.Steps.{Steps, step, none, more, word}
use Rattle.cfg_model.specs.Valid.{Valid, Look, start, closure, move, SameCore, first_of}
use Rattle.cfg_model.specs.LalrConflicts.{LalrConflict}
use Rattle.cfg_model.proofs.CoreNumbers.{behind_is}
use Rattle.cfg_model.proofs.Forests.{gives_of_steps}
use Rattle.cfg_model.proofs.LooksSpread.{same_self}
use Rattle.cfg_model.proofs.RuleZero.{zero_prefix}
use Rattle.lalr_look.specs.Promise.{AreLookaheads, sets_at}
use Rattle.lalr_look.proofs.LongRule.{open_front}

-- S = A B, A = X, B = Y, B =: what stands behind A may vanish
abbrev pub tail : Cfg
tail = record {
  terminals = 2;
  nonterminals = 3;
  start = 0;
  rules = record { left = 0; right = N 1 ∷ N 2 ∷ [] } ∷ record { left = 1; right = T 0 ∷ [] } ∷ record { left = 2; right = T 1 ∷ [] }
      ∷ record { left = 2; right = [] } ∷ [];
}

whole : IsRule tail 1 0 (N 1 ∷ N 2 ∷ [])
whole = record { place = 0; from_one = refl; read = refl }

rule_of_a : IsRule tail 2 1 (T 0 ∷ [])
rule_of_a = record { place = 1; from_one = refl; read = refl }

rule_of_b : IsRule tail 3 2 (T 1 ∷ [])
rule_of_b = record { place = 2; from_one = refl; read = refl }

empty_b : IsRule tail 4 2 []
empty_b = record { place = 3; from_one = refl; read = refl }

at_start : Valid tail [] 1 0 (N 1 ∷ N 2 ∷ []) 2
at_start = closure [] 0 0 0 [] 2 1 2 (N 1 ∷ N 2 ∷ []) start whole ([], none, refl)

-- A = X . has Y, which B begins with, and END, since B may vanish
y_is_ahead : Look tail (T 0 ∷ []) 2 1 [] 1
y_is_ahead = (
  T 0 ∷ [],
  same_self tail (T 0 ∷ []),
  move [] 2 0 (T 0) [] 1
      (closure [] 1 0 1 (N 2 ∷ []) 2 2 1 (T 0 ∷ []) at_start rule_of_a (1 ∷ [], more _ _ none (step 3 2 (T 1 ∷ []) [] [] rule_of_b), refl)),
)

end_is_ahead : Look tail (T 0 ∷ []) 2 1 [] 2
end_is_ahead = (
  T 0 ∷ [],
  same_self tail (T 0 ∷ []),
  move [] 2 0 (T 0) [] 2
      (closure [] 1 0 1 (N 2 ∷ []) 2 2 2 (T 0 ∷ []) at_start rule_of_a ([], more _ _ none (step 4 2 [] [] [] empty_b), refl)),
)

-- S = IF S ELSE S, S = IF S, S = X: the ELSE that two conditions could have
abbrev pub dangling : Cfg
dangling = record {
  terminals = 3;
  nonterminals = 1;
  start = 0;
  rules = record { left = 0; right = T 0 ∷ N 0 ∷ T 1 ∷ N 0 ∷ [] } ∷ record { left = 0; right = T 0 ∷ N 0 ∷ [] } ∷ record { left = 0; right = T 2 ∷ [] } ∷ [];
}

with_else : IsRule dangling 1 0 (T 0 ∷ N 0 ∷ T 1 ∷ N 0 ∷ [])
with_else = record { place = 0; from_one = refl; read = refl }

without : IsRule dangling 2 0 (T 0 ∷ N 0 ∷ [])
without = record { place = 1; from_one = refl; read = refl }

other : IsRule dangling 3 0 (T 2 ∷ [])
other = record { place = 2; from_one = refl; read = refl }

-- behind the first IF the second condition may have ELSE behind it
first_if : Valid dangling (T 0 ∷ []) 1 1 (N 0 ∷ T 1 ∷ N 0 ∷ []) 3
first_if = move [] 1 0 (T 0) (N 0 ∷ T 1 ∷ N 0 ∷ []) 3 (closure [] 0 0 0 [] 3 1 3 (T 0 ∷ N 0 ∷ T 1 ∷ N 0 ∷ []) start with_else ([], none, refl))

second_done : Valid dangling (N 0 ∷ T 0 ∷ T 0 ∷ []) 2 2 [] 1
second_done = move (T 0 ∷ T 0 ∷ []) 2 1 (N 0) [] 1 (move (T 0 ∷ []) 2 0 (T 0) (N 0 ∷ []) 1
    (closure (T 0 ∷ []) 1 1 0 (T 1 ∷ N 0 ∷ []) 3 2 1 (T 0 ∷ N 0 ∷ []) first_if without
    (1 ∷ 2 ∷ [], more _ _ none (step 3 0 (T 2 ∷ []) (T 1 ∷ []) [] other), refl)))

second_goes_on : Valid dangling (N 0 ∷ T 0 ∷ T 0 ∷ []) 1 2 (T 1 ∷ N 0 ∷ []) 1
second_goes_on = move (T 0 ∷ T 0 ∷ []) 1 1 (N 0) (T 1 ∷ N 0 ∷ []) 1 (move (T 0 ∷ []) 1 0 (T 0) (N 0 ∷ T 1 ∷ N 0 ∷ []) 1
    (closure (T 0 ∷ []) 1 1 0 (T 1 ∷ N 0 ∷ []) 3 1 1 (T 0 ∷ N 0 ∷ T 1 ∷ N 0 ∷ []) first_if with_else
    (1 ∷ 2 ∷ [], more _ _ none (step 3 0 (T 2 ∷ []) (T 1 ∷ []) [] other), refl)))

-- on ELSE the complete item of rule 2 stands beside a shift
else_conflict : LalrConflict dangling 1 2 None
else_conflict = (
  N 0 ∷ T 0 ∷ T 0 ∷ [],
  (2, (N 0 ∷ T 0 ∷ T 0 ∷ [], same_self dangling (N 0 ∷ T 0 ∷ T 0 ∷ []), second_done)),
  (1, 2, N 0 ∷ [], (1, second_goes_on)),
)

-- S = A X, S = Y A Z, A =: what follows an A depends on what was read before it
abbrev pub two_ends : Cfg
two_ends = record {
  terminals = 3;
  nonterminals = 2;
  start = 0;
  rules = record { left = 0; right = N 1 ∷ T 0 ∷ [] } ∷ record { left = 0; right = T 1 ∷ N 1 ∷ T 2 ∷ [] } ∷ record { left = 1; right = [] } ∷ [];
}

with_x : IsRule two_ends 1 0 (N 1 ∷ T 0 ∷ [])
with_x = record { place = 0; from_one = refl; read = refl }

with_z : IsRule two_ends 2 0 (T 1 ∷ N 1 ∷ T 2 ∷ [])
with_z = record { place = 1; from_one = refl; read = refl }

empty_a : IsRule two_ends 3 1 []
empty_a = record { place = 2; from_one = refl; read = refl }

-- Z follows A
z_follows : Follow two_ends 1 2
z_follows = (T 1 ∷ [], T 3 ∷ [], more _ _ none (step 2 0 (T 1 ∷ N 1 ∷ T 2 ∷ []) [] (T 3 ∷ []) with_z))

-- the item A = . has X before anything is read
a_has_x : Valid two_ends [] 3 0 [] 0
a_has_x = closure [] 1 0 1 (T 0 ∷ []) 3 3 0 [] (closure [] 0 0 0 [] 3 1 3 (N 1 ∷ T 0 ∷ []) start with_x ([], none, refl)) empty_a (0 ∷ [], none, refl)

in_front : (q : List Sym) (r d : ℕ) (y : List Sym) (a : ℕ) → Valid two_ends q r d y a → q ≡ [] → d ≡ 0
in_front q r d y a start none_is = refl
in_front q r d y a (closure _ _ _ _ _ _ _ _ _ _ _ _) none_is = refl
in_front q r d y a (move _ _ _ _ _ _ _) none_is = cc

abbrev a_rule : ℕ → List Sym → Rule
a_rule n w = record { left = n; right = w }

left_is : (s n : ℕ) (z : List Sym) → IsRule two_ends s n z → s ≡ 3 → n ≡ 1
left_is s n z is third =
    let from = is.from_one in
    let place : is.place ≡ 2 = omega (arith, from, third) in
    let read = subst (λ k. slice_get two_ends.rules k ≡ Some (a_rule n z)) place is.read in
    let same : a_rule 1 [] ≡ a_rule n z = same_Some _ _ read in
    sym (ap (λ (rule : Rule). rule.left) same)

one_number : (n m : ℕ) → N n ≡ N m → n ≡ m
one_number n m same = cc

no_rule : (r : ℕ) → right_or (slice_get [] r) ≡ []
no_rule zero = refl
no_rule (suc r) = refl

all_left : (w : List Sym) → drop 0 w ≡ w
all_left [] = refl
all_left (x ∷ w) = refl

-- where a right side begins with A, X stands behind it
behind_a : (r : ℕ) (y : List Sym) → right_of two_ends r ≡ N 1 ∷ y → y ≡ T 0 ∷ []
behind_a zero y e =
    let same : N 0 ∷ [] ≡ N 1 ∷ y = e in
    let one : N 0 ≡ N 1 = cc in
    let number = one_number 0 1 one in
    absurd (omega (arith, number))
behind_a (suc zero) y e = (let same : N 1 ∷ T 0 ∷ [] ≡ N 1 ∷ y = e in cc)
behind_a (suc (suc zero)) y e = (let same : T 1 ∷ N 1 ∷ T 2 ∷ [] ≡ N 1 ∷ y = e in cc)
behind_a (suc (suc (suc zero))) y e = (let same : [] ≡ N 1 ∷ y = e in cc)
behind_a (suc (suc (suc (suc r)))) y e = (let same : [] ≡ N 1 ∷ y = sym (no_rule r) ∙ e in cc)

begins_with_x : (u : List Sym) (f : Forest ℕ) (a : ℕ) → Derive (λ t. t) two_ends u f → u ≡ T 0 ∷ [] → first_of (yield f) a ≡ 0
begins_with_x _ _ a nothing same = cc
begins_with_x _ _ a (token t k u f is d) same = (let head : T t ≡ T 0 = cc in let one : t ≡ 0 = cc (head) in is ∙ one)
begins_with_x _ _ a (rule r n w u c f is d e) same = cc

-- and X alone
only_x : (q : List Sym) (r d : ℕ) (y : List Sym) (a : ℕ) → Valid two_ends q r d y a → q ≡ [] → r ≡ 3 → a ≡ 0
only_x q r d y a start none_is third = absurd (omega (arith, third))
only_x q r d y a (closure _ r2 d2 n y2 a2 _ _ _ v is (w, steps, first)) none_is third =
    let one = left_is r n y is third in
    let front = in_front q r2 d2 (N n ∷ y2) a2 v none_is in
    let behind = subst (λ k. drop k (right_of two_ends r2) ≡ N n ∷ y2) front (behind_is two_ends q r2 d2 (N n ∷ y2) a2 v) in
    let x = behind_a r2 y2 (sym (all_left (right_of two_ends r2)) ∙ subst (λ k. drop 0 (right_of two_ends r2) ≡ N k ∷ y2) one behind) in
    let tree = gives_of_steps two_ends (T 0 ∷ []) w (subst (λ l. Steps two_ends l (word w)) x steps) in
    sym first ∙ (ap (λ l. first_of l a2) tree.yields ∙ begins_with_x (T 0 ∷ []) tree.forest a2 tree.derive refl)
only_x q r d y a (move p2 _ d2 x _ _ v) none_is third = cc

-- a prefix with the core of the empty one is empty
empty_prefix : (q : List Sym) → SameCore two_ends [] q → q ≡ []
empty_prefix q same =
    let (a, v) = (same 0 0 (N 0 ∷ [])).0 (3, start) in
    open_front q 0 [] (zero_prefix two_ends q 0 (N 0 ∷ []) a v).1

-- so of the first core's item A = . the set has X, and not Z, though Z follows A
x_is_in : (cores : CoreList) (looks : List (List BitSet)) (i : ℕ) (set : BitSet) → AreLookaheads two_ends cores looks → IsCore two_ends cores 0 []
    → slice_get (items_at cores 0) i ≡ Some (3, 0) → slice_get (sets_at looks 0) i ≡ Some set → Has set 0
x_is_in cores looks i set are first item at = (are.exact 0 i 3 0 0 set [] [] first item at (0, a_has_x)).1 ([], same_self two_ends [], a_has_x)

z_is_out : (cores : CoreList) (looks : List (List BitSet)) (i : ℕ) (set : BitSet) → AreLookaheads two_ends cores looks → IsCore two_ends cores 0 []
    → slice_get (items_at cores 0) i ≡ Some (3, 0) → slice_get (sets_at looks 0) i ≡ Some set → Has set 2 → ⊥
z_is_out cores looks i set are first item at has =
    let (q, same, v) = (are.exact 0 i 3 0 2 set [] [] first item at (0, a_has_x)).0 has in
    let none_left = only_x q 3 0 [] 2 v (empty_prefix q same) refl in
    omega (arith, none_left)

-- its sets have room for X, Y, Z and END, and for no more
no_wider_set : (cores : CoreList) (looks : List (List BitSet)) (i : ℕ) (set : BitSet) → AreLookaheads two_ends cores looks
    → slice_get (sets_at looks 0) i ≡ Some set → set.size ≡ 64 → ⊥
no_wider_set cores looks i set are at wide = let width = are.widths 0 i set at in omega (arith, width, wide)
